use Rattle.std.proofs.Common.{sym, ◌∙◌, rules, tests}
use Rattle.std.proofs.lemmas.Iterator.{YieldsList-from_slice}
use Rattle.std.proofs.lemmas.Iterator.Search.{any_from_yields_List}
use Rattle.httparse.specs.Spans.{header_bytes}
use Rattle.prof_wire.specs.Heads.{is_named}
use Rattle.prof_wire.proofs.Fields.{any-map}
use Rattle.prof_wire.proofs.heads.has_named.Goals as goal

pub returns : goal.returns
returns c =
    any_from_yields_List (λ field. is_named c.args.name.now (header_bytes c.args.page.now field)) _ _ c.any.result c.any.ensures.ran (YieldsList-from_slice c.args.fields.now cc) (λ x b q k. search (rules, tests))
    ∙ sym (any-map (is_named c.args.name.now) (header_bytes c.args.page.now) c.args.fields.now)
