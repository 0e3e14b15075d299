use Rattle.std.proofs.Common.{sym, ◌∙◌, not, ◌||◌, rules, tests}
use Rattle.std.specs.Str.{bytes_eq}
use Rattle.std.proofs.lemmas.Iterator.{YieldsList-from_slice}
use Rattle.std.proofs.lemmas.Iterator.Search.{all_from_yields_List}
use Rattle.httparse.specs.Spans.{header_bytes}
use Rattle.prof_wire.specs.Heads.{is_named}
use Rattle.prof_wire.proofs.Fields.{all-values}
use Rattle.prof_wire.proofs.heads.all_say.Goals as goal

pub returns : goal.returns
returns c =
    all_from_yields_List (λ field. not (is_named c.args.name.now (header_bytes c.args.page.now field)) || bytes_eq c.args.value.now (header_bytes c.args.page.now field).1) _ _ c.all.result c.all.ensures.ran (YieldsList-from_slice c.args.fields.now cc) (λ x b q k. search (rules, tests))
    ∙ sym (all-values (bytes_eq c.args.value.now) c.args.name.now (header_bytes c.args.page.now) c.args.fields.now)
