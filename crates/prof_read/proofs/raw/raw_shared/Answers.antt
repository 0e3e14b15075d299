use Rattle.std.proofs.Common.{subst, sym, ap, ◌∙◌}
use Rattle.std.specs.Prelude.{codes}
use Rattle.prof_grammar.specs.Value.{Value, last_named}
use Rattle.prof_layout.specs.Kept.{kept_shared}
use Rattle.prof_layout.proofs.KeptFrom.{raw_shared-is}
use Rattle.prof_column.specs.Kept.{IsTextList}
use Rattle.prof_read.proofs.raw.raw_shared.Goals as goal

pub returns : goal.returns
returns c = λ ms are.
    let strings = last_named (codes "stringArray") ms in
    let held = c.in_ok-strings.ensures strings (subst (IsTextList strings) (sym c.replace-gathered.ensures.value) are.strings) in
    c.tables_over.ensures ms c.args.tables.strings _ _ are held ∙ sym (ap kept_shared (raw_shared-is (Value.object ms)))
