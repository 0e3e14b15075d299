use Rattle.std.proofs.Common.{subst, sym, ◌∙◌}
use Rattle.std.specs.Prelude.{codes}
use Rattle.prof_grammar.specs.Value.{last_named}
use Rattle.prof_column.specs.Kept.{IsTextList}
use Rattle.prof_read.proofs.Threading.{tables_counting}
use Rattle.prof_read.proofs.building.raw_tables.Goals as goal

pub returns : goal.returns
returns c = λ texts ms e few are.
    let own = last_named (codes "stringArray") ms in
    let held = c.in_ok-strings.ensures texts own e few (subst (IsTextList own) (sym c.replace-own.ensures.value) are.strings) in
    c.tables_over.ensures ms c.args.tables.strings _ _ are held ∙ tables_counting texts ms
