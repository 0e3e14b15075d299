use Rattle.std.proofs.Common.{◌≡◌, ℕ, List, [], length, sym, subst, ◌∙◌, arith}
use Rattle.std.proofs.lemmas.Bool.Decides.{nat_tests}
use Rattle.prof_spell.specs.Spelling.{IsTaken}
use Rattle.prof_spell.specs.Escapes.{searches}
use Rattle.prof_address.proofs.Lists.{no_bytes}
use Rattle.prof_address.proofs.RangeLemmas.{search_absent, search_err}
use Rattle.prof_address.proofs.view.some_search.Goals as goal

pub returns-then-is_empty : goal.returns-then-is_empty
returns-then-is_empty c =
    let none : length c.as_str.result.now ≡ 0 = grind (arith, nat_tests) in
    let empty : c.in-Ok.search ≡ [] = sym c.as_str.ensures ∙ no_bytes c.as_str.result.now none in
    search_absent c.args.cursor.now c.search.new.self (subst (λ (s : List ℕ). IsTaken searches c.args.cursor.now s c.search.new.self) empty c.in-Ok.ensures)

pub returns-in-Err : goal.returns-in-Err
returns-in-Err c = search_err c.args.cursor.now c.search.new.self c.in-Err.stop c.in-Err.ensures
