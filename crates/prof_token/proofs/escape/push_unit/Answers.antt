use Rattle.std.proofs.Common.{◌≡◌, true, arith}
use Rattle.std.specs.Char.Utf16.{is_low_surrogate}
use Rattle.std.proofs.lemmas.Grind.{common_steps}
use Rattle.prof_token.proofs.Written.{unit_pair}
use Rattle.prof_token.proofs.escape.push_unit.Goals as goal

pub returns-in_ok-push_char-in-Some-clause-text : goal.returns-in_ok-push_char-in-Some-clause-text
returns-in_ok-push_char-in-Some-clause-text c = λ begun s h.
    let is : is_low_surrogate c.args.unit ≡ true = grind (arith, common_steps, c.is_low.ensures) in
    rw c.in-Some.is (unit_pair c.in-Some.first c.args.unit is h (rw c.pair_char.ensures at c.in_ok-push_char-in-Some.ensures.ok))
