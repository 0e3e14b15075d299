use Rattle.std.proofs.Common.{◌≡◌, true, false, arith}
use Rattle.std.specs.Char.Utf16.{is_high_surrogate}
use Rattle.std.proofs.lemmas.Grind.{common_steps}
use Rattle.prof_token.proofs.Written.{unit_first, unit_alone}
use Rattle.prof_token.proofs.escape.push_unpaired.Goals as goal

pub returns-then-is_high-clause-text : goal.returns-then-is_high-clause-text
returns-then-is_high-clause-text c = λ begun s h.
    let is : is_high_surrogate c.args.unit ≡ true = grind (arith, common_steps, c.is_high.ensures) in
    unit_first c.args.unit is (c.in_ok-push_lone.ensures.text begun s h)

pub returns-clause-text : goal.returns-clause-text
returns-clause-text c = λ begun s h.
    let is : is_high_surrogate c.args.unit ≡ false = grind (arith, common_steps, c.is_high.ensures) in
    unit_alone c.args.unit is (c.in_ok-push_lone.ensures.text begun s h) (rw c.lone_char.ensures at c.in_ok-push_char.ensures.ok)
