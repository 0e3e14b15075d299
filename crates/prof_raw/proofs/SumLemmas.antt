-- Sums that are out of the range.
use Rattle.std.proofs.Common.{◌≡◌, Some, false, refl, arith, inl, inr, w64}
use Rattle.std.specs.Prelude.{ℤ, pos, negsuc, nat_le, nat_lt, FitsSigned}
use Rattle.std.proofs.lemmas.Bool.{cases_lt}
use Rattle.std.proofs.lemmas.Bool.Decides.{nat_tests}
use Rattle.std.proofs.lemmas.Int.{ints}
use Rattle.prof_raw.specs.declared.rule.Rule.TheVariants as rule
use Rattle.prof_raw.specs.declared.limits.TheConstants.{GREATEST}
use Rattle.prof_raw.specs.Rules.{range_rule}

-- a sum that doesn't fit is out of the range
pub no_fit : (z : ℤ) → (FitsSigned w64 z → ⊥) → range_rule z ≡ Some rule.NumberRange
no_fit (pos n) h = elim (cases_lt GREATEST n) [
  | inl over ↦ (let e : nat_le n GREATEST ≡ false = grind (arith, nat_tests) in rw e refl)
  | inr within ↦ absurd (h (omega (arith, ints)))
]
no_fit (negsuc n) h = elim (cases_lt n GREATEST) [
  | inl within ↦ absurd (h (omega (arith, ints)))
  | inr over ↦ (let e : nat_lt n GREATEST ≡ false = grind (arith, nat_tests) in rw e refl)
]
