-- A number that is clamped breaks what the number itself breaks.
use Rattle.std.proofs.Common.{◌≡◌, ℕ, zero, suc, ◌-◌, ◌^◌, ◌<◌, ◌≤◌, true, false, refl, sym, ◌∙◌, ap, arith, inl, inr}
use Rattle.std.specs.Prelude.{ℤ, pos, negsuc, min, nat_lt, unsigned_abs}
use Rattle.std.proofs.lemmas.Bool.{cases_lt}
use Rattle.std.proofs.lemmas.Bool.Decides.{nat_tests}
use Rattle.prof_raw.specs.Rules.{index_rule, minus_or_index_rule, prefix_rule, phase_rule}
use Rattle.prof_layout.specs.Columns.{clamped}

-- below a limit of so few, the nearest number is below where the number is
test_same : (limit n : ℕ) → limit < 2 ^ 63 → nat_lt (min n (2 ^ 63 - 1)) limit ≡ nat_lt n limit
test_same limit n few = elim (cases_lt n limit) [
  | inl below ↦
      let a : nat_lt n limit ≡ true = grind (arith, nat_tests) in
      let b : nat_lt (min n (2 ^ 63 - 1)) limit ≡ true = let m : min n (2 ^ 63 - 1) < limit = omega arith in grind (arith, nat_tests) in
      b ∙ sym a
  | inr over ↦
      let a : nat_lt n limit ≡ false = grind (arith, nat_tests) in
      let b : nat_lt (min n (2 ^ 63 - 1)) limit ≡ false = let m : limit ≤ min n (2 ^ 63 - 1) = omega arith in grind (arith, nat_tests) in
      b ∙ sym a
]

pub clamped_index : (limit : ℕ) (n : ℤ) → limit < 2 ^ 63 → index_rule limit (clamped n) ≡ index_rule limit n
clamped_index limit (pos n) few = rw (test_same limit n few) refl
clamped_index limit (negsuc n) few = refl

pub clamped_minus : (limit : ℕ) (n : ℤ) → limit < 2 ^ 63 → minus_or_index_rule limit (clamped n) ≡ minus_or_index_rule limit n
clamped_minus limit (pos n) few = rw (test_same limit n few) refl
clamped_minus limit (negsuc zero) few = refl
clamped_minus limit (negsuc (suc n)) few =
    let e : min (suc n) (2 ^ 63 - 1) ≡ suc (min n (2 ^ 63 - 2)) = omega arith in
    ap (λ k. minus_or_index_rule limit (negsuc k)) e

pub clamped_prefix : (row : ℕ) (n : ℤ) → row < 2 ^ 63 → prefix_rule row (clamped n) ≡ prefix_rule row n
clamped_prefix row (pos n) few = rw (test_same row n few) refl
clamped_prefix row (negsuc n) few = refl

pub clamped_phase : (n : ℤ) → phase_rule (clamped n) ≡ phase_rule n
clamped_phase (pos n) = rw (test_same 4 n (omega arith)) refl
clamped_phase (negsuc n) = refl

-- a number of 64 bits stays as it is
pub clamped_same : (n : ℤ) → unsigned_abs n < 2 ^ 63 → clamped n ≡ n
clamped_same (pos n) few = ap pos (omega arith)
clamped_same (negsuc n) few = ap negsuc (omega arith)
