-- Hexadecimal numbers grow with each digit.
use Rattle.std.proofs.Common.{◌≡◌, ℕ, ◌^◌, ◌<◌, ◌≤◌, List, [], ◌∷◌, true, false, None, Some, refl, ap, arith, inl, inr, ◌∙◌}
use Rattle.std.specs.Prelude.{nat_lt}
use Rattle.std.proofs.lemmas.Bool.{cases_Bool, lt-ltb, ltb-false, le-ltb}
use Rattle.prof_location.specs.Locations.{add_digit, hex_behind, within_64}

pub least : (value : ℕ) (digits : List ℕ) → value ≤ hex_behind value digits
least value [] = omega arith
least value (c ∷ digits) = let more = least (add_digit value c) digits in omega arith

-- a number within the bits
pub fits : (v n : ℕ) → v < 2 ^ 64 → v ≡ n → Some v ≡ within_64 n
fits v n small e = let test : nat_lt n (2 ^ 64) ≡ true = lt-ltb n (2 ^ 64) (omega arith) in rw test (ap Some e)

-- one past them
pub over : (n : ℕ) → None ≡ within_64 n → 2 ^ 64 ≤ n
over n e = elim (cases_Bool (nat_lt n (2 ^ 64))) [
  | inl t ↦ (let some : None ≡ Some n = e ∙ rw t refl in absurd (grind (arith, some)))
  | inr t ↦ ltb-false n (2 ^ 64) t
]

-- the digits behind it make it no smaller
pub stays_over : (n all : ℕ) (rest : List ℕ) → None ≡ within_64 n → hex_behind n rest ≡ all → None ≡ within_64 all
stays_over n all rest e same =
    let big = over n e in
    let more = least n rest in
    let test : nat_lt all (2 ^ 64) ≡ false = le-ltb all (2 ^ 64) (omega arith) in
    rw test refl
