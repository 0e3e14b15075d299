-- Words as numbers.
use Rattle.std.proofs.Common.{◌≡◌, ◌≢◌, ◌<◌, ◌≤◌, ◌^◌, ℕ, List, [], ◌∷◌, length, get_or, true, false, ◌&&◌, nat_le, None, Result, Err, refl, rules, arith}
use Rattle.std.specs.Char.{is_ascii_digit}
use Rattle.std.specs.List.{list_all}
use Rattle.std.specs.Str.Parse.{ParsesUnsigned, digits_value}
use Rattle.std.proofs.lemmas.Bool.Decides.{nat_tests}
use Rattle.std.proofs.lemmas.Str.Parse.{IsNumeralModel, numerals_by_value, parse_digits}
use Rattle.prof_words.specs.Numbers.{is_decimal, number_within}

-- of two digits or more the first is no zero
pub is_decimal-long : (bs : List ℕ) → 2 ≤ length bs → get_or bs 0 0 ≢ 48 → is_decimal bs ≡ list_all is_ascii_digit bs
is_decimal-long [] h n = absurd (omega arith)
is_decimal-long (b ∷ []) h n = absurd (omega arith)
is_decimal-long (b ∷ c ∷ bs) h n = grind (arith, nat_tests)

own : IsNumeralModel (λ ds. list_all is_ascii_digit ds ≡ true) (digits_value 10)
own = numerals_by_value _ (search rules)

are_digits : (bs : List ℕ) → is_decimal bs ≡ true → list_all is_ascii_digit bs ≡ true
are_digits [] d = cc
are_digits (b ∷ []) d = grind arith
are_digits (b ∷ c ∷ bs) d = grind arith

some_digits : (bs : List ℕ) → is_decimal bs ≡ true → 0 < length bs
some_digits [] d = absurd (no_digit d)
  where
    no_digit : false ≡ true → ⊥
    no_digit h = cc
some_digits (b ∷ bs) d = omega arith

not_within : (n least most : ℕ) → ¬ (n < 2 ^ 32) → most < 2 ^ 32 → (nat_le least n && nat_le n most) ≡ false
not_within n least most large small = grind (arith, nat_tests)

-- where a word of digits can't be read, its number is too great
pub number_within-unread : {E : Type 0} (word : List ℕ) (least most : ℕ) (e : E) → most < 2 ^ 32 → is_decimal word ≡ true → ParsesUnsigned {E = E} 32 10 word (Err e) → number_within least most word ≡ None
number_within-unread {E} word least most e small d parsed =
    let read : Result ℕ E = Err e in
    let unread : ¬ ((0 < length word) × (digits_value 10 word < 2 ^ 32)) = parse_digits own 32 word read parsed (are_digits word d) in
    let outside = not_within (digits_value 10 word) least most (λ h. unread (some_digits word d, h)) small in
    rw (d, outside) refl
