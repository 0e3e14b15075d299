-- Short texts, with their readings.
use Rattle.std.proofs.Common.{◌≡◌, ◌≢◌, ℕ, ◌<◌, Bool, true, false, List, [], ◌∷◌, ◌&&◌, refl, arith, lit<, lit≤}
use Rattle.std.specs.Prelude.{codes, pos, negsuc}
use Rattle.std.specs.Char.{IsAsciiDigit, is_ascii_digit}
use Rattle.std.specs.Fmt.{digits as digits_text}
use Rattle.std.proofs.lemmas.Bool.{and_parts}
use Rattle.std.proofs.lemmas.Bool.Decides.{nat_tests}
use Rattle.prof_time.specs.Numeral as n
use Rattle.prof_time.specs.Numeral.{Numeral, AreDigits, digits, IsSign, no_sign, IsInt, zero_int, int, IsFraction, no_fraction, fraction, IsExponent, small, capital, none, plus, no_exponent, exponent, IsNumber, number}
use Rattle.prof_time.specs.Scaled.{over, under, IsScaled, signed}
use Rattle.prof_time.specs.Spelling.{scaled_text}

abbrev Reads : List ℕ → Type 0
Reads text = (m : Numeral) × IsNumber text m

digit_is : (d : ℕ) → is_ascii_digit d ≡ true → IsAsciiDigit d
digit_is d h = grind (arith, nat_tests)

abbrev all_digits : List ℕ → Bool
all_digits [] = true
all_digits (d ∷ ds) = is_ascii_digit d && all_digits ds

digits_are : (ds : List ℕ) → all_digits ds ≡ true → AreDigits ds
digits_are [] h = tt
digits_are (d ∷ ds) h = let p = and_parts (is_ascii_digit d) (all_digits ds) h in (digit_is d p.0, digits_are ds p.1)

whole : (d : ℕ) (ds : List ℕ) → is_ascii_digit d ≡ true → d ≢ 48 → all_digits ds ≡ true → IsInt (d ∷ ds)
whole d ds h ne t = int (digit_is d h) ne (digits_are ds t)

point : (d : ℕ) (ds : List ℕ) → all_digits (d ∷ ds) ≡ true → IsFraction (46 ∷ d ∷ ds) (d ∷ ds)
point d ds h = let p = digits_are (d ∷ ds) h in fraction (digits p.0 p.1)

-- the digits behind e, and behind e-
up : (d : ℕ) (ds : List ℕ) → all_digits (d ∷ ds) ≡ true → IsExponent (101 ∷ d ∷ ds) false (d ∷ ds)
up d ds h = let p = digits_are (d ∷ ds) h in exponent {s = []} small none (digits p.0 p.1)

down : (d : ℕ) (ds : List ℕ) → all_digits (d ∷ ds) ≡ true → IsExponent (101 ∷ 45 ∷ d ∷ ds) true (d ∷ ds)
down d ds h = let p = digits_are (d ∷ ds) h in exponent {s = codes "-"} small n.IsExponentSign.minus (digits p.0 p.1)

not_zero : (d : ℕ) → 48 < d → d ≢ 48
not_zero d lt e = omega arith

from_one : (ds : List ℕ) → all_digits ds ≡ true → IsInt (49 ∷ ds)
from_one ds h = whole 49 ds refl (not_zero 49 (lit< tt)) h

from_nine : (ds : List ℕ) → all_digits ds ≡ true → IsInt (57 ∷ ds)
from_nine ds h = whole 57 ds refl (not_zero 57 (lit< tt)) h

pub tie : Reads (codes "1.0000005")
tie = (_, number no_sign (from_one [] refl) (point 48 (codes "000005") refl) no_exponent)

pub tie_below : Reads (codes "-1.0000005")
tie_below = (_, number n.IsSign.minus (from_one [] refl) (point 48 (codes "000005") refl) no_exponent)

pub tenth_of_a_unit : Reads (codes "1e-7")
tenth_of_a_unit = (_, number no_sign (from_one [] refl) no_fraction (down 55 [] refl))

pub with_plus : Reads (codes "-1.50e+2")
with_plus = (_, number n.IsSign.minus (from_one [] refl) (point 53 (codes "0") refl) (exponent {s = codes "+"} small plus (digits (digit_is 50 refl) tt)))

pub greatest : Reads (codes "9000000000000")
greatest = (_, number no_sign (from_nine (codes "000000000000") refl) no_fraction no_exponent)

pub past_greatest : Reads (codes "9000000000000.000001")
past_greatest = (_, number no_sign (from_nine (codes "000000000000") refl) (point 48 (codes "00001") refl) no_exponent)

pub far_up : Reads (codes "1e999999999")
far_up = (_, number no_sign (from_one [] refl) no_fraction (up 57 (codes "99999999") refl))

pub zero_far_up : Reads (codes "0e999999999")
zero_far_up = (_, number no_sign zero_int no_fraction (up 57 (codes "99999999") refl))

pub far_down : Reads (codes "1e-999999999")
far_down = (_, number no_sign (from_one [] refl) no_fraction (down 57 (codes "99999999") refl))

pub last_exact : Reads (codes "18446744073709551615")
last_exact = (_, number no_sign (from_one (codes "8446744073709551615") refl) no_fraction no_exponent)

pub past_exact : Reads (codes "18446744073709551616")
past_exact = (_, number no_sign (from_one (codes "8446744073709551616") refl) no_fraction no_exponent)

pub minus_twenty_five : Reads (codes "-2.50e1")
minus_twenty_five = (_, number n.IsSign.minus (whole 50 [] refl (not_zero 50 (lit< tt)) refl) (point 53 (codes "0") refl) (up 49 [] refl))

pub one_and_a_half : Reads (codes "1.5")
one_and_a_half = (_, number no_sign (from_one [] refl) (point 53 [] refl) no_exponent)

pub nothing : Reads (codes "0")
nothing = (_, number no_sign zero_int no_fraction no_exponent)

pub least_unit : Reads (codes "0.000001")
least_unit = (_, number no_sign zero_int (point 48 (codes "00001") refl) no_exponent)

pub more_places : Reads (codes "12.3456785")
more_places = (_, number no_sign (from_one (codes "2") refl) (point 51 (codes "456785") refl) no_exponent)

pub less_than_half : Reads (codes "0.9999994999999999")
less_than_half = (_, number no_sign zero_int (point 57 (codes "999994999999999") refl) no_exponent)

pub half_more : Reads (codes "1000000000000000.5")
half_more = (_, number no_sign (from_one (codes "000000000000000") refl) (point 53 [] refl) no_exponent)

pub nineteen_digits : Reads (codes "1000000000000000000")
nineteen_digits = (_, number no_sign (from_one (codes "000000000000000000") refl) no_fraction no_exponent)

pub fourteen_nines : Reads (codes "99999999999999")
fourteen_nines = (_, number no_sign (from_nine (codes "9999999999999") refl) no_fraction no_exponent)

pub eighteen_nines : Reads (codes "999999999999999999")
eighteen_nines = (_, number no_sign (from_nine (codes "99999999999999999") refl) no_fraction no_exponent)

pub twelve : Reads (codes "12.00")
twelve = (_, number no_sign (from_one (codes "2") refl) (point 48 (codes "0") refl) no_exponent)

pub great : Reads (codes "1e30")
great = (_, number no_sign (from_one [] refl) no_fraction (up 51 (codes "0") refl))

-- -1.50e+2 with one decimal is -1500, and 1e-7 with six decimals is 0
scaled_down : IsScaled (codes "-1.50e+2") 1 (signed true 1500)
unfolding over under with_plus tie_below tenth_of_a_unit
scaled_down = record { numeral = with_plus.0; reads = with_plus.1; size = 1500; nearest = record { low = lit≤ tt; high = lit< tt }; is = refl }

rounded_away : IsScaled (codes "-1.0000005") 6 (signed true 1000001)
unfolding over under with_plus tie_below tenth_of_a_unit
rounded_away = record { numeral = tie_below.0; reads = tie_below.1; size = 1000001; nearest = record { low = lit≤ tt; high = lit< tt }; is = refl }

less_than_a_unit : IsScaled (codes "1e-7") 6 (pos 0)
unfolding over under with_plus tie_below tenth_of_a_unit
less_than_a_unit = record { numeral = tenth_of_a_unit.0; reads = tenth_of_a_unit.1; size = 0; nearest = record { low = lit≤ tt; high = lit< tt }; is = refl }

half_written : scaled_text 6 (pos 1500000) ≡ codes "1.5"
unfolding scaled_text digits_text
half_written = refl

thousandths_written : scaled_text 3 (pos 5) ≡ codes "0.005"
unfolding scaled_text digits_text
thousandths_written = refl

whole_written : scaled_text 1 (negsuc 19) ≡ codes "-2"
unfolding scaled_text digits_text
whole_written = refl
