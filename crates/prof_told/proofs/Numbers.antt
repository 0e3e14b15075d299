-- Numbers as they are written.
use Rattle.std.proofs.Common.{◌∙◌, ℕ, suc, ◌*◌, ◌^◌, ◌<◌, Bool, false, true, [], ◌++◌, refl, ap, append-nil}
use Rattle.std.specs.Prelude.{ℤ, pos, negsuc, unsigned_abs}
use Rattle.std.specs.Fmt.{decimal, signed_decimal}
use Rattle.prof_time.specs.Numeral.{Numeral, IsSign, IsNumber, number, no_sign, no_fraction, no_exponent}
use Rattle.prof_time.specs.Numeral as n
use Rattle.prof_time.specs.Scaled.{digits_value, over, under, signed, IsExact, IsScaled}
use Rattle.prof_time.specs.Spelling.{scaled_text, sign_text}
use Rattle.prof_time.proofs.Spellings.{decimal_int, decimal_value, scaled_is_spelling, spelling_is_scaled}

whole_numeral : Bool → ℕ → Numeral
whole_numeral negative size = record { negative = negative; whole = decimal size; fraction = []; down = false; exponent = [] }

sign_is : (b : Bool) → IsSign (sign_text b) b
sign_is true = n.IsSign.minus
sign_is false = no_sign

digits_read : (negative : Bool) (size : ℕ) → size < 2 ^ 64 → IsNumber (sign_text negative ++ decimal size) (whole_numeral negative size)
unfolding whole_numeral
digits_read negative size h =
    let parts : IsNumber (sign_text negative ++ (decimal size ++ ([] ++ []))) (whole_numeral negative size) = number (sign_is negative) (decimal_int size h) no_fraction no_exponent in
    rw append-nil at parts

-- digits behind a sign are a number of that size
pub signed_is_exact : (negative : Bool) (size : ℕ) → size < 2 ^ 64 → IsExact (sign_text negative ++ decimal size) (signed negative size)
unfolding over under whole_numeral
signed_is_exact negative size h = record {
  numeral = whole_numeral negative size;
  reads = digits_read negative size h;
  size = size;
  exact = ap (λ v. v * 1) (ap digits_value (append-nil (decimal size)) ∙ decimal_value size h);
  is = refl;
}

pub decimal_is_exact : (size : ℕ) → size < 2 ^ 64 → IsExact (decimal size) (pos size)
decimal_is_exact size h = signed_is_exact false size h

pub signed_decimal_is_exact : (z : ℤ) → unsigned_abs z < 2 ^ 64 → IsExact (signed_decimal z) z
signed_decimal_is_exact (pos size) h = signed_is_exact false size h
signed_decimal_is_exact (negsuc m) h = signed_is_exact true (suc m) h

pub scaled_text_is_scaled : (d : ℕ) (z : ℤ) → unsigned_abs z < 2 ^ 64 → IsScaled (scaled_text d z) d z
scaled_text_is_scaled d z h = spelling_is_scaled d z (scaled_text d z) (scaled_is_spelling d z h)
