-- Bounds of libraries, by what is read of their texts.
use Rattle.std.proofs.Common.{◌≡◌, ℕ, ◌^◌, ◌≤◌, ◌<◌, Option, None, Some, List, true, false, refl, sym, ◌∙◌, ap, arith, ℤ, pos, negsuc, nat_lt}
use Rattle.std.specs.Prelude.{unsigned_abs}
use Rattle.std.proofs.lemmas.Bool.Decides.{nat_tests}
use Rattle.prof_time.specs.Numeral.{Numeral, IsNumber}
use Rattle.prof_time.specs.Scaled.{IsExact}
use Rattle.prof_layout.specs.Numbers.{whole_of}
use Rattle.prof_layout.proofs.Numbers.{whole_is, whole_exact}
use Rattle.prof_gecko_layout.specs.GeckoProfile.{bound_within}

-- a whole number of 64 bits
pub bound_read : (text : List ℕ) (n : ℕ) → IsExact text (pos n) → n < 2 ^ 64 → Some n ≡ bound_within (whole_of text)
bound_read text n h few =
    let e : nat_lt n (2 ^ 64) ≡ true = grind (arith, nat_tests) in
    let within : bound_within (Some (pos n)) ≡ Some n = rw e refl in
    sym (ap bound_within (whole_is text (pos n) h) ∙ within)

-- one below 0 is no bound
pub bound_minus : (text : List ℕ) (n : ℕ) → IsExact text (negsuc n) → None ≡ bound_within (whole_of text)
bound_minus text n h = sym (ap bound_within (whole_is text (negsuc n) h))

far : (text : List ℕ) (m : Numeral) (o : Option ℤ) → IsNumber text m → whole_of text ≡ o → ((n : ℤ) → IsExact text n → 2 ^ 64 ≤ unsigned_abs n) → None ≡ bound_within o
far text m None h e none = refl
far text m (Some (negsuc n)) h e none = refl
far text m (Some (pos n)) h e none =
    let much : 2 ^ 64 ≤ n = none (pos n) (whole_exact text m (pos n) h e) in
    let t : nat_lt n (2 ^ 64) ≡ false = grind (arith, nat_tests) in
    rw t refl

-- nor is one past 64 bits, or what is no whole number
pub bound_far : (text : List ℕ) (m : Numeral) → IsNumber text m → ((n : ℤ) → IsExact text n → 2 ^ 64 ≤ unsigned_abs n) → None ≡ bound_within (whole_of text)
bound_far text m h none = far text m (whole_of text) h refl none
