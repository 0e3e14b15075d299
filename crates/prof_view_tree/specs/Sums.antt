-- The weight of the samples on a row in one number
use Rattle.std.specs.Prelude.{◌≡◌, ℤ, negsuc, Bool, true, false, if◌then◌else◌, Option, Some, None, unwrap_or, refl}
use Rattle.std.proofs.Common.{sym}
use Rattle.std.specs.Ordering.{int_eq}
use Rattle.std.proofs.lemmas.Bool.Decides.{Decides-int_eq}

-- the number that stands for no sample: the least of 128 bits
abbrev pub no_sample : ℤ
no_sample = negsuc 170141183460469231731687303715884105727

-- the weight that a number tells
abbrev pub weight_in : ℤ → Option ℤ
weight_in sum = if int_eq sum no_sample then None else Some sum

-- it gives the number back
back_by : (test : Bool) (sum : ℤ) → (test ≡ true → sum ≡ no_sample) → unwrap_or (if test then None else Some sum) no_sample ≡ sum
back_by true sum same = sym (same refl)
back_by false sum same = refl

pub sum_back : (sum : ℤ) → unwrap_or (weight_in sum) no_sample ≡ sum
sum_back sum = let same = Decides-int_eq sum no_sample in back_by (int_eq sum no_sample) sum same.0
