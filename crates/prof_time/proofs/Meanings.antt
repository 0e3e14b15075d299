-- A number's text means one number.
use Rattle.std.proofs.Common.{◌≡◌, ℕ, ◌+◌, ◌*◌, ◌/◌, ◌<◌, cond, List, length, refl, sym, ap, ◌∙◌, subst}
use Rattle.std.specs.Prelude.{ℤ}
use Rattle.prof_time.specs.Numeral.{Numeral, IsNumber}
use Rattle.prof_time.specs.Scaled.{digits_value, over, under, IsNearest, IsScaled, IsExact, signed}
use Rattle.prof_time.proofs.Nearest.{nearest_quotient}
use Rattle.prof_time.proofs.Readings.{same_numeral}
use Rattle.prof_time.proofs.Scaling.{nearest_same, exact_same}
use Rattle.prof_time.proofs.Values.{ten_pos}

pub same_scaled : (text : List ℕ) (d : ℕ) (y z : ℤ) → IsScaled text d y → IsScaled text d z → y ≡ z
same_scaled text d y z h k =
    let m : k.numeral ≡ h.numeral = same_numeral text k.numeral h.numeral k.reads h.reads in
    let P : Numeral → Type 0 = λ n. IsNearest (over n d) (under n) k.size in
    let size : h.size ≡ k.size = nearest_same (over h.numeral d) (under h.numeral) h.size k.size h.nearest (subst P m k.nearest) in
    h.is ∙ ap (signed h.numeral.negative) size ∙ ap (λ (n : Numeral). signed n.negative k.size) (sym m) ∙ sym k.is

pub same_exact : (text : List ℕ) (y z : ℤ) → IsExact text y → IsExact text z → y ≡ z
same_exact text y z h k =
    let m : k.numeral ≡ h.numeral = same_numeral text k.numeral h.numeral k.reads h.reads in
    let P : Numeral → Type 0 = λ n. over n 0 ≡ k.size * under n in
    let size : h.size ≡ k.size = exact_same h.numeral h.size k.size h.exact (subst P m k.exact) in
    h.is ∙ ap (signed h.numeral.negative) size ∙ ap (λ (n : Numeral). signed n.negative k.size) (sym m) ∙ sym k.is

-- a quotient has a nearest whole number
nearest_of : (a b : ℕ) → 0 < b → (n : ℕ) × IsNearest a b n
nearest_of a b h = ((2 * a + b) / (2 * b), nearest_quotient a b h)

under_pos : (m : Numeral) → 0 < under m
unfolding under
under_pos m = ten_pos (length m.fraction + cond m.down (digits_value m.exponent) 0)

pub some_scaled : (text : List ℕ) (m : Numeral) (d : ℕ) → IsNumber text m → (z : ℤ) × IsScaled text d z
some_scaled text m d h =
    let near = nearest_of (over m d) (under m) (under_pos m) in
    (signed m.negative near.0, record { numeral = m; reads = h; size = near.0; nearest = near.1; is = refl })
