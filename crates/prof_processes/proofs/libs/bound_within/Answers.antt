use Rattle.std.proofs.Common.{◌≡◌, ◌<◌, ◌^◌, ℕ, ℤ, pos, negsuc, None, Some, List, arith, to_z, of_z}
use Rattle.std.specs.Prelude.{unsigned_abs, ◌≤ℤ◌}
use Rattle.std.specs.Int.{w128}
use Rattle.std.proofs.lemmas.Int.{ints}
use Rattle.prof_time.specs.Scaled.{IsExact}
use Rattle.prof_layout.specs.Numbers.{whole_of}
use Rattle.prof_gecko_layout.specs.GeckoProfile.{bound_within}
use Rattle.prof_processes.proofs.Bounds.{bound_read, bound_minus, bound_far}
use Rattle.prof_processes.proofs.libs.bound_within.Goals as goal

read : (text : List ℕ) (n : ℤ) → IsExact text n → unsigned_abs n < 2 ^ 64 → pos 0 ≤ℤ n → Some (unsigned_abs (to_z w128 (of_z w128 n))) ≡ bound_within (whole_of text)
read text (pos n) h few le = let same : to_z w128 (of_z w128 (pos n)) ≡ pos n = omega (arith, ints) in rw same (bound_read text n h few)
read text (negsuc n) h few le = absurd (omega (arith, ints))

minus : (text : List ℕ) (n : ℤ) → IsExact text n → (pos 0 ≤ℤ n → ⊥) → None ≡ bound_within (whole_of text)
minus text (pos n) h le = absurd (le (omega (arith, ints)))
minus text (negsuc n) h le = bound_minus text n h

pub returns-in-Some : goal.returns-in-Some
returns-in-Some c = let t = c.if-bound-ge0.true in read c.args.text.now c.in-Some.bound c.in-Some.ensures.exact c.in-Some.ensures.within (omega (arith, ints))

pub returns-in_default : goal.returns-in_default
returns-in_default c = let t = c.if-bound-ge0.false in minus c.args.text.now c.in-Some.bound c.in-Some.ensures.exact (λ le. omega (arith, ints))

pub returns-in_default-2 : goal.returns-in_default-2
returns-in_default-2 c = bound_far c.args.text.now c.requires.0 c.requires.1 c.in_default.ensures.none
