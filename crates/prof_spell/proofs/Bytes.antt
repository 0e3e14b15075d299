-- Facts of each byte, by trying them all.
use Rattle.std.proofs.Common.{◌≡◌, ℕ, ◌<◌, Bool, true, false, refl, ap, ◌∙◌, arith, zero, suc}
use Rattle.std.specs.Prelude.{◌==◌, ◌&&◌, ◌||◌, not}
use Rattle.std.proofs.lemmas.Bool.Decides.{nat_tests}

abbrev pub holds_below : ℕ → (ℕ → Bool) → Bool
holds_below zero p = true
holds_below (suc n) p = p n && holds_below n p

pub and_true : (a b : Bool) → (a && b) ≡ true → (a ≡ true) × (b ≡ true)
and_true true b e = (refl, e)
and_true false b e = cc

pub and_both : (a b : Bool) → a ≡ true → b ≡ true → (a && b) ≡ true
and_both true b e f = f
and_both false b e f = e

pub or_left : (a b : Bool) → a ≡ true → (a || b) ≡ true
or_left true b e = refl
or_left false b e = cc

pub or_right : (a b : Bool) → b ≡ true → (a || b) ≡ true
or_right true b e = refl
or_right false b e = e

-- where one of two holds and the first doesn't, the second does
pub other_holds : (a b : Bool) → (not a || b) ≡ true → a ≡ true → b ≡ true
other_holds true b e f = e
other_holds false b e f = cc

pub not_true : (a : Bool) → not a ≡ true → a ≡ false
not_true true e = cc
not_true false e = refl

pub not_false : (a : Bool) → a ≡ false → not a ≡ true
not_false true e = cc
not_false false e = refl

pub eqb_is : (a b : ℕ) → (a == b) ≡ true → a ≡ b
eqb_is a b h = grind (arith, nat_tests)

pub each_below : (n : ℕ) (p : ℕ → Bool) → holds_below n p ≡ true → (b : ℕ) → b < n → p b ≡ true
each_below zero p h b l = absurd (omega arith)
each_below (suc n) p h b l = at (b == n) refl (each_below n p (and_true (p n) (holds_below n p) h).1 b)
  where
    at : (t : Bool) → (b == n) ≡ t → (b < n → p b ≡ true) → p b ≡ true
    at true e so = ap p (eqb_is b n e) ∙ (and_true (p n) (holds_below n p) h).0
    at false e so = so (grind (arith, nat_tests))
