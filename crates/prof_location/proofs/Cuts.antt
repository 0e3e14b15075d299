-- Texts cut at a piece, as std's search finds it.
use Rattle.std.proofs.Common.{◌≡◌, ℕ, zero, suc, ◌+◌, ◌-◌, ◌<◌, ◌≤◌, true, false, List, [], ◌∷◌, ◌++◌, length, take, drop, Option, Some, None, refl, sym, ◌∙◌, ap, arith, inl, inr}
use Rattle.std.specs.Prelude.{nat_eq, MatchOption}
use Rattle.std.specs.Option.{option_copied}
use Rattle.std.specs.List.{starts_with}
use Rattle.std.specs.Borrow.{Bor}
use Rattle.std.specs.Str.Pattern.{LacksTextAt, RFindsText, SplitsAroundMatch, FindsTextSuffix, StripsSuffix}
use Rattle.std.proofs.lemmas.Bool.{cases_Bool, eqb-true, eq-eqb}
use Rattle.prof_location.specs.Cutting.{begins, cut_at_last}
use Rattle.prof_location.specs.Locations.{is_some_text, before_close}
use Rattle.prof_location.specs.Shown.{pair_shown}

-- a text that doesn't begin with a piece
begins_not : (piece text : List ℕ) → ((rest : List ℕ) → text ≡ piece ++ rest → ⊥) → begins piece text ≡ false
begins_not [] text none = absurd (none text refl)
begins_not (x ∷ piece) [] none = refl
begins_not (x ∷ piece) (y ∷ text) none = elim (cases_Bool (nat_eq x y)) [
  | inl e ↦ (let same : x ≡ y = eqb-true x y e in
      rw e (begins_not piece text (λ rest k. none rest (ap (λ z. z ∷ text) (sym same) ∙ ap (λ z. x ∷ z) k))))
  | inr e ↦ rw e refl
]

-- a text that does
begins_so : (piece rest : List ℕ) → begins piece (piece ++ rest) ≡ true
begins_so [] rest = refl
begins_so (x ∷ piece) rest = rw (eq-eqb x x refl) (begins_so piece rest)

-- no occurrence
pub cut_none : (x : ℕ) (piece text : List ℕ) → ((i : ℕ) → i ≤ length text → LacksTextAt (x ∷ piece) text i) → cut_at_last (x ∷ piece) text ≡ None
cut_none x piece [] none = refl
cut_none x piece (y ∷ text) none =
    let later : cut_at_last (x ∷ piece) text ≡ None = cut_none x piece text (λ i l. none (suc i) (omega arith)) in
    let here : begins (x ∷ piece) (y ∷ text) ≡ false = begins_not (x ∷ piece) (y ∷ text) (none 0 (omega arith)) in
    rw (later, here) refl

-- the last occurrence
pub cut_some : (x : ℕ) (piece text : List ℕ) (i j : ℕ) → drop i text ≡ (x ∷ piece) ++ drop j text → j ≡ i + length (x ∷ piece)
    → ((k : ℕ) → i < k → k ≤ length text → LacksTextAt (x ∷ piece) text k) → cut_at_last (x ∷ piece) text ≡ Some (take i text, drop j text)
cut_some x piece [] zero j at ends none = absurd (empty at)
  where
    empty : [] ≡ x ∷ (piece ++ drop j []) → ⊥
    empty e = grind (arith, e)
cut_some x piece [] (suc i) j at ends none = absurd (empty at)
  where
    empty : [] ≡ x ∷ (piece ++ drop j []) → ⊥
    empty e = grind (arith, e)
cut_some x piece (y ∷ text) zero j at ends none =
    let later : cut_at_last (x ∷ piece) text ≡ None = cut_none x piece text (λ i l. none (suc i) (omega arith) (omega arith)) in
    let here : begins (x ∷ piece) (y ∷ text) ≡ true = ap (begins (x ∷ piece)) at ∙ begins_so (x ∷ piece) (drop j (y ∷ text)) in
    let long : j ≡ length (x ∷ piece) = omega arith in
    rw (later, here, long) refl
cut_some x piece (y ∷ text) (suc i) zero at ends none = absurd (grind arith)
cut_some x piece (y ∷ text) (suc i) (suc j) at ends none =
    let later : cut_at_last (x ∷ piece) text ≡ Some (take i text, drop j text) = cut_some x piece text i j at (omega arith) (λ k l m. none (suc k) (omega arith) (omega arith)) in
    rw later refl

-- what `rsplit_once` answers
pub split_is : (piece text : List ℕ) (r : Option (Bor (List ℕ) × Bor (List ℕ))) → is_some_text piece ≡ true
    → MatchOption r (RFindsText piece text None) (λ x. SplitsAroundMatch (RFindsText piece) text x.0.now x.1.now) → pair_shown r ≡ cut_at_last piece text
split_is [] text r some h = absurd (grind (arith, some))
split_is (x ∷ piece) text None some h = sym (cut_none x piece text h)
split_is (x ∷ piece) text (Some p) some h =
    let found : RFindsText (x ∷ piece) text (Some (h.0, h.1)) = h.2 in
    let cut : cut_at_last (x ∷ piece) text ≡ Some (take h.0 text, drop h.1 text) = cut_some x piece text h.0 h.1 found.1.split found.1.ends found.0 in
    rw (h.3, h.4) (sym cut)

-- a text that ends in a closing parenthesis, and one that doesn't
close_so : (front : List ℕ) → before_close (front ++ 41 ∷ []) ≡ Some front
close_so [] = refl
close_so (c ∷ []) = refl
close_so (c ∷ d ∷ front) = rw (close_so (d ∷ front)) refl

close_not : (text : List ℕ) → ((front : List ℕ) → text ≡ front ++ 41 ∷ [] → ⊥) → before_close text ≡ None
close_not [] none = refl
close_not (c ∷ []) none = elim (cases_Bool (nat_eq c 41)) [
  | inl e ↦ absurd (none [] (ap (λ z. z ∷ []) (eqb-true c 41 e)))
  | inr e ↦ rw e refl
]
close_not (c ∷ d ∷ text) none = rw (close_not (d ∷ text) (λ front k. none (c ∷ front) (ap (λ z. c ∷ z) k))) refl

-- what `strip_suffix` answers
pub stripped_is : (text : List ℕ) (r : Option (Bor (List ℕ)))
    → MatchOption r (FindsTextSuffix (41 ∷ []) text None) (λ x. StripsSuffix (FindsTextSuffix (41 ∷ [])) text x.now) → option_copied r ≡ before_close text
stripped_is text None h = sym (close_not text h)
stripped_is text (Some x) h =
    let found : FindsTextSuffix (41 ∷ []) text (Some h.0) = h.1 in
    let closed : text ≡ take (length text - h.0) text ++ 41 ∷ [] = found.1 in
    rw h.2 (sym (ap before_close closed ∙ close_so (take (length text - h.0) text)))

-- a test of std's
pub starts : (piece text : List ℕ) → starts_with nat_eq text piece ≡ begins piece text
starts [] text = refl
starts (x ∷ piece) [] = refl
starts (x ∷ piece) (y ∷ text) = elim (cases_Bool (nat_eq x y)) [
  | inl e ↦ rw e (starts piece text)
  | inr e ↦ rw e refl
]
