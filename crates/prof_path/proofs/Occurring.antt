-- Where a term occurs in a text
use Rattle.std.proofs.Common.{◌≡◌, ◌+◌, ◌<◌, ◌≤◌, ℕ, zero, suc, Bool, true, false, ◌||◌, List, [], ◌∷◌, get_or, length, map, take, drop, Option, Some, None, is_some, sym, ap, subst, ◌∙◌, arith, ⊎_elim}
use Rattle.std.specs.List.{list_any}
use Rattle.std.specs.Str.{bytes_eq}
use Rattle.std.proofs.lemmas.Bool.{or_left, or_right, or_cases, false_from_ne_true}
use Rattle.std.proofs.lemmas.List.{length-take}
use Rattle.std.proofs.lemmas.Slice.Eq.{bytes_eq-Decides}
use Rattle.memchr.specs.Find.{FindsNeedle}
use Rattle.memchr.proofs.lemmas.MatchLemmas.{OccursAt-part, OccursAt-from_part}
use Rattle.prof_path.specs.Terms.{has_within}

same_text : (a b : List ℕ) → bytes_eq a b ≡ true → a ≡ b
same_text a b h = (bytes_eq-Decides a b).0 h

text_same : (a b : List ℕ) → a ≡ b → bytes_eq a b ≡ true
text_same a b h = (bytes_eq-Decides a b).1 h

module _ (needle : List ℕ) where
  within-true : (hay : List ℕ) (k : ℕ) → k + length needle ≤ length hay → take (length needle) (drop k hay) ≡ needle → has_within needle hay ≡ true
  within-true [] k fits part =
      let first : k ≡ 0 = omega arith in
      text_same needle (take (length needle) []) (sym (subst (λ i. take (length needle) (drop i []) ≡ needle) first part))
  within-true (c ∷ hay) zero fits part = or_left (bytes_eq needle (take (length needle) (c ∷ hay))) (has_within needle hay) (text_same needle (take (length needle) (c ∷ hay)) (sym part))
  within-true (c ∷ hay) (suc k) fits part = or_right (bytes_eq needle (take (length needle) (c ∷ hay))) (has_within needle hay) (within-true hay k (omega arith) part)

  record Stands (hay : List ℕ) : Type 0 where
    pub at : ℕ
    pub fits : at + length needle ≤ length hay
    pub part : take (length needle) (drop at hay) ≡ needle

  here : (hay : List ℕ) → bytes_eq needle (take (length needle) hay) ≡ true → Stands hay
  here hay t =
      let same = same_text needle (take (length needle) hay) t in
      let long = ap length same in
      record { at = 0; fits = omega (arith, long, length-take (length needle) hay); part = sym same }

  within-at : (hay : List ℕ) → has_within needle hay ≡ true → Stands hay
  within-at [] h = here [] h
  within-at (c ∷ hay) h =
      ⊎_elim (λ t. here (c ∷ hay) t) (λ later. further (within-at hay later)) (or_cases (bytes_eq needle (take (length needle) (c ∷ hay))) (has_within needle hay) h)
    where
      further : Stands hay → Stands (c ∷ hay)
      further s = record { at = suc s.at; fits = (let low = s.fits in omega (arith, low)); part = s.part }

  pub occurs_is : (hay : List ℕ) (r : Option ℕ) → FindsNeedle hay needle 0 r → is_some r ≡ has_within needle hay
  occurs_is hay None h = sym (false_from_ne_true (has_within needle hay) (λ t.
      let s = within-at hay t in
      let low = s.fits in
      h s.at (omega arith) (omega (arith, low)) (OccursAt-from_part hay needle s.at s.fits s.part)))
  occurs_is hay (Some k) h = sym (within-true hay k h.1.fits (OccursAt-part hay needle k h.1))

-- an item that passes
pub any_at : {A B : Type 0} (p : B → Bool) (f : A → B) (xs : List A) (i : ℕ) (x : A) → i < length xs → x ≡ get_or xs i x → p (f x) ≡ true → true ≡ list_any p (map f xs)
any_at p f [] i x lt at t = absurd (omega arith)
any_at p f (y ∷ xs) zero x lt at t = sym (or_left (p (f y)) (list_any p (map f xs)) (ap (λ z. p (f z)) (sym at) ∙ t))
any_at p f (y ∷ xs) (suc i) x lt at t = sym (or_right (p (f y)) (list_any p (map f xs)) (sym (any_at p f xs i x (omega arith) at t)))
