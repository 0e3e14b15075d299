-- Intervals by their starts, and moments looked up among them
use Rattle.std.proofs.Common.{◌≡◌, ℕ, zero, suc, ◌+◌, ◌-◌, ◌<◌, ◌≤◌, ℤ, ◌≤ℤ◌, Bool, true, false, ◌&&◌, ◌||◌, List, [], ◌∷◌, length, get_or, set, sym, ap, ◌∙◌, refl, subst, arith, inl, inr}
use Rattle.std.specs.Prelude.{int_le}
use Rattle.std.specs.Int.{int_max}
use Rattle.std.specs.List.{list_any}
use Rattle.std.specs.List.Sorted.{IsPartitionedBy, IsPartitionPoint, IsSortedByKey}
use Rattle.std.specs.Ordering.{is_lt, int_cmp}
use Rattle.std.proofs.lemmas.Cmp.{int_cmp_total}
use Rattle.std.proofs.lemmas.List.Sorted.{sorted_far, ranks_by}
use native.Mathlib.Numerals.{unary_clauses}
use Rattle.std.proofs.lemmas.Bool.{cases_lt}
use Rattle.std.proofs.lemmas.Grind.{common_steps, get_or-set_at}
use Rattle.std.proofs.lemmas.Int.{ints}
use Rattle.std.proofs.lemmas.List.{length-set, get_or-set_other, get_or_default}
use Rattle.std.proofs.lemmas.List.Folds.{list_any_at, list_any_none}
use Rattle.prof_path.specs.declared.lists.Span.{Span}
use Rattle.prof_path.specs.Rewriting.{is_during}
use Rattle.prof_layer.specs.Periods.{AreByStart, AreAscending}

-- an interval that lasts as long as another one that starts no later covers no moment more than both
raised-pair : (m : ℤ) (a b new : Span) → a.start ≤ℤ b.start → new.start ≡ b.start → new.end ≡ int_max b.end a.end → (is_during m a || is_during m new) ≡ (is_during m a || is_during m b)
raised-pair m a b new h s e = grind (arith, ints)

or-more : (a b c r : Bool) → (a || b) ≡ (a || c) → (a || (b || r)) ≡ (a || (c || r))
or-more true b c r h = refl
or-more false b c r h = ap (λ x. x || r) h

raised-next : (m : ℤ) (xs : List Span) (i : ℕ) (new d : Span) → suc i < length xs → (get_or xs i d).start ≤ℤ (get_or xs (suc i) d).start
    → new.start ≡ (get_or xs (suc i) d).start → new.end ≡ int_max (get_or xs (suc i) d).end (get_or xs i d).end
    → list_any (is_during m) (set xs (suc i) new) ≡ list_any (is_during m) xs
raised-next m [] i new d lt h s e = refl
raised-next m (a ∷ []) zero new d lt h s e = absurd (omega arith)
raised-next m (a ∷ b ∷ xs) zero new d lt h s e = or-more (is_during m a) (is_during m new) (is_during m b) (list_any (is_during m) xs) (raised-pair m a b new h s e)
raised-next m (a ∷ xs) (suc i) new d lt h s e = ap (λ x. is_during m a || x) (raised-next m xs i new d (omega arith) h s e)

pub raised-same : (m : ℤ) (xs : List Span) (i : ℕ) (new d : Span) → 0 < i → i < length xs → AreByStart xs
    → new.start ≡ (get_or xs i d).start → new.end ≡ int_max (get_or xs i d).end (get_or xs (i - 1) d).end
    → list_any (is_during m) (set xs i new) ≡ list_any (is_during m) xs
raised-same m xs zero new d some lt h s e = absurd (omega arith)
raised-same m xs (suc i) new d some lt h s e = raised-next m xs i new d lt (h i (suc i) d (omega arith) lt) s (simp unary_clauses at e)

start-kept : (xs : List Span) (i k : ℕ) (new d0 d : Span) → i < length xs → new.start ≡ (get_or xs i d0).start → k < length xs → (get_or (set xs i new) k d).start ≡ (get_or xs k d).start
start-kept xs i k new d0 d lt s within = grind (arith, common_steps)

pub raised-starts : (xs : List Span) (i : ℕ) (new d0 : Span) → i < length xs → new.start ≡ (get_or xs i d0).start → AreByStart xs → AreByStart (set xs i new)
raised-starts xs i new d0 lt s h = λ j k d le within.
    let count : length (set xs i new) ≡ length xs = length-set xs i new in
    subst (λ z. z ≤ℤ (get_or (set xs i new) k d).start) (sym (start-kept xs i j new d0 d lt s (omega arith)))
    (subst (λ z. (get_or xs j d).start ≤ℤ z) (sym (start-kept xs i k new d0 d lt s (omega arith))) (h j k d le (omega arith)))

below-max : (x y z w : ℤ) → w ≡ int_max y z → x ≤ℤ z → x ≤ℤ w
below-max x y z w e h = grind (arith, ints)

pub raised-ends : (xs : List Span) (i : ℕ) (new d0 : Span) → 0 < i → i < length xs → new.end ≡ int_max (get_or xs i d0).end (get_or xs (i - 1) d0).end
    → ((j k : ℕ) (d : Span) → j ≤ k → k < i → k < length xs → (get_or xs j d).end ≤ℤ (get_or xs k d).end)
    → (j k : ℕ) (d : Span) → j ≤ k → k < i + 1 → k < length (set xs i new) → (get_or (set xs i new) j d).end ≤ℤ (get_or (set xs i new) k d).end
raised-ends xs i new d0 some lt e h j k d le below within = elim (cases_lt k i) [
  | inl b ↦ subst (λ z. z.end ≤ℤ (get_or (set xs i new) k d).end) (sym (other j (omega arith)))
      (subst (λ z. (get_or xs j d).end ≤ℤ z.end) (sym (other k b)) (h j k d le b (omega arith)))
  | inr b ↦ subst (λ z. (get_or (set xs i new) j d).end ≤ℤ z.end) (sym (get_or-set_at xs i k new d (omega arith) lt)) (elim (cases_lt j i) [
    | inl a ↦ subst (λ z. z.end ≤ℤ new.end) (sym (other j a))
        (subst (λ z. z.end ≤ℤ new.end) (get_or_default xs j d0 d (omega arith)) (below-max _ _ _ _ e (h j (i - 1) d0 (omega arith) (omega arith) (omega arith))))
    | inr a ↦ subst (λ z. z.end ≤ℤ new.end) (sym (get_or-set_at xs i j new d (omega arith) lt)) (omega (arith, ints))
  ])
]
  where
    other : (q : ℕ) → q < i → get_or (set xs i new) q d ≡ get_or xs q d
    other q lt = get_or-set_other xs i q new d (omega arith)

not-less : (x y : ℤ) → is_lt (int_cmp y x) ≡ false → x ≤ℤ y
not-less x y h = grind (arith, ints)

pub by-start : (xs : List Span) → IsSortedByKey (λ (s : Span). s.start) int_cmp xs → AreByStart xs
by-start xs h = λ i j d le lt. not-less _ _ (sorted_far (λ (x y : Span). is_lt (int_cmp x.start y.start)) (ranks_by int_cmp_total (λ (s : Span). s.start)) xs h i j d le lt)

pub parted : (m : ℤ) (xs : List Span) → AreByStart xs → IsPartitionedBy (λ (s : Span). int_le s.start m) xs
parted m xs h i j d le lt e = let up = h i j d le lt in grind (arith, ints)

both : (a b : Bool) → a ≡ true → b ≡ true → (a && b) ≡ true
both a b h k = ap (λ x. x && b) h ∙ k

and-false : (a : Bool) → (a && false) ≡ false
and-false true = refl
and-false false = refl

ended : (m x y : ℤ) → x ≤ℤ y → int_le m y ≡ false → int_le m x ≡ false
ended m x y h e = grind (arith, ints)

-- the interval at the end of those that start by then says whether the moment lies in one
pub looked-up : (m : ℤ) (xs : List Span) (k : ℕ) (last : Span) → AreAscending xs → k ≤ length xs → IsPartitionPoint (λ (s : Span). int_le s.start m ≡ true) (λ (s : Span). int_le s.start m ≡ false) xs k
    → 0 < k → last ≡ get_or xs (k - 1) last → int_le m last.end ≡ list_any (is_during m) xs
looked-up m xs k last up le point some is = here (int_le m last.end) refl
  where
    here : (b : Bool) → int_le m last.end ≡ b → b ≡ list_any (is_during m) xs
    here true h = sym (list_any_at (is_during m) xs (k - 1) last (omega arith) (both _ _ (point.0 (k - 1) last (omega arith) (omega arith)) (ap (λ (s : Span). int_le m s.end) (sym is) ∙ h)))
    here false h = sym (list_any_none (is_during m) xs (λ j d l. elim (cases_lt j k) [
      | inl a ↦ ap (λ b. int_le (get_or xs j d).start m && b) (ended m (get_or xs j d).end (get_or xs (k - 1) d).end (up.ends j (k - 1) d (omega arith) (omega arith)) (ap (λ (s : Span). int_le m s.end) (get_or_default xs (k - 1) d last (omega arith) ∙ sym is) ∙ h)) ∙ and-false _
      | inr a ↦ ap (λ b. b && int_le m (get_or xs j d).end) (point.1 j d a l)
    ]))

pub looked-none : (m : ℤ) (xs : List Span) (k : ℕ) → IsPartitionPoint (λ (s : Span). int_le s.start m ≡ true) (λ (s : Span). int_le s.start m ≡ false) xs k → k ≤ 0 → list_any (is_during m) xs ≡ false
looked-none m xs k point none = list_any_none (is_during m) xs (λ j d l. let out = point.1 j d (omega arith) l in ap (λ b. b && int_le m (get_or xs j d).end) out)
