-- One more path in a tree that grows.
use Rattle.std.proofs.Common.{◌≡◌, ◌<◌, ◌++◌, ◌∷◌, [], ℤ, List, length, FitsSigned, pos, w64, to_z, of_z, ◌+ℤ◌, neg_ℤ, ◌≤ℤ◌, eqb, true, false, refl, sym, ap, ◌∙◌, arith}
use Rattle.std.specs.Int.{w128}
use Rattle.std.proofs.lemmas.Int.{ints, to_z-of_z}
use Rattle.prof_tables.specs.declared.rows.Step.{Step}
use Rattle.prof_tree.specs.declared.builder.TreeBuilder.{TreeBuilder}
use Rattle.prof_tree.specs.Building.{Holds}
use Rattle.prof_tree.specs.Nodes.{Weighed, total, dropped_of}
use Rattle.prof_tree.proofs.Whole.{fits_all, fits_dropped, total-more, dropped-yes, dropped-no}

-- a weight of 64 bits is the same as its bits
pub same_weight : (w : ℤ) → neg_ℤ (pos 9223372036854775808) ≤ℤ w → w ≤ℤ pos 9223372036854775807 → to_z w64 (of_z w64 w) ≡ w
same_weight w low high = to_z-of_z w64 w (omega (arith, ints))

-- the sums of a builder are the same as their bits
held_selected : (xs : List Weighed) (b : TreeBuilder) → Holds xs b → length xs < 8388608 → to_z w128 (of_z w128 b.selected) ≡ total xs
held_selected xs b h few =
    let f : FitsSigned w128 (total xs +ℤ pos 0) = fits_all xs (pos 0) h.small (omega (arith, few)) (omega (arith, ints)) (omega (arith, ints)) in
    let g : FitsSigned w128 (total xs) = omega (arith, ints, f) in
    ap (λ z. to_z w128 (of_z w128 z)) h.selected ∙ to_z-of_z w128 (total xs) g

held_dropped : (xs : List Weighed) (b : TreeBuilder) → Holds xs b → length xs < 8388608 → to_z w128 (of_z w128 b.dropped) ≡ dropped_of xs
held_dropped xs b h few =
    let f : FitsSigned w128 (dropped_of xs +ℤ pos 0) = fits_dropped xs (pos 0) h.small (omega (arith, few)) (omega (arith, ints)) (omega (arith, ints)) in
    let g : FitsSigned w128 (dropped_of xs) = omega (arith, ints, f) in
    ap (λ z. to_z w128 (of_z w128 z)) h.dropped ∙ to_z-of_z w128 (dropped_of xs) g

pub sum_fits : (xs : List Weighed) (b : TreeBuilder) (w : ℤ) → Holds xs b → length xs < 8388608 → neg_ℤ (pos 9223372036854775808) ≤ℤ w → w ≤ℤ pos 9223372036854775807 →
    FitsSigned w128 (to_z w128 (of_z w128 b.selected) +ℤ to_z w64 (of_z w64 w))
sum_fits xs b w h few low high =
    rw (held_selected xs b h few, same_weight w low high) (fits_all xs w h.small (omega (arith, few)) low (omega (arith, ints, high)))

pub dropped_fits : (xs : List Weighed) (b : TreeBuilder) (w : ℤ) → Holds xs b → length xs < 8388608 → neg_ℤ (pos 9223372036854775808) ≤ℤ w → w ≤ℤ pos 9223372036854775807 →
    FitsSigned w128 (to_z w128 (of_z w128 b.dropped) +ℤ to_z w64 (of_z w64 w))
dropped_fits xs b w h few low high =
    rw (held_dropped xs b h few, same_weight w low high) (fits_dropped xs w h.small (omega (arith, few)) low (omega (arith, ints, high)))

-- the sum with one more weight
pub one_more : (xs : List Weighed) (b : TreeBuilder) (x : List Step) (w r : ℤ) → Holds xs b → length xs < 8388608 → neg_ℤ (pos 9223372036854775808) ≤ℤ w → w ≤ℤ pos 9223372036854775807 →
    r ≡ to_z w128 (of_z w128 b.selected) +ℤ to_z w64 (of_z w64 w) → to_z w128 (of_z w128 r) ≡ total (xs ++ record { steps = x; weight = w } ∷ [])
one_more xs b x w r h few low high e =
    let s : r ≡ total xs +ℤ w = e ∙ ap (λ z. z +ℤ to_z w64 (of_z w64 w)) (held_selected xs b h few) ∙ ap (λ z. total xs +ℤ z) (same_weight w low high) in
    ap (λ z. to_z w128 (of_z w128 z)) s ∙ to_z-of_z w128 (total xs +ℤ w) (fits_all xs w h.small (omega (arith, few)) low (omega (arith, ints, high))) ∙ sym (total-more xs _ x w refl)

pub one_more_empty : (xs : List Weighed) (b : TreeBuilder) (x : List Step) (w r : ℤ) → Holds xs b → length xs < 8388608 → neg_ℤ (pos 9223372036854775808) ≤ℤ w → w ≤ℤ pos 9223372036854775807 →
    r ≡ to_z w128 (of_z w128 b.dropped) +ℤ to_z w64 (of_z w64 w) → eqb (length x) 0 ≡ true → to_z w128 (of_z w128 r) ≡ dropped_of (xs ++ record { steps = x; weight = w } ∷ [])
one_more_empty xs b x w r h few low high e z =
    let s : r ≡ dropped_of xs +ℤ w = e ∙ ap (λ z. z +ℤ to_z w64 (of_z w64 w)) (held_dropped xs b h few) ∙ ap (λ z. dropped_of xs +ℤ z) (same_weight w low high) in
    ap (λ z. to_z w128 (of_z w128 z)) s ∙ to_z-of_z w128 (dropped_of xs +ℤ w) (fits_dropped xs w h.small (omega (arith, few)) low (omega (arith, ints, high))) ∙ sym (dropped-yes xs _ x w refl z)

pub one_more_kept : (xs : List Weighed) (b : TreeBuilder) (x : List Step) (w : ℤ) → Holds xs b → eqb (length x) 0 ≡ false → b.dropped ≡ dropped_of (xs ++ record { steps = x; weight = w } ∷ [])
one_more_kept xs b x w h z = h.dropped ∙ sym (dropped-no xs _ x w refl z)
