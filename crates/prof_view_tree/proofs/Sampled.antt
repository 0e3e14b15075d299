-- The weights of samples, with one more sample
use Rattle.std.proofs.Common.{◌≡◌, ◌≢◌, ℕ, zero, suc, ◌+◌, ◌*◌, ◌<◌, ◌≤◌, ℤ, pos, neg_ℤ, ◌+ℤ◌, ◌≤ℤ◌, FitsSigned, false, eqb, List, [], ◌∷◌, ◌++◌, length, map, take, replicate, get_or, length-set, Some, None, to_z, of_z, w64, sym, ap, ◌∙◌, subst, refl, arith}
use Rattle.std.specs.Prelude.{unsigned_abs, slice_get}
use Rattle.std.specs.Int.{w128}
use Rattle.std.specs.Option.{option_map_or}
use Rattle.std.proofs.lemmas.Int.{ints, to_z-of_z}
use Rattle.std.proofs.lemmas.Option.{slice_get-get_or, slice_get_within}
use Rattle.std.proofs.lemmas.Bool.Decides.{nat_tests}
use Rattle.std.proofs.lemmas.List.{map-append, take_more, length-replicate}
use Rattle.prof_tables.specs.declared.rows.StackRow.{StackRow}
use Rattle.prof_tables.specs.declared.rows.SampleRow.{SampleRow}
use Rattle.prof_tables.specs.Threads.{ThreadTables}
use Rattle.prof_tables.specs.declared.rows.Step.{Step}
use Rattle.prof_tables.specs.Paths.{path, path_within, step_of}
use Rattle.prof_view_tree.specs.declared.weighing.SampleWeights.{SampleWeights}
use Rattle.prof_tree.specs.Nodes.{Weighed, reversed, total}
use Rattle.prof_view_tree.specs.Weighing.{AreAlike, Weighs, back_path, held, mass, no_row, own_path, row_path, weight_at, with_more}
use Rattle.prof_view_tree.proofs.Alike.{alike_same, alike_on, alike_moved, alike_empty, alike_last, held_more}
use Rattle.prof_view_tree.proofs.Masses.{most, size-add, fits_within, size_small, mass-more}
use Rattle.prof_tree.proofs.PathSteps.{total-snoc}
use Rattle.prof_tree.proofs.Walking.{length-snoc}
use Rattle.prof_tree.proofs.Whole.{dropped-yes, dropped-no}

pub path-none : (stacks : List StackRow) → path stacks None ≡ []
path-none stacks = by (length stacks)
  where
    by : (n : ℕ) → path_within stacks n None ≡ []
    by zero = refl
    by (suc n) = refl

pub path-some : (stacks : List StackRow) (row : ℕ) → row < length stacks → eqb (length (path stacks (Some row))) 0 ≡ false
path-some stacks row h = by (length stacks) h
  where
    long : (x : List Step) (s : Step) → eqb (length (x ++ s ∷ [])) 0 ≡ false
    long x s = let n : length (x ++ s ∷ []) ≢ 0 = λ e. absurd (omega (arith, e, length-snoc x s)) in grind (arith, nat_tests)

    by : (n : ℕ) → row < n → eqb (length (path_within stacks n (Some row))) 0 ≡ false
    by zero k = absurd (omega arith)
    by (suc n) k =
        ap (λ o. eqb (length (option_map_or (λ (r : StackRow). path_within stacks n r.prefix ++ step_of r ∷ []) o [])) 0) (slice_get-get_or stacks row no_row h)
        ∙ long (path_within stacks n (get_or stacks row no_row).prefix) (step_of (get_or stacks row no_row))

-- a weight of 64 bits is the same as its bits
pub same64 : (w : ℤ) → neg_ℤ (pos 9223372036854775808) ≤ℤ w → w ≤ℤ pos 9223372036854775807 → to_z w64 (of_z w64 w) ≡ w
same64 w low high = to_z-of_z w64 w (omega (arith, ints))

pub same128 : (z : ℤ) → unsigned_abs z ≤ most → to_z w128 (of_z w128 z) ≡ z
same128 z h = to_z-of_z w128 z (fits_within z most h (omega arith))

-- a sum of weights of fewer than 2^23 samples, and one more
module _ (z w : ℤ) (n : ℕ) (few : n < 8388608) (small : unsigned_abs z ≤ n * 9223372036854775808) (low : neg_ℤ (pos 9223372036854775808) ≤ℤ w) (high : w ≤ℤ pos 9223372036854775807) where
  size_w : unsigned_abs w ≤ 9223372036854775808
  size_w = size_small w low (omega (arith, ints))

  pub held_sum : unsigned_abs z ≤ most
  held_sum = omega arith

  pub sum_size : unsigned_abs (z +ℤ w) ≤ (n + 1) * 9223372036854775808
  sum_size = omega (arith, size-add z w, size_w)

  pub sum_within : unsigned_abs (z +ℤ w) ≤ most
  sum_within = omega (arith, sum_size)

  pub sum_fits64 : FitsSigned w128 (to_z w128 (of_z w128 z) +ℤ to_z w64 (of_z w64 w))
  sum_fits64 = rw (same128 z held_sum, same64 w low high) (fits_within (z +ℤ w) most sum_within (omega arith))

  pub sum_is : (r : ℤ) → r ≡ to_z w128 (of_z w128 z) +ℤ to_z w64 (of_z w64 w) → to_z w128 (of_z w128 r) ≡ z +ℤ w
  sum_is r e =
      let k : r ≡ z +ℤ w = e ∙ ap (λ y. y +ℤ to_z w64 (of_z w64 w)) (same128 z held_sum) ∙ ap (λ y. z +ℤ y) (same64 w low high) in
      ap (λ y. to_z w128 (of_z w128 y)) k ∙ same128 (z +ℤ w) sum_within

reversed_more : (xs : List Weighed) (x : Weighed) → map reversed (xs ++ x ∷ []) ≡ map reversed xs ++ reversed x ∷ []
reversed_more xs x = map-append reversed xs (x ∷ [])

-- one more sample
module _ (stacks : List StackRow) (xs : List Weighed) (w : ℤ) (s t : SampleWeights) (k : Weighs stacks xs s) (few : length xs < 8388608) (low : neg_ℤ (pos 9223372036854775808) ≤ℤ w) (high : w ≤ℤ pos 9223372036854775807) (selected : t.selected ≡ s.selected +ℤ w) where
  total_more : (x : List Step) → t.selected ≡ total (xs ++ record { steps = x; weight = w } ∷ [])
  total_more x = selected ∙ ap (λ z. z +ℤ w) k.selected ∙ sym (total-snoc xs (record { steps = x; weight = w }))

  light_more : (x : List Step) (z v : ℤ) → unsigned_abs z ≤ length xs * 9223372036854775808 → v ≡ z +ℤ w → unsigned_abs v ≤ length (xs ++ record { steps = x; weight = w } ∷ []) * 9223372036854775808
  light_more x z v h e = omega (arith, ap unsigned_abs e, sum_size z w (length xs) few h low high, length-snoc xs (record { steps = x; weight = w }))

  pub without_row : t.by_row.items ≡ s.by_row.items → t.dropped ≡ s.dropped +ℤ w → Weighs stacks (xs ++ record { steps = path stacks None; weight = w } ∷ []) t
  without_row rows dropped =
      let empty : Weighed = record { steps = []; weight = w } in
      let held_rows = held (row_path stacks) 0 s.by_row.items in
      subst (λ x. Weighs stacks (xs ++ record { steps = x; weight = w } ∷ []) t) (sym (path-none stacks)) (record {
        len = ap length rows ∙ k.len;
        alike = subst (λ l. AreAlike (held (row_path stacks) 0 l) (xs ++ empty ∷ [])) (sym rows)
            (alike_on held_rows xs (xs ++ empty ∷ []) k.alike (alike_on xs (empty ∷ xs) (xs ++ empty ∷ []) (alike_empty w xs) (alike_moved empty xs)));
        backward = subst (λ l. AreAlike (held (back_path stacks) 0 l) (map reversed (xs ++ empty ∷ []))) (sym rows)
            (subst (AreAlike (held (back_path stacks) 0 s.by_row.items)) (sym (reversed_more xs empty))
            (alike_on (held (back_path stacks) 0 s.by_row.items) (map reversed xs) (map reversed xs ++ empty ∷ []) k.backward
            (alike_on (map reversed xs) (empty ∷ map reversed xs) (map reversed xs ++ empty ∷ []) (alike_empty w (map reversed xs)) (alike_moved empty (map reversed xs)))));
        selected = total_more [];
        dropped = dropped ∙ ap (λ z. z +ℤ w) k.dropped ∙ sym (dropped-yes xs _ [] w refl refl);
        light = omega (arith, ap mass rows, k.light, length-snoc xs empty);
        light_selected = light_more [] s.selected t.selected k.light_selected selected;
        light_dropped = light_more [] s.dropped t.dropped k.light_dropped dropped;
      })

  pub with_row : (row : ℕ) → row < length s.by_row.items → t.by_row.items ≡ with_more s.by_row.items row w → t.dropped ≡ s.dropped → Weighs stacks (xs ++ record { steps = path stacks (Some row); weight = w } ∷ []) t
  with_row row inside rows dropped =
      let x = row_path stacks row in
      let one : Weighed = record { steps = x; weight = w } in
      let ws = s.by_row.items in
      record {
        len = ap length rows ∙ length-set ws row (Some (weight_at ws row +ℤ w)) ∙ k.len;
        alike = subst (λ l. AreAlike (held (row_path stacks) 0 l) (xs ++ one ∷ [])) (sym rows)
            (alike_on (held (row_path stacks) 0 (with_more ws row w)) (held (row_path stacks) 0 ws ++ one ∷ []) (xs ++ one ∷ [])
            (held_more (row_path stacks) 0 ws row row w inside (omega arith)) (alike_last one (held (row_path stacks) 0 ws) xs k.alike));
        backward = subst (λ l. AreAlike (held (back_path stacks) 0 l) (map reversed (xs ++ one ∷ []))) (sym rows)
            (subst (AreAlike (held (back_path stacks) 0 (with_more ws row w))) (sym (reversed_more xs one))
            (alike_on (held (back_path stacks) 0 (with_more ws row w)) (held (back_path stacks) 0 ws ++ reversed one ∷ []) (map reversed xs ++ reversed one ∷ [])
            (held_more (back_path stacks) 0 ws row row w inside (omega arith)) (alike_last (reversed one) (held (back_path stacks) 0 ws) (map reversed xs) k.backward)));
        selected = total_more x;
        dropped = dropped ∙ k.dropped ∙ sym (dropped-no xs _ x w refl (path-some stacks row (subst (λ n. row < n) k.len inside)));
        light = omega (arith, ap mass rows, mass-more ws row w inside, size_small w low (omega (arith, ints)), k.light, length-snoc xs one);
        light_selected = light_more x s.selected t.selected k.light_selected selected;
        light_dropped = omega (arith, ap unsigned_abs dropped, k.light_dropped, length-snoc xs one);
      }

-- no sample
module _ (stacks : List StackRow) where
  held-none : (path_at : ℕ → List Step) (first n : ℕ) → held path_at first (replicate n None) ≡ []
  held-none path_at first zero = refl
  held-none path_at first (suc n) = held-none path_at (suc first) n

  mass-none : (n : ℕ) → mass (replicate n None) ≡ 0
  mass-none zero = refl
  mass-none (suc n) = mass-none n

  pub weighs_none : (s : SampleWeights) → s.by_row.items ≡ replicate (length stacks) None → s.selected ≡ pos 0 → s.dropped ≡ pos 0 → Weighs stacks [] s
  weighs_none s rows selected dropped = record {
    len = ap length rows ∙ length-replicate (length stacks) None;
    alike = subst (λ l. AreAlike l []) (sym (ap (held (row_path stacks) 0) rows ∙ held-none (row_path stacks) 0 (length stacks))) (alike_same []);
    backward = subst (λ l. AreAlike l []) (sym (ap (held (back_path stacks) 0) rows ∙ held-none (back_path stacks) 0 (length stacks))) (alike_same []);
    selected = selected;
    dropped = dropped;
    light = omega (arith, ap mass rows, mass-none (length stacks));
    light_selected = omega (arith, ap unsigned_abs selected);
    light_dropped = omega (arith, ap unsigned_abs dropped);
  }

-- the samples of a thread, with one more, and all of them
pub own_more : (t : ThreadTables) (n : ℕ) (s : SampleRow) → slice_get t.samples n ≡ Some s
    → map (own_path t) (take n t.samples) ++ record { steps = path t.shared.stacks s.stack; weight = s.weight } ∷ [] ≡ map (own_path t) (take (n + 1) t.samples)
own_more t n s here =
    sym (map-append (own_path t) (take n t.samples) (s ∷ []))
    ∙ ap (λ y. map (own_path t) (take n t.samples ++ y ∷ [])) (sym (found_at t.samples n s here))
    ∙ ap (map (own_path t)) (sym (take_more t.samples n s (slice_get_within t.samples n s here)))
  where
    found_at : (ss : List SampleRow) (i : ℕ) (x : SampleRow) → slice_get ss i ≡ Some x → get_or ss i x ≡ x
    found_at ss i x is = (let e : Some (get_or ss i x) ≡ Some x = sym (slice_get-get_or ss i x (slice_get_within ss i x is)) ∙ is in cc)
