-- Rows with weights, and the paths that they stand for
use Rattle.std.proofs.Common.{◌≡◌, ℕ, zero, suc, ◌+◌, ◌<◌, ◌≤◌, ℤ, pos, ◌+ℤ◌, Bool, true, false, cond, List, [], ◌∷◌, ◌++◌, add-one, length, length-take-le, take, get_or, set, Option, Some, None, inl, inr, sym, ap, ◌∙◌, subst, refl, arith}
use Rattle.std.specs.Prelude.{reverse, unsigned_abs, unwrap_or}
use Rattle.std.specs.List.{filter}
use Rattle.std.proofs.lemmas.List.{append-nil, length-reverse}
use Rattle.prof_tables.specs.declared.rows.StackRow.{StackRow}
use Rattle.prof_tables.specs.declared.rows.Step.{Step}
use Rattle.prof_tables.specs.Paths.{path}
use Rattle.prof_tree.proofs.PathSteps.{length-funcs, starts-len}
use Rattle.prof_view_tree.proofs.RowByRow.{length-path_within}
use Rattle.prof_view_tree.proofs.Sampled.{path-none}
use Rattle.prof_path.specs.Shown.{funcs}
use Rattle.prof_view_tree.specs.declared.groups.Entry.{Entry}
use Rattle.prof_tree.specs.Forest.{HasPrefix}
use Rattle.prof_view_tree.specs.Groups.{AreBelow, AreEntries, Joins, bulk, bundle, rest_path}
use Rattle.prof_tree.specs.Nodes.{Weighed, total}
use Rattle.prof_view_tree.specs.Weighing.{AreAlike, back_path, held, mass, prefix_of}
use Rattle.prof_view_tree.proofs.Alike.{alike_back, alike_empty, alike_first, alike_last, alike_moved, alike_on, alike_same, alike_split, held-snoc}
use Rattle.prof_view_tree.proofs.Lifting.{take_next}
use Rattle.prof_view_tree.proofs.Masses.{mass-take, size-add}

abbrev pub no_entry : Entry
no_entry = record { row = 0; weight = pos 0 }

-- one more
pub bundle-snoc : (path_at : ℕ → List Step) (es : List Entry) (e : Entry) → bundle path_at (es ++ e ∷ []) ≡ bundle path_at es ++ record { steps = path_at e.row; weight = e.weight } ∷ []
bundle-snoc path_at [] e = refl
bundle-snoc path_at (d ∷ es) e = ap (λ xs. record { steps = path_at d.row; weight = d.weight } ∷ xs) (bundle-snoc path_at es e)

pub bulk-snoc : (es : List Entry) (e : Entry) → bulk (es ++ e ∷ []) ≡ bulk es + unsigned_abs e.weight
bulk-snoc [] e = omega arith
bulk-snoc (d ∷ es) e = omega (arith, bulk-snoc es e)

pub below-snoc : (n : ℕ) (es : List Entry) (e : Entry) → AreBelow n es → e.row < n → AreBelow n (es ++ e ∷ [])
below-snoc n [] e h k = (k, tt)
below-snoc n (d ∷ es) e h k = (h.0, below-snoc n es e h.1 k)

pub below-last : (n : ℕ) (es : List Entry) (e : Entry) → AreBelow n (es ++ e ∷ []) → e.row < n
below-last n [] e h = h.0
below-last n (d ∷ es) e h = below-last n es e h.1

pub below_at : (n : ℕ) (es : List Entry) (i : ℕ) → AreBelow n es → i < length es → (get_or es i no_entry).row < n
below_at n [] i h k = absurd (omega arith)
below_at n (e ∷ es) zero h k = h.0
below_at n (e ∷ es) (suc i) h k = below_at n es i h.1 (omega arith)

-- the first so many
pub take_one : (es : List Entry) (i : ℕ) → i < length es → take (suc i) es ≡ take i es ++ get_or es i no_entry ∷ []
take_one [] i h = absurd (omega arith)
take_one (e ∷ es) zero h = refl
take_one (e ∷ es) (suc i) h = ap (λ l. e ∷ l) (take_one es i (omega arith))

pub bulk_take : (es : List Entry) (n : ℕ) → bulk (take n es) ≤ bulk es
bulk_take [] zero = omega arith
bulk_take [] (suc n) = omega arith
bulk_take (e ∷ es) zero = omega arith
bulk_take (e ∷ es) (suc n) = omega (arith, bulk_take es n)

pub below_take : (m : ℕ) (es : List Entry) (n : ℕ) → AreBelow m es → AreBelow m (take n es)
below_take m [] zero h = tt
below_take m [] (suc n) h = tt
below_take m (e ∷ es) zero h = tt
below_take m (e ∷ es) (suc n) h = (h.0, below_take m es n h.1)

pub prefix_take : (path_at : ℕ → List Step) (es : List Entry) (n : ℕ) (p : List ℕ) → HasPrefix (bundle path_at (take n es)) p → HasPrefix (bundle path_at es) p
prefix_take path_at [] zero p h = h
prefix_take path_at [] (suc n) p h = h
prefix_take path_at (e ∷ es) zero p h = absurd h
prefix_take path_at (e ∷ es) (suc n) p h = elim h [ inl k ↦ inl k | inr k ↦ inr (prefix_take path_at es n p k) ]

-- what a test leaves of their weights
pub bundle-total : (test : Weighed → Bool) (path_at : ℕ → List Step) (es : List Entry) → unsigned_abs (total (filter test (bundle path_at es))) ≤ bulk es
bundle-total test path_at [] = omega arith
bundle-total test path_at (e ∷ es) =
    let rest = filter test (bundle path_at es) in
    let h : unsigned_abs (total rest) ≤ bulk es = bundle-total test path_at es in
    elim (test (record { steps = path_at e.row; weight = e.weight })) as (λ b. unsigned_abs (total (cond b (record { steps = path_at e.row; weight = e.weight } ∷ rest) rest)) ≤ unsigned_abs e.weight + bulk es) [
      | true ↦ omega (arith, size-add e.weight (total rest))
      | false ↦ omega arith
    ]

-- a weight that joins an entry
abbrev pub heavier : List Entry → ℕ → ℤ → List Entry
heavier es i w = set es i (record { row = (get_or es i no_entry).row; weight = (get_or es i no_entry).weight +ℤ w })

heavier_paths : (path_at : ℕ → List Step) (es : List Entry) (i : ℕ) (w : ℤ) → i < length es
    → AreAlike (bundle path_at (heavier es i w)) (bundle path_at es ++ record { steps = path_at (get_or es i no_entry).row; weight = w } ∷ [])
heavier_paths path_at [] i w h = absurd (omega arith)
heavier_paths path_at (e ∷ es) zero w h =
    let rest = bundle path_at es in
    let one : Weighed = record { steps = path_at e.row; weight = e.weight } in
    let more : Weighed = record { steps = path_at e.row; weight = w } in
    let sum : Weighed = record { steps = path_at e.row; weight = e.weight +ℤ w } in
    alike_on (sum ∷ rest) (one ∷ more ∷ rest) (one ∷ (rest ++ more ∷ [])) (alike_split (path_at e.row) e.weight w rest) (alike_first one (more ∷ rest) (rest ++ more ∷ []) (alike_moved more rest))
heavier_paths path_at (e ∷ es) (suc i) w h =
    alike_first (record { steps = path_at e.row; weight = e.weight }) (bundle path_at (heavier es i w)) (bundle path_at es ++ record { steps = path_at (get_or es i no_entry).row; weight = w } ∷ [])
    (heavier_paths path_at es i w (omega arith))

heavier_rows : (n : ℕ) (es : List Entry) (i : ℕ) (w : ℤ) → i < length es → AreBelow n es → AreBelow n (heavier es i w)
heavier_rows n [] i w h k = absurd (omega arith)
heavier_rows n (e ∷ es) zero w h k = (k.0, k.1)
heavier_rows n (e ∷ es) (suc i) w h k = (k.0, heavier_rows n es i w (omega arith) k.1)

heavier_bulk : (es : List Entry) (i : ℕ) (w : ℤ) → i < length es → bulk (heavier es i w) ≤ bulk es + unsigned_abs w
heavier_bulk [] i w h = absurd (omega arith)
heavier_bulk (e ∷ es) zero w h = omega (arith, size-add e.weight w)
heavier_bulk (e ∷ es) (suc i) w h = omega (arith, heavier_bulk es i w (omega arith))

pub weight_at-bulk : (es : List Entry) (i : ℕ) → i < length es → unsigned_abs (get_or es i no_entry).weight ≤ bulk es
weight_at-bulk [] i h = absurd (omega arith)
weight_at-bulk (e ∷ es) zero h = omega arith
weight_at-bulk (e ∷ es) (suc i) h = omega (arith, weight_at-bulk es i (omega arith))

pub joins_entry : (es : List Entry) (i row : ℕ) (w : ℤ) → i < length es → (get_or es i no_entry).row ≡ row → Joins es row w (heavier es i w)
joins_entry es i row w h e = record {
  paths = λ path_at. alike_back (bundle path_at (heavier es i w)) (bundle path_at es ++ record { steps = path_at row; weight = w } ∷ [])
      (subst (λ r. AreAlike (bundle path_at (heavier es i w)) (bundle path_at es ++ record { steps = path_at r; weight = w } ∷ [])) e (heavier_paths path_at es i w h));
  rows = λ n k below. heavier_rows n es i w h below;
  light = heavier_bulk es i w h;
}

pub joins_none : (es : List Entry) (row : ℕ) (w : ℤ) → Joins es row w (es ++ record { row = row; weight = w } ∷ [])
joins_none es row w = record {
  paths = λ path_at. subst (λ z. AreAlike z (bundle path_at (es ++ record { row = row; weight = w } ∷ []))) (bundle-snoc path_at es (record { row = row; weight = w })) (alike_same (bundle path_at (es ++ record { row = row; weight = w } ∷ [])));
  rows = λ n k below. below-snoc n es (record { row = row; weight = w }) below k;
  light = omega (arith, bulk-snoc es (record { row = row; weight = w }));
}

-- an entry whatever stands past the last
pub any_entry : (es : List Entry) (i : ℕ) (d e : Entry) → i < length es → get_or es i d ≡ get_or es i e
any_entry [] i d e h = absurd (omega arith)
any_entry (x ∷ es) zero d e h = refl
any_entry (x ∷ es) (suc i) d e h = any_entry es i d e (omega arith)

-- entries of the first rows are entries of more
pub below-more : (n m : ℕ) (es : List Entry) → n ≤ m → AreBelow n es → AreBelow m es
below-more n m [] h k = tt
below-more n m (e ∷ es) h k = ((let first = k.0 in omega (arith, h, first)), below-more n m es h k.1)

pub bulk_next : (es : List Entry) (i : ℕ) → i < length es → bulk (take (i + 1) es) ≡ bulk (take i es) + unsigned_abs (get_or es i no_entry).weight
bulk_next es i h = ap (λ n. bulk (take n es)) (add-one i) ∙ ap bulk (take_one es i h) ∙ bulk-snoc (take i es) (get_or es i no_entry)

pub bundle_next : (path_at : ℕ → List Step) (es : List Entry) (i : ℕ) → i < length es
    → bundle path_at (take (i + 1) es) ≡ bundle path_at (take i es) ++ record { steps = path_at (get_or es i no_entry).row; weight = (get_or es i no_entry).weight } ∷ []
bundle_next path_at es i h = ap (λ n. bundle path_at (take n es)) (add-one i) ∙ ap (bundle path_at) (take_one es i h) ∙ bundle-snoc path_at (take i es) (get_or es i no_entry)

-- the weights of the first rows, and one more
module _ (path_at : ℕ → List Step) (own : List (Option ℤ)) (n : ℕ) (inside : n < length own) where
  abbrev first : List Weighed
  first = held path_at 0 (take n own)

  next_is : (o : Option ℤ) → get_or own n None ≡ o → held path_at 0 (take (n + 1) own) ≡ first ++ held path_at n (o ∷ [])
  next_is o e =
      ap (held path_at 0) (ap (λ k. take k own) (add-one n) ∙ take_next own n o inside e)
      ∙ (held-snoc path_at 0 (take n own) o
      ∙ ap (λ k. first ++ held path_at k (o ∷ [])) (let k : 0 + length (take n own) ≡ n = omega (arith, length-take-le n own (omega (arith, inside))) in k))

  pub next_none : get_or own n None ≡ None → first ≡ held path_at 0 (take (n + 1) own)
  next_none e = sym (next_is None e ∙ append-nil first)

  pub next_some : (w : ℤ) → get_or own n None ≡ Some w → first ++ record { steps = path_at n; weight = w } ∷ [] ≡ held path_at 0 (take (n + 1) own)
  next_some w e = sym (next_is (Some w) e)

pub mass_next : (own : List (Option ℤ)) (n : ℕ) (o : Option ℤ) → n < length own → get_or own n None ≡ o → mass (take (n + 1) own) ≡ mass (take n own) + unsigned_abs (unwrap_or o (pos 0))
mass_next own n o h e = ap (λ k. mass (take k own)) (add-one n) ∙ mass-take own n h ∙ ap (λ o. mass (take n own) + unsigned_abs (unwrap_or o (pos 0))) e

-- the entries of a group, and their prefixes
module _ (stacks : List StackRow) (group : List Entry) (n : ℕ) (inside : n < length group) (above : List Entry) where
  abbrev entry : Entry
  entry = get_or group n no_entry

  abbrev so_far : List Weighed
  so_far = bundle (rest_path stacks) (take n group)

  -- one with a prefix
  pub alike_above : (new : List Entry) (p : ℕ) → prefix_of stacks entry.row ≡ Some p → AreAlike so_far (bundle (back_path stacks) above)
      → AreAlike (bundle (back_path stacks) above ++ record { steps = back_path stacks p; weight = entry.weight } ∷ []) (bundle (back_path stacks) new) → AreAlike (bundle (rest_path stacks) (take (n + 1) group)) (bundle (back_path stacks) new)
  alike_above new p is before joined =
      let t : Weighed = record { steps = back_path stacks p; weight = entry.weight } in
      let rest : rest_path stacks entry.row ≡ back_path stacks p = ap (λ o. reverse (path stacks o)) is in
      subst (λ z. AreAlike z (bundle (back_path stacks) new)) (sym (bundle_next (rest_path stacks) group n inside ∙ ap (λ x. so_far ++ record { steps = x; weight = entry.weight } ∷ []) rest))
      (alike_on (so_far ++ t ∷ []) (bundle (back_path stacks) above ++ t ∷ []) (bundle (back_path stacks) new) (alike_last t so_far (bundle (back_path stacks) above) before) joined)

  -- one without
  pub alike_none : prefix_of stacks entry.row ≡ None → AreAlike so_far (bundle (back_path stacks) above) → AreAlike (bundle (rest_path stacks) (take (n + 1) group)) (bundle (back_path stacks) above)
  alike_none is before =
      let t : Weighed = record { steps = []; weight = entry.weight } in
      let rest : rest_path stacks entry.row ≡ [] = ap (λ o. reverse (path stacks o)) is ∙ ap reverse (path-none stacks) in
      subst (λ z. AreAlike z (bundle (back_path stacks) above)) (sym (bundle_next (rest_path stacks) group n inside ∙ ap (λ x. so_far ++ record { steps = x; weight = entry.weight } ∷ []) rest))
      (alike_on (so_far ++ t ∷ []) so_far (bundle (back_path stacks) above)
      (alike_back so_far (so_far ++ t ∷ []) (alike_on so_far (t ∷ so_far) (so_far ++ t ∷ []) (alike_empty entry.weight so_far) (alike_moved t so_far))) before)

-- the first so many, and one more
pub entries_upto : (n : ℕ) (es : List Entry) (i : ℕ) → i < length es → AreEntries n es → AreEntries n (take i es ++ get_or es i no_entry ∷ [])
entries_upto n es i h k = record {
  rows = below-snoc n (take i es) (get_or es i no_entry) (below_take n es i k.rows) (below_at n es i k.rows h);
  light = (let next : bulk (take (suc i) es) ≡ bulk (take i es ++ get_or es i no_entry ∷ []) = ap bulk (take_one es i h) in omega (arith, next, bulk_take es (suc i), k.light));
}

pub prefix_upto : (path_at : ℕ → List Step) (es : List Entry) (i : ℕ) → i < length es → (p : List ℕ) → HasPrefix (bundle path_at (take i es ++ get_or es i no_entry ∷ [])) p → HasPrefix (bundle path_at es) p
prefix_upto path_at es i h p k = prefix_take path_at es (suc i) p (subst (λ z. HasPrefix (bundle path_at z) p) (sym (take_one es i h)) k)

pub take_next_entry : (es : List Entry) (i : ℕ) → i < length es → take (i + 1) es ≡ take i es ++ get_or es i no_entry ∷ []
take_next_entry es i h = ap (λ n. take n es) (add-one i) ∙ take_one es i h

pub take_all : (es : List Entry) (n : ℕ) → length es ≤ n → take n es ≡ es
take_all [] zero h = refl
take_all [] (suc n) h = refl
take_all (e ∷ es) zero h = absurd (omega arith)
take_all (e ∷ es) (suc n) h = ap (λ l. e ∷ l) (take_all es n (omega arith))

-- no path of a row is longer than there are rows
pub short_held : (stacks : List StackRow) (first : ℕ) (ws : List (Option ℤ)) (p : List ℕ) → HasPrefix (held (back_path stacks) first ws) p → length p ≤ length stacks
short_held stacks first [] p h = absurd h
short_held stacks first (None ∷ ws) p h = short_held stacks (suc first) ws p h
short_held stacks first (Some w ∷ ws) p h = elim h [
  | inl e ↦ (let x = path stacks (Some first) in
      let most_steps : length x ≤ length stacks = length-path_within stacks (length stacks) (Some first) in
      omega (arith, starts-len (funcs (reverse x)) p e, length-funcs (reverse x), length-reverse x, most_steps))
  | inr k ↦ short_held stacks (suc first) ws p k
]
