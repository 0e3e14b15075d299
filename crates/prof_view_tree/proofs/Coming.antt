-- The nodes of reversed paths, as they come below one another
use Rattle.std.proofs.Common.{◌≡◌, ◌≢◌, ℕ, zero, suc, ◌+◌, ◌-◌, ◌<◌, ◌≤◌, ℤ, pos, ◌+ℤ◌, FitsSigned, Bool, true, false, cond, ◌&&◌, eqb, List, [], ◌∷◌, ◌++◌, length, map, get_or, set, get_or-set_same, get_or-set_other, length-set, Option, Some, None, MatchOption, Vec, ◌⊎◌, inl, inr, sym, ap, ◌∙◌, subst, refl, append_assoc, arith}
use Rattle.std.specs.Prelude.{unsigned_abs, reverse}
use Rattle.std.specs.Int.{w128}
use Rattle.std.specs.declared.alloc.Global.{Global}
use Rattle.std.proofs.lemmas.List.{append-nil, reverse-append}
use Rattle.std.proofs.lemmas.Option.{slice_get-get_or}
use Rattle.std.proofs.lemmas.Bool.{cases_lt, false≢true}
use Rattle.prof_tables.specs.declared.rows.StackRow.{StackRow}
use Rattle.prof_tables.specs.declared.rows.Step.{Step}
use Rattle.prof_tables.specs.Paths.{PrefixesBelow, path, step_of}
use Rattle.prof_tables.proofs.PathLemmas.{path-row}
use Rattle.prof_tree.specs.declared.branch.Branch.{Branch}
use Rattle.prof_view_tree.specs.declared.groups.Entry.{Entry}
use Rattle.prof_view_tree.specs.Climbing.{AreAbove, AreClimbed, AreComing, AreTooMany, HasAllBelow, IsAmong, IsGroup, IsSumAt, after, behind}
use Rattle.prof_tree.specs.Forest.{HasPrefix, branch, key, key_above, no_branch}
use Rattle.prof_view_tree.specs.Groups.{AreBelow, AreEntries, bulk, bundle, group_at, rest_path}
use Rattle.prof_tree.specs.Growing.{Adds, IsChild, IsTable, merged, pair_eq, stepped}
use Rattle.prof_tree.specs.Nodes.{Weighed, categories_at, common, node_limit, total, total_at}
use Rattle.prof_view_tree.specs.Weighing.{AreAlike, back_path, no_row}
use Rattle.prof_view_tree.proofs.Alike.{alike_last, alike_on, alike_same, common_alike}
use Rattle.prof_view_tree.proofs.Behind.{after-append, after-none, alike-after, behind-snoc, categories-behind, prefix-behind, prefix-behind-back, total_at-behind}
use Rattle.prof_tree.proofs.Counting.{nodes_within}
use Rattle.prof_view_tree.proofs.Entries.{below-snoc, bulk-snoc, bundle-snoc, bundle-total}
use Rattle.prof_view_tree.proofs.Masses.{fits_sum, most}
use Rattle.prof_tree.proofs.NodeOrder.{HasPrefix-shorter}
use Rattle.prof_tree.proofs.PathSteps.{HasPrefix-cases, HasPrefix-last, HasPrefix-left, categories-no, categories-yes, category_in, common-snoc, no_step, none_through, number_same, same_number, some_through, starts, total_at-no, total_at-yes}
use Rattle.prof_tree.proofs.Turns.{IsTable-alike, IsTable-set, at_set, key-long}
use Rattle.prof_tree.proofs.Walking.{IsTable-more, at_last, at_left, in_or_last, key_left, length-snoc}

-- a row's path is its step, and then the rest
pub back_is : (stacks : List StackRow) (row : ℕ) → PrefixesBelow stacks → row < length stacks → back_path stacks row ≡ step_of (get_or stacks row no_row) ∷ rest_path stacks row
back_is stacks row below h =
    let stack = get_or stacks row no_row in
    ap reverse (path-row stacks row stack below (slice_get-get_or stacks row no_row h)) ∙ reverse-append (path stacks stack.prefix) (step_of stack ∷ [])

one-not-nil : (f : ℕ) → (f ∷ []) ≢ []
one-not-nil f e = cc

-- the sums at the first functions of paths, of which there is one more
module _ (xs : List Weighed) (s : Step) (x : List Step) (w : ℤ) where
  abbrev pub next : Weighed
  next = record { steps = s ∷ x; weight = w }

  starts-yes : (g : ℕ) → eqb g s.func ≡ true → starts next (g ∷ []) ≡ true
  starts-yes g k = ap (λ b. b && true) k

  starts-no : (g : ℕ) → eqb g s.func ≡ false → starts next (g ∷ []) ≡ false
  starts-no g k = ap (λ b. b && true) k

  here : starts next (s.func ∷ []) ≡ true
  here = starts-yes s.func (number_same s.func s.func refl)

  category_here : category_in next (s.func ∷ []) ≡ s.category
  category_here = let e : length (s.func ∷ []) - 1 ≡ 0 = omega arith in ap (λ n. (get_or (s ∷ x) n no_step).category) e

  sum-other : (g : ℕ) (b : Branch) → eqb g s.func ≡ false → IsSumAt xs (g ∷ []) b → IsSumAt (xs ++ next ∷ []) (g ∷ []) b
  sum-other g b k h = record {
    total = h.total ∙ sym (total_at-no xs next (g ∷ []) (starts-no g k));
    category = h.category ∙ ap common (sym (categories-no xs next (g ∷ []) (starts-no g k)));
    in_paths = HasPrefix-left xs next (g ∷ []) h.in_paths;
  }

  sum-same : (b : Branch) → IsSumAt xs (s.func ∷ []) b → IsSumAt (xs ++ next ∷ []) (s.func ∷ []) (stepped b s w)
  sum-same b h =
      let some = some_through xs (s.func ∷ []) h.in_paths in
      record {
        total = ap (λ z. z +ℤ w) h.total ∙ sym (total_at-yes xs next (s.func ∷ []) here);
        category = ap (λ o. merged o s.category) (h.category ∙ ap common some.2) ∙ sym (common-snoc some.0 some.1 s.category)
            ∙ ap (λ cs. common (cs ++ s.category ∷ [])) (sym some.2) ∙ ap (λ c. common (categories_at xs (s.func ∷ []) ++ c ∷ [])) (sym category_here)
            ∙ ap common (sym (categories-yes xs next (s.func ∷ []) here));
        in_paths = HasPrefix-last xs next (s.func ∷ []) here;
      }

  sum-new : (b : Branch) → (HasPrefix xs (s.func ∷ []) → ⊥) → b.total ≡ pos 0 → b.category ≡ Some s.category → IsSumAt (xs ++ next ∷ []) (s.func ∷ []) (stepped b s w)
  sum-new b none t c = record {
    total = ap (λ z. z +ℤ w) (t ∙ sym (ap total (none_through xs (s.func ∷ []) none))) ∙ sym (total_at-yes xs next (s.func ∷ []) here);
    category = ap (λ o. merged o s.category) c ∙ ap (λ e. cond e (Some s.category) None) (number_same s.category s.category refl)
        ∙ ap (λ (v : ℕ). common (v ∷ [])) (sym category_here)
        ∙ ap (λ (ys : List Weighed). common (map (λ y. category_in y (s.func ∷ [])) ys ++ category_in next (s.func ∷ []) ∷ [])) (sym (none_through xs (s.func ∷ []) none))
        ∙ ap common (sym (categories-yes xs next (s.func ∷ []) here));
    in_paths = HasPrefix-last xs next (s.func ∷ []) here;
  }

  after-same : after s.func (xs ++ next ∷ []) ≡ after s.func xs ++ record { steps = x; weight = w } ∷ []
  after-same =
      after-append s.func xs (next ∷ [])
      ∙ ap (λ b. after s.func xs ++ cond b (record { steps = x; weight = w } ∷ []) []) (number_same s.func s.func refl)

  after-other : (g : ℕ) → eqb g s.func ≡ false → after g (xs ++ next ∷ []) ≡ after g xs
  after-other g k =
      after-append g xs (next ∷ []) ∙ ap (λ b. after g xs ++ cond b (record { steps = x; weight = w } ∷ []) []) k ∙ append-nil (after g xs)

-- a node past the last has no group
pub no_group : (groups : List (Vec Entry Global)) (n : ℕ) → length groups ≤ n → group_at groups n ≡ []
no_group [] n h = refl
no_group (g ∷ groups) zero h = absurd (omega arith)
no_group (g ∷ groups) (suc n) h = no_group groups n (omega arith)

-- the nodes below `o` while one more entry comes
module _ (stacks : List StackRow) (zs : List Weighed) (n : ℕ) (o : Option ℕ) (m : ℕ) (es : List Entry) (e : Entry) (ks : List (List ℕ)) (rows : List Branch) (look : Option ℕ × ℕ → Option ℕ) (groups : List (Vec Entry Global))
    (a : AreComing stacks zs n o m es ks rows look groups) (s : Step) where
  abbrev ys : List Weighed
  ys = bundle (back_path stacks) es

  abbrev more : List Weighed
  more = ys ++ next ys s (rest_path stacks e.row) e.weight ∷ []

  -- its node stands, or is added, and has not yet taken its weight
  pub record AtNode (ks' : List (List ℕ)) (rows' : List Branch) (look' : Option ℕ × ℕ → Option ℕ) (r : ℕ) : Type 0 where
    pub table : IsTable ks' rows' look'
    pub new : m ≤ r
    pub inside : r < length rows'
    pub within : r ≤ length rows
    pub count : length rows' ≡ cond (eqb r (length rows)) (r + 1) (length rows)
    pub parent : (branch rows' r).parent ≡ o
    pub func : (branch rows' r).func ≡ s.func
    pub old : (q : ℕ) → q < length rows → (branch rows' q ≡ branch rows q) × (key ks' q ≡ key ks q)
    pub total : (branch rows' r).total ≡ total_at ys (s.func ∷ [])
    pub sum : IsSumAt more (s.func ∷ []) (stepped (branch rows' r) s e.weight)
    pub standing : AreBelow (length stacks) (group_at groups r)
    pub light : bulk (group_at groups r) ≤ bulk es
    pub paths : AreAlike (after s.func ys) (bundle (rest_path stacks) (group_at groups r))

  -- a row of the same parent and function is that row
  only : (ks' : List (List ℕ)) (rows' : List Branch) (look' : Option ℕ × ℕ → Option ℕ) → IsTable ks' rows' look' → (q r : ℕ) → q < length rows' → r < length rows' → (branch rows' q).parent ≡ (branch rows' r).parent → (branch rows' q).func ≡ (branch rows' r).func → q ≡ r
  only ks' rows' look' t q r h k p f =
      t.apart q r h k (t.keys q h ∙ ap (λ z. key_above ks' z ++ (branch rows' q).func ∷ []) p ∙ ap (λ z. key_above ks' (branch rows' r).parent ++ z ∷ []) f ∙ sym (t.keys r k))

  parent_in : (p : ℕ) → o ≡ Some p → p < length rows
  parent_in p k = let h = a.among p k in omega (arith, h, a.done, a.from)

  module _ (depth : ℕ) (deep : depth ≡ length (key_above ks o)) where
    abbrev fresh : Branch
    fresh = record { parent = o; depth = depth; func = s.func; total = pos 0; own = pos 0; category = Some s.category }

    -- a child that stands
    stood : (look' : Option ℕ × ℕ → Option ℕ) (found : ℕ) → look (o, s.func) ≡ Some found → ((q : Option ℕ × ℕ) → look' q ≡ look q) → AtNode ks rows look' found
    stood look' found at asked =
        let w = a.table.finds o s.func found at in
        let new : m ≤ found = elim (cases_lt found m) [ inl lt ↦ absurd (a.apart found lt w.1) | inr le ↦ le ] in
        let sum : IsSumAt ys (s.func ∷ []) (branch rows found) = subst (λ f. IsSumAt ys (f ∷ []) (branch rows found)) w.2 (a.new_sums found new w.0) in
        record {
          table = IsTable-alike ks rows rows look look' refl (λ q _. (refl, refl, refl)) asked a.table;
          new = new;
          inside = w.0;
          within = omega (arith, w.0);
          count = elim (eqb found (length rows)) as (λ b. eqb found (length rows) ≡ b → length rows ≡ cond b (found + 1) (length rows)) [ true ↦ λ k. (let same = same_number found (length rows) k in absurd (omega (arith, w.0, same))) | false ↦ λ k. refl ] refl;
          parent = w.1;
          func = w.2;
          old = λ q h. (refl, refl);
          total = sum.total;
          sum = sum-same ys s (rest_path stacks e.row) e.weight (branch rows found) sum;
          standing = a.new_rows found new w.0;
          light = a.new_light found new w.0;
          paths = subst (λ f. AreAlike (after f ys) (bundle (rest_path stacks) (group_at groups found))) w.2 (a.new_paths found new w.0);
        }

    -- one that is added
    added : (look' : Option ℕ × ℕ → Option ℕ) → look (o, s.func) ≡ None → ((q : Option ℕ × ℕ) → look' q ≡ cond (pair_eq (o, s.func) q) (Some (length rows)) (look q))
        → AtNode (ks ++ (key_above ks o ++ s.func ∷ []) ∷ []) (rows ++ fresh ∷ []) look' (length rows)
    added look' absent asked = record {
      table = IsTable-more ks rows look look' o s.func fresh a.table parent_in absent refl refl deep asked;
      new = a.from;
      inside = omega (arith, length-snoc rows fresh);
      within = omega arith;
      count = length-snoc rows fresh ∙ ap (λ b. cond b (length rows + 1) (length rows)) (sym (number_same (length rows) (length rows) refl));
      parent = ap (λ (b : Branch). b.parent) (at_last rows fresh);
      func = ap (λ (b : Branch). b.func) (at_last rows fresh);
      old = λ q h. (at_left rows fresh q h, key_left ks (key_above ks o ++ s.func ∷ []) q (subst (λ n. q < n) (sym a.table.len) h));
      total = ap (λ (b : Branch). b.total) (at_last rows fresh) ∙ sym (ap total (none_through ys (s.func ∷ []) none));
      sum = subst (λ b. IsSumAt more (s.func ∷ []) (stepped b s e.weight)) (sym (at_last rows fresh)) (sum-new ys s (rest_path stacks e.row) e.weight fresh none refl refl);
      standing = subst (AreBelow (length stacks)) (sym empty) tt;
      light = subst (λ g. bulk g ≤ bulk es) (sym empty) (omega arith);
      paths = subst (λ g. AreAlike (after s.func ys) (bundle (rest_path stacks) g)) (sym empty) (subst (λ z. AreAlike z []) (sym (after-none s.func ys none)) (alike_same []));
    }
      where
        none : HasPrefix ys (s.func ∷ []) → ⊥
        none h =
            let w = a.found s.func h in
            let at : look (o, s.func) ≡ Some w.0 = ap (λ z. look (z, s.func)) (sym (a.below w.0 w.1 w.2)) ∙ ap (λ f. look ((branch rows w.0).parent, f)) (sym w.3) ∙ a.table.has w.0 w.2 in
            let no : None ≡ Some w.0 = sym absent ∙ at in
            cc

        empty : group_at groups (length rows) ≡ []
        empty = no_group groups (length rows) (omega (arith, a.len))

    pub at_node : (rows' : List Branch) (look' : Option ℕ × ℕ → Option ℕ) (r : ℕ) → IsChild rows look rows' look' o depth s r → (ks' : List (List ℕ)) × AtNode ks' rows' look' r
    at_node rows' look' r child = go (look (o, s.func)) refl child
      where
        go : (found : Option ℕ) → look (o, s.func) ≡ found
            → MatchOption found ((r ≡ length rows) × (rows' ≡ rows ++ fresh ∷ []) × ((q : Option ℕ × ℕ) → look' q ≡ cond (pair_eq (o, s.func) q) (Some r) (look q)))
            (λ found. (r ≡ found) × (rows' ≡ rows) × ((q : Option ℕ × ℕ) → look' q ≡ look q))
            → (ks' : List (List ℕ)) × AtNode ks' rows' look' r
        go (Some found) k h = (ks, subst (λ r. AtNode ks rows' look' r) (sym h.0) (subst (λ rows'. AtNode ks rows' look' found) (sym h.1) (stood look' found k h.2)))
        go None k h =
            let asked : (q : Option ℕ × ℕ) → look' q ≡ cond (pair_eq (o, s.func) q) (Some (length rows)) (look q) = λ q. h.2 q ∙ ap (λ r. cond (pair_eq (o, s.func) q) (Some r) (look q)) h.0 in
            let ks' = ks ++ (key_above ks o ++ s.func ∷ []) ∷ [] in
            (ks', subst (λ r. AtNode ks' rows' look' r) (sym h.0) (subst (λ rows'. AtNode ks' rows' look' (length rows)) (sym h.1) (added look' k asked)))

  -- its weight fits
  pub fits_node : (ks' : List (List ℕ)) (rows' : List Branch) (look' : Option ℕ × ℕ → Option ℕ) (r : ℕ) → AtNode ks' rows' look' r → bulk (es ++ e ∷ []) ≤ most → FitsSigned w128 ((branch rows' r).total +ℤ e.weight)
  fits_node ks' rows' look' r t light =
      let size : unsigned_abs (total_at ys (s.func ∷ [])) ≤ bulk es = bundle-total (λ y. starts y (s.func ∷ [])) (back_path stacks) es in
      subst (λ z. FitsSigned w128 (z +ℤ e.weight)) (sym t.total) (fits_sum (total_at ys (s.func ∷ [])) e.weight (bulk (es ++ e ∷ [])) (omega (arith, size, bulk-snoc es e)) light)

  -- and its node has it
  module _ (below : PrefixesBelow stacks) (in_stacks : e.row < length stacks) (is_step : s ≡ step_of (get_or stacks e.row no_row)) (ks' : List (List ℕ)) (rows' : List Branch) (look' : Option ℕ × ℕ → Option ℕ) (r : ℕ) (t : AtNode ks' rows' look' r)
      (groups' : List (Vec Entry Global)) (same_len : length groups' ≡ cond (eqb r (length groups)) (r + 1) (length groups)) (here' : group_at groups' r ≡ group_at groups r ++ e ∷ []) (others : (q : ℕ) → q ≢ r → group_at groups' q ≡ group_at groups q) where
    abbrev b : Branch
    b = stepped (branch rows' r) s e.weight

    abbrev rows2 : List Branch
    rows2 = set rows' r b

    all_is : bundle (back_path stacks) (es ++ e ∷ []) ≡ more
    all_is =
        bundle-snoc (back_path stacks) es e
        ∙ ap (λ x. ys ++ record { steps = x; weight = e.weight } ∷ []) (back_is stacks e.row below in_stacks ∙ ap (λ z. z ∷ rest_path stacks e.row) (sym is_step))

    len2 : length rows2 ≡ length rows'
    len2 = length-set rows' r b

    inside' : (q : ℕ) → q < length rows2 → q < length rows'
    inside' q h = subst (λ n. q < n) len2 h

    grows : length rows ≤ length rows'
    grows = elim (eqb r (length rows)) as (λ c. eqb r (length rows) ≡ c → length rows' ≡ cond c (r + 1) (length rows) → length rows ≤ length rows') [
      | true ↦ λ k h. (let same = same_number r (length rows) k in omega (arith, h, same))
      | false ↦ λ k h. omega (arith, h)
    ] refl t.count

    -- a row that isn't its node stood before
    stood_before : (q : ℕ) → q < length rows' → q ≢ r → q < length rows
    stood_before q h d = elim (eqb r (length rows)) as (λ c. eqb r (length rows) ≡ c → length rows' ≡ cond c (r + 1) (length rows) → q < length rows) [
      | true ↦ λ k n. (let same = same_number r (length rows) k in elim (in_or_last q (length rows) (omega (arith, h, n, same))) [ inl l ↦ l | inr l ↦ absurd (d (l ∙ sym same)) ])
      | false ↦ λ k n. omega (arith, h, n)
    ] refl t.count

    at_same : branch rows2 r ≡ b
    at_same = get_or-set_same rows' r b no_branch t.inside

    at_other : (q : ℕ) → q ≢ r → branch rows2 q ≡ branch rows' q
    at_other q d = get_or-set_other rows' r q b no_branch d

    at_old : (q : ℕ) → q < length rows → q ≢ r → branch rows2 q ≡ branch rows q
    at_old q h d = at_other q d ∙ (t.old q h).0

    not_node : (q : ℕ) → q < m → q ≢ r
    not_node q h same = absurd (omega (arith, h, t.new, same))

    in_rows : (q : ℕ) → q < m → q < length rows
    in_rows q h = omega (arith, h, a.from)

    at_first : (q : ℕ) → q < m → branch rows2 q ≡ branch rows q
    at_first q h = at_old q (in_rows q h) (not_node q h)

    key_first : (q : ℕ) → q < m → key ks' q ≡ key ks q
    key_first q h = (t.old q (in_rows q h)).1

    above_same : (o' : Option ℕ) → IsAmong n o' → key_above ks' o' ≡ key_above ks o'
    above_same None h = refl
    above_same (Some p) h = let k = h p refl in key_first p (omega (arith, k, a.done))

    table2 : IsTable ks' rows2 look'
    table2 = IsTable-set ks' rows' look' r b t.inside refl refl refl t.table

    parent2 : (branch rows2 r).parent ≡ o
    parent2 = ap (λ (b : Branch). b.parent) at_same ∙ t.parent

    func2 : (branch rows2 r).func ≡ s.func
    func2 = ap (λ (b : Branch). b.func) at_same ∙ t.func

    split : (P : ℕ → Type 0) → P r → ((q : ℕ) → m ≤ q → q < length rows → q ≢ r → P q) → (q : ℕ) → m ≤ q → q < length rows2 → P q
    split P at_r elsewhere q le h = elim (eqb q r) as (λ c. eqb q r ≡ c → P q) [
      | true ↦ λ k. subst P (sym (same_number q r k)) at_r
      | false ↦ λ k. (let d : q ≢ r = λ same. false≢true (sym k ∙ number_same q r same) in elsewhere q le (stood_before q (inside' q h) d) d)
    ] refl

    below2 : (q : ℕ) → m ≤ q → q < length rows2 → (branch rows2 q).parent ≡ o
    below2 = split (λ q. (branch rows2 q).parent ≡ o) parent2 (λ q le h d. ap (λ (b : Branch). b.parent) (at_old q h d) ∙ a.below q le h)

    -- another row has another function
    differs : (q : ℕ) → m ≤ q → q < length rows → q ≢ r → eqb (branch rows q).func s.func ≡ false
    differs q le h d = elim (eqb (branch rows q).func s.func) as (λ c. eqb (branch rows q).func s.func ≡ c → c ≡ false) [
      | true ↦ λ k. (let h2 : q < length rows' = omega (arith, h, grows) in
          let p : (branch rows' q).parent ≡ (branch rows' r).parent = ap (λ (b : Branch). b.parent) (t.old q h).0 ∙ a.below q le h ∙ sym t.parent in
          let f : (branch rows' q).func ≡ (branch rows' r).func = ap (λ (b : Branch). b.func) (t.old q h).0 ∙ same_number (branch rows q).func s.func k ∙ sym t.func in
          absurd (d (only ks' rows' look' t.table q r h2 t.inside p f)))
      | false ↦ λ k. refl
    ] refl

    sums2 : (q : ℕ) → m ≤ q → q < length rows2 → IsSumAt more ((branch rows2 q).func ∷ []) (branch rows2 q)
    sums2 = split (λ q. IsSumAt more ((branch rows2 q).func ∷ []) (branch rows2 q))
        (subst (λ (c : Branch). IsSumAt more (c.func ∷ []) c) (sym at_same) (subst (λ f. IsSumAt more (f ∷ []) b) (sym t.func) t.sum))
        (λ q le h d. subst (λ (c : Branch). IsSumAt more (c.func ∷ []) c) (sym (at_old q h d)) (sum-other ys s (rest_path stacks e.row) e.weight (branch rows q).func (branch rows q) (differs q le h d) (a.new_sums q le h)))

    found2 : (g : ℕ) → HasPrefix more (g ∷ []) → (q : ℕ) × (m ≤ q) × (q < length rows2) × ((branch rows2 q).func ≡ g)
    found2 g h = elim (HasPrefix-cases ys (next ys s (rest_path stacks e.row) e.weight) (g ∷ []) h) [
      | inl k ↦ (let w = a.found g k in (
        w.0,
        w.1,
        subst (λ n. w.0 < n) (sym len2) (omega (arith, w.2, grows)),
        at_set (λ (b : Branch). b.func) rows' r b t.inside refl w.0 ∙ ap (λ (b : Branch). b.func) (t.old w.0 w.2).0 ∙ w.3,
      ))
      | inr k ↦ (r, t.new, subst (λ n. r < n) (sym len2) t.inside, func2 ∙ sym (is_func k))
    ]
      where
        left : (x y : Bool) → (x && y) ≡ true → x ≡ true
        left true y h = refl
        left false y h = h

        is_func : starts (next ys s (rest_path stacks e.row) e.weight) (g ∷ []) ≡ true → g ≡ s.func
        is_func k = same_number g s.func (left (eqb g s.func) true k)

    rows_2 : (q : ℕ) → m ≤ q → q < length rows2 → AreBelow (length stacks) (group_at groups' q)
    rows_2 = split (λ q. AreBelow (length stacks) (group_at groups' q))
        (subst (AreBelow (length stacks)) (sym here') (below-snoc (length stacks) (group_at groups r) e t.standing in_stacks))
        (λ q le h d. subst (AreBelow (length stacks)) (sym (others q d)) (a.new_rows q le h))

    light2 : (q : ℕ) → m ≤ q → q < length rows2 → bulk (group_at groups' q) ≤ bulk (es ++ e ∷ [])
    light2 = split (λ q. bulk (group_at groups' q) ≤ bulk (es ++ e ∷ []))
        (subst (λ g. bulk g ≤ bulk (es ++ e ∷ [])) (sym here') (omega (arith, bulk-snoc (group_at groups r) e, bulk-snoc es e, t.light)))
        (λ q le h d. subst (λ g. bulk g ≤ bulk (es ++ e ∷ [])) (sym (others q d)) (let k = a.new_light q le h in omega (arith, bulk-snoc es e, k)))

    paths2 : (q : ℕ) → m ≤ q → q < length rows2 → AreAlike (after (branch rows2 q).func more) (bundle (rest_path stacks) (group_at groups' q))
    paths2 = split (λ q. AreAlike (after (branch rows2 q).func more) (bundle (rest_path stacks) (group_at groups' q)))
        (subst (λ f. AreAlike (after f more) (bundle (rest_path stacks) (group_at groups' r))) (sym func2)
        (subst (λ g. AreAlike (after s.func more) (bundle (rest_path stacks) g)) (sym here')
        (subst (λ z. AreAlike z (bundle (rest_path stacks) (group_at groups r ++ e ∷ []))) (sym (after-same ys s (rest_path stacks e.row) e.weight))
        (subst (λ z. AreAlike (after s.func ys ++ record { steps = rest_path stacks e.row; weight = e.weight } ∷ []) z) (sym (bundle-snoc (rest_path stacks) (group_at groups r) e))
        (alike_last (record { steps = rest_path stacks e.row; weight = e.weight }) (after s.func ys) (bundle (rest_path stacks) (group_at groups r)) t.paths)))))
        (λ q le h d. subst (λ (c : Branch). AreAlike (after c.func more) (bundle (rest_path stacks) (group_at groups' q))) (sym (at_old q h d))
        (subst (λ g. AreAlike (after (branch rows q).func more) (bundle (rest_path stacks) g)) (sym (others q d))
        (subst (λ z. AreAlike z (bundle (rest_path stacks) (group_at groups q))) (sym (after-other ys s (rest_path stacks e.row) e.weight (branch rows q).func (differs q le h d))) (a.new_paths q le h))))

    pub coming_more : AreComing stacks zs n o m (es ++ e ∷ []) ks' rows2 look' groups'
    coming_more = record {
      table = table2;
      among = a.among;
      done = a.done;
      from = omega (arith, a.from, grows, len2);
      sums = λ q h. subst (IsSumAt zs (key ks' q)) (sym (at_first q h)) (subst (λ k. IsSumAt zs k (branch rows q)) (sym (key_first q h)) (a.sums q h));
      parents = λ q p h k. a.parents q p h (ap (λ (b : Branch). b.parent) (sym (at_first q h)) ∙ k);
      apart = λ q h k. a.apart q h (ap (λ (b : Branch). b.parent) (sym (at_first q h)) ∙ k);
      wide = λ o' in' d f h. (let w = a.wide o' in' d f (subst (λ k. HasPrefix zs (k ++ f ∷ [])) (above_same o' in') h) in
          (w.0, subst (λ n. w.0 < n) (sym len2) (omega (arith, w.1, grows)), (t.old w.0 w.1).1 ∙ w.2 ∙ ap (λ k. k ++ f ∷ []) (sym (above_same o' in'))));
      len = same_len ∙ ap (λ n. cond (eqb r n) (r + 1) n) a.len ∙ sym t.count ∙ sym len2;
      each = λ q h k. subst (IsGroup stacks (behind (key ks' q) zs)) (sym (others q (not_node q k))) (subst (λ z. IsGroup stacks (behind z zs) (group_at groups q)) (sym (key_first q k)) (a.each q h k));
      below = below2;
      new_sums = λ q le h. subst (λ z. IsSumAt z ((branch rows2 q).func ∷ []) (branch rows2 q)) (sym all_is) (sums2 q le h);
      found = λ g h. found2 g (subst (λ z. HasPrefix z (g ∷ [])) all_is h);
      new_rows = rows_2;
      new_light = light2;
      new_paths = λ q le h. subst (λ z. AreAlike (after (branch rows2 q).func z) (bundle (rest_path stacks) (group_at groups' q))) (sym all_is) (paths2 q le h);
    }

    pub above_kept : key_above ks' o ≡ key_above ks o
    above_kept = above_same o a.among

-- once all entries have come
module _ (stacks : List StackRow) (zs : List Weighed) (n : ℕ) (o : Option ℕ) (m : ℕ) (es : List Entry) (ks : List (List ℕ)) (rows : List Branch) (look : Option ℕ × ℕ → Option ℕ) (groups : List (Vec Entry Global))
    (a : AreComing stacks zs n o m es ks rows look groups) where
  abbrev k : List ℕ
  k = key_above ks o

  key_new : (r : ℕ) → m ≤ r → r < length rows → key ks r ≡ k ++ (branch rows r).func ∷ []
  key_new r le h = a.table.keys r h ∙ ap (λ z. key_above ks z ++ (branch rows r).func ∷ []) (a.below r le h)

  -- of some entries among others, each row is a node of the paths
  pub prefixes_new : (all : List Entry) → ((p : List ℕ) → HasPrefix (bundle (back_path stacks) es) p → HasPrefix (bundle (back_path stacks) all) p) → AreAlike (behind k zs) (bundle (back_path stacks) all)
      → (r : ℕ) → r < length rows → HasPrefix zs (key ks r)
  prefixes_new all some alike r h = elim (cases_lt r m) [
    | inl lt ↦ (a.sums r lt).in_paths
    | inr le ↦ (let f = (branch rows r).func in
        subst (HasPrefix zs) (sym (key_new r le h)) (prefix-behind k zs (f ∷ []) (alike.back (f ∷ []) (one-not-nil f) (some (f ∷ []) (a.new_sums r le h).in_paths))))
  ]

  pub too_many_new : (all : List Entry) → ((p : List ℕ) → HasPrefix (bundle (back_path stacks) es) p → HasPrefix (bundle (back_path stacks) all) p) → AreAlike (behind k zs) (bundle (back_path stacks) all)
      → node_limit < length rows → AreTooMany zs
  too_many_new all some alike many = λ xs more.
      let each : (r : ℕ) → r < length rows → HasPrefix xs (key ks r) = λ r h. more (key ks r) (key-long ks rows look a.table r h) (prefixes_new all some alike r h) in
      let c = nodes_within xs ks rows look a.table each in
      omega (arith, c, many)

  module _ (entries : AreEntries (length stacks) es) (alike : AreAlike (behind k zs) (bundle (back_path stacks) es)) where
    abbrev ways : List Weighed
    ways = bundle (back_path stacks) es

    sum_new : (f : ℕ) (b : Branch) → IsSumAt ways (f ∷ []) b → IsSumAt zs (k ++ f ∷ []) b
    sum_new f b h = record {
      total = h.total ∙ sym (alike.totals (f ∷ []) (one-not-nil f)) ∙ total_at-behind k zs (f ∷ []);
      category = h.category ∙ common_alike (categories_at ways (f ∷ [])) (categories_at zs (k ++ f ∷ [])) (λ test. sym (alike.categories (f ∷ []) (one-not-nil f) test) ∙ categories-behind test k zs f []);
      in_paths = prefix-behind k zs (f ∷ []) (alike.back (f ∷ []) (one-not-nil f) h.in_paths);
    }

    wide_new : HasAllBelow zs ks rows o
    wide_new f h =
        let w = a.found f (alike.forth (f ∷ []) (one-not-nil f) (prefix-behind-back k zs (f ∷ []) h)) in
        (w.0, w.2, key_new w.0 w.1 w.2 ∙ ap (λ f. k ++ f ∷ []) w.3)

    same_or_not : (x y : Option ℕ) → (x ≡ y) ⊎ (x ≢ y)
    same_or_not None None = inl refl
    same_or_not None (Some q) = inr (λ e. cc)
    same_or_not (Some p) None = inr (λ e. cc)
    same_or_not (Some p) (Some q) = elim (eqb p q) as (λ b. eqb p q ≡ b → (let x : Option ℕ = Some p in (x ≡ Some q) ⊎ (x ≢ Some q))) [
      | true ↦ λ e. inl (ap (λ (z : ℕ). Some z) (same_number p q e))
      | false ↦ λ e. inr (λ same. (let s : p ≡ q = cc in false≢true (sym e ∙ number_same p q s)))
    ] refl

    group_new : (r : ℕ) → m ≤ r → r < length rows → IsGroup stacks (behind (key ks r) zs) (group_at groups r)
    group_new r le h =
        let f = (branch rows r).func in
        let l = a.new_light r le h in
        record {
          entries = record { rows = a.new_rows r le h; light = omega (arith, l, entries.light) };
          paths = subst (λ z. AreAlike z (bundle (rest_path stacks) (group_at groups r))) (sym (ap (λ p. behind p zs) (key_new r le h) ∙ behind-snoc k f zs))
              (alike_on (after f (behind k zs)) (after f ways) (bundle (rest_path stacks) (group_at groups r)) (alike-after f (behind k zs) ways alike) (a.new_paths r le h));
        }

    pub climbed : AreClimbed stacks zs n ks rows look groups
    climbed = record {
      table = a.table;
      done = omega (arith, a.done, a.from);
      sums = λ r h. elim (cases_lt r m) [
        | inl lt ↦ a.sums r lt
        | inr le ↦ subst (λ p. IsSumAt zs p (branch rows r)) (sym (key_new r le h)) (sum_new (branch rows r).func (branch rows r) (a.new_sums r le h))
      ];
      parents = λ r p h e. elim (cases_lt r m) [
        | inl lt ↦ a.parents r p lt e
        | inr le ↦ a.among p (sym (a.below r le h) ∙ e)
      ];
      wide = λ o' in'. elim (same_or_not o' o) [
        | inl same ↦ subst (HasAllBelow zs ks rows) (sym same) wide_new
        | inr d ↦ a.wide o' in' d
      ];
      len = a.len;
      each = λ r h k'. elim (cases_lt r m) [
        | inl lt ↦ a.each r h lt
        | inr le ↦ group_new r le k'
      ];
    }

-- before the first entry of a node whose group is taken
pub coming_none : (stacks : List StackRow) (zs : List Weighed) (n : ℕ) (ks : List (List ℕ)) (rows : List Branch) (look : Option ℕ × ℕ → Option ℕ) (groups groups' : List (Vec Entry Global)) → AreClimbed stacks zs n ks rows look groups → n < length rows
    → length groups' ≡ length groups → ((q : ℕ) → q ≢ n → group_at groups' q ≡ group_at groups q) → AreComing stacks zs (n + 1) (Some n) (length rows) [] ks rows look groups'
coming_none stacks zs n ks rows look groups groups' a inside same others = record {
  table = a.table;
  among = λ p e. (let s : n ≡ p = cc in omega (arith, s));
  done = omega (arith, inside);
  from = omega arith;
  sums = a.sums;
  parents = λ r p h e. (let k = a.parents r p h e in omega (arith, k));
  apart = λ r h e. (let k = a.parents r n h e in absurd (omega (arith, k)));
  wide = λ o' in' d. a.wide o' (λ p e. elim (in_or_last p n (in' p e)) [ inl l ↦ l | inr s ↦ absurd (d (e ∙ ap (λ (z : ℕ). Some z) s)) ]);
  len = same ∙ a.len;
  each = λ r h k. subst (IsGroup stacks (behind (key ks r) zs)) (sym (others r (λ s. absurd (omega (arith, h, s))))) (a.each r (omega (arith, h)) k);
  below = λ r le h. absurd (omega (arith, le, h));
  new_sums = λ r le h. absurd (omega (arith, le, h));
  found = λ f h. absurd h;
  new_rows = λ r le h. absurd (omega (arith, le, h));
  new_light = λ r le h. absurd (omega (arith, le, h));
  new_paths = λ r le h. absurd (omega (arith, le, h));
}

-- before the first root
pub coming_roots : (stacks : List StackRow) (zs : List Weighed) (look : Option ℕ × ℕ → Option ℕ) → ((q : Option ℕ × ℕ) → look q ≡ None) → AreComing stacks zs 0 None 0 [] [] [] look []
coming_roots stacks zs look empty = record {
  table = record {
    len = refl;
    keys = λ r h. absurd (omega arith);
    above = λ r p h e. absurd (omega arith);
    apart = λ q r h k e. absurd (omega arith);
    depths = λ r h. absurd (omega arith);
    has = λ r h. absurd (omega arith);
    finds = λ o f r e. (let no : None ≡ Some r = sym (empty (o, f)) ∙ e in cc);
  };
  among = λ p e. cc;
  done = omega arith;
  from = omega arith;
  sums = λ r h. absurd (omega arith);
  parents = λ r p h e. absurd (omega arith);
  apart = λ r h e. omega arith;
  wide = λ o' in' d. absurd (d (none o' in'));
  len = refl;
  each = λ r h k. absurd (omega arith);
  below = λ r le h. absurd (omega arith);
  new_sums = λ r le h. absurd (omega arith);
  found = λ f h. absurd h;
  new_rows = λ r le h. absurd (omega arith);
  new_light = λ r le h. absurd (omega arith);
  new_paths = λ r le h. absurd (omega arith);
}
  where
    none : (o : Option ℕ) → IsAmong 0 o → o ≡ None
    none None h = refl
    none (Some p) h = let k = h p refl in absurd (omega (arith, k))

-- with all nodes below all rows, the rows are the nodes
pub climbed_all : (stacks : List StackRow) (zs : List Weighed) (n : ℕ) (ks : List (List ℕ)) (rows : List Branch) (look : Option ℕ × ℕ → Option ℕ) (groups : List (Vec Entry Global)) → AreClimbed stacks zs n ks rows look groups → length rows ≤ n → Adds zs ks rows
climbed_all stacks zs n ks rows look groups a all = record {
  totals = λ r h. (a.sums r h).total;
  categories = λ r h. (a.sums r h).category;
  in_paths = λ r h. (a.sums r h).in_paths;
  whole = λ p d h. node p None (λ q e. cc) d h;
}
  where
    node : (p : List ℕ) (o : Option ℕ) → IsAmong n o → p ≢ [] → HasPrefix zs (key_above ks o ++ p) → (r : ℕ) × (r < length rows) × (key ks r ≡ key_above ks o ++ p)
    node [] o in' d h = absurd (d refl)
    node (f ∷ []) o in' d h = a.wide o in' f h
    node (f ∷ (g ∷ p)) o in' d h =
        let u = key_above ks o in
        let split : u ++ (f ∷ (g ∷ p)) ≡ (u ++ f ∷ []) ++ (g ∷ p) = sym (append_assoc u (f ∷ []) (g ∷ p)) in
        let w = a.wide o in' f (HasPrefix-shorter zs (u ++ f ∷ []) (g ∷ p) (subst (HasPrefix zs) split h)) in
        let v = node (g ∷ p) (Some w.0) (λ q e. (let s : w.0 ≡ q = cc in omega (arith, w.1, all, s))) (λ e. cc) (subst (λ z. HasPrefix zs (z ++ (g ∷ p))) (sym w.2) (subst (HasPrefix zs) split h)) in
        (v.0, v.1, v.2 ∙ ap (λ z. z ++ (g ∷ p)) w.2 ∙ sym split)

-- what goes on below a node whose group is known
pub above_of : (stacks : List StackRow) (zs : List Weighed) (n : ℕ) (ks : List (List ℕ)) (group above : List Entry) → IsGroup stacks (behind (key ks n) zs) group → AreEntries (length stacks) above
    → AreAlike (bundle (rest_path stacks) group) (bundle (back_path stacks) above) → AreAbove stacks zs (Some n) ks above
above_of stacks zs n ks group above g entries alike = record {
  entries = entries;
  paths = alike_on (behind (key ks n) zs) (bundle (rest_path stacks) group) (bundle (back_path stacks) above) g.paths alike;
}

pub deep_of : (ks : List (List ℕ)) (rows : List Branch) (look : Option ℕ × ℕ → Option ℕ) (n : ℕ) → IsTable ks rows look → n < length rows → (branch rows n).depth + 1 ≡ length (key ks n)
deep_of ks rows look n t h =
    let b = branch rows n in
    let d = t.depths n h in
    let l : length (key ks n) ≡ length (key_above ks b.parent) + 1 = ap length (t.keys n h) ∙ length-snoc (key_above ks b.parent) b.func in
    omega (arith, d, l)

pub any_branch : (rows : List Branch) (i : ℕ) (d e : Branch) → i < length rows → get_or rows i d ≡ get_or rows i e
any_branch [] i d e h = absurd (omega arith)
any_branch (b ∷ rows) zero d e h = refl
any_branch (b ∷ rows) (suc i) d e h = any_branch rows i d e (omega arith)
