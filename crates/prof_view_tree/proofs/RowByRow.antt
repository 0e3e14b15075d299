-- The rows of a tree with one more stack row
use Rattle.std.proofs.Common.{◌≡◌, ◌≢◌, ℕ, zero, suc, ◌+◌, ◌^◌, ◌<◌, ◌≤◌, ℤ, pos, ◌+ℤ◌, FitsSigned, Bool, List, [], ◌∷◌, ◌++◌, length, take, get_or, set, length-set, Option, Some, None, add-one, length-take-le, inl, inr, sym, ap, ◌∙◌, subst, refl, to_z, of_z, arith}
use Rattle.std.specs.Prelude.{unsigned_abs, unwrap_or, slice_get}
use Rattle.std.specs.Int.{w128}
use Rattle.std.specs.Option.{IfSome, option_and_then, option_map_or}
use Rattle.std.proofs.lemmas.List.{get_or_append_left, take_all}
use Rattle.std.proofs.lemmas.Option.{slice_get-get_or}
use Rattle.std.proofs.Math.Seq.{get_or-append_seam}
use Rattle.prof_tables.specs.declared.rows.StackRow.{StackRow}
use Rattle.prof_tables.specs.declared.rows.Step.{Step}
use Rattle.prof_tables.specs.Paths.{PrefixesBelow, path, path_within, step_of}
use Rattle.prof_tables.proofs.PathLemmas.{path-row}
use Rattle.prof_path.specs.Shown.{funcs}
use Rattle.prof_tree.specs.declared.branch.Branch.{Branch}
use Rattle.prof_tree.specs.Forest.{key, key_above, branch}
use Rattle.prof_tree.specs.Growing.{IsTable, IsGrown, Adds, Owns, IsChild, stepped, ended}
use Rattle.prof_tree.specs.Nodes.{Weighed, total_at, own_at}
use Rattle.prof_view_tree.specs.Sprouting.{AreSprouted, AreWeighed}
use Rattle.prof_view_tree.specs.Weighing.{AreAlike, held, mass, no_row, path_upto, prefix_of, row_path, stands_on, weight_at, weight_through}
use Rattle.prof_view_tree.proofs.Alike.{Adds-alike, alike_back, alike_on, held-snoc}
use Rattle.prof_view_tree.proofs.Gathering.{as_path, gathered, held_empty, held_same, others, others-mass}
use Rattle.prof_view_tree.proofs.Lifting.{own_found, prefix_found, size, take_next}
use Rattle.prof_view_tree.proofs.Masses.{most, fits_sum, held-mass, mass-take, mass_within}
use Rattle.prof_tree.proofs.PathSteps.{length-funcs, starts, is}
use Rattle.prof_view_tree.proofs.Standing.{below_at, upto_above, upto_all, upto_first, upto_here, upto_other}
use Rattle.prof_view_tree.proofs.Sampled.{path-none, same128}
use Rattle.prof_tree.proofs.Turns.{Walk, AtChild, at_child, Walk-more, key-long, Table-end, Adds-end, Owns-end}
use Rattle.prof_tree.proofs.Walking.{in_or_last, length-snoc}
use Rattle.prof_tree.proofs.Weights.{IsGrown-none}

-- a list of optional numbers with one more
old_at : (nodes : List (Option ℕ)) (o : Option ℕ) (q : ℕ) → q < length nodes → get_or (nodes ++ o ∷ []) q None ≡ get_or nodes q None
old_at nodes o q h = get_or_append_left nodes (o ∷ []) None q h

new_at : (nodes : List (Option ℕ)) (o : Option ℕ) → get_or (nodes ++ o ∷ []) (length nodes) None ≡ o
new_at nodes o = get_or-append_seam nodes o [] None

within_some : (nodes : List (Option ℕ)) (q m : ℕ) → get_or nodes q None ≡ Some m → q < length nodes
within_some [] q m e = cc
within_some (o ∷ nodes) zero m e = omega arith
within_some (o ∷ nodes) (suc q) m e = omega (arith, within_some nodes q m e)

-- a path has at most as many steps as there are rows
pub length-path_within : (stacks : List StackRow) (n : ℕ) (stack : Option ℕ) → length (path_within stacks n stack) ≤ n
length-path_within stacks zero stack = omega arith
length-path_within stacks (suc n) None = omega arith
length-path_within stacks (suc n) (Some r) = over (slice_get stacks r) (λ p. length-path_within stacks n p)
  where
    over : (o : Option StackRow) → ((p : Option ℕ) → length (path_within stacks n p) ≤ n)
        → length (option_map_or (λ (row : StackRow). path_within stacks n row.prefix ++ step_of row ∷ []) o []) ≤ suc n
    over None shorter = omega arith
    over (Some row) shorter = omega (arith, length-snoc (path_within stacks n row.prefix) (step_of row), shorter row.prefix)

module _ (stacks : List StackRow) (own : List (Option ℤ)) (n : ℕ) (stack : StackRow) (weighed : AreWeighed stacks own) (inside : n < length stacks) (row : slice_get stacks n ≡ Some stack) where
  abbrev path_at : ℕ → List Step
  path_at = row_path stacks

  same_row : get_or stacks n no_row ≡ stack
  same_row = (let e : Some (get_or stacks n no_row) ≡ Some stack = sym (slice_get-get_or stacks n no_row inside) ∙ row in cc)

  abbrev above : Option ℕ
  above = prefix_of stacks n

  pub prefix_is : above ≡ stack.prefix
  prefix_is = ap (λ (s : StackRow). s.prefix) same_row

  -- the path of its prefix
  abbrev pub front : List Step
  front = path stacks stack.prefix

  pub own_path_is : path_at n ≡ front ++ step_of stack ∷ []
  own_path_is = path-row stacks n stack weighed.below row

  abbrev stands : ℕ → Bool
  stands row = stands_on stacks row n

  -- the paths of the samples that don't go through the row, and those of all of them without the row and with it
  abbrev pub others_held : List Weighed
  others_held = held (path_upto stacks n) 0 (others stands 0 own)

  without_row : AreAlike (held (path_upto stacks n) 0 own) (others_held ++ as_path front (weight_through stacks own n))
  without_row =
      gathered stands front (path_upto stacks n) (path_upto stacks n) 0 own
      (λ row a b e. upto_above stacks weighed.below n row (omega (arith, weighed.len)) inside e ∙ ap (path stacks) prefix_is)
      (λ row a b e. refl)

  with_row : AreAlike (held (path_upto stacks (n + 1)) 0 own) (others_held ++ as_path (path_at n) (weight_through stacks own n))
  with_row =
      gathered stands (path_at n) (path_upto stacks (n + 1)) (path_upto stacks n) 0 own
      (λ row a b e. ap (λ k. path_upto stacks k row) (add-one n) ∙ upto_here stacks weighed.below n row (omega (arith, weighed.len)) inside e)
      (λ row a b e. ap (λ k. path_upto stacks k row) (add-one n) ∙ upto_other stacks weighed.below n row e)

  -- no sample goes through the row
  pub sprouted_none : (ks : List (List ℕ)) (rows : List Branch) (look : Option ℕ × ℕ → Option ℕ) (nodes : List (Option ℕ)) → weight_through stacks own n ≡ None
      → AreSprouted stacks own n ks rows look nodes → AreSprouted stacks own (n + 1) ks rows look (nodes ++ None ∷ [])
  sprouted_none ks rows look nodes none s =
      record {
        table = s.table;
        adds = Adds-alike (held (path_upto stacks n) 0 own) (held (path_upto stacks (n + 1)) 0 own) ks rows same (key-long ks rows look s.table) s.adds;
        owns = s.owns;
        len = length-snoc nodes None ∙ ap (λ k. k + 1) s.len;
        placed = λ q m e. s.placed q m (sym (old q m e) ∙ e);
        found = λ q w h e. (let k : q < n = earlier q w h e in let f = s.found q w k e in (f.0, old_at nodes None q (omega (arith, s.len)) ∙ f.1));
      }
    where
      same : AreAlike (held (path_upto stacks n) 0 own) (held (path_upto stacks (n + 1)) 0 own)
      same =
          alike_on (held (path_upto stacks n) 0 own) (others_held ++ []) (held (path_upto stacks (n + 1)) 0 own)
          (subst (λ o. AreAlike (held (path_upto stacks n) 0 own) (others_held ++ as_path front o)) none without_row)
          (alike_back (held (path_upto stacks (n + 1)) 0 own) (others_held ++ []) (subst (λ o. AreAlike (held (path_upto stacks (n + 1)) 0 own) (others_held ++ as_path (path_at n) o)) none with_row))

      old : (q m : ℕ) → get_or (nodes ++ None ∷ []) q None ≡ Some m → get_or (nodes ++ None ∷ []) q None ≡ get_or nodes q None
      old q m e = elim (in_or_last q (length nodes) (omega (arith, within_some (nodes ++ None ∷ []) q m e, length-snoc nodes None))) [
        | inl h ↦ old_at nodes None q h
        | inr same ↦ (let k : None ≡ Some m = sym (new_at nodes None) ∙ ap (λ q. get_or (nodes ++ None ∷ []) q None) (sym same) ∙ e in cc)
      ]

      earlier : (q : ℕ) (w : ℤ) → q < n + 1 → weight_through stacks own q ≡ Some w → q < n
      earlier q w h e = elim (in_or_last q n h) [
        | inl k ↦ k
        | inr same ↦ (let k : None ≡ Some w = sym none ∙ ap (weight_through stacks own) (sym same) ∙ e in cc)
      ]

  -- samples of weight w go through it
  module _ (w : ℤ) (ks : List (List ℕ)) (rows : List Branch) (look : Option ℕ × ℕ → Option ℕ) (nodes : List (Option ℕ)) (some : weight_through stacks own n ≡ Some w) (s : AreSprouted stacks own n ks rows look nodes) where
    abbrev pub parent : Option ℕ
    parent = option_and_then (λ p. get_or nodes p None) stack.prefix

    -- the prefix's row
    pub parent_is : (p m : ℕ) → stack.prefix ≡ Some p → parent ≡ Some m → (m < length rows) × (key ks m ≡ funcs (path_at p))
    parent_is p m e f = s.placed p m (sym (ap (option_and_then (λ p. get_or nodes p None)) e) ∙ f)

    pub parent_found : (p : ℕ) → stack.prefix ≡ Some p → (m : ℕ) × (parent ≡ Some m)
    parent_found p e =
        let is : above ≡ Some p = prefix_is ∙ e in
        let lt : p < n = below_at stacks weighed.below n p inside is in
        let has = prefix_found stacks weighed.below own weighed.len n p w inside some is in
        let f = s.found p has.0 lt has.1 in
        (f.0, ap (option_and_then (λ p. get_or nodes p None)) e ∙ f.1)

    pub prefix_within : IfSome stack.prefix (λ p. p < length nodes)
    prefix_within = by stack.prefix refl
      where
        by : (o : Option ℕ) → stack.prefix ≡ o → IfSome o (λ p. p < length nodes)
        by None e = tt
        by (Some p) e = omega (arith, below_at stacks weighed.below n p inside (prefix_is ∙ e), s.len)

    place : key_above ks parent ≡ funcs front
    place = by stack.prefix refl
      where
        by : (o : Option ℕ) → stack.prefix ≡ o → key_above ks parent ≡ funcs (path stacks o)
        by None e = ap (λ o. key_above ks (option_and_then (λ p. get_or nodes p None) o)) e ∙ ap funcs (sym (path-none stacks))
        by (Some p) e = (let f = parent_found p e in ap (key_above ks) f.1 ∙ (parent_is p f.0 e f.1).1)

    pub parent_in : (m : ℕ) → parent ≡ Some m → m < length rows
    parent_in m e = by stack.prefix refl
      where
        by : (o : Option ℕ) → stack.prefix ≡ o → m < length rows
        by None k = (let f : None ≡ Some m = sym (ap (option_and_then (λ p. get_or nodes p None)) k) ∙ e in cc)
        by (Some p) k = (parent_is p m k e).0

    walk : Walk [] others_held w front ks rows look parent
    walk = record {
      table = s.table;
      adds = Adds-alike (held (path_upto stacks n) 0 own) (others_held ++ record { steps = front; weight = w } ∷ []) ks rows
          (subst (λ o. AreAlike (held (path_upto stacks n) 0 own) (others_held ++ as_path front o)) some without_row) (key-long ks rows look s.table) s.adds;
      owns = s.owns;
      place = place;
      at_in = parent_in;
    }

    pub depth_is : (m : ℕ) → parent ≡ Some m → (branch rows m).depth + 1 ≡ length front
    depth_is m e =
        let lt = parent_in m e in
        let k : key ks m ≡ funcs front = sym (ap (key_above ks) e) ∙ place in
        let some : key ks m ≢ [] = key-long ks rows look s.table m lt in
        omega (arith, s.table.depths m lt, ap length k, length-funcs front, long (key ks m) some)
      where
        long : (l : List ℕ) → l ≢ [] → 0 < length l
        long [] h = absurd (h refl)
        long (a ∷ l) h = omega arith

    -- the depth of the row's node is below the number of stack rows
    pub depth_fits : (m : ℕ) → parent ≡ Some m → (branch rows m).depth + 1 < 2 ^ 32
    depth_fits m e = omega (arith, depth_is m e, shorter, weighed.few)
      where
        shorter : length front ≤ length stacks
        shorter = length-path_within stacks (length stacks) stack.prefix

    -- its row, once it is there
    module _ (rows' : List Branch) (look0 look' : Option ℕ × ℕ → Option ℕ) (depth r : ℕ) (looks : look ≡ look0) (deep : depth ≡ option_map_or (λ m. (branch rows m).depth + 1) parent 0) (is_child : IsChild rows look0 rows' look' parent depth (step_of stack) r) where
      walk' : Walk [] others_held w front ks rows look0 parent
      walk' = subst (λ l. Walk [] others_held w front ks rows l parent) looks walk

      depth_same : depth ≡ length front
      depth_same = deep ∙ by parent refl
        where
          by : (o : Option ℕ) → parent ≡ o → option_map_or (λ m. (branch rows m).depth + 1) o 0 ≡ length front
          by None e = sym (sym (length-funcs front) ∙ ap length (sym place ∙ ap (key_above ks) e))
          by (Some m) e = depth_is m e

      child_there : (ks' : List (List ℕ)) × AtChild [] others_held w front (step_of stack) ks' rows' look' r × ((q : ℕ) → q < length rows → (key ks' q ≡ key ks q) × (q < length rows'))
      child_there = at_child others_held w front (step_of stack) [] (λ p h. absurd h) ks rows rows' look0 look' parent depth r depth_same is_child walk'

      pub child_in : r < length rows'
      child_in = child_there.1.ready.in_rows

      light : mass (others stands 0 own) + unsigned_abs w ≤ most
      light = omega (arith, others-mass stands 0 own, ap size some, weighed.light)

      same_w : to_z w128 (of_z w128 w) ≡ w
      same_w = same128 w (omega (arith, light))

      pub child_fits : FitsSigned w128 ((branch rows' r).total +ℤ to_z w128 (of_z w128 w))
      child_fits =
          let sized = held-mass (λ x. starts x (key child_there.0 r)) (path_upto stacks n) 0 (others stands 0 own) in
          subst (λ z. FitsSigned w128 (z +ℤ to_z w128 (of_z w128 w))) (sym child_there.1.ready.total)
          (subst (λ z. FitsSigned w128 (total_at others_held (key child_there.0 r) +ℤ z)) (sym same_w)
          (fits_sum (total_at others_held (key child_there.0 r)) w most (omega (arith, sized, light)) (omega arith)))

      -- and once it has the weight
      module _ (rows'' : List Branch) (is_set : rows'' ≡ set rows' r (stepped (branch rows' r) (step_of stack) (to_z w128 (of_z w128 w)))) where
        stepped_walk : Walk [] others_held w (front ++ step_of stack ∷ []) child_there.0 rows'' look' (Some r)
        stepped_walk = Walk-more others_held w front (step_of stack) [] child_there.0 rows' rows'' look' r (is_set ∙ ap (λ z. set rows' r (stepped (branch rows' r) (step_of stack) z)) same_w) child_there.1

        longer : length rows'' ≡ length rows'
        longer = ap length is_set ∙ length-set rows' r _

        pub sprouted_some : (ks' : List (List ℕ)) × AreSprouted stacks own (n + 1) ks' rows'' look' (nodes ++ Some r ∷ [])
        sprouted_some = (
          child_there.0,
          record {
            table = stepped_walk.table;
            adds = Adds-alike (others_held ++ record { steps = front ++ step_of stack ∷ []; weight = w } ∷ []) (held (path_upto stacks (n + 1)) 0 own) child_there.0 rows''
                (alike_back (held (path_upto stacks (n + 1)) 0 own) (others_held ++ record { steps = front ++ step_of stack ∷ []; weight = w } ∷ [])
                (subst (λ x. AreAlike (held (path_upto stacks (n + 1)) 0 own) (others_held ++ record { steps = x; weight = w } ∷ [])) own_path_is
                (subst (λ o. AreAlike (held (path_upto stacks (n + 1)) 0 own) (others_held ++ as_path (path_at n) o)) some with_row)))
                (key-long child_there.0 rows'' look' stepped_walk.table) stepped_walk.adds;
            owns = stepped_walk.owns;
            len = length-snoc nodes (Some r) ∙ ap (λ k. k + 1) s.len;
            placed = placed;
            found = found;
          },
        )
          where
            placed : (q m : ℕ) → get_or (nodes ++ Some r ∷ []) q None ≡ Some m → (m < length rows'') × (key child_there.0 m ≡ funcs (path_at q))
            placed q m e = elim (in_or_last q (length nodes) (omega (arith, within_some (nodes ++ Some r ∷ []) q m e, length-snoc nodes (Some r)))) [
              | inl h ↦ (let k = s.placed q m (sym (old_at nodes (Some r) q h) ∙ e) in let c = child_there.2 m k.0 in (omega (arith, c.1, longer), c.0 ∙ k.1))
              | inr same ↦ (
                  let at : q ≡ n = same ∙ s.len in
                  let is : r ≡ m = (let k : Some r ≡ Some m = sym (new_at nodes (Some r)) ∙ ap (λ q. get_or (nodes ++ Some r ∷ []) q None) (sym same) ∙ e in cc) in
                  let lt : r < length rows'' = omega (arith, child_in, longer) in
                  (subst (λ m. m < length rows'') is lt, ap (key child_there.0) (sym is) ∙ stepped_walk.place ∙ ap funcs (sym own_path_is) ∙ ap (λ k. funcs (path_at k)) (sym at)))
            ]

            found : (q : ℕ) (v : ℤ) → q < n + 1 → weight_through stacks own q ≡ Some v → (m : ℕ) × (get_or (nodes ++ Some r ∷ []) q None ≡ Some m)
            found q v h e = elim (in_or_last q n h) [
              | inl k ↦ (let f = s.found q v k e in (f.0, old_at nodes (Some r) q (omega (arith, k, s.len)) ∙ f.1))
              | inr same ↦ (r, ap (λ q. get_or (nodes ++ Some r ∷ []) q None) (same ∙ sym s.len) ∙ new_at nodes (Some r))
            ]

abbrev none_of : (A : Type 0) → List A
none_of A = []

-- before the first stack row
pub sprouted_first : (stacks : List StackRow) (below : PrefixesBelow stacks) (own : List (Option ℤ)) (look : Option ℕ × ℕ → Option ℕ) → ((q : Option ℕ × ℕ) → look q ≡ None) → AreSprouted stacks own 0 [] [] look []
sprouted_first stacks below own look none =
    let g = IsGrown-none look none in
    record {
      table = g.table;
      adds = Adds-alike [] (held (path_upto stacks 0) 0 own) [] [] (held_empty (path_upto stacks 0) 0 own (upto_first stacks below)) (λ q h. absurd (omega arith)) g.adds;
      owns = g.owns;
      len = refl;
      placed = λ q m e. (let k : None ≡ Some m = sym (nothing q) ∙ e in cc);
      found = λ q w h e. absurd (omega arith);
    }
  where
    nothing : (q : ℕ) → get_or (none_of (Option ℕ)) q None ≡ None
    nothing zero = refl
    nothing (suc q) = refl

-- the self weights of the first so many rows
pub record AreEnded (stacks : List StackRow) (own : List (Option ℤ)) (n : ℕ) (ks : List (List ℕ)) (rows : List Branch) (look : Option ℕ × ℕ → Option ℕ) (nodes : List (Option ℕ)) : Type 0 where
  pub table : IsTable ks rows look
  pub adds : Adds (held (row_path stacks) 0 own) ks rows
  pub owns : Owns (held (row_path stacks) 0 (take n own)) ks rows
  pub placed : (q m : ℕ) → get_or nodes q None ≡ Some m → (m < length rows) × (key ks m ≡ funcs (row_path stacks q))
  pub found : (q : ℕ) (w : ℤ) → q < length stacks → get_or own q None ≡ Some w → (m : ℕ) × (get_or nodes q None ≡ Some m)

module _ (stacks : List StackRow) (own : List (Option ℤ)) (weighed : AreWeighed stacks own) (ks : List (List ℕ)) (look : Option ℕ × ℕ → Option ℕ) (nodes : List (Option ℕ)) where
  pub ended_first : (rows : List Branch) → AreSprouted stacks own (length stacks) ks rows look nodes → AreEnded stacks own 0 ks rows look nodes
  ended_first rows s = record {
    table = s.table;
    adds = subst (λ xs. Adds xs ks rows) (held_same (path_upto stacks (length stacks)) (row_path stacks) 0 own (λ row a b. upto_all stacks weighed.below row (omega (arith, weighed.len)))) s.adds;
    owns = subst (λ xs. Owns xs ks rows) (sym (ap (held (row_path stacks) 0) (take_zero own))) s.owns;
    placed = s.placed;
    found = λ q w h e. (let f = own_found stacks weighed.below own weighed.len q w h e in s.found q f.0 h f.1);
  }
    where
      take_zero : (l : List (Option ℤ)) → take 0 l ≡ []
      take_zero [] = refl
      take_zero (o ∷ l) = refl

  module _ (rows : List Branch) (n : ℕ) (inside : n < length own) (s : AreEnded stacks own n ks rows look nodes) where
    -- a row on which no sample stands
    pub ended_none : get_or own n None ≡ None → AreEnded stacks own (n + 1) ks rows look nodes
    ended_none e = record {
      table = s.table;
      adds = s.adds;
      owns = subst (λ xs. Owns xs ks rows) (sym (ap (held (row_path stacks) 0) (ap (λ k. take k own) (add-one n) ∙ take_next own n None inside e) ∙ held-snoc (row_path stacks) 0 (take n own) None ∙ append_nil (held (row_path stacks) 0 (take n own)))) s.owns;
      placed = s.placed;
      found = s.found;
    }
      where
        append_nil : (v : List Weighed) → v ++ [] ≡ v
        append_nil [] = refl
        append_nil (c ∷ v) = ap (λ w. c ∷ w) (append_nil v)

    module _ (w : ℤ) (e : get_or own n None ≡ Some w) where
      pub end_found : (m : ℕ) × (get_or nodes n None ≡ Some m)
      end_found = s.found n w (omega (arith, inside, weighed.len)) e

      next_own : held (row_path stacks) 0 (take (n + 1) own) ≡ held (row_path stacks) 0 (take n own) ++ record { steps = row_path stacks n; weight = w } ∷ []
      next_own = ap (held (row_path stacks) 0) (ap (λ k. take k own) (add-one n) ∙ take_next own n (Some w) inside e) ∙ held-snoc (row_path stacks) 0 (take n own) (Some w)
          ∙ ap (λ k. held (row_path stacks) 0 (take n own) ++ record { steps = row_path stacks k; weight = w } ∷ []) (let k : 0 + length (take n own) ≡ n = omega (arith, length-take-le n own (omega (arith, inside))) in k)

      light_end : mass (take n own) + unsigned_abs w ≤ most
      light_end =
          let whole = mass-take own n inside in
          let size : unsigned_abs (weight_at own n) ≡ unsigned_abs w = ap (λ o. unsigned_abs (unwrap_or o (pos 0))) e in
          omega (arith, whole, size, mass_within own (suc n), weighed.light)

      same_end : to_z w128 (of_z w128 w) ≡ w
      same_end = same128 w (omega (arith, light_end))

      module _ (m : ℕ) (at : get_or nodes n None ≡ Some m) where
        pub end_in : m < length rows
        end_in = (s.placed n m at).0

        pub end_fits : FitsSigned w128 ((branch rows m).own +ℤ to_z w128 (of_z w128 w))
        end_fits =
            subst (λ z. FitsSigned w128 (z +ℤ to_z w128 (of_z w128 w))) (sym (s.owns m end_in))
            (subst (λ z. FitsSigned w128 (own_at (held (row_path stacks) 0 (take n own)) (key ks m) +ℤ z)) (sym same_end)
            (fits_sum (own_at (held (row_path stacks) 0 (take n own)) (key ks m)) w most (omega (arith, held-mass (λ x. is x (key ks m)) (row_path stacks) 0 (take n own), light_end)) (omega arith)))

        pub ended_some : (rows' : List Branch) → rows' ≡ set rows m (ended (branch rows m) (to_z w128 (of_z w128 w))) → AreEnded stacks own (n + 1) ks rows' look nodes
        ended_some rows' is_set =
            subst (λ l. AreEnded stacks own (n + 1) ks l look nodes) (sym (is_set ∙ ap (λ z. set rows m (ended (branch rows m) z)) same_end)) (record {
              table = Table-end ks rows m w end_in look s.table;
              adds = Adds-end ks rows m w end_in (held (row_path stacks) 0 own) s.adds;
              owns = subst (λ xs. Owns xs ks (set rows m (ended (branch rows m) w))) (sym next_own) (Owns-end ks rows m w end_in (held (row_path stacks) 0 (take n own)) (row_path stacks n) s.table.apart (s.placed n m at).1 s.owns);
              placed = λ q k f. (let p = s.placed q k f in (omega (arith, p.0, length-set rows m (ended (branch rows m) w)), p.1));
              found = s.found;
            })

  pub ended_all : (rows : List Branch) (n : ℕ) → length own ≤ n → AreEnded stacks own n ks rows look nodes → IsGrown (held (row_path stacks) 0 own) ks rows look
  ended_all rows n past s = record {
    table = s.table;
    adds = s.adds;
    owns = subst (λ l. Owns (held (row_path stacks) 0 l) ks rows) (take_all n own past) s.owns;
  }
