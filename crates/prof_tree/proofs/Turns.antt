-- One step of a path, and its two ends
use Rattle.std.proofs.Common.{◌≡◌, ◌≢◌, ℕ, ◌-◌, ◌*◌, ◌<◌, ◌≤◌, ℤ, pos, neg_ℤ, ◌+ℤ◌, ◌≤ℤ◌, FitsSigned, Bool, true, false, cond, eqb, nat_eq, List, [], ◌∷◌, ◌++◌, length, map, get_or, set, get_or-set_same, get_or-set_other, length-set, Option, Some, None, MatchOption, inl, inr, sym, ap, ◌∙◌, subst, refl, arith}
use Rattle.std.specs.List.{filter}
use Rattle.std.specs.Int.{w128}
use Rattle.std.specs.Cmp.Lexicographic.{pointwise}
use Rattle.std.proofs.lemmas.Int.{ints}
use Rattle.std.proofs.lemmas.Bool.{false≢true}
use Rattle.prof_tables.specs.declared.rows.Step.{Step}
use Rattle.prof_path.specs.Shown.{funcs}
use Rattle.prof_tree.specs.declared.branch.Branch.{Branch}
use Rattle.prof_tree.specs.Nodes.{Weighed, total, total_at, own_at, common, categories_at}
use Rattle.prof_tree.specs.Forest.{EachOf, HasPrefix, key, key_above, branch, no_branch}
use Rattle.prof_tree.specs.Growing.{IsTable, Adds, Owns, merged, Ready, pair_eq, IsChild, stepped, ended, IsSmall, IsGrown}
use Rattle.prof_tree.proofs.PathSteps.{list1, length-funcs, starts, category_in, t0, t1, here, none_through, none_ending, categories-no, categories-yes, total_at-no, starts-here, HasPrefix-left, HasPrefix-cases, here-category, Ready-old, Adds-step, is-same, same-is, own_at-yes, own_at-no, same_number, number_same}
use Rattle.prof_tree.proofs.Walking.{at_left, at_last, key_left, key_last, in_or_last, length-snoc, long, snoc-not-nil, no_key, IsTable-more}

pub key-long : (ks : List (List ℕ)) (rows : List Branch) (look : Option ℕ × ℕ → Option ℕ) → IsTable ks rows look → (q : ℕ) → q < length rows → key ks q ≢ []
key-long ks rows look t q h e = snoc-not-nil _ _ (sym (t.keys q h) ∙ e)

-- rows with the same parents, functions and depths
pub IsTable-alike : (ks : List (List ℕ)) (rows rows' : List Branch) (look look' : Option ℕ × ℕ → Option ℕ) → length rows' ≡ length rows
    → ((q : ℕ) → q < length rows → ((branch rows' q).parent ≡ (branch rows q).parent) × ((branch rows' q).func ≡ (branch rows q).func) × ((branch rows' q).depth ≡ (branch rows q).depth))
    → ((q : Option ℕ × ℕ) → look' q ≡ look q) → IsTable ks rows look → IsTable ks rows' look'
IsTable-alike ks rows rows' look look' n same ask t = record {
  len = t.len ∙ sym n;
  keys = λ r h. (let s = same r (inside r h) in t.keys r (inside r h) ∙ ap (λ o. key_above ks o ++ (branch rows r).func ∷ []) (sym s.0) ∙ ap (λ f. key_above ks (branch rows' r).parent ++ f ∷ []) (sym s.1));
  above = λ r p h e. outside p (t.above r p (inside r h) (sym (same r (inside r h)).0 ∙ e));
  apart = λ q r h k e. t.apart q r (inside q h) (inside r k) e;
  depths = λ r h. (same r (inside r h)).2 ∙ t.depths r (inside r h);
  has = λ r h. (let s = same r (inside r h) in ask ((branch rows' r).parent, (branch rows' r).func) ∙ ap (λ o. look (o, (branch rows' r).func)) s.0 ∙ ap (λ f. look ((branch rows r).parent, f)) s.1 ∙ t.has r (inside r h));
  finds = λ o f r e. (let w = t.finds o f r (sym (ask (o, f)) ∙ e) in let s = same r w.0 in (outside r w.0, s.0 ∙ w.1, s.1 ∙ w.2));
}
  where
    inside : (q : ℕ) → q < length rows' → q < length rows
    inside q h = subst (λ n. q < n) n h

    outside : (q : ℕ) → q < length rows → q < length rows'
    outside q h = subst (λ n. q < n) (sym n) h

-- what a write to a row leaves, part by part
pub at_set : {X : Type 0} (part : Branch → X) (rows : List Branch) (r : ℕ) (b : Branch) → r < length rows → part b ≡ part (branch rows r) → (q : ℕ) → part (branch (set rows r b) q) ≡ part (branch rows q)
at_set part rows r b lt e q =
    elim (eqb q r) as (λ x. eqb q r ≡ x → part (branch (set rows r b) q) ≡ part (branch rows q)) [
      | true ↦ λ k. subst (λ z. part (branch (set rows r b) z) ≡ part (branch rows z)) (sym (same_number q r k)) (ap part (get_or-set_same rows r b no_branch lt) ∙ e)
      | false ↦ λ k. ap part (get_or-set_other rows r q b no_branch (λ s. false≢true (sym k ∙ number_same q r s)))
    ] refl

pub IsTable-set : (ks : List (List ℕ)) (rows : List Branch) (look : Option ℕ × ℕ → Option ℕ) (r : ℕ) (b : Branch) → r < length rows → b.parent ≡ (branch rows r).parent → b.func ≡ (branch rows r).func → b.depth ≡ (branch rows r).depth → IsTable ks rows look → IsTable ks (set rows r b) look
IsTable-set ks rows look r b lt p f d t =
    IsTable-alike ks rows (set rows r b) look look (length-set rows r b) (λ q h. (at_set (λ (b : Branch). b.parent) rows r b lt p q, at_set (λ (b : Branch). b.func) rows r b lt f q, at_set (λ (b : Branch). b.depth) rows r b lt d q)) (λ q. refl) t

Owns-set : (xs : List Weighed) (ks : List (List ℕ)) (rows : List Branch) (r : ℕ) (b : Branch) → r < length rows → b.own ≡ (branch rows r).own → Owns xs ks rows → Owns xs ks (set rows r b)
Owns-set xs ks rows r b lt e o q h = at_set (λ (b : Branch). b.own) rows r b lt e q ∙ o q (subst (λ n. q < n) (length-set rows r b) h)

-- while a path is walked, after the steps x, at a row, where the self weights are those of `os`
pub record Walk (os xs : List Weighed) (w : ℤ) (x : List Step) (ks : List (List ℕ)) (rows : List Branch) (look : Option ℕ × ℕ → Option ℕ) (at : Option ℕ) : Type 0 where
  pub table : IsTable ks rows look
  pub adds : Adds (xs ++ record { steps = x; weight = w } ∷ []) ks rows
  pub owns : Owns os ks rows
  pub place : key_above ks at ≡ funcs x
  pub at_in : (p : ℕ) → at ≡ Some p → p < length rows

-- the rows once a child is there, and before its row takes the step
pub record AtChild (os xs : List Weighed) (w : ℤ) (x : List Step) (s : Step) (ks : List (List ℕ)) (rows : List Branch) (look : Option ℕ × ℕ → Option ℕ) (r : ℕ) : Type 0 where
  pub table : IsTable ks rows look
  pub owns : Owns os ks rows
  pub ready : Ready xs w x s ks rows r

module _ (xs : List Weighed) (w : ℤ) (x : List Step) (s : Step) where
  Ready-new : (ks : List (List ℕ)) (rows : List Branch) (b : Branch) → length ks ≡ length rows → ((q : ℕ) → q < length rows → key ks q ≢ here xs w x s) → b.total ≡ pos 0 → b.category ≡ Some s.category → Adds (xs ++ t0 xs w x s ∷ []) ks rows → Ready xs w x s (ks ++ here xs w x s ∷ []) (rows ++ b ∷ []) (length rows)
  Ready-new ks rows b n none z c a = record {
    in_rows = omega (arith, length-snoc rows b);
    key_is = last;
    others = λ q h d. (let l = old q h d in
        let k : key ks' q ≡ key ks q = key_left ks k' q (in_ks q l) in
        let e : branch (rows ++ b ∷ []) q ≡ branch rows q = at_left rows b q l in (
          ap (λ (b : Branch). b.total) e ∙ a.totals q l ∙ ap (total_at (xs ++ t0 xs w x s ∷ [])) (sym k),
          ap (λ (b : Branch). b.category) e ∙ a.categories q l ∙ ap (λ p. common (categories_at (xs ++ t0 xs w x s ∷ []) p)) (sym k),
          subst (HasPrefix (xs ++ t0 xs w x s ∷ [])) (sym k) (a.in_paths q l),
        ));
    total = ap (λ (b : Branch). b.total) (at_last rows b) ∙ z ∙ sym (ap total (none_through xs k' absent)) ∙ ap (total_at xs) (sym last);
    category = ap (λ (b : Branch). merged b.category s.category) (at_last rows b) ∙ ap (λ o. merged o s.category) c ∙ ap (λ e. cond e (Some s.category) None) (number_same s.category s.category refl)
        ∙ ap (λ (v : ℕ). common (v ∷ [])) (sym (here-category xs w x s)) ∙ ap (λ cs. common (cs ++ category_in (t1 xs w x s) k' ∷ [])) (sym (ap (map (λ (y : Weighed). (get_or y.steps (length k' - 1) (record { func = 0; category = 0 })).category)) (none_through xs k' absent)))
        ∙ ap common (sym (categories-yes xs (t1 xs w x s) k' (starts-here xs w x s))) ∙ ap (λ p. common (categories_at (xs ++ t1 xs w x s ∷ []) p)) (sym last);
    whole = λ p m h. (let o = a.whole p m h in (o.0, omega (arith, o.1, length-snoc rows b), key_left ks k' o.0 (in_ks o.0 o.1) ∙ o.2));
  }
    where
      k' : List ℕ
      k' = here xs w x s

      ks' : List (List ℕ)
      ks' = ks ++ here xs w x s ∷ []

      in_ks : (q : ℕ) → q < length rows → q < length ks
      in_ks q h = subst (λ n. q < n) (sym n) h

      last : key (ks ++ here xs w x s ∷ []) (length rows) ≡ here xs w x s
      last = ap (key (ks ++ here xs w x s ∷ [])) (sym n) ∙ key_last ks (here xs w x s)

      old : (q : ℕ) → q < length (rows ++ b ∷ []) → q ≢ length rows → q < length rows
      old q h d = elim (in_or_last q (length rows) (subst (λ n. q < n) (length-snoc rows b) h)) [ inl l ↦ l | inr e ↦ absurd (d e) ]

      absent : HasPrefix xs (here xs w x s) → ⊥
      absent h = let o = a.whole (here xs w x s) (snoc-not-nil (funcs x) s.func) (HasPrefix-left xs (t0 xs w x s) (here xs w x s) h) in none o.0 o.1 o.2

  -- a child stood, or is added
  pub at_child : (os : List Weighed) → ((p : List ℕ) → HasPrefix os p → HasPrefix (xs ++ t0 xs w x s ∷ []) p) → (ks : List (List ℕ)) (rows rows' : List Branch) (look look' : Option ℕ × ℕ → Option ℕ) (o : Option ℕ) (depth r : ℕ) → depth ≡ length x → IsChild rows look rows' look' o depth s r → Walk os xs w x ks rows look o → (ks' : List (List ℕ)) × AtChild os xs w x s ks' rows' look' r × ((q : ℕ) → q < length rows → (key ks' q ≡ key ks q) × (q < length rows'))
  at_child os within ks rows rows' look look' o depth r deep child k = go (look (o, s.func)) refl child
    where
      b : Branch
      b = record { parent = o; depth = depth; func = s.func; total = pos 0; own = pos 0; category = Some s.category }

      go : (m : Option ℕ) → look (o, s.func) ≡ m
          → MatchOption m ((r ≡ length rows) × (rows' ≡ rows ++ record { parent = o; depth = depth; func = s.func; total = pos 0; own = pos 0; category = Some s.category } ∷ []) × ((q : Option ℕ × ℕ) → look' q ≡ cond (pair_eq (o, s.func) q) (Some r) (look q)))
          (λ found. (r ≡ found) × (rows' ≡ rows) × ((q : Option ℕ × ℕ) → look' q ≡ look q))
          → (ks' : List (List ℕ)) × AtChild os xs w x s ks' rows' look' r × ((q : ℕ) → q < length rows → (key ks' q ≡ key ks q) × (q < length rows'))
      go (Some found) e h =
          let w' = k.table.finds o s.func found e in
          let key_is : key ks found ≡ here xs w x s = k.table.keys found w'.0 ∙ ap (λ m. key_above ks m ++ (branch rows found).func ∷ []) w'.1 ∙ ap (λ f. key_above ks o ++ f ∷ []) w'.2 ∙ ap (λ z. z ++ s.func ∷ []) k.place in (
            ks,
            subst (λ r. AtChild os xs w x s ks rows' look' r) (sym h.0) (subst (λ rows'. AtChild os xs w x s ks rows' look' found) (sym h.1) (record {
              table = IsTable-alike ks rows rows look look' refl (λ q _. (refl, refl, refl)) h.2 k.table;
              owns = k.owns;
              ready = Ready-old xs w x s ks rows k.table.apart found w'.0 key_is k.adds;
            })),
            λ q lt. (refl, subst (λ z. q < length z) (sym h.1) lt),
          )
      go None e h =
          let asked : (q : Option ℕ × ℕ) → look' q ≡ cond (pair_eq (o, s.func) q) (Some (length rows)) (look q) = λ q. h.2 q ∙ ap (λ r. cond (pair_eq (o, s.func) q) (Some r) (look q)) h.0 in
          let same : key_above ks o ++ s.func ∷ [] ≡ here xs w x s = ap (λ z. z ++ s.func ∷ []) k.place in
          let none : (q : ℕ) → q < length rows → key ks q ≢ here xs w x s = λ q lt eq. no_key ks rows look look' o s.func b k.table k.at_in e refl refl (deep ∙ sym (length-funcs x) ∙ ap length (sym k.place)) asked q lt (eq ∙ sym same) in (
            ks ++ here xs w x s ∷ [],
            subst (λ r. AtChild os xs w x s (ks ++ here xs w x s ∷ []) rows' look' r) (sym h.0) (subst (λ rows'. AtChild os xs w x s (ks ++ here xs w x s ∷ []) rows' look' (length rows)) (sym h.1) (record {
              table = subst (λ z. IsTable (ks ++ z ∷ []) (rows ++ b ∷ []) look') same (IsTable-more ks rows look look' o s.func b k.table k.at_in e refl refl (deep ∙ sym (length-funcs x) ∙ ap length (sym k.place)) asked);
              owns = owns-new none;
              ready = Ready-new ks rows b k.table.len none refl refl k.adds;
            })),
            λ q lt. (key_left ks (here xs w x s) q (subst (λ n. q < n) (sym k.table.len) lt), subst (λ z. q < length z) (sym h.1) (omega (arith, lt, length-snoc rows b))),
          )
        where
          owns-new : ((q : ℕ) → q < length rows → key ks q ≢ here xs w x s) → Owns os (ks ++ here xs w x s ∷ []) (rows ++ b ∷ [])
          owns-new none q lt = elim (in_or_last q (length rows) (subst (λ n. q < n) (length-snoc rows b) lt)) [
            | inl l ↦ ap (λ (b : Branch). b.own) (at_left rows b q l) ∙ k.owns q l ∙ ap (own_at os) (sym (key_left ks (here xs w x s) q (subst (λ n. q < n) (sym k.table.len) l)))
            | inr e ↦ subst (λ q. (branch (rows ++ b ∷ []) q).own ≡ own_at os (key (ks ++ here xs w x s ∷ []) q)) (sym e)
                (ap (λ (b : Branch). b.own) (at_last rows b) ∙ sym (ap total (none_ending os (here xs w x s) (λ h. (let o = k.adds.whole (here xs w x s) (snoc-not-nil (funcs x) s.func) (within (here xs w x s) h) in none o.0 o.1 o.2))))
                ∙ ap (own_at os) (sym (ap (key (ks ++ here xs w x s ∷ [])) (sym k.table.len) ∙ key_last ks (here xs w x s))))
          ]

  -- and its row takes the step
  pub Walk-more : (os : List Weighed) (ks : List (List ℕ)) (rows rows' : List Branch) (look : Option ℕ × ℕ → Option ℕ) (r : ℕ) → rows' ≡ set rows r (stepped (branch rows r) s w) → AtChild os xs w x s ks rows look r → Walk os xs w (x ++ s ∷ []) ks rows' look (Some r)
  Walk-more os ks rows rows' look r is_set a =
      let b = stepped (branch rows r) s w in
      record {
        table = subst (λ z. IsTable ks z look) (sym is_set) (IsTable-set ks rows look r b a.ready.in_rows refl refl refl a.table);
        adds = Adds-step xs w x s ks rows a.table.apart rows' r b a.ready is_set refl refl (λ q h. long (key ks q) (key-long ks rows look a.table q h));
        owns = subst (Owns os ks) (sym is_set) (Owns-set os ks rows r b a.ready.in_rows refl a.owns);
        place = a.ready.key_is ∙ sym (list1 xs w x s);
        at_in = λ p e. (let q : r ≡ p = cc in subst (λ p. p < length rows') q (subst (λ z. r < length z) (sym is_set) (subst (λ n. r < n) (sym (length-set rows r b)) a.ready.in_rows)));
      }

-- one more path that ends at a row, which takes its weight as self weight
module _ (ks : List (List ℕ)) (rows : List Branch) (r : ℕ) (w : ℤ) (lt : r < length rows) where
  abbrev ended_row : Branch
  ended_row = ended (branch rows r) w

  inside_end : (q : ℕ) → q < length (set rows r ended_row) → q < length rows
  inside_end q h = subst (λ n. q < n) (length-set rows r ended_row) h

  pub Table-end : (look : Option ℕ × ℕ → Option ℕ) → IsTable ks rows look → IsTable ks (set rows r ended_row) look
  Table-end look t = IsTable-set ks rows look r ended_row lt refl refl refl t

  pub Adds-end : (xs : List Weighed) → Adds xs ks rows → Adds xs ks (set rows r ended_row)
  Adds-end xs a = record {
    totals = λ q h. at_set (λ (b : Branch). b.total) rows r ended_row lt refl q ∙ a.totals q (inside_end q h);
    categories = λ q h. at_set (λ (b : Branch). b.category) rows r ended_row lt refl q ∙ a.categories q (inside_end q h);
    in_paths = λ q h. a.in_paths q (inside_end q h);
    whole = λ p n h. (let o = a.whole p n h in (o.0, subst (λ n. o.0 < n) (sym (length-set rows r ended_row)) o.1, o.2));
  }

  pub Owns-end : (xs : List Weighed) (x : List Step) → ((q s : ℕ) → q < length rows → s < length rows → key ks q ≡ key ks s → q ≡ s) → key ks r ≡ funcs x
      → Owns xs ks rows → Owns (xs ++ record { steps = x; weight = w } ∷ []) ks (set rows r ended_row)
  Owns-end xs x apart place o = λ q h. elim (eqb q r) as (λ e. eqb q r ≡ e → (branch (set rows r ended_row) q).own ≡ own_at (xs ++ record { steps = x; weight = w } ∷ []) (key ks q)) [
    | true ↦ λ e. subst (λ q. (branch (set rows r ended_row) q).own ≡ own_at (xs ++ record { steps = x; weight = w } ∷ []) (key ks q)) (sym (same_number q r e))
        (ap (λ (b : Branch). b.own) (get_or-set_same rows r ended_row no_branch lt) ∙ ap (λ z. z +ℤ w) (o r lt) ∙ sym (own_at-yes xs (record { steps = x; weight = w }) (key ks r) (ap (λ p. pointwise nat_eq p (funcs x)) place ∙ same-is (funcs x))))
    | false ↦ λ e. ap (λ (b : Branch). b.own) (get_or-set_other rows r q ended_row no_branch (λ s. false≢true (sym e ∙ number_same q r s))) ∙ o q (inside_end q h)
        ∙ sym (own_at-no xs (record { steps = x; weight = w }) (key ks q) (elim (pointwise nat_eq (key ks q) (funcs x)) as (λ v. pointwise nat_eq (key ks q) (funcs x) ≡ v → v ≡ false) [
          | true ↦ λ v. absurd (false≢true (sym e ∙ number_same q r (apart q r (inside_end q h) lt (sym (is-same (funcs x) (key ks q) v) ∙ sym place))))
          | false ↦ λ v. refl
        ] refl))
  ] refl

-- before the first step
module _ (xs : List Weighed) (w : ℤ) (ks : List (List ℕ)) (rows : List Branch) (look : Option ℕ × ℕ → Option ℕ) where
  abbrev empty : Weighed
  empty = record { steps = []; weight = w }

  no_start : (p : List ℕ) → p ≢ [] → starts empty p ≡ false
  no_start [] n = absurd (n refl)
  no_start (a ∷ p) n = refl

  pub Walk-none : IsGrown xs ks rows look → Walk xs xs w [] ks rows look None
  Walk-none g = record {
    table = g.table;
    adds = record {
      totals = λ r h. g.adds.totals r h ∙ sym (total_at-no xs empty (key ks r) (no_start (key ks r) (key-long ks rows look g.table r h)));
      categories = λ r h. g.adds.categories r h ∙ ap common (sym (categories-no xs empty (key ks r) (no_start (key ks r) (key-long ks rows look g.table r h))));
      in_paths = λ r h. HasPrefix-left xs empty (key ks r) (g.adds.in_paths r h);
      whole = λ p n h. g.adds.whole p n (elim (HasPrefix-cases xs empty p h) [ inl k ↦ k | inr e ↦ absurd (false≢true (sym (no_start p n) ∙ e)) ]);
    };
    owns = g.owns;
    place = refl;
    at_in = λ p e. cc;
  }

  -- after the last step, where there was none
  pub Grown-none : (x : List Step) → Walk xs xs w x ks rows look None → IsGrown (xs ++ record { steps = x; weight = w } ∷ []) ks rows look
  Grown-none x k = record {
    table = k.table;
    adds = k.adds;
    owns = λ r h. k.owns r h ∙ sym (own_at-no xs (record { steps = x; weight = w }) (key ks r) (not_is (key ks r) (funcs x) (sym k.place) (key-long ks rows look k.table r h)));
  }
    where
      not_is : (p l : List ℕ) → l ≡ [] → p ≢ [] → pointwise nat_eq p l ≡ false
      not_is [] l e n = absurd (n refl)
      not_is (a ∷ p) [] e n = refl
      not_is (a ∷ p) (b ∷ l) e n = cc

  -- after the last step
  pub Grown-end : (x : List Step) (rows' : List Branch) (r : ℕ) → rows' ≡ set rows r (ended (branch rows r) w) → Walk xs xs w x ks rows look (Some r) → IsGrown (xs ++ record { steps = x; weight = w } ∷ []) ks rows' look
  Grown-end x rows' r is_set k =
      let lt : r < length rows = k.at_in r refl in
      subst (λ z. IsGrown (xs ++ record { steps = x; weight = w } ∷ []) ks z look) (sym is_set) (record {
        table = Table-end ks rows r w lt look k.table;
        adds = Adds-end ks rows r w lt (xs ++ record { steps = x; weight = w } ∷ []) k.adds;
        owns = Owns-end ks rows r w lt xs x k.table.apart k.place k.owns;
      })

-- sums of part of a list of weights of 64 bits
pub within : (test : Weighed → Bool) (xs : List Weighed) → EachOf IsSmall xs → (neg_ℤ (pos (length xs * 9223372036854775808)) ≤ℤ total (filter test xs)) × (total (filter test xs) ≤ℤ pos (length xs * 9223372036854775808))
within test [] h = (omega (arith, ints), omega (arith, ints))
within test (x ∷ xs) h =
    let k = within test xs h.1 in
    elim (test x) as (λ b. (neg_ℤ (pos (length (x ∷ xs) * 9223372036854775808)) ≤ℤ total (cond b (x ∷ filter test xs) (filter test xs))) × (total (cond b (x ∷ filter test xs) (filter test xs)) ≤ℤ pos (length (x ∷ xs) * 9223372036854775808))) [
      | true ↦ (omega (arith, ints, k.0, h.0.0), omega (arith, ints, k.1, h.0.1))
      | false ↦ (omega (arith, ints, k.0), omega (arith, ints, k.1))
    ]

pub fits_more : (test : Weighed → Bool) (xs : List Weighed) (w : ℤ) → EachOf IsSmall xs → length xs ≤ 8388607 → neg_ℤ (pos 9223372036854775808) ≤ℤ w → w ≤ℤ pos 9223372036854775808 → FitsSigned w128 (total (filter test xs) +ℤ w)
fits_more test xs w small few low high =
    let k = within test xs small in
    let n : length xs * 9223372036854775808 ≤ 8388607 * 9223372036854775808 = omega arith in
    omega (arith, ints, k.0, k.1, n)
