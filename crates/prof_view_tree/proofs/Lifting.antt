-- Weights of rows, added to those of the rows that they stand on
use Rattle.std.proofs.Common.{◌≡◌, ℕ, zero, suc, ◌+◌, ◌<◌, ◌≤◌, ℤ, ◌+ℤ◌, Bool, true, false, cond, List, [], ◌∷◌, ◌++◌, length, take, get_or, set, get_or-set_other, length-set, length-take-le, Option, Some, None, inl, inr, sym, ap, ◌∙◌, subst, refl, arith}
use Rattle.std.specs.Option.{IfSome}
use Rattle.std.proofs.lemmas.Bool.{cases_eq}
use Rattle.std.proofs.lemmas.Int.{ints}
use Rattle.std.proofs.lemmas.List.{get_or-take}
use Rattle.std.proofs.Math.Seq.{take-set-lt}
use Rattle.prof_tables.specs.declared.rows.StackRow.{StackRow}
use Rattle.prof_tables.specs.Paths.{PrefixesBelow}
use Rattle.prof_view_tree.specs.Weighing.{joined, mass, prefix_of, stands_on, weight_of, weight_through}
use Rattle.prof_view_tree.proofs.Masses.{size-add}
use Rattle.prof_view_tree.proofs.Standing.{below_at, stands_before, stands_further, stands_prefix, stands_root, stands_same}

-- weights together
joined-none : (o : Option ℤ) → joined o None ≡ o
joined-none None = refl
joined-none (Some v) = refl

joined-order : (o p q : Option ℤ) → joined (joined o p) q ≡ joined o (joined p q)
joined-order None p q = refl
joined-order (Some v) None q = refl
joined-order (Some v) (Some w) None = refl
joined-order (Some v) (Some w) (Some x) = ap (λ z. Some z) (let e : (v +ℤ w) +ℤ x ≡ v +ℤ (w +ℤ x) = omega (arith, ints) in e)

joined-swap : (o p : Option ℤ) → joined o p ≡ joined p o
joined-swap None p = sym (joined-none p)
joined-swap (Some v) None = refl
joined-swap (Some v) (Some w) = ap (λ z. Some z) (let e : v +ℤ w ≡ w +ℤ v = omega (arith, ints) in e)

-- the last but one as the last
joined-last : (o p q : Option ℤ) → joined (joined o p) q ≡ joined (joined o q) p
joined-last o p q = joined-order o p q ∙ ap (joined o) (joined-swap p q) ∙ sym (joined-order o q p)

abbrev pub size : Option ℤ → ℕ
size o = mass (o ∷ [])

pub size-joined : (o p : Option ℤ) → size (joined o p) ≤ size o + size p
size-joined None p = omega arith
size-joined (Some v) None = omega arith
size-joined (Some v) (Some w) = omega (arith, size-add v w)

pub mass-first : (o : Option ℤ) (ws : List (Option ℤ)) → mass (o ∷ ws) ≡ size o + mass ws
mass-first None ws = omega arith
mass-first (Some v) ws = omega arith

mass-snoc : (ws : List (Option ℤ)) (o : Option ℤ) → mass (ws ++ o ∷ []) ≡ mass ws + size o
mass-snoc [] o = omega arith
mass-snoc (None ∷ ws) o = mass-snoc ws o
mass-snoc (Some v ∷ ws) o = omega (arith, mass-snoc ws o)

-- the weights once a row has more
abbrev pub with_joined : List (Option ℤ) → ℕ → Option ℤ → List (Option ℤ)
with_joined ws row o = set ws row (joined (get_or ws row None) o)

mass-joined : (ws : List (Option ℤ)) (row : ℕ) (o : Option ℤ) → row < length ws → mass (with_joined ws row o) ≤ mass ws + size o
mass-joined [] row o h = absurd (omega arith)
mass-joined (v ∷ ws) zero o h = omega (arith, mass-first v ws, mass-first (joined v o) ws, size-joined v o)
mass-joined (v ∷ ws) (suc row) o h = omega (arith, mass-first v ws, mass-first v (with_joined ws row o), mass-joined ws row o (omega arith))

-- the weights of the rows that pass a test
module _ (test : ℕ → Bool) where
  abbrev part : ℕ → Option ℤ → Option ℤ
  part row o = cond (test row) o None

  part-joined : (row : ℕ) (o p : Option ℤ) → part row (joined o p) ≡ joined (part row o) (part row p)
  part-joined row o p = by (test row)
    where
      by : (b : Bool) → cond b (joined o p) None ≡ joined (cond b o None) (cond b p None)
      by true = refl
      by false = refl

  weight_of-snoc : (first : ℕ) (ws : List (Option ℤ)) (o : Option ℤ) → weight_of test first (ws ++ o ∷ []) ≡ joined (weight_of test first ws) (part (first + length ws) o)
  weight_of-snoc first [] o = joined-none (part first o) ∙ ap (λ n. part n o) (let e : first ≡ first + 0 = omega arith in e)
  weight_of-snoc first (v ∷ ws) o =
      ap (joined (part first v)) (weight_of-snoc (suc first) ws o ∙ ap (λ n. joined (weight_of test (suc first) ws) (part n o)) (let e : suc first + length ws ≡ first + suc (length ws) = omega arith in e))
      ∙ sym (joined-order (part first v) (weight_of test (suc first) ws) (part (first + suc (length ws)) o))

  weight_of-joined : (first : ℕ) (ws : List (Option ℤ)) (row : ℕ) (o : Option ℤ) → row < length ws → weight_of test first (with_joined ws row o) ≡ joined (weight_of test first ws) (part (first + row) o)
  weight_of-joined first [] row o h = absurd (omega arith)
  weight_of-joined first (v ∷ ws) zero o h =
      ap (λ p. joined p (weight_of test (suc first) ws)) (part-joined first v o)
      ∙ joined-last (part first v) (part first o) (weight_of test (suc first) ws)
      ∙ ap (λ n. joined (joined (part first v) (weight_of test (suc first) ws)) (part n o)) (let e : first ≡ first + 0 = omega arith in e)
  weight_of-joined first (v ∷ ws) (suc row) o h =
      ap (joined (part first v)) (weight_of-joined (suc first) ws row o (omega arith) ∙ ap (λ n. joined (weight_of test (suc first) ws) (part n o)) (let e : suc first + row ≡ first + suc row = omega arith in e))
      ∙ sym (joined-order (part first v) (weight_of test (suc first) ws) (part (first + suc row) o))

  -- where no row passes there is no weight
  weight_of-none : (first : ℕ) (ws : List (Option ℤ)) → ((row : ℕ) → first ≤ row → row < first + length ws → test row ≡ false) → weight_of test first ws ≡ None
  weight_of-none first [] h = refl
  weight_of-none first (v ∷ ws) h =
      ap (λ b. joined (cond b v None) (weight_of test (suc first) ws)) (h first (omega arith) (omega arith))
      ∙ weight_of-none (suc first) ws (λ row k l. h row (omega arith) (omega arith))

  -- where a row passes that has a weight there is one
  pub weight_of-some : (first : ℕ) (ws : List (Option ℤ)) (row : ℕ) (w : ℤ) → get_or ws row None ≡ Some w → test (first + row) ≡ true → (v : ℤ) × (weight_of test first ws ≡ Some v)
  weight_of-some first [] row w e t = cc
  weight_of-some first (o ∷ ws) zero w e t = by (weight_of test (suc first) ws) refl
    where
      here : part first o ≡ Some w
      here = ap (λ b. cond b o None) (subst (λ n. test n ≡ true) (let k : first + 0 ≡ first = omega arith in k) t) ∙ e

      by : (rest : Option ℤ) → weight_of test (suc first) ws ≡ rest → (v : ℤ) × (joined (part first o) (weight_of test (suc first) ws) ≡ Some v)
      by None k = (w, ap (λ p. joined p (weight_of test (suc first) ws)) here ∙ ap (joined (Some w)) k)
      by (Some x) k = (w +ℤ x, ap (λ p. joined p (weight_of test (suc first) ws)) here ∙ ap (joined (Some w)) k)
  weight_of-some first (o ∷ ws) (suc row) w e t =
      let rest = weight_of-some (suc first) ws row w e (subst (λ n. test n ≡ true) (let k : first + suc row ≡ suc first + row = omega arith in k) t) in
      by (part first o) rest.0 rest.1
    where
      by : (p : Option ℤ) (x : ℤ) → weight_of test (suc first) ws ≡ Some x → (v : ℤ) × (joined p (weight_of test (suc first) ws) ≡ Some v)
      by None x k = (x, k)
      by (Some y) x k = (y +ℤ x, ap (joined (Some y)) k)

  -- and where there is one some row passes that has one
  pub weight_of-found : (first : ℕ) (ws : List (Option ℤ)) (w : ℤ) → weight_of test first ws ≡ Some w
      → (row : ℕ) × (v : ℤ) × (row < length ws) × (get_or ws row None ≡ Some v) × (test (first + row) ≡ true)
  weight_of-found first [] w e = cc
  weight_of-found first (o ∷ ws) w e = by (test first) refl o refl (λ k. weight_of-found (suc first) ws w k)
    where
      Found : Type 0
      Found = (row : ℕ) × (v : ℤ) × (row < length (o ∷ ws)) × (get_or (o ∷ ws) row None ≡ Some v) × (test (first + row) ≡ true)

      Later : Type 0
      Later = weight_of test (suc first) ws ≡ Some w → (row : ℕ) × (v : ℤ) × (row < length ws) × (get_or ws row None ≡ Some v) × (test (suc first + row) ≡ true)

      later : Later → weight_of test (suc first) ws ≡ Some w → Found
      later rest k =
          let f = rest k in
          (suc f.0, f.1, (let h = f.2 in omega arith), f.3, subst (λ n. test n ≡ true) (let k : suc first + f.0 ≡ first + suc f.0 = omega arith in k) f.4)

      by : (b : Bool) → test first ≡ b → (p : Option ℤ) → o ≡ p → Later → Found
      by true t (Some v) k rest = (zero, v, (omega arith), k, subst (λ n. test n ≡ true) (let k : first ≡ first + 0 = omega arith in k) t)
      by true t None k rest = later rest (ap (λ b. joined b (weight_of test (suc first) ws)) (sym (ap (λ b. cond b o None) t ∙ k)) ∙ e)
      by false t p k rest = later rest (ap (λ b. joined b (weight_of test (suc first) ws)) (sym (ap (λ b. cond b o None) t)) ∙ e)

pub take_next : (ws : List (Option ℤ)) (row : ℕ) (o : Option ℤ) → row < length ws → get_or ws row None ≡ o → take (suc row) ws ≡ take row ws ++ o ∷ []
take_next [] row o h e = absurd (omega arith)
take_next (v ∷ ws) zero o h e = ap (λ x. x ∷ []) e
take_next (v ∷ ws) (suc row) o h e = ap (λ l. v ∷ l) (take_next ws row o (omega arith) e)

take-joined : (ws : List (Option ℤ)) (n row : ℕ) (o : Option ℤ) → row < n → take n (with_joined ws row o) ≡ with_joined (take n ws) row o
take-joined ws n row o h = take-set-lt n ws row (joined (get_or ws row None) o) h ∙ ap (λ v. set (take n ws) row (joined v o)) (sym (get_or-take n ws row None h))

-- the weights as far as the rows from n on are lifted: these have what goes through them, and by the weights of the rows
-- before them the same goes through each of those as ever
pub record AreLifted (stacks : List StackRow) (own : List (Option ℤ)) (n : ℕ) (ws : List (Option ℤ)) : Type 0 where
  pub len : length ws ≡ length stacks
  pub light : mass (take n ws) ≤ mass own
  pub ahead : (base : ℕ) → base < n → weight_through stacks (take n ws) base ≡ weight_through stacks own base
  pub lifted : (row : ℕ) → n ≤ row → row < length stacks → get_or ws row None ≡ weight_through stacks own row

module _ (stacks : List StackRow) (below : PrefixesBelow stacks) (own : List (Option ℤ)) (row : ℕ) (inside : row < length stacks) (ws : List (Option ℤ)) (s : AreLifted stacks own (suc row) ws) where
  abbrev here : Option ℤ
  here = get_or ws row None

  abbrev front : List (Option ℤ)
  front = take row ws

  front-len : length front ≡ row
  front-len = length-take-le row ws (omega (arith, s.len))

  next : take (suc row) ws ≡ front ++ here ∷ []
  next = take_next ws row here (omega (arith, s.len)) refl

  -- of the rows up to this one
  with_here : (base : ℕ) → weight_through stacks (take (suc row) ws) base ≡ joined (weight_through stacks front base) (part (λ r. stands_on stacks r base) row here)
  with_here base =
      ap (λ l. weight_through stacks l base) next ∙ weight_of-snoc (λ r. stands_on stacks r base) 0 front here
      ∙ ap (λ n. joined (weight_through stacks front base) (part (λ r. stands_on stacks r base) n here)) (let e : 0 + length front ≡ row = omega (arith, front-len) in e)

  -- what goes through the row stands on it by now
  here_is : here ≡ weight_through stacks own row
  here_is =
      sym (sym (s.ahead row (omega arith)) ∙ with_here row
      ∙ ap (λ o. joined o (part (λ r. stands_on stacks r row) row here)) (weight_of-none (λ r. stands_on stacks r row) 0 front (λ r h k. stands_before stacks below r row (omega (arith, front-len)) (omega arith)))
      ∙ ap (λ b. cond b here None) (stands_same stacks below row inside))

  whole : mass (take (suc row) ws) ≡ mass front + size here
  whole = ap mass next ∙ mass-snoc front here

  stays : (r : ℕ) → row ≤ r → r < length stacks → get_or ws r None ≡ weight_through stacks own r
  stays r h k = elim (cases_eq row r) [
    | inl same ↦ subst (λ r. get_or ws r None ≡ weight_through stacks own r) same here_is
    | inr apart ↦ s.lifted r (omega (arith, apart)) k
  ]

  -- a row without a prefix
  pub lifted_root : prefix_of stacks row ≡ None → AreLifted stacks own row ws
  lifted_root e = record {
    len = s.len;
    light = omega (arith, s.light, whole);
    ahead = λ base h.
        sym (with_here base ∙ ap (λ b. joined (weight_through stacks front base) (cond b here None)) (stands_root stacks below row base inside (λ same. absurd (omega (arith, same))) e) ∙ joined-none (weight_through stacks front base))
        ∙ s.ahead base (omega arith);
    lifted = stays;
  }

  -- one with a prefix, which has its weight too then
  module _ (prefix : ℕ) (is : prefix_of stacks row ≡ Some prefix) where
    less : prefix < row
    less = below_at stacks below row prefix inside is

    new_front : take row (with_joined ws prefix here) ≡ with_joined front prefix here
    new_front = take-joined ws row prefix here less

    in_front : prefix < length front
    in_front = omega (arith, less, front-len)

    kept : (r : ℕ) → row ≤ r → get_or (with_joined ws prefix here) r None ≡ get_or ws r None
    kept r h = get_or-set_other ws prefix r (joined (get_or ws prefix None) here) None (λ e. absurd (omega (arith, e, less)))

    pub lifted_prefix : AreLifted stacks own row (with_joined ws prefix here)
    lifted_prefix = record {
      len = length-set ws prefix (joined (get_or ws prefix None) here) ∙ s.len;
      light = omega (arith, s.light, whole, ap mass new_front, mass-joined front prefix here in_front);
      ahead = λ base h.
          ap (λ l. weight_through stacks l base) new_front ∙ weight_of-joined (λ r. stands_on stacks r base) 0 front prefix here in_front
          ∙ ap (λ n. joined (weight_through stacks front base) (cond (stands_on stacks n base) here None)) (let e : 0 + prefix ≡ prefix = omega arith in e)
          ∙ sym (with_here base ∙ ap (λ b. joined (weight_through stacks front base) (cond b here None)) (stands_prefix stacks below row prefix base inside (λ same. absurd (omega (arith, same))) is))
          ∙ s.ahead base (omega arith);
      lifted = λ r h k. kept r h ∙ stays r h k;
    }

  -- what the loop does at a row
  pub lifted_next : (ws' : List (Option ℤ)) → (prefix_of stacks row ≡ None → ws' ≡ ws) → IfSome (prefix_of stacks row) (λ prefix. ws' ≡ with_joined ws prefix here) → AreLifted stacks own row ws'
  lifted_next ws' root above = by (prefix_of stacks row) refl
    where
      by : (o : Option ℕ) → prefix_of stacks row ≡ o → AreLifted stacks own row ws'
      by None e = subst (AreLifted stacks own row) (sym (root e)) (lifted_root e)
      by (Some prefix) e = subst (AreLifted stacks own row) (sym (subst (λ o. IfSome o (λ prefix. ws' ≡ with_joined ws prefix here)) e above)) (lifted_prefix prefix e)

-- what goes through a row goes through its prefix, and what stands on it goes through it
module _ (stacks : List StackRow) (below : PrefixesBelow stacks) (own : List (Option ℤ)) (len : length own ≡ length stacks) where
  at_row : (row base : ℕ) → stands_on stacks row base ≡ true → stands_on stacks (0 + row) base ≡ true
  at_row row base h = subst (λ n. stands_on stacks n base ≡ true) (let e : row ≡ 0 + row = omega arith in e) h

  from_row : (row base : ℕ) → stands_on stacks (0 + row) base ≡ true → stands_on stacks row base ≡ true
  from_row row base h = subst (λ n. stands_on stacks n base ≡ true) (let e : 0 + row ≡ row = omega arith in e) h

  pub prefix_found : (row prefix : ℕ) (w : ℤ) → row < length stacks → weight_through stacks own row ≡ Some w → prefix_of stacks row ≡ Some prefix → (v : ℤ) × (weight_through stacks own prefix ≡ Some v)
  prefix_found row prefix w h e is =
      let f = weight_of-found (λ r. stands_on stacks r row) 0 own w e in
      weight_of-some (λ r. stands_on stacks r prefix) 0 own f.0 f.1 f.3 (at_row f.0 prefix (stands_further stacks below f.0 row prefix (let k = f.2 in omega (arith, len)) h is (from_row f.0 row f.4)))

  pub own_found : (row : ℕ) (w : ℤ) → row < length stacks → get_or own row None ≡ Some w → (v : ℤ) × (weight_through stacks own row ≡ Some v)
  own_found row w h e = weight_of-some (λ r. stands_on stacks r row) 0 own row w e (at_row row row (stands_same stacks below row h))
