-- The rows that make a path
use Rattle.std.proofs.Common.{◌≡◌, ◌≢◌, ℕ, zero, suc, ◌<◌, ◌≤◌, Bool, true, false, cond, ◌||◌, eqb, ltb, List, [], ◌∷◌, ◌++◌, length, map, get_or, Option, Some, None, inl, inr, sym, ap, ◌∙◌, subst, refl, arith}
use Rattle.std.specs.List.{filter, list_any}
use Rattle.std.specs.Option.{IfSome, option_map_or}
use Rattle.std.proofs.lemmas.Bool.{cases_order, false≢true, lt-ltb, le-ltb, ne_eqb}
use Rattle.std.proofs.lemmas.List.{append-nil, map-append}
use Rattle.std.proofs.Math.Bool.{or-false, or-true}
use Rattle.std.proofs.lemmas.List.Elements.{filter-append}
use Rattle.std.proofs.lemmas.List.Folds.{list_any-append}
use Rattle.std.proofs.lemmas.Option.{slice_get-get_or}
use Rattle.prof_tables.specs.declared.rows.StackRow.{StackRow}
use Rattle.prof_tables.specs.declared.rows.Step.{Step}
use Rattle.prof_tables.specs.Paths.{PrefixesBelow, path, path_within, step_of}
use Rattle.prof_view_tree.specs.Weighing.{no_row, path_rows, path_upto, prefix_of, row_path, rows_within, stands_on}
use Rattle.prof_tree.proofs.PathSteps.{number_same}

-- whether a row is in a list, and those of a list before a row
abbrev pub has : List ℕ → ℕ → Bool
has rows base = list_any (λ r. eqb r base) rows

abbrev pub before : ℕ → List ℕ → List ℕ
before n rows = filter (λ r. ltb r n) rows

abbrev step_at : List StackRow → ℕ → Step
step_at stacks r = step_of (get_or stacks r no_row)

-- one more row
has-snoc : (rows : List ℕ) (r base : ℕ) → has (rows ++ r ∷ []) base ≡ (has rows base || eqb r base)
has-snoc rows r base = list_any-append (λ r. eqb r base) rows (r ∷ []) ∙ ap (λ b. has rows base || b) (or-false (eqb r base))

has-last : (rows : List ℕ) (base : ℕ) → has (rows ++ base ∷ []) base ≡ true
has-last rows base = has-snoc rows base base ∙ ap (λ b. has rows base || b) (number_same base base refl) ∙ or-true (has rows base)

has-other : (rows : List ℕ) (r base : ℕ) → r ≢ base → has (rows ++ r ∷ []) base ≡ has rows base
has-other rows r base n = has-snoc rows r base ∙ ap (λ b. has rows base || b) (ne_eqb r base n) ∙ or-false (has rows base)

before-yes : (n : ℕ) (rows : List ℕ) (r : ℕ) → r < n → before n (rows ++ r ∷ []) ≡ before n rows ++ r ∷ []
before-yes n rows r h = filter-append (λ r. ltb r n) rows (r ∷ []) ∙ ap (λ b. before n rows ++ cond b (r ∷ []) []) (lt-ltb r n h)

before-no : (n : ℕ) (rows : List ℕ) (r : ℕ) → n ≤ r → before n (rows ++ r ∷ []) ≡ before n rows
before-no n rows r h = filter-append (λ r. ltb r n) rows (r ∷ []) ∙ ap (λ b. before n rows ++ cond b (r ∷ []) []) (le-ltb r n h) ∙ append-nil (before n rows)

-- the rows before the next one are those before a row that isn't there
pub before_same : (n : ℕ) (rows : List ℕ) → has rows n ≡ false → before (suc n) rows ≡ before n rows
before_same n [] h = refl
before_same n (r ∷ rows) h =
    let apart : eqb r n ≡ false = left (eqb r n) (has rows n) h in
    let rest : before (suc n) rows ≡ before n rows = before_same n rows (right (eqb r n) (has rows n) h) in
    ap (λ b. cond b (r ∷ before (suc n) rows) (before (suc n) rows)) (same_test r n apart) ∙ ap (λ l. cond (ltb r n) (r ∷ l) l) rest
  where
    left : (a b : Bool) → (a || b) ≡ false → a ≡ false
    left true b e = e
    left false b e = refl

    right : (a b : Bool) → (a || b) ≡ false → b ≡ false
    right true b e = absurd (false≢true (sym e))
    right false b e = e

    same_test : (r n : ℕ) → eqb r n ≡ false → ltb r (suc n) ≡ ltb r n
    same_test r n e = elim (cases_order r n) [
      | inl same ↦ absurd (false≢true (sym e ∙ number_same r n same))
      | inr c ↦ elim c [
        | inl h ↦ lt-ltb r (suc n) (omega arith) ∙ sym (lt-ltb r n h)
        | inr h ↦ le-ltb r (suc n) h ∙ sym (le-ltb r n (omega arith))
      ]
    ]

pub has-before : (n : ℕ) (rows : List ℕ) (base : ℕ) → has (before n rows) base ≡ true → has rows base ≡ true
has-before n [] base h = h
has-before n (r ∷ rows) base h =
    elim (ltb r n) as (λ b. has (cond b (r ∷ before n rows) (before n rows)) base ≡ true → (eqb r base || has rows base) ≡ true) [
      | true ↦ λ k. both (eqb r base) (has (before n rows) base) (has rows base) k (has-before n rows base)
      | false ↦ λ k. ap (λ b. eqb r base || b) (has-before n rows base k) ∙ or-true (eqb r base)
    ] h
  where
    both : (a b c : Bool) → (a || b) ≡ true → (b ≡ true → c ≡ true) → (a || c) ≡ true
    both true b c e f = refl
    both false b c e f = f e

pub before_zero : (rows : List ℕ) → before 0 rows ≡ []
before_zero [] = refl
before_zero (r ∷ rows) = ap (λ b. cond b (r ∷ before 0 rows) (before 0 rows)) (le-ltb r 0 (omega arith)) ∙ before_zero rows

weaker : (o : Option ℕ) (m n : ℕ) → m ≤ n → IfSome o (λ p. p < m) → IfSome o (λ p. p < n)
weaker None m n h k = tt
weaker (Some p) m n h k = omega arith

module _ (stacks : List StackRow) (below : PrefixesBelow stacks) where
  above_below : (row : ℕ) → row < length stacks → IfSome (prefix_of stacks row) (λ p. p < row)
  above_below row h = below row (get_or stacks row no_row) (slice_get-get_or stacks row no_row h)

  pub below_at : (row prefix : ℕ) → row < length stacks → prefix_of stacks row ≡ Some prefix → prefix < row
  below_at row prefix h e = subst (λ o. IfSome o (λ p. p < row)) e (above_below row h)

  -- enough of a path is all of it
  rows-enough : (n m : ℕ) (o : Option ℕ) → n ≤ length stacks → IfSome o (λ r. r < n) → IfSome o (λ r. r < m) → rows_within stacks n o ≡ rows_within stacks m o
  rows-enough zero zero None l h k = refl
  rows-enough zero (suc m) None l h k = refl
  rows-enough (suc n) zero None l h k = refl
  rows-enough (suc n) (suc m) None l h k = refl
  rows-enough zero m (Some r) l h k = absurd (omega arith)
  rows-enough (suc n) zero (Some r) l h k = absurd (omega arith)
  rows-enough (suc n) (suc m) (Some r) l h k =
      let above = above_below r (omega arith) in
      ap (λ x. x ++ r ∷ []) (rows-enough n m (prefix_of stacks r) (omega arith) (weaker (prefix_of stacks r) r n (omega arith) above) (weaker (prefix_of stacks r) r m (omega arith) above))

  within_next : (n row : ℕ) → row < n → n ≤ length stacks → rows_within stacks n (Some row) ≡ path_rows stacks (prefix_of stacks row) ++ row ∷ []
  within_next zero row h l = absurd (omega arith)
  within_next (suc n) row h l =
      let above = above_below row (omega arith) in
      ap (λ x. x ++ row ∷ []) (rows-enough n (length stacks) (prefix_of stacks row) (omega arith) (weaker (prefix_of stacks row) row n (omega arith) above) (weaker (prefix_of stacks row) row (length stacks) (omega arith) above))

  -- a row's path is its prefix's, and the row
  pub rows_next : (row : ℕ) → row < length stacks → path_rows stacks (Some row) ≡ path_rows stacks (prefix_of stacks row) ++ row ∷ []
  rows_next row h = within_next (length stacks) row h (omega arith)

  -- a path has no row behind its own
  before_all : (n : ℕ) (o : Option ℕ) (m : ℕ) → m ≤ length stacks → IfSome o (λ r. r < m) → before m (rows_within stacks n o) ≡ rows_within stacks n o
  before_all zero o m l h = refl
  before_all (suc n) None m l h = refl
  before_all (suc n) (Some r) m l h =
      before-yes m (rows_within stacks n (prefix_of stacks r)) r h
      ∙ ap (λ x. x ++ r ∷ []) (before_all n (prefix_of stacks r) m l (weaker (prefix_of stacks r) r m (omega arith) (above_below r (omega arith))))

  none_behind : (n : ℕ) (o : Option ℕ) (base : ℕ) → base ≤ length stacks → IfSome o (λ r. r < base) → has (rows_within stacks n o) base ≡ false
  none_behind zero o base l h = refl
  none_behind (suc n) None base l h = refl
  none_behind (suc n) (Some r) base l h =
      has-other (rows_within stacks n (prefix_of stacks r)) r base (λ e. absurd (omega (arith, e)))
      ∙ none_behind n (prefix_of stacks r) base l (weaker (prefix_of stacks r) r base (omega arith) (above_below r (omega arith)))

  pub stands_before : (row base : ℕ) → row < base → base ≤ length stacks → stands_on stacks row base ≡ false
  stands_before row base h l = none_behind (length stacks) (Some row) base l h

  pub stands_same : (row : ℕ) → row < length stacks → stands_on stacks row row ≡ true
  stands_same row h = ap (λ l. has l row) (rows_next row h) ∙ has-last (path_rows stacks (prefix_of stacks row)) row

  -- what else a row stands on is what its prefix stands on
  pub stands_root : (row base : ℕ) → row < length stacks → row ≢ base → prefix_of stacks row ≡ None → stands_on stacks row base ≡ false
  stands_root row base h n e =
      ap (λ l. has l base) (rows_next row h) ∙ has-other (path_rows stacks (prefix_of stacks row)) row base n
      ∙ ap (λ o. has (path_rows stacks o) base) e ∙ none_of (length stacks)
    where
      none_of : (n : ℕ) → has (rows_within stacks n None) base ≡ false
      none_of zero = refl
      none_of (suc n) = refl

  pub stands_prefix : (row prefix base : ℕ) → row < length stacks → row ≢ base → prefix_of stacks row ≡ Some prefix → stands_on stacks row base ≡ stands_on stacks prefix base
  stands_prefix row prefix base h n e =
      ap (λ l. has l base) (rows_next row h) ∙ has-other (path_rows stacks (prefix_of stacks row)) row base n
      ∙ ap (λ o. has (path_rows stacks o) base) e

  rows_of_none : (n : ℕ) → rows_within stacks n None ≡ []
  rows_of_none zero = refl
  rows_of_none (suc n) = refl

  -- of a path that goes through a row the front before it is the path of its prefix, and with the row its own
  module _ (base : ℕ) (inside : base < length stacks) where
    abbrev Fronts : List ℕ → Type 0
    Fronts rows = (before base rows ≡ path_rows stacks (prefix_of stacks base)) × (before (suc base) rows ≡ path_rows stacks (Some base))

    front_here : Fronts (path_rows stacks (prefix_of stacks base) ++ base ∷ [])
    front_here =
        let rows = path_rows stacks (prefix_of stacks base) in
        let above = above_below base inside in (
          before-no base rows base (omega arith) ∙ before_all (length stacks) (prefix_of stacks base) base (omega arith) above,
          before-yes (suc base) rows base (omega arith)
              ∙ ap (λ x. x ++ base ∷ []) (before_all (length stacks) (prefix_of stacks base) (suc base) (omega arith) (weaker (prefix_of stacks base) base (suc base) (omega arith) above))
              ∙ sym (rows_next base inside),
        )

    fronts : (n row : ℕ) → row < n → n ≤ length stacks → has (rows_within stacks n (Some row)) base ≡ true → Fronts (rows_within stacks n (Some row))
    fronts zero row h l e = absurd (omega arith)
    fronts (suc n) row h l e = elim (cases_order row base) [
      | inl same ↦ subst (λ r. Fronts (rows_within stacks (suc n) (Some r))) (sym same) (subst Fronts (sym (within_next (suc n) base (omega arith) l)) front_here)
      | inr c ↦ elim c [
        | inl lt ↦ absurd (false≢true (sym (none_behind (suc n) (Some row) base (omega arith) lt) ∙ e))
        | inr gt ↦
            let rest = rows_within stacks n (prefix_of stacks row) in
            let k : has rest base ≡ true = sym (has-other rest row base (λ same. absurd (omega (arith, same)))) ∙ e in
            let f : Fronts rest = by (prefix_of stacks row) refl (λ p b k. fronts n p b (omega arith) k) k in
            (before-no base rest row (omega arith) ∙ f.0, before-no (suc base) rest row gt ∙ f.1)
      ]
    ]
      where
        by : (o : Option ℕ) → prefix_of stacks row ≡ o → ((p : ℕ) → p < n → has (rows_within stacks n (Some p)) base ≡ true → Fronts (rows_within stacks n (Some p))) → has (rows_within stacks n o) base ≡ true → Fronts (rows_within stacks n o)
        by None same rest k = absurd (false≢true (sym (ap (λ l. has l base) (rows_of_none n)) ∙ k))
        by (Some p) same rest k = rest p (let b = below_at row p (omega arith) same in omega arith) k

  -- what goes through a row goes through its prefix
  pub stands_further : (row base prefix : ℕ) → row < length stacks → base < length stacks → prefix_of stacks base ≡ Some prefix → stands_on stacks row base ≡ true → stands_on stacks row prefix ≡ true
  stands_further row base prefix h l e k =
      has-before base (path_rows stacks (Some row)) prefix
      (ap (λ x. has x prefix) ((fronts base l (length stacks) row h (omega arith) k).0 ∙ ap (path_rows stacks) e)
      ∙ stands_same prefix (let b = below_at base prefix l e in omega arith))

  -- the steps of a path's rows are its steps
  abbrev pub steps_of : List ℕ → List Step
  steps_of rows = map (step_at stacks) rows

  within_steps : (n : ℕ) (o : Option ℕ) → IfSome o (λ r. r < length stacks) → path_within stacks n o ≡ steps_of (rows_within stacks n o)
  within_steps zero o h = refl
  within_steps (suc n) None h = refl
  within_steps (suc n) (Some r) h =
      ap (λ o. option_map_or (λ (row : StackRow). path_within stacks n row.prefix ++ step_of row ∷ []) o []) (slice_get-get_or stacks r no_row h)
      ∙ ap (λ x. x ++ step_at stacks r ∷ []) (within_steps n (prefix_of stacks r) (weaker (prefix_of stacks r) r (length stacks) (omega arith) (above_below r h)))
      ∙ sym (map-append (step_at stacks) (rows_within stacks n (prefix_of stacks r)) (r ∷ []))

  path_steps : (o : Option ℕ) → IfSome o (λ r. r < length stacks) → path stacks o ≡ steps_of (path_rows stacks o)
  path_steps o h = within_steps (length stacks) o h

  -- the part of a path that the first n rows make
  pub upto_first : (row : ℕ) → path_upto stacks 0 row ≡ []
  upto_first row = ap steps_of (before_zero (path_rows stacks (Some row)))

  pub upto_all : (row : ℕ) → row < length stacks → path_upto stacks (length stacks) row ≡ row_path stacks row
  upto_all row h = ap steps_of (before_all (length stacks) (Some row) (length stacks) (omega arith) h) ∙ sym (path_steps (Some row) h)

  pub upto_other : (base row : ℕ) → stands_on stacks row base ≡ false → path_upto stacks (suc base) row ≡ path_upto stacks base row
  upto_other base row e = ap steps_of (before_same base (path_rows stacks (Some row)) e)

  pub upto_above : (base row : ℕ) → row < length stacks → base < length stacks → stands_on stacks row base ≡ true → path_upto stacks base row ≡ path stacks (prefix_of stacks base)
  upto_above base row h l e =
      ap steps_of (fronts base l (length stacks) row h (omega arith) e).0
      ∙ sym (path_steps (prefix_of stacks base) (weaker (prefix_of stacks base) base (length stacks) (omega arith) (above_below base l)))

  pub upto_here : (base row : ℕ) → row < length stacks → base < length stacks → stands_on stacks row base ≡ true → path_upto stacks (suc base) row ≡ row_path stacks base
  upto_here base row h l e = ap steps_of (fronts base l (length stacks) row h (omega arith) e).1 ∙ sym (path_steps (Some base) l)
