-- The path of a row is that of its prefix and its own step, and appended rows leave it as it is.
use Rattle.std.proofs.Common.{◌≡◌, ℕ, zero, suc, ◌<◌, ◌≤◌, List, [], ◌∷◌, ◌++◌, length, Option, Some, None, ap, ◌∙◌, refl, arith, length-append}
use Rattle.std.specs.Prelude.{slice_get, IfSome}
use Rattle.std.specs.Option.{option_map_or}
use Rattle.std.proofs.lemmas.Option.{slice_get_within}
use Rattle.prof_tables.specs.declared.rows.StackRow.{StackRow}
use Rattle.prof_tables.specs.declared.rows.Step.{Step}
use Rattle.prof_tables.specs.Paths.{path_within, path, step_of, PrefixesBelow}

-- how many steps a path has at most
abbrev steps_upto : Option ℕ → ℕ
steps_upto None = 0
steps_upto (Some r) = suc r

upto-below : (o : Option ℕ) (r : ℕ) → IfSome o (λ p. p < r) → steps_upto o ≤ r
upto-below None r h = omega arith
upto-below (Some p) r h = omega arith

-- the path by a row that was looked up
abbrev through : List StackRow → ℕ → Option StackRow → List Step
through rows n found = option_map_or (λ (row : StackRow). path_within rows n row.prefix ++ step_of row ∷ []) found []

path_within-enough : (rows : List StackRow) → PrefixesBelow rows → (n m : ℕ) (o : Option ℕ) → steps_upto o ≤ n → steps_upto o ≤ m → path_within rows n o ≡ path_within rows m o
path_within-enough rows p zero zero o h k = refl
path_within-enough rows p zero (suc m) None h k = refl
path_within-enough rows p zero (suc m) (Some r) h k = absurd (omega arith)
path_within-enough rows p (suc n) zero None h k = refl
path_within-enough rows p (suc n) zero (Some r) h k = absurd (omega arith)
path_within-enough rows p (suc n) (suc m) None h k = refl
path_within-enough rows p (suc n) (suc m) (Some r) h k =
    elim (slice_get rows r) as (λ g. slice_get rows r ≡ g → through rows n g ≡ through rows m g) [
      | None ↦ λ e. refl
      | Some row ↦ λ e.
          let below : steps_upto row.prefix ≤ r = upto-below row.prefix r (p r row e) in
          ap (λ x. x ++ step_of row ∷ []) (path_within-enough rows p n m row.prefix (omega arith) (omega arith))
    ] refl

-- the path of a row
pub path-row : (rows : List StackRow) (r : ℕ) (row : StackRow) → PrefixesBelow rows → slice_get rows r ≡ Some row → path rows (Some r) ≡ path rows row.prefix ++ step_of row ∷ []
path-row rows r row p e = go (length rows) refl (slice_get_within rows r row e)
  where
    go : (n : ℕ) → length rows ≡ n → r < n → path_within rows n (Some r) ≡ path_within rows (length rows) row.prefix ++ step_of row ∷ []
    go zero same lt = absurd (omega arith)
    go (suc n) same lt =
        ap (through rows n) e
        ∙ ap (λ x. x ++ step_of row ∷ []) (path_within-enough rows p n (length rows) row.prefix
        (let b = upto-below row.prefix r (p r row e) in omega arith) (let b = upto-below row.prefix r (p r row e) in omega arith))

-- a row stands where it stood before more were appended
slice_get-append : {A : Type 0} (rows more : List A) (i : ℕ) → i < length rows → slice_get (rows ++ more) i ≡ slice_get rows i
slice_get-append [] more i h = absurd (omega arith)
slice_get-append (x ∷ rows) more zero h = refl
slice_get-append (x ∷ rows) more (suc i) h = slice_get-append rows more i (omega arith)

path_within-append : (rows more : List StackRow) → PrefixesBelow rows → (n : ℕ) (o : Option ℕ) → IfSome o (λ r. r < length rows) → path_within (rows ++ more) n o ≡ path_within rows n o
path_within-append rows more p zero o h = refl
path_within-append rows more p (suc n) None h = refl
path_within-append rows more p (suc n) (Some r) h =
    ap (through (rows ++ more) n) (slice_get-append rows more r h)
    ∙ elim (slice_get rows r) as (λ g. slice_get rows r ≡ g → through (rows ++ more) n g ≡ through rows n g) [
      | None ↦ λ e. refl
      | Some row ↦ λ e. ap (λ x. x ++ step_of row ∷ []) (path_within-append rows more p n row.prefix (inside row.prefix (p r row e)))
    ] refl
  where
    inside : (o : Option ℕ) → IfSome o (λ q. q < r) → IfSome o (λ q. q < length rows)
    inside None b = tt
    inside (Some q) b = omega arith

-- appended rows leave the paths of the earlier rows
pub path-append : (rows more : List StackRow) (stack : Option ℕ) → PrefixesBelow rows → IfSome stack (λ i. i < length rows) → path (rows ++ more) stack ≡ path rows stack
path-append rows more stack p h =
    path_within-append rows more p (length (rows ++ more)) stack h
    ∙ path_within-enough rows p (length (rows ++ more)) (length rows) stack (omega (arith, length-append rows more, upto-below stack (length rows) h)) (upto-below stack (length rows) h)
