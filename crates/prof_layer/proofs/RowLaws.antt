-- Rows of paths, as rows are added
use Rattle.std.proofs.Common.{◌≡◌, ℕ, ◌+◌, ◌<◌, ◌≤◌, List, [], ◌∷◌, ◌++◌, length, Option, None, Some, sym, ap, ◌∙◌, refl, arith, length-append}
use Rattle.std.specs.Prelude.{IfSome}
use Rattle.prof_tables.specs.declared.rows.Step.{Step}
use Rattle.prof_tables.specs.declared.rows.StackRow.{StackRow}
use Rattle.prof_tables.specs.Paths.{path, step_of, PrefixesBelow}
use Rattle.prof_tables.proofs.PathLemmas.{path-row, path-append}
use Rattle.prof_tables.proofs.RowLemmas.{PrefixesBelow-push}
use Rattle.prof_layer.specs.declared.acts.Act.{Act}
use Rattle.prof_layer.specs.declared.acts.Act.TheVariants.{Stay, Below, Empty, Back}
use Rattle.prof_layer.specs.declared.passing.Place.{Place}
use Rattle.prof_layer.specs.Acts.{acted}
use Rattle.prof_layer.specs.Rewritten.{IsRowOf}
use Rattle.prof_layer.specs.Passing.{out_after, rows_after}
use Rattle.prof_raw.proofs.PushLemmas.{slice_get-push_last}

-- no stack has the empty path
pub path-none : (rows : List StackRow) → path rows None ≡ []
path-none [] = refl
path-none (r ∷ rows) = refl

-- the row of a path is the same one after more rows
pub IsRowOf-append : (rows more : List StackRow) (entry : Option ℕ) (y : List Step) → PrefixesBelow rows → IsRowOf rows entry y → IsRowOf (rows ++ more) entry y
IsRowOf-append rows more None y p h = h
IsRowOf-append rows more (Some q) y p h = (omega (arith, length-append rows more, h.0), path-append rows more (Some q) p h.0 ∙ h.1)

-- the path of an entry
pub entry-path : (rows : List StackRow) (entry : Option ℕ) (y : List Step) → IsRowOf rows entry y → path rows entry ≡ y
entry-path rows None y h = path-none rows ∙ sym h
entry-path rows (Some q) y h = h.1

pub entry-below : (rows : List StackRow) (entry : Option ℕ) (y : List Step) → IsRowOf rows entry y → IfSome entry (λ q. q < length rows)
entry-below rows None y h = tt
entry-below rows (Some q) y h = h.0

-- a row below an entry has the path that goes on with its step
pub row-below : (rows : List StackRow) (row : StackRow) (y : List Step) → PrefixesBelow rows → IsRowOf rows row.prefix y → IsRowOf (rows ++ row ∷ []) (Some (length rows)) (y ++ step_of row ∷ [])
row-below rows row y p h = (
  omega (arith, length-append rows (row ∷ [])),
  path-row (rows ++ row ∷ []) (length rows) row (PrefixesBelow-push rows row p (entry-below rows row.prefix y h)) (slice_get-push_last rows row)
      ∙ ap (λ x. x ++ step_of row ∷ []) (entry-path (rows ++ row ∷ []) row.prefix y (IsRowOf-append rows (row ∷ []) row.prefix y p h)),
)

-- an act on a path is an act on its row
pub act-row : (a : Act) (rows : List StackRow) (above : Place) (y first : List Step) → PrefixesBelow rows → IsRowOf rows above.out y → IsRowOf rows above.first first
    → IsRowOf (rows_after a above rows) (out_after a above (length rows)) (acted a y first)
act-row Stay rows above y first p o f = o
act-row (Below s) rows above y first p o f = row-below rows (record { prefix = above.out; func = s.func; category = s.category }) y p o
act-row Empty rows above y first p o f = refl
act-row Back rows above y first p o f = f

-- the rows that an act adds, of which there is one at most
pub rows_after-prefixes : (a : Act) (rows : List StackRow) (above : Place) → PrefixesBelow rows → IfSome above.out (λ p. p < length rows) → PrefixesBelow (rows_after a above rows)
rows_after-prefixes Stay rows above p h = p
rows_after-prefixes (Below s) rows above p h = PrefixesBelow-push rows (record { prefix = above.out; func = s.func; category = s.category }) p h
rows_after-prefixes Empty rows above p h = p
rows_after-prefixes Back rows above p h = p

pub rows_after-length : (a : Act) (rows : List StackRow) (above : Place) → length (rows_after a above rows) ≤ length rows + 1
rows_after-length Stay rows above = omega arith
rows_after-length (Below s) rows above = omega (arith, length-append rows (record { prefix = above.out; func = s.func; category = s.category } ∷ []))
rows_after-length Empty rows above = omega arith
rows_after-length Back rows above = omega arith

pub IsRowOf-after : (a : Act) (rows : List StackRow) (above : Place) (entry : Option ℕ) (y : List Step) → PrefixesBelow rows → IsRowOf rows entry y → IsRowOf (rows_after a above rows) entry y
IsRowOf-after Stay rows above entry y p h = h
IsRowOf-after (Below s) rows above entry y p h = IsRowOf-append rows (record { prefix = above.out; func = s.func; category = s.category } ∷ []) entry y p h
IsRowOf-after Empty rows above entry y p h = h
IsRowOf-after Back rows above entry y p h = h
