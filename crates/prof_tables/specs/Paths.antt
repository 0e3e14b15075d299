-- The paths of stack rows.
use Rattle.std.specs.Prelude.{◌≡◌, ℕ, zero, suc, ◌<◌, List, [], ◌∷◌, ◌++◌, length, Option, Some, None, slice_get, IfSome}
use Rattle.std.specs.Option.{option_map_or}
use Rattle.prof_tables.specs.declared.rows.Step.{Step}
use Rattle.prof_tables.specs.declared.rows.StackRow.{StackRow}

-- the step of a row
abbrev pub step_of : StackRow → Step
step_of row = record { func = row.func; category = row.category }

-- the last n steps, at most, of the path that ends at a row
abbrev pub path_within : List StackRow → ℕ → Option ℕ → List Step
path_within rows zero stack = []
path_within rows (suc n) None = []
path_within rows (suc n) (Some r) = option_map_or
    (λ (row : StackRow). path_within rows n row.prefix ++ step_of row ∷ []) (slice_get rows r) []

-- the path of a stack: that of its row's prefix, and then its row's step
abbrev pub path : List StackRow → Option ℕ → List Step
path rows stack = path_within rows (length rows) stack

-- each prefix is a smaller row
abbrev pub PrefixesBelow : List StackRow → Type 0
PrefixesBelow rows = (i : ℕ) (row : StackRow) → slice_get rows i ≡ Some row → IfSome row.prefix (λ p. p < i)
