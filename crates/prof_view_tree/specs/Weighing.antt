-- What the samples of a thread weigh, added up by their stack rows.
use Rattle.std.specs.Prelude.{◌≡◌, ◌≢◌, ℕ, zero, suc, ◌*◌, ◌+◌, ◌<◌, ◌≤◌, ◌==◌, nat_lt, ℤ, pos, ◌+ℤ◌, unsigned_abs, Bool, if◌then◌else◌, List, [], ◌∷◌, ◌++◌, length, map, reverse, Option, Some, None, slice_set, slice_index_or, unwrap_or}
use Rattle.std.specs.List.{filter, list_all, list_any}
use Rattle.prof_tables.specs.declared.rows.SampleRow.{SampleRow}
use Rattle.prof_tables.specs.declared.rows.StackRow.{StackRow}
use Rattle.prof_tables.specs.declared.rows.Step.{Step}
use Rattle.prof_tables.specs.Threads.{ThreadTables}
use Rattle.prof_tables.specs.Paths.{path, step_of}
use Rattle.prof_view_tree.specs.declared.weighing.SampleWeights.{SampleWeights}
use Rattle.prof_tree.specs.Forest.{HasPrefix}
use Rattle.prof_tree.specs.Nodes.{Weighed, reversed, total_at, own_at, categories_at, total, dropped_of}

-- a sample's own path, with its weight, and those of a thread's samples
abbrev pub own_path : ThreadTables → SampleRow → Weighed
own_path t s = record { steps = path t.shared.stacks s.stack; weight = s.weight }

abbrev pub own_paths : ThreadTables → List Weighed
own_paths t = map (own_path t) t.samples

-- the path of each stack row
abbrev pub row_path : List StackRow → ℕ → List Step
row_path stacks row = path stacks (Some row)

-- the weight of a row, 0 where it has none, and the rows once it has more
abbrev pub weight_at : List (Option ℤ) → ℕ → ℤ
weight_at weights row = unwrap_or (slice_index_or weights row None) (pos 0)

abbrev pub with_more : List (Option ℤ) → ℕ → ℤ → List (Option ℤ)
with_more weights row more = slice_set weights row (Some (weight_at weights row +ℤ more))

-- the paths of the rows that have a weight, from a row on, with these weights
abbrev pub held : (ℕ → List Step) → ℕ → List (Option ℤ) → List Weighed
held path_at row [] = []
held path_at row (None ∷ weights) = held path_at (suc row) weights
held path_at row (Some weight ∷ weights) = record { steps = path_at row; weight = weight } ∷ held path_at (suc row) weights

-- the sizes of the weights together
abbrev pub mass : List (Option ℤ) → ℕ
mass [] = 0
mass (None ∷ weights) = mass weights
mass (Some weight ∷ weights) = unsigned_abs weight + mass weights

-- paths that make the same nodes: the same lists are prefixes, with the same sums of weights and the same categories
pub record AreAlike (xs ys : List Weighed) : Type 0 where
  pub totals : (p : List ℕ) → p ≢ [] → total_at xs p ≡ total_at ys p
  pub owns : (p : List ℕ) → p ≢ [] → own_at xs p ≡ own_at ys p
  pub categories : (p : List ℕ) → p ≢ [] → (test : ℕ → Bool) → list_all test (categories_at xs p) ≡ list_all test (categories_at ys p)
  pub forth : (p : List ℕ) → p ≢ [] → HasPrefix xs p → HasPrefix ys p
  pub back : (p : List ℕ) → p ≢ [] → HasPrefix ys p → HasPrefix xs p

-- the path of each stack row, read from its leaf
abbrev pub back_path : List StackRow → ℕ → List Step
back_path stacks row = reverse (row_path stacks row)

-- the weights are those of these paths of samples, by their rows, all together, and of those without a step
pub record Weighs (stacks : List StackRow) (xs : List Weighed) (w : SampleWeights) : Type 0 where
  pub len : length w.by_row.items ≡ length stacks
  pub alike : AreAlike (held (row_path stacks) 0 w.by_row.items) xs
  pub backward : AreAlike (held (back_path stacks) 0 w.by_row.items) (map reversed xs)
  pub selected : w.selected ≡ total xs
  pub dropped : w.dropped ≡ dropped_of xs
  -- weights are of 64 bits
  pub light : mass w.by_row.items ≤ length xs * 9223372036854775808
  pub light_selected : unsigned_abs w.selected ≤ length xs * 9223372036854775808
  pub light_dropped : unsigned_abs w.dropped ≤ length xs * 9223372036854775808

-- the prefix of a row
abbrev pub no_row : StackRow
no_row = record { prefix = None; func = 0; category = 0 }

abbrev pub prefix_of : List StackRow → ℕ → Option ℕ
prefix_of stacks row = (slice_index_or stacks row no_row).prefix

-- the rows of a path, the last n at most: those of its row's prefix, and then the row
abbrev pub rows_within : List StackRow → ℕ → Option ℕ → List ℕ
rows_within stacks zero stack = []
rows_within stacks (suc n) None = []
rows_within stacks (suc n) (Some row) = rows_within stacks n (prefix_of stacks row) ++ row ∷ []

abbrev pub path_rows : List StackRow → Option ℕ → List ℕ
path_rows stacks stack = rows_within stacks (length stacks) stack

-- the row is the base, or stands on it
abbrev pub stands_on : List StackRow → ℕ → ℕ → Bool
stands_on stacks row base = list_any (λ r. r == base) (path_rows stacks (Some row))

-- two weights together, where there are two
abbrev pub joined : Option ℤ → Option ℤ → Option ℤ
joined None more = more
joined (Some weight) None = Some weight
joined (Some weight) (Some more) = Some (weight +ℤ more)

-- the weights of the rows that pass a test, from a row on, together: none where no such row has one
abbrev pub weight_of : (ℕ → Bool) → ℕ → List (Option ℤ) → Option ℤ
weight_of test row [] = None
weight_of test row (weight ∷ weights) = joined (if test row then weight else None) (weight_of test (suc row) weights)

-- the weight of the samples that go through a row, where `own` has that of those that stand on each row
abbrev pub weight_through : List StackRow → List (Option ℤ) → ℕ → Option ℤ
weight_through stacks own base = weight_of (λ row. stands_on stacks row base) 0 own

-- each row has the weight of the samples that go through it
pub record AreThrough (stacks : List StackRow) (own weights : List (Option ℤ)) : Type 0 where
  pub len : length weights ≡ length stacks
  pub each : (row : ℕ) → row < length stacks → slice_index_or weights row None ≡ weight_through stacks own row

-- the steps of a row's path that the first n rows make
abbrev pub path_upto : List StackRow → ℕ → ℕ → List Step
path_upto stacks n row = map (λ r. step_of (slice_index_or stacks r no_row)) (filter (λ r. nat_lt r n) (path_rows stacks (Some row)))
