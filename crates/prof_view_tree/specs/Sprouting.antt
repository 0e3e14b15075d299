-- Rows of a tree out of stack rows, each by its prefix's.
use Rattle.std.specs.Prelude.{◌≡◌, ℕ, ◌*◌, ◌^◌, ◌<◌, ◌≤◌, ℤ, List, [], length, Option, Some, None, slice_get, slice_index_or}
use Rattle.prof_tables.specs.declared.rows.StackRow.{StackRow}
use Rattle.prof_tables.specs.Paths.{PrefixesBelow}
use Rattle.prof_path.specs.Shown.{funcs}
use Rattle.prof_tree.specs.declared.branch.Branch.{Branch}
use Rattle.prof_tree.specs.Forest.{key}
use Rattle.prof_tree.specs.Growing.{IsTable, Adds, Owns}
use Rattle.prof_view_tree.specs.Weighing.{held, mass, path_upto, row_path, weight_through}

-- stack rows, and the weights of the samples on each
pub record AreWeighed (stacks : List StackRow) (own : List (Option ℤ)) : Type 0 where
  pub below : PrefixesBelow stacks
  pub few : length stacks < 2 ^ 32
  pub len : length own ≡ length stacks
  pub light : mass own ≤ 8388608 * 9223372036854775808

-- a stack row, with the weight of the samples that go through it
pub record IsStack (stacks : List StackRow) (own : List (Option ℤ)) (n : ℕ) (stack : StackRow) (weight : Option ℤ) : Type 0 where
  pub row : slice_get stacks n ≡ Some stack
  pub through : weight ≡ weight_through stacks own n

-- the rows are the nodes of the paths as far as the first n stack rows make them, each of which has its node where a
-- sample goes through it
pub record AreSprouted (stacks : List StackRow) (own : List (Option ℤ)) (n : ℕ) (ks : List (List ℕ)) (rows : List Branch) (look : Option ℕ × ℕ → Option ℕ) (nodes : List (Option ℕ)) : Type 0 where
  pub table : IsTable ks rows look
  pub adds : Adds (held (path_upto stacks n) 0 own) ks rows
  pub owns : Owns [] ks rows
  pub len : length nodes ≡ n
  pub placed : (q m : ℕ) → slice_index_or nodes q None ≡ Some m → (m < length rows) × (key ks m ≡ funcs (row_path stacks q))
  pub found : (q : ℕ) (w : ℤ) → q < n → weight_through stacks own q ≡ Some w → (m : ℕ) × (slice_index_or nodes q None ≡ Some m)
