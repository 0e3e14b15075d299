-- The stack rows that stand at the nodes of a tree of reversed paths, with the weights of the samples that come to them there
use Rattle.std.specs.Prelude.{ℕ, ◌*◌, ◌+◌, ◌<◌, ◌≤◌, ℤ, unsigned_abs, List, [], ◌∷◌, ◌++◌, reverse, Vec, slice_get}
use Rattle.std.specs.Option.{option_map_or}
use Rattle.std.specs.declared.alloc.Global.{Global}
use Rattle.prof_tables.specs.declared.rows.StackRow.{StackRow}
use Rattle.prof_tables.specs.declared.rows.Step.{Step}
use Rattle.prof_tables.specs.Paths.{path}
use Rattle.prof_view_tree.specs.declared.groups.Entry.{Entry}
use Rattle.prof_tree.specs.Forest.{EachOf}
use Rattle.prof_tree.specs.Nodes.{Weighed}
use Rattle.prof_view_tree.specs.Weighing.{AreAlike, prefix_of}

-- what a row's path has above its own step, read from there
abbrev pub rest_path : List StackRow → ℕ → List Step
rest_path stacks row = reverse (path stacks (prefix_of stacks row))

-- the paths of entries, with their weights
abbrev pub bundle : (ℕ → List Step) → List Entry → List Weighed
bundle path_at [] = []
bundle path_at (e ∷ es) = record { steps = path_at e.row; weight = e.weight } ∷ bundle path_at es

-- the sizes of their weights together
abbrev pub bulk : List Entry → ℕ
bulk [] = 0
bulk (e ∷ es) = unsigned_abs e.weight + bulk es

-- entries of the first n rows
abbrev pub AreBelow : ℕ → List Entry → Type 0
AreBelow n es = EachOf (λ (e : Entry). e.row < n) es

-- entries of rows whose sums of weights fit
pub record AreEntries (n : ℕ) (es : List Entry) : Type 0 where
  pub rows : AreBelow n es
  pub light : bulk es ≤ 8388608 * 9223372036854775808

-- one more row with a weight, which may have joined an entry
pub record Joins (es : List Entry) (row : ℕ) (weight : ℤ) (new : List Entry) : Type 0 where
  pub paths : (path_at : ℕ → List Step) → AreAlike (bundle path_at es ++ record { steps = path_at row; weight = weight } ∷ []) (bundle path_at new)
  pub rows : (n : ℕ) → row < n → AreBelow n es → AreBelow n new
  pub light : bulk new ≤ bulk es + unsigned_abs weight

-- the entries of a node
abbrev pub group_at : List (Vec Entry Global) → ℕ → List Entry
group_at groups node = option_map_or (λ (g : Vec Entry Global). g.items) (slice_get groups node) []
