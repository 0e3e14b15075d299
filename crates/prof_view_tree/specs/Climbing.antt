-- The rows of a tree of paths that are read from their leaves, while its nodes come one behind the other
use Rattle.std.specs.Prelude.{◌≡◌, ◌≢◌, ℕ, ◌^◌, ◌<◌, ◌≤◌, ◌==◌, ℤ, List, [], ◌∷◌, ◌++◌, length, Option, Some, Vec, if◌then◌else◌}
use Rattle.std.specs.declared.alloc.Global.{Global}
use Rattle.prof_tables.specs.declared.rows.StackRow.{StackRow}
use Rattle.prof_tables.specs.declared.rows.Step.{Step}
use Rattle.prof_tree.specs.declared.branch.Branch.{Branch}
use Rattle.prof_view_tree.specs.declared.groups.Entry.{Entry}
use Rattle.prof_tree.specs.Forest.{HasPrefix, key, key_above, branch}
use Rattle.prof_view_tree.specs.Groups.{AreEntries, AreBelow, bulk, bundle, group_at, rest_path}
use Rattle.prof_tree.specs.Growing.{IsTable}
use Rattle.prof_tree.specs.Nodes.{Weighed, total_at, common, categories_at, keys_of, node_limit}
use Rattle.prof_view_tree.specs.Weighing.{AreAlike, back_path}

-- paths of which each tree that has their nodes has more than the limit
abbrev pub AreTooMany : List Weighed → Type 0
AreTooMany xs = (zs : List Weighed) → ((p : List ℕ) → p ≢ [] → HasPrefix xs p → HasPrefix zs p) → node_limit < length (keys_of zs)

-- what the paths that begin with a list have behind it
abbrev pub behind_step : ℕ → List Step → ℤ → List Weighed → List Weighed
behind_step f [] w xs = xs
behind_step f (s ∷ x) w xs = if f == s.func then record { steps = x; weight = w } ∷ xs else xs

abbrev pub after : ℕ → List Weighed → List Weighed
after f [] = []
after f (x ∷ xs) = behind_step f x.steps x.weight (after f xs)

abbrev pub behind : List ℕ → List Weighed → List Weighed
behind [] xs = xs
behind (f ∷ p) xs = behind p (after f xs)

-- a row has the sum and the category of the paths that begin with a list, and there are such
pub record IsSumAt (xs : List Weighed) (p : List ℕ) (b : Branch) : Type 0 where
  pub total : b.total ≡ total_at xs p
  pub category : b.category ≡ common (categories_at xs p)
  pub in_paths : HasPrefix xs p

-- the group of a node of which paths go on as these do
pub record IsGroup (stacks : List StackRow) (xs : List Weighed) (es : List Entry) : Type 0 where
  pub entries : AreEntries (length stacks) es
  pub paths : AreAlike xs (bundle (rest_path stacks) es)

-- a parent among the first n rows, or none; and each node below it is a row
abbrev pub IsAmong : ℕ → Option ℕ → Type 0
IsAmong n o = (p : ℕ) → o ≡ Some p → p < n

abbrev pub HasAllBelow : List Weighed → List (List ℕ) → List Branch → Option ℕ → Type 0
HasAllBelow zs ks rows o = (f : ℕ) → HasPrefix zs (key_above ks o ++ f ∷ []) → (r : ℕ) × (r < length rows) × (key ks r ≡ key_above ks o ++ f ∷ [])

-- the rows are nodes of the paths, with all nodes below the first n, and the others have their groups
pub record AreClimbed (stacks : List StackRow) (zs : List Weighed) (n : ℕ) (ks : List (List ℕ)) (rows : List Branch) (look : Option ℕ × ℕ → Option ℕ) (groups : List (Vec Entry Global)) : Type 0 where
  pub table : IsTable ks rows look
  pub done : n ≤ length rows
  pub sums : (r : ℕ) → r < length rows → IsSumAt zs (key ks r) (branch rows r)
  pub parents : (r p : ℕ) → r < length rows → (branch rows r).parent ≡ Some p → p < n
  pub wide : (o : Option ℕ) → IsAmong n o → HasAllBelow zs ks rows o
  pub len : length groups ≡ length rows
  pub each : (r : ℕ) → n ≤ r → r < length rows → IsGroup stacks (behind (key ks r) zs) (group_at groups r)

-- the same while the nodes below `o` come, of which these entries have come so far: the rows from m on
pub record AreComing (stacks : List StackRow) (zs : List Weighed) (n : ℕ) (o : Option ℕ) (m : ℕ) (es : List Entry) (ks : List (List ℕ)) (rows : List Branch) (look : Option ℕ × ℕ → Option ℕ) (groups : List (Vec Entry Global)) : Type 0 where
  pub table : IsTable ks rows look
  pub among : IsAmong n o
  pub done : n ≤ m
  pub from : m ≤ length rows
  pub sums : (r : ℕ) → r < m → IsSumAt zs (key ks r) (branch rows r)
  pub parents : (r p : ℕ) → r < m → (branch rows r).parent ≡ Some p → p < n
  pub apart : (r : ℕ) → r < m → (branch rows r).parent ≢ o
  pub wide : (o' : Option ℕ) → IsAmong n o' → o' ≢ o → HasAllBelow zs ks rows o'
  pub len : length groups ≡ length rows
  pub each : (r : ℕ) → n ≤ r → r < m → IsGroup stacks (behind (key ks r) zs) (group_at groups r)
  pub below : (r : ℕ) → m ≤ r → r < length rows → (branch rows r).parent ≡ o
  pub new_sums : (r : ℕ) → m ≤ r → r < length rows → IsSumAt (bundle (back_path stacks) es) ((branch rows r).func ∷ []) (branch rows r)
  pub found : (f : ℕ) → HasPrefix (bundle (back_path stacks) es) (f ∷ []) → (r : ℕ) × (m ≤ r) × (r < length rows) × ((branch rows r).func ≡ f)
  pub new_rows : (r : ℕ) → m ≤ r → r < length rows → AreBelow (length stacks) (group_at groups r)
  pub new_light : (r : ℕ) → m ≤ r → r < length rows → bulk (group_at groups r) ≤ bulk es
  pub new_paths : (r : ℕ) → m ≤ r → r < length rows → AreAlike (after (branch rows r).func (bundle (back_path stacks) es)) (bundle (rest_path stacks) (group_at groups r))

-- all of them: the paths go on below `o` as these entries' do
pub record AreAbove (stacks : List StackRow) (zs : List Weighed) (o : Option ℕ) (ks : List (List ℕ)) (es : List Entry) : Type 0 where
  pub entries : AreEntries (length stacks) es
  pub paths : AreAlike (behind (key_above ks o) zs) (bundle (back_path stacks) es)

-- no path has 2^32 steps
abbrev pub AreShort : List Weighed → Type 0
AreShort zs = (p : List ℕ) → HasPrefix zs p → length p < 2 ^ 32
