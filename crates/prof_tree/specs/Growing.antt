use Rattle.std.specs.Prelude.{◌≡◌, ◌≢◌, ℕ, ◌-◌, ◌<◌, ℤ, pos, ◌+ℤ◌, ◌≤ℤ◌, neg_ℤ, ◌≤◌, MatchOption, unwrap_or, Bool, ◌&&◌, nat_eq, List, [], ◌∷◌, ◌++◌, length, reverse, Option, Some, None, ◌==◌, if◌then◌else◌}
use Rattle.prof_tables.specs.declared.rows.Step.{Step}
use Rattle.prof_path.specs.Shown.{funcs}
use Rattle.std.specs.Option.{option_eq}
use Rattle.prof_tree.specs.declared.branch.Branch.{Branch}
use Rattle.prof_tree.specs.declared.growing.End.{End}
use Rattle.prof_tree.specs.declared.growing.End.TheVariants.{Root, Leaf}
use Rattle.prof_tree.specs.declared.node.Node.{Node}
use Rattle.prof_tree.specs.Nodes.{Weighed, total_at, own_at, common, categories_at}
use Rattle.prof_tree.specs.Forest.{EachOf, HasPrefix, key, key_above, branch}

-- the steps of a path, from an end on
abbrev pub steps_from : End → List Step → List Step
steps_from Root x = x
steps_from Leaf x = reverse x

-- whether two pairs of a parent and a function are the same
abbrev pub pair_eq : Option ℕ × ℕ → Option ℕ × ℕ → Bool
pair_eq x y = option_eq nat_eq x.0 y.0 && nat_eq x.1 y.1

-- each row is found by its parent and its function, and by nothing else
pub record IsTable (ks : List (List ℕ)) (rows : List Branch) (look : Option ℕ × ℕ → Option ℕ) : Type 0 where
  pub len : length ks ≡ length rows
  pub keys : (r : ℕ) → r < length rows → key ks r ≡ key_above ks (branch rows r).parent ++ (branch rows r).func ∷ []
  pub above : (r p : ℕ) → r < length rows → (branch rows r).parent ≡ Some p → p < length rows
  pub apart : (r s : ℕ) → r < length rows → s < length rows → key ks r ≡ key ks s → r ≡ s
  pub depths : (r : ℕ) → r < length rows → (branch rows r).depth ≡ length (key ks r) - 1
  pub has : (r : ℕ) → r < length rows → look ((branch rows r).parent, (branch rows r).func) ≡ Some r
  pub finds : (o : Option ℕ) (f r : ℕ) → look (o, f) ≡ Some r → (r < length rows) × ((branch rows r).parent ≡ o) × ((branch rows r).func ≡ f)

-- what the paths that begin with a row's functions add up to
pub record Adds (ys : List Weighed) (ks : List (List ℕ)) (rows : List Branch) : Type 0 where
  pub totals : (r : ℕ) → r < length rows → (branch rows r).total ≡ total_at ys (key ks r)
  pub categories : (r : ℕ) → r < length rows → (branch rows r).category ≡ common (categories_at ys (key ks r))
  pub in_paths : (r : ℕ) → r < length rows → HasPrefix ys (key ks r)
  pub whole : (p : List ℕ) → p ≢ [] → HasPrefix ys p → (r : ℕ) × (r < length rows) × (key ks r ≡ p)

-- and the weights of the paths that are a row's functions
abbrev pub Owns : List Weighed → List (List ℕ) → List Branch → Type 0
Owns xs ks rows = (r : ℕ) → r < length rows → (branch rows r).own ≡ own_at xs (key ks r)

-- what all are, with one more
abbrev pub merged : Option ℕ → ℕ → Option ℕ
merged None c = None
merged (Some d) c = if d == c then Some d else None

-- the same for one more path of weight w that has come as far as its steps x, while row r, which stands for its next
-- step s, has not yet taken that step
pub record Ready (xs : List Weighed) (w : ℤ) (x : List Step) (s : Step) (ks : List (List ℕ)) (rows : List Branch) (r : ℕ) : Type 0 where
  pub in_rows : r < length rows
  pub key_is : key ks r ≡ funcs x ++ s.func ∷ []
  pub others : (q : ℕ) → q < length rows → q ≢ r → ((branch rows q).total ≡ total_at (xs ++ record { steps = x; weight = w } ∷ []) (key ks q)) × ((branch rows q).category ≡ common (categories_at (xs ++ record { steps = x; weight = w } ∷ []) (key ks q))) × HasPrefix (xs ++ record { steps = x; weight = w } ∷ []) (key ks q)
  pub total : (branch rows r).total ≡ total_at xs (key ks r)
  pub category : merged (branch rows r).category s.category ≡ common (categories_at (xs ++ record { steps = x ++ s ∷ []; weight = w } ∷ []) (key ks r))
  pub whole : (p : List ℕ) → p ≢ [] → HasPrefix (xs ++ record { steps = x; weight = w } ∷ []) p → (q : ℕ) × (q < length rows) × (key ks q ≡ p)

-- a row with one more step, or one more path that ends there
abbrev pub stepped : Branch → Step → ℤ → Branch
stepped b s w = record b { total = b.total +ℤ w; category = merged b.category s.category }

abbrev pub ended : Branch → ℤ → Branch
ended b w = record b { own = b.own +ℤ w }

-- the row of a step below a row stood, or is added as the last
abbrev pub IsChild : List Branch → (Option ℕ × ℕ → Option ℕ) → List Branch → (Option ℕ × ℕ → Option ℕ) → Option ℕ → ℕ → Step → ℕ → Type 0
IsChild rows look rows' look' o depth s r =
    MatchOption (look (o, s.func))
    ((r ≡ length rows) × (rows' ≡ rows ++ record { parent = o; depth = depth; func = s.func; total = pos 0; own = pos 0; category = Some s.category } ∷ [])
    × ((q : Option ℕ × ℕ) → look' q ≡ (if pair_eq (o, s.func) q then Some r else look q)))
    (λ found. (r ≡ found) × (rows' ≡ rows) × ((q : Option ℕ × ℕ) → look' q ≡ look q))

-- a weight of 64 bits
abbrev pub IsSmall : Weighed → Type 0
IsSmall x = (neg_ℤ (pos 9223372036854775808) ≤ℤ x.weight) × (x.weight ≤ℤ pos 9223372036854775808)

-- the rows are the nodes of the paths, with all that is known of them
pub record IsGrown (xs : List Weighed) (ks : List (List ℕ)) (rows : List Branch) (look : Option ℕ × ℕ → Option ℕ) : Type 0 where
  pub table : IsTable ks rows look
  pub adds : Adds xs ks rows
  pub owns : Owns xs ks rows

-- there are paths of which the rows are the nodes, with totals and categories
abbrev pub AreSummed : List Branch → Type 0
AreSummed rows = (xs : List Weighed) × (ks : List (List ℕ)) × (look : (Option ℕ × ℕ → Option ℕ)) × IsTable ks rows look × Adds xs ks rows

-- of at most n paths with weights of 64 bits
abbrev pub HasGrown : ℕ → List Branch → (Option ℕ × ℕ → Option ℕ) → Type 0
HasGrown n rows look = (xs : List Weighed) × (ks : List (List ℕ)) × IsGrown xs ks rows look × (length xs ≤ n) × EachOf IsSmall xs

-- the node of a row
abbrev pub node_from : ℕ → Branch → Node
node_from default b = record { depth = b.depth; func = b.func; total = b.total; own = b.own; category = unwrap_or b.category default }
