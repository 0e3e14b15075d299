use Rattle.std.specs.Prelude.{◌≡◌, ◌≢◌, ℕ, suc, ◌+◌, ◌<◌, pos, nat_abs, true, nat_eq, List, [], ◌∷◌, ◌++◌, length, Option, Some, None, get_or, ◌⊎◌}
use Rattle.std.specs.List.{starts_with}
use Rattle.std.specs.Ordering.{ordering_then, nat_cmp}
use Rattle.std.specs.declared.cmp.Ordering.TheVariants.{Greater}
use Rattle.prof_tree.specs.declared.branch.Branch.{Branch}
use Rattle.prof_tree.specs.Nodes.{Weighed, list_of, total_at}

-- an element of a list, a fact of each element, and one of each element with each later one
module _ {K : Type 0} where
  abbrev pub Elem : K → List K → Type 0
  Elem x [] = ⊥
  Elem x (y ∷ ys) = (y ≡ x) ⊎ Elem x ys

  abbrev pub EachOf : (K → Type 0) → List K → Type 0
  EachOf P [] = Unit {0}
  EachOf P (x ∷ xs) = P x × EachOf P xs

  abbrev pub Pairs : (K → K → Type 0) → List K → Type 0
  Pairs R [] = Unit {0}
  Pairs R (x ∷ xs) = EachOf (R x) xs × Pairs R xs

-- some path begins with p
abbrev pub HasPrefix : List Weighed → List ℕ → Type 0
HasPrefix [] p = ⊥
HasPrefix (x ∷ xs) p = (starts_with nat_eq (list_of x) p ≡ true) ⊎ HasPrefix xs p

-- the functions of a row's parent, by the list of the functions of each row
abbrev pub key_above : List (List ℕ) → Option ℕ → List ℕ
key_above ks None = []
key_above ks (Some p) = get_or ks p []

-- a row, and its functions
abbrev pub no_branch : Branch
no_branch = record { parent = None; depth = 0; func = 0; total = pos 0; own = pos 0; category = None }

abbrev pub key : List (List ℕ) → ℕ → List ℕ
key ks r = get_or ks r []

abbrev pub branch : List Branch → ℕ → Branch
branch rows r = get_or rows r no_branch

-- the rows are the nodes of the paths, each once, and `ks` are their functions
pub record IsForest (xs : List Weighed) (ks : List (List ℕ)) (rows : List Branch) : Type 0 where
  pub keys : (r : ℕ) → r < length rows → key ks r ≡ key_above ks (branch rows r).parent ++ (branch rows r).func ∷ []
  pub above : (r p : ℕ) → r < length rows → (branch rows r).parent ≡ Some p → p < length rows
  pub apart : (r s : ℕ) → r < length rows → s < length rows → key ks r ≡ key ks s → r ≡ s
  pub totals : (r : ℕ) → r < length rows → (branch rows r).total ≡ total_at xs (key ks r)
  pub in_paths : (r : ℕ) → r < length rows → HasPrefix xs (key ks r)
  pub whole : (p : List ℕ) → p ≢ [] → HasPrefix xs p → (r : ℕ) × (r < length rows) × (key ks r ≡ p)

-- the place of a row's children: the roots stand first
abbrev pub link : Option ℕ → ℕ
link None = 0
link (Some p) = suc p

-- one child doesn't stand before another
abbrev pub NotBefore : Branch → Branch → Type 0
NotBefore b a = ordering_then (nat_cmp (nat_abs b.total) (nat_abs a.total)) (nat_cmp a.func b.func) ≢ Greater

-- the children of a row, or the roots, each once and in order
pub record AreKids (rows : List Branch) (p : ℕ) (kids : List ℕ) : Type 0 where
  pub sound : (c : ℕ) → Elem c kids → (c < length rows) × (link (branch rows c).parent ≡ p)
  pub whole : (c : ℕ) → c < length rows → link (branch rows c).parent ≡ p → Elem c kids
  pub ranked : Pairs (λ c d. (c ≢ d) × NotBefore (branch rows d) (branch rows c)) kids

-- there are paths of which the rows are the nodes
abbrev pub HasForest : List Branch → Type 0
HasForest rows = (xs : List Weighed) × (ks : List (List ℕ)) × IsForest xs ks rows

-- a chain of rows, from a first one on, where `next` has the row after each
abbrev pub IsChain : List (Option ℕ) → Option ℕ → List ℕ → Type 0
IsChain next o [] = o ≡ None
IsChain next o (r ∷ l) = (o ≡ Some r) × IsChain next (get_or next r None) l

-- the chains of the roots and of the children of each row
pub record HasChildren (rows : List Branch) (first next : List (Option ℕ)) : Type 0 where
  pub len : length first ≡ length rows + 1
  pub len_next : length next ≡ length rows
  pub each : (p : ℕ) → p < length first → (l : List ℕ) × IsChain next (get_or first p None) l × AreKids rows p l
