use Rattle.std.specs.Prelude.{◌≡◌, ◌≢◌, ◌+◌, ◌<◌, ℕ, nat_abs, List, length, map, get_or, Option, None}
use Rattle.std.specs.Ordering.{ordering_then, nat_cmp}
use Rattle.std.specs.declared.cmp.Ordering.{Ordering}
use Rattle.prof_tree.specs.declared.branch.Branch.{Branch}
use Rattle.prof_tree.specs.declared.listing.Rank.{Rank}
use Rattle.prof_tree.specs.Forest.{branch, link, Elem, EachOf, Pairs, IsChain, NotBefore}

-- the rank of a row, and the order of ranks
abbrev pub rank_at : List Branch → ℕ → Rank
rank_at rows k = record { size = nat_abs (branch rows k).total; func = record { 0 = (branch rows k).func }; row = k }

abbrev pub rank_cmp : Rank → Rank → Ordering
rank_cmp x y = ordering_then (nat_cmp x.size y.size) (ordering_then (nat_cmp y.func.0 x.func.0) (nat_cmp x.row y.row))

abbrev pub rows_of : List Rank → List ℕ
rows_of ranks = map (λ (r : Rank). r.row) ranks

-- each once
abbrev pub EachOnce : List ℕ → Type 0
EachOnce l = Pairs (λ c d. c ≢ d) l

-- a chain from a first row on, whose rows are below n and each once
abbrev pub HasChain : ℕ → List (Option ℕ) → Option ℕ → Type 0
HasChain n next head = (l : List ℕ) × IsChain next head l × EachOf (λ row. row < n) l × EachOnce l

-- the same rows, each once and in order
pub record AreRanked (rows : List Branch) (l k : List ℕ) : Type 0 where
  pub sound : (c : ℕ) → Elem c k → Elem c l
  pub whole : (c : ℕ) → Elem c l → Elem c k
  pub ranked : Pairs (λ c d. (c ≢ d) × NotBefore (branch rows d) (branch rows c)) k

-- those of the first rows that are children of a row, or roots, each once
pub record AreSiblings (rows : List Branch) (count p : ℕ) (l : List ℕ) : Type 0 where
  pub sound : (c : ℕ) → Elem c l → (c < count) × (link (branch rows c).parent ≡ p)
  pub whole : (c : ℕ) → c < count → link (branch rows c).parent ≡ p → Elem c l
  pub apart : EachOnce l

-- the chains of the roots and of the children of each row, in any order
pub record HasSiblings (rows : List Branch) (first next : List (Option ℕ)) : Type 0 where
  pub len : length first ≡ length rows + 1
  pub len_next : length next ≡ length rows
  pub each : (p : ℕ) → p < length first → (l : List ℕ) × IsChain next (get_or first p None) l × AreSiblings rows (length rows) p l
