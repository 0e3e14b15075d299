-- Keys numbered by their first use.
use Rattle.std.specs.Prelude.{ℕ, List, [], ◌∷◌, ◌++◌, Bool, if◌then◌else◌, fold, length}
use Rattle.std.specs.List.{list_any, position_or_len}

-- the keys so far, each once, in the order of their first use; the row where each was first used; the number of each row
pub record Numbered (K : Type 0) : Type 0 where
  pub uses : List K
  pub rows : List ℕ
  pub numbers : List ℕ

module _ {K : Type 0} (eq : K → K → Bool) where
  -- One more row: a key that was used has its number, and another gets the next one.
  abbrev pub use_key : Numbered K → K → Numbered K
  use_key n key = record {
    uses = if list_any (eq key) n.uses then n.uses else n.uses ++ key ∷ [];
    rows = if list_any (eq key) n.uses then n.rows else n.rows ++ length n.numbers ∷ [];
    numbers = n.numbers ++ position_or_len (eq key) n.uses ∷ [];
  }

  -- all rows
  abbrev pub numbered : List K → Numbered K
  numbered keys = fold use_key (record { uses = []; rows = []; numbers = [] }) keys
