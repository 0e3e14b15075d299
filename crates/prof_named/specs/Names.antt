-- The names of named entries
use Rattle.std.specs.Prelude.{ℕ, List, map}

-- the names of entries, in their order
abbrev pub names_of : {X : Type 0} → List (List ℕ × X) → List (List ℕ)
names_of entries = map (λ e. e.0) entries
