-- Ranges of a list.
use Rattle.std.specs.Prelude.{ℕ, List, All}
use Rattle.prof_tables.specs.Ties.{IsPart}

-- each is a start and an end within so many items
abbrev pub AreRanges : ℕ → List (ℕ × ℕ) → Type 0
AreRanges count ranges = All (IsPart count) ranges
