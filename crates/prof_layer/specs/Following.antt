-- Entries that follow rows into the rows that these became
use Rattle.std.specs.Prelude.{ℕ, List, Option, Some, None}
use Rattle.prof_layer.specs.Rewritten.{entry_at}

-- where the path of an entry went
abbrev pub follow : List (Option ℕ) → Option ℕ → Option ℕ
follow outs None = None
follow outs (Some q) = entry_at outs q
