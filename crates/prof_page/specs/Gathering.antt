-- How a text is written by way of a page.
use Rattle.std.specs.Prelude.{◌≡◌, ℕ, List, ◌++◌, OnOk, Result}
use Rattle.prof_io.specs.Outside.{Seen}
use Rattle.prof_io.specs.Sinks.{Wrote}

-- A text was added to what waits to be written: what waited before, and the text, are what was written, or was to be
-- where that failed, and what waits now.
pub record Gathers {T E : Type 0} (old new : Seen) (result : Result T E) (waiting text waits : List ℕ) : Type 0 where
  pub front : List ℕ
  pub behind : List ℕ
  pub split : waiting ++ text ≡ front ++ behind
  pub written : Wrote old new result front
  pub left : OnOk result (behind ≡ waits)
