-- What the outside decides while an order is carried out.
use Rattle.std.specs.Prelude.{ℕ, suc, List, [], ◌∷◌}
use Rattle.prof_io.specs.Shelf.{Shelf}
use Rattle.prof_machine.specs.Play.{Fate, Answered, Shown, Starved, Failed}
use Rattle.prof_serve.specs.Answers.{Handled}

-- The texts that the keeper has as it is begun, of which there are none where it doesn't tell them; how each handled request
-- fared, in order, with the text that the keeper showed it; and which messages were handled on each served connection, each with
-- what it asks for.
pub record Ways : Type 0 where
  pub begun : Shelf
  pub fates : List Fate
  pub served : List (List Handled)

abbrev pub no_ways : Ways
no_ways = record { begun = []; fates = []; served = [] }

-- how often the keeper failed
abbrev pub failed_count : List Fate → ℕ
failed_count [] = 0
failed_count (Answered ∷ fates) = failed_count fates
failed_count (Shown text ∷ fates) = failed_count fates
failed_count (Starved ∷ fates) = failed_count fates
failed_count (Failed ∷ fates) = suc (failed_count fates)
