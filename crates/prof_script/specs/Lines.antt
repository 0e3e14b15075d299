-- The lines of a script.
use Rattle.std.specs.Prelude.{ℕ, ◌==◌, List, [], ◌∷◌, ◌++◌, map, if◌then◌else◌}
use Rattle.prof_machine.specs.Play.{Line}
use Rattle.prof_request.proofs.OutcomeLemmas.{line_of}

-- a line, if it isn't empty
abbrev pub some_line : List ℕ → List (List ℕ)
some_line [] = []
some_line (b ∷ line) = (b ∷ line) ∷ []

-- the lines of a text, where that is the front of the first one
abbrev pub lines_from : List ℕ → List ℕ → List (List ℕ)
lines_from front [] = some_line front
lines_from front (b ∷ text) = if b == 10 then some_line front ++ lines_from [] text else lines_from (front ++ b ∷ []) text

-- the parts of a script between line feeds, but for the empty ones
abbrev pub lines : List ℕ → List (List ℕ)
lines script = lines_from [] script

-- these lines, read: each a request, or no request from some place on
abbrev pub lines_of : List ℕ → List Line
lines_of script = map line_of (lines script)
