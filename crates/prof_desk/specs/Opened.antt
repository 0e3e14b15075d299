-- A session that is opened on a profile, and asked once.
use Rattle.std.specs.Prelude.{ℕ, List, [], ◌∷◌, map, codes, Ok}
use Rattle.prof_tables.specs.Profiles.{ProfileTables}
use Rattle.prof_request.specs.declared.request.Command.{Command}
use Rattle.prof_request.specs.declared.request.Command.TheVariants.{OpenOn}
use Rattle.prof_request.specs.declared.request.Request.{Request}
use Rattle.prof_machine.specs.Play.{Answered, Fate, Line}
use Rattle.prof_script.specs.Playing.{output}
use Rattle.prof_script.specs.Readings.{lines_readings}
use Rattle.prof_desk.specs.Output.{named_main, unopened_with}

-- a request of the one session
abbrev pub own_request : Command → Request
own_request command = record { session = codes "cli"; command = command }

-- the request that opens it on a thread, and one more of it
abbrev pub opening : ℕ → Command
opening thread = OpenOn (codes "main") thread

abbrev pub opened_lines : ℕ → Command → List Line
opened_lines thread command = Ok (own_request (opening thread)) ∷ Ok (own_request command) ∷ []

-- lines that are answered
abbrev pub answered : List Line → List (Line × Fate)
answered lines = map (λ l. (l, Answered)) lines

-- the replies to both, and how many stack rows they may read
unfoldable pub opened_replies : ProfileTables → List ℕ → ℕ → Command → List ℕ
opened_replies p digest thread command = output (named_main p digest) (unopened_with []) (answered (opened_lines thread command))

unfoldable pub opened_readings : ProfileTables → List ℕ → ℕ → Command → ℕ
opened_readings p digest thread command = lines_readings (named_main p digest) (unopened_with []) [] (answered (opened_lines thread command))
