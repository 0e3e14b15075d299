-- What an order writes. Each of the functions over orders has one equation for each order.
use Rattle.std.specs.Prelude.{◌≡◌, ◌==◌, ◌*◌, ℕ, List, [], ◌∷◌, ◌++◌, codes, length, map, slice_get, ⊤, if◌then◌else◌}
use Rattle.std.specs.List.{filter, zip}
use Rattle.std.specs.Option.{option_map_or}
use Rattle.std.specs.Fmt.{decimal}
use Rattle.prof_io.specs.Shelf.{Shelf}
use Rattle.prof_demo.specs.Generated.{generated}
use Rattle.prof_marker.specs.declared.list.Marker.{Marker}
use Rattle.prof_marker.specs.Found.{is_found}
use Rattle.prof_marker.specs.Markers.{pair}
use Rattle.prof_tables.specs.Profiles.{ProfileTables}
use Rattle.prof_tables.specs.Threads.{ThreadTables}
use Rattle.prof_path.specs.declared.transform.Implementation.TheVariants.{Combined}
use Rattle.prof_path.specs.Terms.{is_long_search, terms_of}
use Rattle.prof_path.specs.Views.{ViewLists}
use Rattle.prof_view_tree.specs.Views.{plain_tree, selected_weight, dropped_weight}
use Rattle.prof_machine.specs.declared.refusal.Refusal.TheVariants.{NoSession, NoThread, LongSearch}
use Rattle.prof_machine.specs.Known.{Known}
use Rattle.prof_machine.specs.Play.{Fate, Starved, Held, Line, held_after_all}
use Rattle.prof_script.specs.Lines.{lines_of}
use Rattle.prof_script.specs.Playing.{AreFated, output}
use Rattle.prof_script.specs.Readings.{lines_readings}
use Rattle.prof_serve.specs.Answers.{played}
use Rattle.prof_serve.specs.Readings.{messages_readings}
use Rattle.prof_serving.specs.Halls.{all_of}
use Rattle.prof_trial.specs.Trial.{trial_readings, trial_text}
use Rattle.prof_desk.specs.declared.words.Order.{Order}
use Rattle.prof_desk.specs.declared.words.Order.TheVariants.{Tree, Markers, Script, Serve, Check, Convert, Gen, Demo}
use Rattle.prof_desk.specs.Inputs.{Input, of_profile, of_script}
use Rattle.prof_reply.specs.Refusals.{refusal_text}
use Rattle.prof_reply.specs.Replies.{markers_text, tree_text}
use Rattle.prof_desk.specs.Summary.{summary_text}
use Rattle.prof_write.specs.Compact.{compact}
use Rattle.prof_write.specs.Written.{profile_value, stack_rows}
use Rattle.prof_reply.specs.Lines.{line}
use Rattle.prof_desk.specs.Ways.{Ways}

-- the view of a session that has just been opened on the first thread
abbrev pub fresh : ViewLists
fresh = record { thread = 0; ranges = []; transforms = []; implementation = Combined; search = [] }

-- The replies to the opening of a session on a thread that isn't there, where there are so many, and to a request of it.
abbrev pub unopened : ℕ → List ℕ
unopened threads = line (refusal_text (NoThread threads)) ++ line (refusal_text NoSession)

-- The replies to the opening of a session on the first thread, and to the request of its tree.
abbrev pub tree_replies : List ThreadTables → List ℕ
tree_replies [] = unopened 0
tree_replies (t ∷ threads) = line (codes "ok " ++ decimal 0) ++ tree_text t (plain_tree t fresh []) (selected_weight t fresh []) (dropped_weight t fresh [])

-- the markers of a thread that a search finds
abbrev pub found_markers : ThreadTables → List ℕ → List Marker
found_markers t search = filter (is_found t.shared.strings t.markers.texts (terms_of search) []) (pair t)

-- the reply to the request of a thread's markers, where a long search is refused
abbrev pub markers_reply : ThreadTables → List ℕ → List ℕ
markers_reply t search = if is_long_search search then line (refusal_text LongSearch) else markers_text t.shared (found_markers t search)

-- the replies to the opening of a session on a thread, and to the request of its markers
abbrev pub markers_replies : List ThreadTables → ℕ → List ℕ → List ℕ
markers_replies threads thread search =
    option_map_or (λ t. line (codes "ok " ++ decimal 0) ++ markers_reply t search) (slice_get threads thread) (unopened (length threads))

-- the profile that a script is played on, under its name
abbrev pub named_main : ProfileTables → List ℕ → List (List ℕ × Known)
named_main p digest = (codes "main", record { threads = p.threads; digest = digest }) ∷ []

-- no session, and these kept texts
abbrev pub unopened_with : Shelf → Held
unopened_with texts = record { sessions = []; kept = texts }

-- the first lines of a script, each with its fate
abbrev pub fated_lines : List ℕ → List Fate → List (Line × Fate)
fated_lines script fates = zip (lines_of script) fates

-- the replies to the first lines of a script, from no session and no kept text
abbrev pub script_replies : ProfileTables → List ℕ → List ℕ → List Fate → List ℕ
script_replies p digest script fates = output (named_main p digest) (unopened_with []) (fated_lines script fates)

-- how many stack rows these lines may read, and the one behind them, if there is one, in which memory may have run out
abbrev pub script_readings : ProfileTables → List ℕ → List ℕ → List Fate → ℕ
script_readings p digest script fates =
    lines_readings (named_main p digest) (unopened_with []) [] (fated_lines script (fates ++ Starved ∷ []))

-- the profiles that are served: each accepted file under the name that it goes by
abbrev pub served_profiles : List (List ℕ × List ℕ) → List Input → List (List ℕ × Known)
served_profiles (file ∷ files) (of_profile p digest form ∷ inputs) = (file.0, record { threads = p.threads; digest = digest }) ∷ served_profiles files inputs
served_profiles files inputs = []

-- the lines of all messages that were handled, each with its fate
abbrev pub served_lines : Ways → List (Line × Fate)
served_lines ways = played (all_of ways.served)

-- the line that is written before the first connection is asked for
abbrev pub serving_line : ℕ → List ℕ
serving_line port = line (codes "serving " ++ decimal port)

-- the line of their number
abbrev pub served_line : ℕ → List ℕ
served_line count = line (codes "served " ++ decimal count)

-- what is written where connections are served: the port, and in the end how many they were
abbrev pub served_text : ℕ → ℕ → List ℕ
served_text port count = serving_line port ++ served_line count

-- what may be written once these files were accepted: with all of them it is the output
abbrev pub output_of : Order → List Input → Ways → List ℕ
output_of (Tree name) (of_profile p digest form ∷ []) ways = tree_replies p.threads
output_of (Markers name thread search) (of_profile p digest form ∷ []) ways = markers_replies p.threads thread search
output_of (Script name script) (of_profile p digest form ∷ of_script text ∷ []) ways = script_replies p digest text ways.fates
output_of (Serve port connections sessions profiles) inputs ways = if length inputs == length profiles then served_text port (length ways.served) else []
output_of (Check name) (of_profile p digest form ∷ []) ways = summary_text p digest form
output_of (Convert name) (of_profile p digest form ∷ []) ways = compact (profile_value p)
output_of (Gen number) [] ways = generated number
output_of (Demo number) [] ways = trial_text number
output_of order inputs ways = []

-- the stack rows of the first thread
abbrev pub first_rows : List ThreadTables → ℕ
first_rows [] = 0
first_rows (t ∷ threads) = length t.shared.stacks

-- how many stack rows may be read once these files were accepted
abbrev pub readings_of : Order → List Input → Ways → ℕ
readings_of (Tree name) (of_profile p digest form ∷ []) ways = first_rows p.threads
readings_of (Script name script) (of_profile p digest form ∷ of_script text ∷ []) ways = script_readings p digest text ways.fates
readings_of (Serve port connections sessions profiles) inputs ways = messages_readings (served_profiles profiles inputs) (unopened_with ways.begun) [] (all_of ways.served)
readings_of (Convert name) (of_profile p digest form ∷ []) ways = 2 * stack_rows p.threads
readings_of (Demo number) [] ways = trial_readings number
readings_of order inputs ways = 0

-- each request was handled
abbrev pub AreHandled : Order → List Input → Ways → Type 0
AreHandled (Script name script) (of_profile p digest form ∷ of_script text ∷ []) ways = length ways.fates ≡ length (lines_of text)
AreHandled order inputs ways = ⊤

-- Each request that was handled fared as it can: it was answered, from a text that the keeper showed only where it loads one,
-- or the keeper failed where it was asked. Where connections are served the fates are those of their messages.
abbrev pub AreFates : Order → List Input → Ways → Type 0
AreFates (Script name script) (of_profile p digest form ∷ of_script text ∷ []) ways = AreFated (named_main p digest) (unopened_with []) (fated_lines text ways.fates)
AreFates (Serve port connections sessions profiles) inputs ways = ways.fates ≡ map (λ l. l.1) (served_lines ways)
AreFates order inputs ways = ⊤

-- the texts that the keeper has in the end, of those that it began with
abbrev pub kept_of : Order → List Input → Ways → Shelf → Shelf
kept_of (Script name script) (of_profile p digest form ∷ of_script text ∷ []) ways texts =
    (held_after_all (named_main p digest) (unopened_with texts) (fated_lines text ways.fates)).kept
kept_of (Serve port connections sessions profiles) inputs ways texts =
    (held_after_all (served_profiles profiles inputs) (unopened_with texts) (served_lines ways)).kept
kept_of order inputs ways texts = texts

-- the profiles of the desk by which connections are served
abbrev pub profiles_of : Order → List Input → List (List ℕ × Known)
profiles_of (Serve port connections sessions profiles) inputs = served_profiles profiles inputs
profiles_of order inputs = []

-- what is written before the first connection is asked for
abbrev pub announced_by : Order → List ℕ
announced_by (Serve port connections sessions profiles) = serving_line port
announced_by order = []
