-- Lines that are played: what is handled, what is written, and what is held then.
use Rattle.std.specs.Prelude.{◌≡◌, ℕ, suc, ◌+◌, ◌≤◌, Bool, List, [], ◌∷◌, ◌++◌, map, length, Option, Some, None, Result, Ok, Err, OnOk, true, ⊤}
use Rattle.std.specs.Option.{option_map}
use Rattle.std.specs.List.{flat_map, zip}
use Rattle.prof_io.specs.Causes.{RoseBy}
use Rattle.prof_io.specs.Named.{value_at}
use Rattle.prof_io.specs.Outside.{Kept, Seen, kept, seen}
use Rattle.prof_io.specs.Shelf.{Shelf, file_at}
use Rattle.prof_io.specs.Sinks.{Wrote}
use Rattle.prof_io.specs.declared.outside.Counted.{Ghosts}
use Rattle.prof_io.specs.declared.outside.Keeper.{Ghosts as KeeperGhosts}
use Rattle.prof_tables.specs.Threads.{ThreadTables}
use Rattle.prof_machine.specs.Known.{Known, thread_of}
use Rattle.prof_machine.specs.Session.{Session, present}
use Rattle.prof_machine.specs.Machine.{asks_keeper, profile_of}
use Rattle.prof_machine.specs.Play.{Fate, Answered, Shown, Starved, Failed, Held, Line, held_after, held_after_all, play, shown_in}
use Rattle.prof_reply.specs.Replies.{reply_bytes}
use Rattle.prof_session_desk.specs.Desk.{DeskLists, is_load, sessions_of}
use Rattle.prof_script.specs.declared.playing.PlayEnd.{PlayEnd}
use Rattle.prof_script.specs.declared.playing.PlayEnd.TheVariants as play_end
use Rattle.prof_script.specs.Readings.{AreLaid, Laid, laid_after_all, lines_readings}

-- ---- what is written

-- the thread that the session of a line shows, if there is one
abbrev pub thread_shown : List (List ℕ × Known) → Held → Line → Option ThreadTables
thread_shown profiles held (Err at) = None
thread_shown profiles held (Ok request) =
    option_map (λ (s : Session). thread_of (profile_of profiles s) (present s)) (value_at held.sessions request.session)

-- for each line the thread that its session shows after it
abbrev pub threads_shown : List (List ℕ × Known) → Held → List (Line × Fate) → List (Option ThreadTables)
threads_shown profiles held [] = []
threads_shown profiles held (l ∷ ls) =
    let after = held_after profiles held l.0 l.1 in
    thread_shown profiles after l.0 ∷ threads_shown profiles after ls

-- the texts of the replies to lines, each with its fate
abbrev pub output : List (List ℕ × Known) → Held → List (Line × Fate) → List ℕ
output profiles held ls = flat_map (λ p. reply_bytes p.0 p.1) (zip (threads_shown profiles held ls) (play profiles held ls))

-- ---- how a play goes

-- how often the keeper failed
abbrev pub failed_count : List (Line × Fate) → ℕ
failed_count [] = 0
failed_count ((line, Answered) ∷ ls) = failed_count ls
failed_count ((line, Shown text) ∷ ls) = failed_count ls
failed_count ((line, Starved) ∷ ls) = failed_count ls
failed_count ((line, Failed) ∷ ls) = suc (failed_count ls)

-- a request asks the keeper
abbrev pub Asks : List (List ℕ × Known) → Held → Line → Type 0
Asks profiles held (Err at) = ⊥
Asks profiles held (Ok request) = asks_keeper profiles (length held.sessions) (value_at held.sessions request.session) request.command ≡ true

-- a request is a load
abbrev pub Loads : Line → Type 0
Loads (Err at) = ⊥
Loads (Ok request) = is_load request.command ≡ true

-- A line that was handled was answered, from a text that the keeper showed only where its request asked for one, or the
-- keeper failed where it was asked.
abbrev pub IsFated : List (List ℕ × Known) → Held → Line → Fate → Type 0
IsFated profiles held line Answered = ⊤
IsFated profiles held line (Shown text) = Loads line × Asks profiles held line
IsFated profiles held line Starved = ⊥
IsFated profiles held line Failed = Asks profiles held line

abbrev pub AreFated : List (List ℕ × Known) → Held → List (Line × Fate) → Type 0
AreFated profiles held [] = ⊤
AreFated profiles held (l ∷ ls) = IsFated profiles held l.0 l.1 × AreFated profiles (held_after profiles held l.0 l.1) ls

-- the keeper tells its texts, and these are under each name what is kept
abbrev pub Keeps : Option Shelf → Shelf → Type 0
Keeps None texts = ⊥
Keeps (Some shelf) texts = (name : List ℕ) → file_at shelf name ≡ file_at texts name

-- a desk with these profiles, and a keeper that tells its texts, have what is held
pub record IsHeld (profiles : List (List ℕ × Known)) (told : Bool) (desk : DeskLists) (texts : Option Shelf) (held : Held) : Type 0 where
  pub known : desk.profiles ≡ profiles
  pub sessions : sessions_of desk ≡ held.sessions
  pub kept : told ≡ true → Keeps texts held.kept

-- where a play stands
pub record Stage : Type 1 where
  pub desk : DeskLists
  pub keeper : Kept
  pub out : Seen
  pub reads : ℕ

abbrev pub stage : {X Y : Type 0} → Ghosts X → KeeperGhosts X → Ghosts Y → DeskLists → X → Y → ℕ → Stage
stage g k s desk keeper out reads = record { desk = desk; keeper = kept g k keeper; out = seen s out; reads = reads }

-- how the output fared: want of memory leaves it sound
abbrev pub output_end : Result ⊤ PlayEnd → Result ⊤ ⊤
output_end (Ok x) = Ok tt
output_end (Err play_end.OutFault) = Err tt
output_end (Err play_end.NoMemory) = Ok tt

-- the line in which memory ran out, if it did
abbrev pub starved : List Line → Result ⊤ PlayEnd → List (Line × Fate)
starved [] result = []
starved (line ∷ lines) (Err play_end.NoMemory) = (line, Starved) ∷ []
starved (line ∷ lines) result = []

-- Of these lines the first were handled, each with its fate, and with Ok all of them. Their replies were written, or a
-- front of these where the output failed, and the desk has what is held then, and so has a keeper that tells its texts.
pub record Plays (profiles : List (List ℕ × Known)) (told : Bool) (held : Held) (laid : List (List ℕ × Laid)) (lines : List Line) (old new : Stage) (result : Result ⊤ PlayEnd) : Type 0 where
  pub handled : List (Line × Fate)
  pub rest : List Line
  pub front : lines ≡ map (λ l. l.0) handled ++ rest
  pub whole : OnOk result (rest ≡ [])
  pub fated : AreFated profiles held handled
  pub state : IsHeld profiles told new.desk new.keeper.texts (held_after_all profiles held handled)
  -- where the keeper tells its texts, no text is taken from it in their place
  pub shown : told ≡ true → shown_in (map (λ l. l.1) handled) ≡ []
  pub written : Wrote old.out new.out (output_end result) (output profiles held handled)
  -- the keeper's count rose for each request in which it failed, and for nothing else
  pub failed : RoseBy (failed_count handled) old.keeper.faults new.keeper.faults
  pub quiet : failed_count handled ≡ 0 → new.keeper.faults ≡ old.keeper.faults
  pub steady : old.keeper.sure → (failed_count handled ≡ 0) × new.keeper.sure
  -- how the layers stand then, and how many stack rows were read
  pub lies : OnOk result (AreLaid new.desk (laid_after_all profiles held laid handled))
  pub readings : new.reads ≤ old.reads + lines_readings profiles held laid (handled ++ starved rest result)
