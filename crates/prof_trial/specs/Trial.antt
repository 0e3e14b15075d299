-- The demo: its lines, and the first lines of the replies to them.
use Rattle.std.specs.Prelude.{◌≡◌, ℕ, ◌+◌, ◌≤◌, List, [], ◌∷◌, ◌++◌, map, codes, Result, Ok, Err, OnOk, true, ⊤}
use Rattle.prof_io.specs.Outside.{Seen}
use Rattle.prof_io.specs.Sinks.{Wrote}
use Rattle.prof_back.specs.Made.{made}
use Rattle.prof_demo.specs.Generated.{generated}
use Rattle.prof_layout.specs.Profile.{profile_of}
use Rattle.prof_machine.specs.Known.{Known}
use Rattle.prof_machine.specs.Play.{Answered, Held, Line, held_after, reply_to}
use Rattle.prof_reply.specs.Replies.{reply_bytes}
use Rattle.prof_request.proofs.OutcomeLemmas.{line_of}
use Rattle.prof_script.specs.declared.playing.PlayEnd.{PlayEnd}
use Rattle.prof_script.specs.declared.playing.PlayEnd.TheVariants as play_end
use Rattle.prof_script.specs.Playing.{IsHeld, Stage, thread_shown}
use Rattle.prof_script.specs.Readings.{AreLaid, Laid, laid_after, line_readings}
use Rattle.sha2.specs.Sha256.{sha256}
use Rattle.prof_trial.specs.Firsts.{first_line}

abbrev pub trial_lines : List (List ℕ)
trial_lines =
    codes "d open main 0" ∷ codes "d tree" ∷ codes "d push 0 mf-1" ∷ codes "d tree" ∷ codes "d push 1 ff-7" ∷ codes "d tree"
    ∷ codes "d popto 2 1" ∷ codes "d undo 3" ∷ codes "d tree" ∷ []

-- those lines, read
abbrev pub asked : List Line
asked = map line_of trial_lines

-- what is held after a line that was answered, and the text of the reply to it
abbrev pub after : List (List ℕ × Known) → Held → Line → Held
after profiles held line = held_after profiles held line Answered

abbrev pub reply_of : List (List ℕ × Known) → Held → Line → List ℕ
reply_of profiles held line = reply_bytes (thread_shown profiles (after profiles held line) line) (reply_to profiles held line Answered)

-- the first lines of the replies to lines that are answered one after another
abbrev pub first_lines : List (List ℕ × Known) → Held → List Line → List ℕ
first_lines profiles held [] = []
first_lines profiles held (line ∷ lines) = first_line (reply_of profiles held line) ++ first_lines profiles (after profiles held line) lines

-- how many stack rows they may read
abbrev pub readings : List (List ℕ × Known) → Held → List (List ℕ × Laid) → List Line → ℕ
readings profiles held laid [] = 0
readings profiles held laid (line ∷ lines) =
    line_readings held laid line + readings profiles (after profiles held line) (laid_after profiles held (after profiles held line) laid line) lines

-- the profile that the number makes, under the name that the lines open
abbrev pub trial_profiles : ℕ → List (List ℕ × Known)
trial_profiles number = (codes "main", record { threads = (profile_of (made number)).threads; digest = sha256 (generated number) }) ∷ []

abbrev pub no_session : Held
no_session = record { sessions = []; kept = [] }

-- what the demo writes on it, and how many stack rows it may read
unfoldable pub trial_text : ℕ → List ℕ
trial_text number = first_lines (trial_profiles number) no_session asked

unfoldable pub trial_readings : ℕ → ℕ
trial_readings number = readings (trial_profiles number) no_session [] asked

-- what was put into the output of a text: all of it, all that the output took, or a front where memory ran out
abbrev pub Puts : Seen → Seen → Result ⊤ PlayEnd → List ℕ → Type 0
Puts old new (Ok x) text = Wrote {T = ⊤} {E = ⊤} old new (Ok tt) text
Puts old new (Err play_end.OutFault) text = Wrote {T = ⊤} {E = ⊤} old new (Err tt) text
Puts old new (Err play_end.NoMemory) text = (front : List ℕ) × (rest : List ℕ) × (text ≡ front ++ rest) × Wrote {T = ⊤} {E = ⊤} old new (Ok tt) front

-- lines were answered from what was held, and the first lines of their replies were put
pub record PlaysFirsts (profiles : List (List ℕ × Known)) (held : Held) (laid : List (List ℕ × Laid)) (lines : List Line) (old new : Stage) (result : Result ⊤ PlayEnd) : Type 0 where
  pub put : Puts old.out new.out result (first_lines profiles held lines)
  pub read_rows : new.reads ≤ old.reads + readings profiles held laid lines
  pub state : OnOk result ((now : Held) × (lays : List (List ℕ × Laid)) × IsHeld profiles true new.desk new.keeper.texts now × AreLaid new.desk lays
      × ((others : List Line) → first_lines profiles held (lines ++ others) ≡ first_lines profiles held lines ++ first_lines profiles now others)
      × ((others : List Line) → readings profiles held laid (lines ++ others) ≡ readings profiles held laid lines + readings profiles now lays others))
