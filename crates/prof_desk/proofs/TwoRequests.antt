-- Two requests that are answered one after another.
use Rattle.std.proofs.Common.{◌≡◌, ◌∙◌, ℕ, ◌+◌, ◌≤◌, List, [], ◌∷◌, ◌++◌, map, true, Bool, Option, Some, Result, Ok, Err, OnOk, refl, sym, ap, subst, arith, append-nil}
use Rattle.std.specs.Prelude.{⊤}
use Rattle.std.proofs.lemmas.List.{map-append}
use Rattle.prof_io.specs.Outside.{Seen}
use Rattle.prof_io.specs.Shelf.{Shelf}
use Rattle.prof_io.specs.Sinks.{Wrote}
use Rattle.prof_tables.specs.Profiles.{ProfileTables}
use Rattle.prof_request.specs.declared.request.Command.{Command}
use Rattle.prof_request.specs.declared.request.Request.{Request}
use Rattle.prof_machine.specs.Known.{Known}
use Rattle.prof_machine.specs.Play.{Answered, Shown, Starved, Failed, Fate, Held, Line, held_after, held_after_all, shown_in}
use Rattle.prof_script.specs.declared.playing.PlayEnd.{PlayEnd}
use Rattle.prof_script.specs.declared.playing.PlayEnd.TheVariants as play_end
use Rattle.prof_script.specs.Playing.{AreFated, IsHeld, Keeps, Plays, Stage, failed_count, output, output_end, starved}
use Rattle.prof_script.specs.Readings.{AreLaid, Laid, laid_after_all, lines_readings}
use Rattle.prof_script.proofs.Plays.{output_append, plays_cut, plays_on, readings_append}
use Rattle.prof_session_desk.specs.Desk.{DeskLists, sessions_of}
use Rattle.prof_writer.proofs.Outputs.{writes_as, writes_none, writes_stop}
use Rattle.prof_desk.specs.Opened.{answered, opened_lines, opened_readings, opened_replies, opening, own_request}
use Rattle.prof_desk.specs.Output.{named_main, unopened_with}
use Rattle.prof_desk.specs.Playing.{Leaves, status_of}

abbrev line_in : Line × Fate → Line
line_in l = l.0

abbrev fate_in : Line × Fate → Fate
fate_in l = l.1

abbrev as_answered : Line → Line × Fate
as_answered l = (l, Answered)

-- what is left of a text, where a front of it was written
leaves_front : (o q : Seen) (r : Result ⊤ PlayEnd) (whole text more : List ℕ) → whole ≡ text ++ more → OnOk r (more ≡ []) → Wrote o q (output_end r) text → Leaves o q (status_of r) whole
leaves_front o q (Ok x) whole text more e none w = writes_as (sym (e ∙ ap (λ m. text ++ m) none ∙ append-nil text)) w
leaves_front o q (Err play_end.OutFault) whole text more e none w = writes_as (sym e) (writes_stop more w)
leaves_front o q (Err play_end.NoMemory) whole text more e none w = (text, more, e, w)

module _ (profiles : List (List ℕ × Known)) where
  -- where no text was taken from a keeper that tells none, and none failed, each line was answered
  all_answered : (held : Held) (hs : List (Line × Fate)) → AreFated profiles held hs → shown_in (map fate_in hs) ≡ [] → failed_count hs ≡ 0 → answered (map line_in hs) ≡ hs
  all_answered held [] fated unshown calm = refl
  all_answered held ((l, Answered) ∷ hs) fated unshown calm = ap (λ xs. (l, Answered) ∷ xs) (all_answered (held_after profiles held l Answered) hs fated.1 unshown calm)
  all_answered held ((l, Shown text) ∷ hs) fated unshown calm = absurd (cc)
  all_answered held ((l, Starved) ∷ hs) fated unshown calm = absurd (fated.0)
  all_answered held ((l, Failed) ∷ hs) fated unshown calm = absurd (cc)

  -- at most the rows of the lines that weren't handled
  starved_within : (held : Held) (laid : List (List ℕ × Laid)) (rest : List Line) (r : Result ⊤ PlayEnd)
      → lines_readings profiles held laid (starved rest r) ≤ lines_readings profiles held laid (answered rest)
  starved_within held laid [] r = omega arith
  starved_within held laid (l ∷ rest) (Ok x) = omega arith
  starved_within held laid (l ∷ rest) (Err play_end.OutFault) = omega arith
  starved_within held laid (l ∷ rest) (Err play_end.NoMemory) = omega arith

  -- what lines leave that are all answered
  plays_answered : (held : Held) (laid : List (List ℕ × Laid)) (lines : List Line) (old new : Stage) (r : Result ⊤ PlayEnd) → old.keeper.sure → Plays profiles true held laid lines old new r
      → Leaves old.out new.out (status_of r) (output profiles held (answered lines)) × (new.reads ≤ old.reads + lines_readings profiles held laid (answered lines))
  plays_answered held laid lines old new r sure plays = (
    leaves_front old.out new.out r (output profiles held (answered lines)) (output profiles held hs) (output profiles mid (answered plays.rest))
        (ap (output profiles held) split ∙ output_append profiles true held hs (answered plays.rest)) (none r plays.whole) plays.written,
    few,
  )
    where
      hs : List (Line × Fate)
      hs = plays.handled

      mid : Held
      mid = held_after_all profiles held hs

      lays : List (List ℕ × Laid)
      lays = laid_after_all profiles held laid hs

      split : answered lines ≡ hs ++ answered plays.rest
      split = ap answered plays.front ∙ map-append as_answered (map line_in hs) plays.rest
          ∙ ap (λ l. l ++ answered plays.rest) (all_answered held hs plays.fated (plays.shown refl) (plays.steady sure).0)

      none : (r : Result ⊤ PlayEnd) → OnOk r (plays.rest ≡ []) → OnOk r (output profiles mid (answered plays.rest) ≡ [])
      none (Ok x) over = ap (λ l. output profiles mid (answered l)) over
      none (Err e) over = tt

      few : new.reads ≤ old.reads + lines_readings profiles held laid (answered lines)
      few =
          let one = readings_append profiles true held laid hs (starved plays.rest r) in
          let two = ap (lines_readings profiles held laid) split ∙ readings_append profiles true held laid hs (answered plays.rest) in
          let less = starved_within mid lays plays.rest r in
          omega (arith, plays.readings, one, two, less)

-- the same of a desk that has the profile alone
opens : (p : ProfileTables) (digest : List ℕ) (thread : ℕ) (command : Command) (d : DeskLists) (t : Option Shelf) (old new : Stage) (r : Result ⊤ PlayEnd) → d ≡ record { profiles = named_main p digest; seats = [] }
    → t ≡ Some [] → old.keeper.sure
    → ((held : Held) (laid : List (List ℕ × Laid)) → IsHeld d.profiles true d t held → AreLaid d laid → Plays d.profiles true held laid (opened_lines thread command) old new r)
    → Leaves old.out new.out (status_of r) (opened_replies p digest thread command) × (new.reads ≤ old.reads + opened_readings p digest thread command)
unfolding opened_replies opened_readings
opens p digest thread command d t old new r bare none sure plays =
    let held : IsHeld d.profiles true d t (unopened_with []) = record { known = refl; sessions = ap sessions_of bare; kept = λ _. subst (λ t. Keeps t []) (sym none) (λ name. refl) } in
    let laid : AreLaid d [] = subst (λ (x : DeskLists). AreLaid x []) (sym bare) (λ name. refl) in
    subst (λ ps. Leaves old.out new.out (status_of r) (output ps (unopened_with []) (answered (opened_lines thread command))) × (new.reads ≤ old.reads + lines_readings ps (unopened_with []) [] (answered (opened_lines thread command))))
    (ap (λ (x : DeskLists). x.profiles) bare) (plays_answered d.profiles (unopened_with []) [] (opened_lines thread command) old new r sure (plays (unopened_with []) [] held laid))

-- the two lines, by their requests
both_lines : (thread : ℕ) (command : Command) (one two : Request) → one ≡ own_request (opening thread) → two ≡ own_request command → Ok one ∷ Ok two ∷ [] ≡ opened_lines thread command
both_lines thread command one two e f = cc

module _ (p : ProfileTables) (digest : List ℕ) (thread : ℕ) (command : Command) (d : DeskLists) (t : Option Shelf) where
  -- both were answered, or the second wasn't
  pub opens_both : (e : DeskLists) (u : Option Shelf) {old mid new : Stage} (one two : Request) (r : Result ⊤ PlayEnd)
      → ((told : Bool) (held : Held) (laid : List (List ℕ × Laid)) → IsHeld d.profiles told d t held → AreLaid d laid → Plays d.profiles told held laid (Ok one ∷ []) old mid (Ok tt))
      → ((told : Bool) (held : Held) (laid : List (List ℕ × Laid)) → IsHeld e.profiles told e u held → AreLaid e laid → Plays e.profiles told held laid (Ok two ∷ []) mid new r)
      → d ≡ record { profiles = named_main p digest; seats = [] } → t ≡ Some [] → old.keeper.sure → one ≡ own_request (opening thread) → two ≡ own_request command
      → e.profiles ≡ d.profiles → mid.desk ≡ e → mid.keeper.texts ≡ u
      → Leaves old.out new.out (status_of r) (opened_replies p digest thread command) × (new.reads ≤ old.reads + opened_readings p digest thread command)
  opens_both e u {old = old} {mid = mid} {new = new} one two r first second bare none sure is_one is_two same desk texts =
      opens p digest thread command d t old new r bare none sure (λ held laid is lies.
      subst (λ ls. Plays d.profiles true held laid ls old new r) (both_lines thread command one two is_one is_two)
      (plays_on d.profiles true held laid (Ok one ∷ []) (Ok two ∷ []) old mid new tt r (first true held laid is lies)
      (λ now lays isd lie.
      let held_so : IsHeld d.profiles true e mid.keeper.texts now = subst (λ x. IsHeld d.profiles true x mid.keeper.texts now) desk isd in
      let held_then : IsHeld d.profiles true e u now = subst (λ x. IsHeld d.profiles true e x now) texts held_so in
      subst (λ ps. Plays ps true now lays (Ok two ∷ []) mid new r) same
      (second true now lays (subst (λ ps. IsHeld ps true e u now) (sym same) held_then) (subst (λ (x : DeskLists). AreLaid x lays) desk lie)))))

  -- the first wasn't
  pub opens_none : {old new : Stage} (one two : Request) (end : PlayEnd) (r : Result ⊤ PlayEnd)
      → ((told : Bool) (held : Held) (laid : List (List ℕ × Laid)) → IsHeld d.profiles told d t held → AreLaid d laid → Plays d.profiles told held laid (Ok one ∷ []) old new (Err end))
      → d ≡ record { profiles = named_main p digest; seats = [] } → t ≡ Some [] → old.keeper.sure → one ≡ own_request (opening thread) → two ≡ own_request command → r ≡ Err end
      → Leaves old.out new.out (status_of r) (opened_replies p digest thread command) × (new.reads ≤ old.reads + opened_readings p digest thread command)
  opens_none {old = old} {new = new} one two end r first bare none sure is_one is_two is_end =
      opens p digest thread command d t old new r bare none sure (λ held laid is lies.
      subst (λ (x : Result ⊤ PlayEnd). Plays d.profiles true held laid (opened_lines thread command) old new x) (sym is_end)
      (subst (λ ls. Plays d.profiles true held laid ls old new (Err end)) (both_lines thread command one two is_one is_two)
      (plays_cut d.profiles true held laid (Ok one ∷ []) (Ok two ∷ []) old new end (first true held laid is lies))))

-- memory ran out before
pub opens_not : (p : ProfileTables) (digest : List ℕ) (thread : ℕ) (command : Command) (o : Seen) (n : ℕ)
    → Leaves o o (status_of (Err play_end.NoMemory)) (opened_replies p digest thread command) × (n ≤ n + opened_readings p digest thread command)
opens_not p digest thread command o n = (([], opened_replies p digest thread command, refl, writes_none o), omega arith)
