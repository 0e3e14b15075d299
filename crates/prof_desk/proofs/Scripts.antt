-- Scripts that are read and played.
use Rattle.std.proofs.Common.{◌≡◌, ◌≢◌, ◌∙◌, ◌<◌, ◌≤◌, ℕ, suc, Bool, List, [], ◌∷◌, ◌++◌, map, length, true, false, Option, None, Some, IfSome, Result, Ok, Err, OnOk, refl, sym, ap, subst, arith, append-nil, length-append, unwrap_or}
use Rattle.std.specs.Prelude.{⊤}
use Rattle.std.specs.List.{zip}
use Rattle.std.specs.Io.KnownBytes.{Consumes}
use Rattle.prof_io.specs.Causes.{RoseBy, Rose}
use Rattle.prof_io.specs.Outside.{Kept, Seen}
use Rattle.prof_io.specs.Shelf.{Shelf}
use Rattle.prof_io.specs.Sinks.{Wrote}
use Rattle.prof_read.specs.declared.read.Form.{Form}
use Rattle.prof_tables.specs.Profiles.{ProfileTables}
use Rattle.prof_machine.specs.Known.{Known}
use Rattle.prof_machine.specs.Play.{Answered, Shown, Starved, Failed, Fate, Held, Line, held_after, held_after_all}
use Rattle.prof_script.specs.declared.playing.PlayEnd.{PlayEnd}
use Rattle.prof_script.specs.declared.playing.PlayEnd.TheVariants as play_end
use Rattle.prof_script.specs.Lines.{lines_of}
use Rattle.prof_script.specs.Playing.{AreFated, IsHeld, Keeps as HasTexts, Plays, failed_count as failed_lines, output, output_end, starved}
use Rattle.prof_script.specs.Readings.{AreLaid, Laid, laid_after, lines_readings}
use Rattle.prof_session_desk.specs.Desk.{DeskLists, sessions_of}
use Rattle.std.specs.declared.alloc.Global.{Global}
use Rattle.std.specs.declared.vec.Vec.{Vec}
use Rattle.prof_desk.specs.declared.outcome.Stop.{Stop}
use Rattle.prof_desk.specs.declared.outcome.Stop.TheVariants as stop
use Rattle.prof_desk.specs.declared.status.Status.{Status}
use Rattle.prof_desk.specs.declared.status.Status.TheVariants as status
use Rattle.prof_desk.specs.declared.words.Order.TheVariants.{Script}
use Rattle.prof_desk.specs.Inputs.{Input, of_profile, of_script, profile_input}
use Rattle.prof_desk.specs.Orders.{a_profile, a_script, can_end, least_of}
use Rattle.prof_desk.specs.Outcomes.{Reads, ended_by, stopped_by}
use Rattle.prof_desk.specs.Output.{fated_lines, kept_of, named_main, output_of, script_replies, script_readings, unopened_with}
use Rattle.prof_desk.specs.Playing.{Leaves, status_of}
use Rattle.prof_desk.specs.Ran.{DoesKeeping, EndsKeeping, Outside, Tells}
use Rattle.prof_desk.specs.Ways.{Ways, failed_count, no_ways}
use Rattle.prof_writer.proofs.Outputs.{writes_none}
use Rattle.prof_desk.proofs.Carrying.{ends, keeps_unasked, reads, starts, stops}

-- more bytes were read than a text may have
pub consumes_long : (a b : Option (List ℕ)) (bytes : List ℕ) (n : ℕ) → Consumes a b bytes → n < length bytes → IfSome a (λ l. n < length l)
consumes_long None b bytes n c long = tt
consumes_long (Some x) None bytes n c long = absurd c
consumes_long (Some x) (Some y) bytes n c long =
    let e : length x ≡ length (bytes ++ y) = ap length c in
    let f = length-append bytes y in
    omega (arith, e, f, long)

-- ---- lines with their fates

abbrev line_in : Line × Fate → Line
line_in l = l.0

abbrev pub fate_in : Line × Fate → Fate
fate_in l = l.1

zip_handled : (hs : List (Line × Fate)) (rest : List Line) → zip (map line_in hs ++ rest) (map fate_in hs) ≡ hs
zip_handled [] [] = refl
zip_handled [] (line ∷ rest) = refl
zip_handled (h ∷ hs) rest = ap (λ l. h ∷ l) (zip_handled hs rest)

-- the line in which memory may have run out
abbrev next_starved : List Line → List (Line × Fate)
next_starved [] = []
next_starved (line ∷ rest) = (line, Starved) ∷ []

zip_next : (hs : List (Line × Fate)) (rest : List Line) → zip (map line_in hs ++ rest) (map fate_in hs ++ Starved ∷ []) ≡ hs ++ next_starved rest
zip_next [] [] = refl
zip_next [] (line ∷ []) = refl
zip_next [] (line ∷ other ∷ rest) = refl
zip_next (h ∷ hs) rest = ap (λ l. h ∷ l) (zip_next hs rest)

pub failed_in : (hs : List (Line × Fate)) → failed_count (map fate_in hs) ≡ failed_lines hs
failed_in [] = refl
failed_in ((line, Answered) ∷ hs) = failed_in hs
failed_in ((line, Shown text) ∷ hs) = failed_in hs
failed_in ((line, Starved) ∷ hs) = failed_in hs
failed_in ((line, Failed) ∷ hs) = ap (λ n. suc n) (failed_in hs)

length_fates : (hs : List (Line × Fate)) (rest : List Line) → rest ≡ [] → length (map fate_in hs) ≡ length (map line_in hs ++ rest)
length_fates [] rest none = sym (ap length none)
length_fates (h ∷ hs) rest none = ap (λ n. suc n) (length_fates hs rest none)

module _ (profiles : List (List ℕ × Known)) where
  -- more lines have no fewer readings
  more_readings : (held : Held) (laid : List (List ℕ × Laid)) (hs more : List (Line × Fate)) → lines_readings profiles held laid hs ≤ lines_readings profiles held laid (hs ++ more)
  more_readings held laid [] more = omega arith
  more_readings held laid (h ∷ hs) more =
      let after = held_after profiles held h.0 h.1 in
      let rest = more_readings after (laid_after profiles held after laid h.0) hs more in
      omega (arith, rest)

  -- the line in which memory ran out is the next one
  within_next : (held : Held) (laid : List (List ℕ × Laid)) (hs : List (Line × Fate)) (rest : List Line) (r : Result ⊤ PlayEnd)
      → lines_readings profiles held laid (hs ++ starved rest r) ≤ lines_readings profiles held laid (hs ++ next_starved rest)
  within_next held laid hs [] r = omega arith
  within_next held laid hs (line ∷ rest) (Err play_end.NoMemory) = omega arith
  within_next held laid hs (line ∷ rest) (Err play_end.OutFault) = subst (λ l. lines_readings profiles held laid l ≤ lines_readings profiles held laid (hs ++ next_starved (line ∷ rest))) (sym (append-nil hs)) (more_readings held laid hs (next_starved (line ∷ rest)))
  within_next held laid hs (line ∷ rest) (Ok x) = subst (λ l. lines_readings profiles held laid l ≤ lines_readings profiles held laid (hs ++ next_starved (line ∷ rest))) (sym (append-nil hs)) (more_readings held laid hs (next_starved (line ∷ rest)))

  -- no line was handled
  fated_none : (held : Held) (lines : List Line) → AreFated profiles held (zip lines [])
  fated_none held [] = tt
  fated_none held (line ∷ lines) = tt

-- what holds of each value that there may be
pub if_some : {X : Type 0} {P : X → Type 0} (o : Option X) → ((x : X) → o ≡ Some x → P x) → IfSome o P
if_some None all = tt
if_some (Some x) all = all x refl

-- ---- how a play ends

leaves_end : (old new : Seen) (text : List ℕ) (r : Result ⊤ PlayEnd) → Wrote {T = ⊤} {E = ⊤} old new (output_end r) text → Leaves old new (status_of r) text
leaves_end old new text (Ok x) w = w
leaves_end old new text (Err play_end.OutFault) w = w
leaves_end old new text (Err play_end.NoMemory) w = (text, [], sym (append-nil text), w)

no_keeper_fault : (r : Result ⊤ PlayEnd) → status_of r ≢ status.KeeperFault
no_keeper_fault (Ok x) f = cc
no_keeper_fault (Err play_end.OutFault) f = cc
no_keeper_fault (Err play_end.NoMemory) f = cc

is_whole : {P : Type 0} (r : Result ⊤ PlayEnd) → OnOk r P → status_of r ≡ status.Done → P
is_whole (Ok x) p d = p
is_whole (Err play_end.OutFault) p d = absurd (cc)
is_whole (Err play_end.NoMemory) p d = absurd (cc)

pub tells_of : (texts : Option Shelf) (held : Shelf) → HasTexts texts held → Tells texts held
tells_of None held h = h
tells_of (Some shelf) held h = h

-- the keeper was begun, and was asked by a play since then
pub record Begun (k m l : Kept) : Type 0 where
  pub texts : m.texts ≡ k.begun []
  pub calm : m.faults ≡ k.faults
  pub returned : l.returned_at ≡ m.faults
  pub later : m.faults ≤ l.faults
  pub sure : k.sure → m.sure

module _ (p : ProfileTables) (digest text : List ℕ) (form : Form) (name file : List ℕ) where
  abbrev inputs : List Input
  inputs = of_profile p digest form ∷ of_script text ∷ []

  abbrev profiles_in : List (List ℕ × Known)
  profiles_in = named_main p digest

  -- a play over a keeper that tells its texts, of which there are none, or that doesn't
  plays_by : (told : Bool) (d e : DeskLists) (k m l : Kept) (o q : Seen) (reads rows : ℕ) (r : Result ⊤ PlayEnd)
      → ((texts : Shelf) → k.begun [] ≡ Some texts → (told ≡ true) × (texts ≡ [])) → Begun k m l
      → Plays profiles_in told (unopened_with []) [] (lines_of text) (record { desk = d; keeper = m; out = o; reads = reads }) (record { desk = e; keeper = l; out = q; reads = rows }) r
      → EndsKeeping (Script name file) inputs o q reads rows k l (status_of r)
  plays_by told d e k m l o q reads rows r tells begun plays = record {
    ways = ways;
    written = leaves_end o q (script_replies p digest text fates) r (subst (λ ls. Wrote {T = ⊤} {E = ⊤} o q (output_end r) (output profiles_in (unopened_with []) ls)) (sym same) plays.written);
    readings = omega (arith, plays.readings, few);
    handled = λ d. length_fates plays.handled plays.rest (is_whole r plays.whole d) ∙ ap length (sym plays.front);
    kept = record {
      fault = λ f. absurd (no_keeper_fault r f);
      later = omega (arith, begun.calm, begun.later);
      began = true;
      all = λ _. refl;
      begun = λ _. begins (k.begun []) refl;
      failed = λ _. failed;
      kept = λ _. if_some (k.begun []) kept_then;
      left = λ f. cc;
      unasked = λ f. cc;
      fated = subst (λ ls. AreFated profiles_in (unopened_with []) ls) (sym same) plays.fated;
      told = λ texts is. plays.shown (tells texts is).0;
      steady = λ s. (no_keeper_fault r, failed_in plays.handled ∙ (plays.steady (begun.sure s)).0);
    };
  }
    where
      fates : List Fate
      fates = map fate_in plays.handled

      ways : Ways
      ways = record { begun = []; fates = fates; served = [] }

      same : fated_lines text fates ≡ plays.handled
      same = ap (λ ls. zip ls fates) plays.front ∙ zip_handled plays.handled plays.rest

      next : fated_lines text (fates ++ Starved ∷ []) ≡ plays.handled ++ next_starved plays.rest
      next = ap (λ ls. zip ls (fates ++ Starved ∷ [])) plays.front ∙ zip_next plays.handled plays.rest

      few : lines_readings profiles_in (unopened_with []) [] (plays.handled ++ starved plays.rest r) ≤ script_readings p digest text fates
      few = subst (λ ls. lines_readings profiles_in (unopened_with []) [] (plays.handled ++ starved plays.rest r) ≤ lines_readings profiles_in (unopened_with []) [] ls) (sym next)
          (within_next profiles_in (unopened_with []) [] plays.handled plays.rest r)

      failed : RoseBy (failed_count fates) l.returned_at l.faults
      failed = subst (λ n. RoseBy n l.returned_at l.faults) (sym (failed_in plays.handled)) (subst (λ n. RoseBy (failed_lines plays.handled) n l.faults) (sym begun.returned) plays.failed)

      begins : (b : Option Shelf) → k.begun [] ≡ b → [] ≡ unwrap_or (k.begun []) []
      begins None is = rw is refl
      begins (Some texts) is = rw (is, (tells texts is).1) refl

      kept_then : (texts : Shelf) → k.begun [] ≡ Some texts → Tells l.texts (kept_of (Script name file) inputs ways texts)
      kept_then texts is =
          let (t, none) = tells texts is in
          subst (λ b. Tells l.texts (kept_of (Script name file) inputs ways b)) (sym none)
          (subst (λ ls. Tells l.texts (held_after_all profiles_in (unopened_with []) ls).kept) (sym same) (tells_of l.texts _ (plays.state.kept t)))

  -- a play over either
  pub plays_begun : (d e : DeskLists) (k m l : Kept) (o q : Seen) (reads rows : ℕ) (r : Result ⊤ PlayEnd) → d ≡ record { profiles = profiles_in; seats = [] }
      → IfSome (k.begun []) (λ texts. texts ≡ []) → Begun k m l
      → ((told : Bool) (held : Held) (laid : List (List ℕ × Laid)) → IsHeld d.profiles told d m.texts held → AreLaid d laid
      → Plays d.profiles told held laid (lines_of text) (record { desk = d; keeper = m; out = o; reads = reads }) (record { desk = e; keeper = l; out = q; reads = rows }) r)
      → EndsKeeping (Script name file) inputs o q reads rows k l (status_of r)
  plays_begun d e k m l o q reads rows r bare nameless begun plays = by_texts (k.begun []) refl
    where
      from : (told : Bool) → ((texts : Shelf) → k.begun [] ≡ Some texts → (told ≡ true) × (texts ≡ [])) → (told ≡ true → HasTexts m.texts [])
          → EndsKeeping (Script name file) inputs o q reads rows k l (status_of r)
      from told tells has =
          let held : IsHeld d.profiles told d m.texts (unopened_with []) = record { known = refl; sessions = ap sessions_of bare; kept = has } in
          let laid : AreLaid d [] = subst (λ x. AreLaid x []) (sym bare) (λ name. refl) in
          plays_by told d e k m l o q reads rows r tells begun
          (subst (λ ps. Plays ps told (unopened_with []) [] (lines_of text) (record { desk = d; keeper = m; out = o; reads = reads }) (record { desk = e; keeper = l; out = q; reads = rows }) r)
          (ap (λ (x : DeskLists). x.profiles) bare) (plays told (unopened_with []) [] held laid))

      by_texts : (b : Option Shelf) → k.begun [] ≡ b → EndsKeeping (Script name file) inputs o q reads rows k l (status_of r)
      by_texts None is = from false (λ texts some. cc (is, some)) (λ f. cc)
      by_texts (Some texts) is =
          let none : texts ≡ [] = subst (λ b. IfSome b (λ texts. texts ≡ [])) is nameless in
          let bare_texts : m.texts ≡ Some [] = begun.texts ∙ is ∙ ap (λ l. Some l) none in
          from true (λ other some. (refl, cc (is, some, none))) (λ _. subst (λ t. HasTexts t []) (sym bare_texts) (λ name. refl))

  -- the keeper wasn't begun, for one reason or the other
  not_begun : (k l : Kept) (o : Seen) (reads : ℕ) (end : Status) → Leaves o o end (script_replies p digest text []) → end ≢ status.Done
      → (end ≡ status.KeeperFault → Rose l.called_at l.returned_at × (k.faults ≤ l.called_at)) → k.faults ≤ l.faults → l.texts ≡ k.texts → (k.sure → end ≢ status.KeeperFault)
      → EndsKeeping (Script name file) inputs o o reads reads k l end
  not_begun k l o reads end left not_done fault later texts steady = record {
    ways = no_ways;
    written = left;
    readings = omega arith;
    handled = λ d. absurd (not_done d);
    kept = record {
      fault = fault;
      later = later;
      began = false;
      all = λ d. absurd (not_done d);
      begun = λ f. cc;
      failed = λ f. cc;
      kept = λ f. cc;
      left = λ _. texts;
      unasked = λ _. refl;
      fated = fated_none profiles_in (unopened_with []) (lines_of text);
      told = λ _ _. refl;
      steady = λ s. (steady s, refl);
    };
  }

  -- the keeper failed
  pub fails_to_begin : (k l : Kept) (o : Seen) (reads : ℕ) → l.called_at ≡ k.faults → l.returned_at ≡ l.faults → Rose k.faults l.faults → k.faults ≤ l.faults → l.texts ≡ k.texts
      → (k.sure → ⊥) → EndsKeeping (Script name file) inputs o o reads reads k l status.KeeperFault
  fails_to_begin k l o reads called returned rose later texts unsure = not_begun k l o reads status.KeeperFault ([], script_replies p digest text [], refl, writes_none o) (λ f. cc)
      (λ _. (omega (arith, called, returned, rose), omega (arith, called))) later texts (λ s _. unsure s)

  -- memory ran out
  pub starves_to_begin : (k l : Kept) (o : Seen) (reads : ℕ) → k.faults ≤ l.faults → l.texts ≡ k.texts → EndsKeeping (Script name file) inputs o o reads reads k l status.NoMemory
  starves_to_begin k l o reads later texts = not_begun k l o reads status.NoMemory ([], script_replies p digest text [], refl, writes_none o) (λ f. cc) (λ f. cc) later texts (λ _ f. cc)

-- ---- a script that is read and played

pub not_done : (at : ℕ) (s : Stop) → (stopped_by at s).status ≢ status.Done
not_done at (stop.Broken b) f = cc
not_done at stop.FileFault f = cc
not_done at stop.NoMemory f = cc

pub no_fault : (at : ℕ) (s : Stop) → (stopped_by at s).status ≢ status.KeeperFault
no_fault at (stop.Broken b) f = cc
no_fault at stop.FileFault f = cc
no_fault at stop.NoMemory f = cc

least_two : (name file : List ℕ) (end : Status) → least_of (Script name file) end ≤ 2
least_two name file status.Done = omega arith
least_two name file status.Broken = omega arith
least_two name file status.Usage = omega arith
least_two name file status.FileFault = omega arith
least_two name file status.OutFault = omega arith
least_two name file status.HallFault = omega arith
least_two name file status.NoMemory = omega arith
least_two name file status.KeeperFault = omega arith

abbrev pub script_input : Vec ℕ Global → Input
script_input script = of_script script.items

module _ (name file : List ℕ) (old : Outside) (files : Seen) (k : Kept) where
  -- the profile isn't accepted
  pub stops_first : {T : Type 0} (input : T → Input) (s : Stop) → Reads input a_profile name old.files files (Err s)
      → DoesKeeping (Script name file) old (record { files = files; out = old.out; reads = old.reads }) k k (stopped_by 0 s)
  stops_first input s r = (
    [],
    no_ways,
    stops (Script name file) old old files [] [] [] 0 input a_profile name s no_ways (starts (Script name file) old) refl r refl (omega arith),
    keeps_unasked (Script name file) [] k (stopped_by 0 s) tt (not_done 0 s) (no_fault 0 s),
  )

  -- the script isn't
  pub stops_second : {T : Type 0} (x : ProfileTables × List ℕ × Form) (next : Seen) (input : T → Input) (s : Stop) → Reads profile_input a_profile name old.files files (Ok x)
      → Reads input a_script file files next (Err s) → DoesKeeping (Script name file) old (record { files = next; out = old.out; reads = old.reads }) k k (stopped_by 1 s)
  stops_second x next input s first r = (
    profile_input x ∷ [],
    no_ways,
    stops (Script name file) old (record { files = files; out = old.out; reads = old.reads }) next (profile_input x ∷ []) [] [] 0 input a_script file s no_ways
        (reads (Script name file) old old files [] [] 0 profile_input a_profile name x (starts (Script name file) old) refl first) refl r refl (omega arith),
    keeps_unasked (Script name file) (profile_input x ∷ []) k (stopped_by 1 s) tt (not_done 1 s) (no_fault 1 s),
  )

  -- both are
  pub ends_script : (x : ProfileTables × List ℕ × Form) (next out : Seen) (script : Vec ℕ Global) (rows : ℕ) (l : Kept) (end : Status) → Reads profile_input a_profile name old.files files (Ok x)
      → Reads script_input a_script file files next (Ok script) → EndsKeeping (Script name file) (profile_input x ∷ of_script script.items ∷ []) old.out out old.reads rows k l end
      → can_end (Script [] []) end ≡ true → end ≢ status.Broken → end ≢ status.FileFault
      → DoesKeeping (Script name file) old (record { files = next; out = out; reads = rows }) k l (ended_by 2 end)
  ends_script x next out script rows l end first second done can no_break no_file = (
    profile_input x ∷ of_script script.items ∷ [],
    done.ways,
    ends (Script name file) old (record { files = next; out = old.out; reads = old.reads }) out (profile_input x ∷ of_script script.items ∷ []) []
        (output_of (Script name file) (profile_input x ∷ of_script script.items ∷ []) done.ways) 0 _ rows done.ways end
        (reads (Script name file) old (record { files = files; out = old.out; reads = old.reads }) next (profile_input x ∷ []) [] 0 script_input a_script file script
        (reads (Script name file) old old files [] [] 0 profile_input a_profile name x (starts (Script name file) old) refl first) refl second)
        refl done.written done.readings (omega arith) (least_two name file end) (ends_same end can) no_break no_file done.handled,
    done.kept,
  )
    where
      ends_same : (e : Status) → can_end (Script [] []) e ≡ true → can_end (Script name file) e ≡ true
      ends_same status.Usage c = c
      ends_same status.HallFault c = c
      ends_same status.KeeperFault c = refl
      ends_same e c = refl
