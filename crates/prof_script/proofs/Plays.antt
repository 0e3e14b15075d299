-- Lines that are played one after another.
use Rattle.std.proofs.Common.{◌≡◌, ◌≢◌, ◌∙◌, ℕ, ◌+◌, ◌≤◌, ◌==◌, List, [], ◌∷◌, ◌++◌, map, length, true, false, Bool, Option, Result, Ok, Err, OnOk, refl, sym, ap, subst, arith, append-nil, append_assoc}
use Rattle.std.specs.Prelude.{⊤, IsErrAnd}
use Rattle.std.specs.Option.{option_map}
use Rattle.std.proofs.lemmas.Bool.Decides.{Decides-eqb}
use Rattle.std.proofs.lemmas.List.{map-append}
use Rattle.prof_io.specs.Causes.{RoseBy}
use Rattle.prof_io.specs.Named.{value_at}
use Rattle.prof_io.specs.Outside.{Kept, Seen}
use Rattle.prof_io.specs.Shelf.{Shelf}
use Rattle.prof_io.specs.Sinks.{Wrote}
use Rattle.prof_tables.specs.Threads.{ThreadTables}
use Rattle.prof_machine.specs.declared.refusal.Reply.{Reply}
use Rattle.prof_machine.specs.Known.{Known, thread_of}
use Rattle.prof_machine.specs.Session.{Session, present}
use Rattle.prof_machine.specs.Machine.{profile_of}
use Rattle.prof_machine.specs.Play.{Answered, Shown, Starved, Failed, Fate, Held, Line, held_after, held_after_all, reply_to, shown_in}
use Rattle.prof_request.specs.declared.request.Request.{Request}
use Rattle.prof_request.specs.Requests.{TellsLine}
use Rattle.prof_request.proofs.OutcomeLemmas.{line_of, tells_line, tells_one_line}
use Rattle.prof_reply.specs.Replies.{reply_bytes}
use Rattle.prof_writer.proofs.Outputs.{writes_as, writes_none, writes_then}
use Rattle.prof_session_desk.specs.Desk.{DeskLists, own_of, sessions_of}
use Rattle.prof_script.specs.declared.playing.PlayEnd.{PlayEnd}
use Rattle.prof_script.specs.declared.playing.PlayEnd.TheVariants as play_end
use Rattle.prof_script.specs.Lines.{some_line}
use Rattle.prof_script.specs.Playing.{AreFated, IsHeld, Plays, Stage, failed_count, output, output_end, starved, thread_shown}
use Rattle.prof_script.specs.Readings.{AreLaid, Laid, laid_after, laid_after_all, line_readings, lines_readings}
use Rattle.prof_script.proofs.Turns.{Turn}

abbrev line_in : Line × Fate → Line
line_in l = l.0

abbrev fate_in : Line × Fate → Fate
fate_in l = l.1

-- a line that isn't empty
pub one_line : (line : List ℕ) (b : Bool) → b ≡ false → b ≡ (length line == 0) → some_line line ≡ line ∷ []
one_line [] b f e = cc
one_line (c ∷ line) b f e = refl

pub no_line : (line : List ℕ) (b : Bool) → b ≡ true → b ≡ (length line == 0) → some_line line ≡ []
no_line [] b f e = refl
no_line (c ∷ line) b f e = let none : length (c ∷ line) ≡ 0 = (Decides-eqb (length (c ∷ line)) 0).0 (sym e ∙ f) in absurd (omega arith)

-- what a line is read as
pub read_line : (line : List ℕ) (b : Bool) (l : Line) → b ≡ false → b ≡ (length line == 0) → TellsLine line l → map line_of (some_line line) ≡ l ∷ []
read_line line b l f e t = ap (map line_of) (one_line line b f e) ∙ ap (λ x. x ∷ []) (tells_one_line line (line_of line) l (tells_line line) t)

-- an answer that is handed on
pub same_err : (r : Result ⊤ PlayEnd) (e : PlayEnd) → IsErrAnd r (λ f. f ≡ e) → r ≡ Err e
same_err (Ok x) e h = absurd h
same_err (Err f) e h = ap (λ g. Err g) h

on_ok : {P : Type 0} (r : Result ⊤ PlayEnd) → P → OnOk r P
on_ok (Ok x) p = p
on_ok (Err e) p = tt

not_starved : (line : Line) (r : Result ⊤ PlayEnd) → r ≢ Err play_end.NoMemory → starved (line ∷ []) r ≡ []
not_starved line (Ok x) h = refl
not_starved line (Err play_end.OutFault) h = refl
not_starved line (Err play_end.NoMemory) h = absurd (h refl)

starved_ok : (rest : List Line) (x : ⊤) → starved rest (Ok x) ≡ []
starved_ok [] x = refl
starved_ok (l ∷ rest) x = refl

-- counts rise one after another
rose_then : (a b x y z : ℕ) → RoseBy a x y → RoseBy b y z → RoseBy (a + b) x z
rose_then a b x y z h k = omega (arith, h, k)

count_append : (xs ys : List (Line × Fate)) → failed_count (xs ++ ys) ≡ failed_count xs + failed_count ys
count_append [] ys = omega arith
count_append ((line, Answered) ∷ xs) ys = count_append xs ys
count_append ((line, Shown text) ∷ xs) ys = count_append xs ys
count_append ((line, Starved) ∷ xs) ys = count_append xs ys
count_append ((line, Failed) ∷ xs) ys = let e = count_append xs ys in omega arith

-- no text was taken in either part
none_shown : (xs ys : List (Line × Fate)) → shown_in (map fate_in xs) ≡ [] → shown_in (map fate_in ys) ≡ [] → shown_in (map fate_in (xs ++ ys)) ≡ []
none_shown [] ys h k = k
none_shown ((line, Answered) ∷ xs) ys h k = none_shown xs ys h k
none_shown ((line, Shown text) ∷ xs) ys h k = absurd (cc)
none_shown ((line, Starved) ∷ xs) ys h k = none_shown xs ys h k
none_shown ((line, Failed) ∷ xs) ys h k = none_shown xs ys h k

module _ (profiles : List (List ℕ × Known)) (told : Bool) where
  pub held_append : (held : Held) (xs ys : List (Line × Fate)) → held_after_all profiles held (xs ++ ys) ≡ held_after_all profiles (held_after_all profiles held xs) ys
  held_append held [] ys = refl
  held_append held (x ∷ xs) ys = held_append (held_after profiles held x.0 x.1) xs ys

  pub output_append : (held : Held) (xs ys : List (Line × Fate)) → output profiles held (xs ++ ys) ≡ output profiles held xs ++ output profiles (held_after_all profiles held xs) ys
  output_append held [] ys = refl
  output_append held (x ∷ xs) ys =
      let after = held_after profiles held x.0 x.1 in
      let first = reply_bytes (thread_shown profiles after x.0) (reply_to profiles held x.0 x.1) in
      ap (λ l. first ++ l) (output_append after xs ys) ∙ sym (append_assoc first (output profiles after xs) (output profiles (held_after_all profiles after xs) ys))

  fated_append : (held : Held) (xs ys : List (Line × Fate)) → AreFated profiles held xs → AreFated profiles (held_after_all profiles held xs) ys → AreFated profiles held (xs ++ ys)
  fated_append held [] ys f g = g
  fated_append held (x ∷ xs) ys f g = (f.0, fated_append (held_after profiles held x.0 x.1) xs ys f.1 g)

  laid_append : (held : Held) (laid : List (List ℕ × Laid)) (xs ys : List (Line × Fate))
      → laid_after_all profiles held laid (xs ++ ys) ≡ laid_after_all profiles (held_after_all profiles held xs) (laid_after_all profiles held laid xs) ys
  laid_append held laid [] ys = refl
  laid_append held laid (x ∷ xs) ys =
      let after = held_after profiles held x.0 x.1 in
      laid_append after (laid_after profiles held after laid x.0) xs ys

  pub readings_append : (held : Held) (laid : List (List ℕ × Laid)) (xs ys : List (Line × Fate))
      → lines_readings profiles held laid (xs ++ ys) ≡ lines_readings profiles held laid xs + lines_readings profiles (held_after_all profiles held xs) (laid_after_all profiles held laid xs) ys
  readings_append held laid [] ys = omega arith
  readings_append held laid (x ∷ xs) ys =
      let after = held_after profiles held x.0 x.1 in
      let e : lines_readings profiles after (laid_after profiles held after laid x.0) (xs ++ ys) ≡ lines_readings profiles after (laid_after profiles held after laid x.0) xs
      + lines_readings profiles (held_after_all profiles after xs) (laid_after_all profiles after (laid_after profiles held after laid x.0) xs) ys = readings_append after (laid_after profiles held after laid x.0) xs ys in
      omega arith

  -- ---- one line

  -- no line was played
  pub plays_nothing : (held : Held) (laid : List (List ℕ × Laid)) (s : Stage) (x : ⊤) → IsHeld profiles told s.desk s.keeper.texts held → AreLaid s.desk laid → Plays profiles told held laid [] s s (Ok x)
  plays_nothing held laid s x is lies = record {
    handled = [];
    rest = [];
    front = refl;
    whole = refl;
    fated = tt;
    state = is;
    shown = λ tells. refl;
    written = writes_none s.out;
    failed = omega arith;
    quiet = λ none. refl;
    steady = λ sure. (refl, sure);
    lies = lies;
    readings = omega arith;
  }

  -- memory ran out in a line
  pub plays_starved : (held : Held) (laid : List (List ℕ × Laid)) (line : Line) (d e : DeskLists) (k l : Kept) (o : Seen) (m n : ℕ) → IsHeld profiles told e l.texts held → l.faults ≡ k.faults → (k.sure → l.sure)
      → n ≤ m + line_readings held laid line
      → Plays profiles told held laid (line ∷ []) (record { desk = d; keeper = k; out = o; reads = m }) (record { desk = e; keeper = l; out = o; reads = n }) (Err play_end.NoMemory)
  plays_starved held laid line d e k l o m n is calm sure few = record {
    handled = [];
    rest = line ∷ [];
    front = refl;
    whole = tt;
    fated = tt;
    state = is;
    shown = λ tells. refl;
    written = writes_none o;
    failed = omega arith;
    quiet = λ none. calm;
    steady = λ s. (refl, sure s);
    lies = tt;
    readings = omega (arith, few);
  }

  -- a line was handled, and its reply written
  pub plays_line : (held : Held) (laid : List (List ℕ × Laid)) (line : Line) (reply : Reply) (thread : Option ThreadTables) (d e : DeskLists) (k l : Kept) (o p : Seen) (m n : ℕ) (r : Result ⊤ PlayEnd)
      → (turn : Turn profiles told held laid line reply d e k l m n) → thread ≡ thread_shown profiles (held_after profiles held line turn.fate) line
      → r ≢ Err play_end.NoMemory → Wrote o p (output_end r) (reply_bytes thread reply)
      → Plays profiles told held laid (line ∷ []) (record { desk = d; keeper = k; out = o; reads = m }) (record { desk = e; keeper = l; out = p; reads = n }) r
  plays_line held laid line reply thread d e k l o p m n r turn shown some w = record {
    handled = (line, turn.fate) ∷ [];
    rest = [];
    front = refl;
    whole = on_ok r refl;
    fated = (turn.fated, tt);
    state = turn.state;
    shown = turn.shown;
    written = writes_as (ap (λ t. reply_bytes t reply) shown ∙ ap (reply_bytes (thread_shown profiles (held_after profiles held line turn.fate) line)) turn.same
        ∙ sym (append-nil (reply_bytes (thread_shown profiles (held_after profiles held line turn.fate) line) (reply_to profiles held line turn.fate)))) w;
    failed = turn.failed;
    quiet = turn.quiet;
    steady = turn.steady;
    lies = on_ok r turn.lies;
    readings = omega (arith, turn.reads);
  }

  -- the thread that the desk shows of a session
  pub shown_held : (e : DeskLists) (texts : Option Shelf) (after : Held) (request : Request) (name : List ℕ) (thread : Option ThreadTables) → IsHeld profiles told e texts after → name ≡ request.session
      → thread ≡ option_map (λ (s : Session). thread_of (profile_of e.profiles s) (present s)) (own_of e name) → thread ≡ thread_shown profiles after (Ok request)
  shown_held e texts after request name thread is same h =
      h ∙ ap (λ p. option_map (λ (s : Session). thread_of (profile_of p s) (present s)) (value_at (sessions_of e) name)) is.known
      ∙ ap (λ l. option_map (λ (s : Session). thread_of (profile_of profiles s) (present s)) (value_at l name)) is.sessions
      ∙ ap (λ n. option_map (λ (s : Session). thread_of (profile_of profiles s) (present s)) (value_at after.sessions n)) same

  -- ---- many lines

  fronts : (xs ys first rest : List Line) (hs gs : List (Line × Fate)) → xs ≡ map line_in hs ++ first → first ≡ [] → ys ≡ map line_in gs ++ rest
      → xs ++ ys ≡ map line_in (hs ++ gs) ++ rest
  fronts xs ys first rest hs gs front none behind =
      let all : xs ≡ map line_in hs = front ∙ ap (λ l. map line_in hs ++ l) none ∙ append-nil (map line_in hs) in
      ap (λ l. l ++ ys) all ∙ ap (λ l. map line_in hs ++ l) behind
      ∙ sym (append_assoc (map line_in hs) (map line_in gs) rest)
      ∙ ap (λ l. l ++ rest) (sym (map-append line_in hs gs))

  -- lines that were played, and then others
  pub plays_on : (held : Held) (laid : List (List ℕ × Laid)) (xs ys : List Line) (a b c : Stage) (x : ⊤) (r : Result ⊤ PlayEnd) → Plays profiles told held laid xs a b (Ok x)
      → ((mid : Held) (lays : List (List ℕ × Laid)) → IsHeld profiles told b.desk b.keeper.texts mid → AreLaid b.desk lays → Plays profiles told mid lays ys b c r)
      → Plays profiles told held laid (xs ++ ys) a c r
  plays_on held laid xs ys a b c x r first then =
      let mid = held_after_all profiles held first.handled in
      let lays = laid_after_all profiles held laid first.handled in
      let second = then mid lays first.state first.lies in
      let count : failed_count (first.handled ++ second.handled) ≡ failed_count first.handled + failed_count second.handled = count_append first.handled second.handled in
      let one : lines_readings profiles held laid (first.handled ++ starved first.rest (Ok x)) ≡ lines_readings profiles held laid first.handled =
      ap (λ l. lines_readings profiles held laid (first.handled ++ l)) (starved_ok first.rest x) ∙ ap (lines_readings profiles held laid) (append-nil first.handled) in
      let both : lines_readings profiles held laid ((first.handled ++ second.handled) ++ starved second.rest r) ≡ lines_readings profiles held laid first.handled + lines_readings profiles mid lays (second.handled ++ starved second.rest r) =
      ap (lines_readings profiles held laid) (append_assoc first.handled second.handled (starved second.rest r)) ∙ readings_append held laid first.handled (second.handled ++ starved second.rest r) in
      record {
        handled = first.handled ++ second.handled;
        rest = second.rest;
        front = fronts xs ys first.rest second.rest first.handled second.handled first.front first.whole second.front;
        whole = second.whole;
        fated = fated_append held first.handled second.handled first.fated second.fated;
        state = subst (λ h. IsHeld profiles told c.desk c.keeper.texts h) (sym (held_append held first.handled second.handled)) second.state;
        shown = λ tells. none_shown first.handled second.handled (first.shown tells) (second.shown tells);
        written = writes_as (sym (output_append held first.handled second.handled)) (writes_then first.written second.written);
        failed = subst (λ n. RoseBy n a.keeper.faults c.keeper.faults) (sym count) (rose_then (failed_count first.handled) (failed_count second.handled) a.keeper.faults b.keeper.faults c.keeper.faults first.failed second.failed);
        quiet = λ none. second.quiet (omega arith) ∙ first.quiet (omega arith);
        steady = λ sure. let f = first.steady sure in let g = second.steady f.1 in (count ∙ none_both (failed_count first.handled) (failed_count second.handled) f.0 g.0, g.1);
        lies = subst (λ l. OnOk r (AreLaid c.desk l)) (sym (laid_append held laid first.handled second.handled)) second.lies;
        readings = within b.reads a.reads c.reads _ _ _ _ one both first.readings second.readings;
      }
    where
      none_both : (m n : ℕ) → m ≡ 0 → n ≡ 0 → m + n ≡ 0
      none_both m n e f = omega arith

      within : (b a c p q s t : ℕ) → p ≡ q → s ≡ q + t → b ≤ a + p → c ≤ b + t → c ≤ a + s
      within b a c p q s t e f h k = omega arith

  -- a line more may be read
  grown : (held : Held) (laid : List (List ℕ × Laid)) (hs : List (Line × Fate)) (rest ys : List Line) (e : PlayEnd)
      → lines_readings profiles held laid (hs ++ starved rest (Err e)) ≤ lines_readings profiles held laid (hs ++ starved (rest ++ ys) (Err e))
  grown held laid hs [] ys e =
      let f : lines_readings profiles held laid (hs ++ []) ≡ lines_readings profiles held laid hs = ap (lines_readings profiles held laid) (append-nil hs) in
      let g : lines_readings profiles held laid (hs ++ starved ys (Err e)) ≡ lines_readings profiles held laid hs + lines_readings profiles (held_after_all profiles held hs) (laid_after_all profiles held laid hs) (starved ys (Err e)) =
      readings_append held laid hs (starved ys (Err e)) in
      omega arith
  grown held laid hs (l ∷ rest) ys play_end.OutFault = omega arith
  grown held laid hs (l ∷ rest) ys play_end.NoMemory = omega arith

  -- lines of which some weren't played, and others behind them
  pub plays_cut : (held : Held) (laid : List (List ℕ × Laid)) (xs ys : List Line) (a b : Stage) (e : PlayEnd) → Plays profiles told held laid xs a b (Err e) → Plays profiles told held laid (xs ++ ys) a b (Err e)
  plays_cut held laid xs ys a b e first = record {
    handled = first.handled;
    rest = first.rest ++ ys;
    front = ap (λ l. l ++ ys) first.front ∙ append_assoc (map line_in first.handled) first.rest ys;
    whole = tt;
    fated = first.fated;
    state = first.state;
    shown = first.shown;
    written = first.written;
    failed = first.failed;
    quiet = first.quiet;
    steady = first.steady;
    lies = tt;
    readings = omega (arith, first.readings, grown held laid first.handled first.rest ys e);
  }
