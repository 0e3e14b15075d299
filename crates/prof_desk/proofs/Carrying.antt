-- Orders that are carried out step by step.
use Rattle.std.proofs.Common.{◌≡◌, ◌≢◌, ◌<◌, ℕ, zero, suc, ◌+◌, ◌-◌, ◌≤◌, ◌^◌, min, List, [], ◌∷◌, ◌++◌, length, arith, Ok, Err, None, Some, Result, Option, IfSome, refl, length-append, ap, sym, ◌∙◌, subst, true, false, append_assoc, inl, inr, ◌⊎◌}
use Rattle.std.specs.Prelude.{⊤}
use Rattle.std.specs.Io.KnownBytes.{IsAtEnd}
use Rattle.prof_io.specs.Causes.{Rose}
use Rattle.prof_io.specs.Shelf.{Place, Shelf}
use Rattle.prof_io.specs.declared.copying.OutFault.{OutFault}
use Rattle.prof_desk.specs.declared.breaks.Break.{Break}
use Rattle.prof_desk.specs.declared.outcome.Outcome.{Outcome}
use Rattle.prof_desk.specs.declared.outcome.Stop.{Stop}
use Rattle.prof_desk.specs.declared.outcome.Stop.TheVariants as stop
use Rattle.prof_desk.specs.declared.status.Status.{Status}
use Rattle.prof_desk.specs.declared.status.Status.TheVariants as status
use Rattle.prof_desk.specs.declared.words.Order.{Order}
use Rattle.prof_desk.specs.declared.words.Order.TheVariants.{Script, Serve}
use Rattle.prof_words.specs.declared.order.WordRefusal.{WordRefusal}
use Rattle.prof_words.specs.declared.order.WordRefusal.TheVariants as refusal
use Rattle.prof_script.specs.declared.playing.PlayEnd.{PlayEnd}
use Rattle.prof_script.specs.declared.playing.PlayEnd.TheVariants as play_end
use Rattle.prof_desk.specs.Inputs.{Input, IsInput, IsBreak, IsBreakAt, IsThere, AreInputs, AreThere, name_at, text_in}
use Rattle.prof_desk.specs.Orders.{Kind, can_end, files_of, has_files, least_of, needed_of}
use Rattle.prof_serving.specs.Halls.{all_served}
use Rattle.prof_serving.proofs.Visits.{none_yet}
use Rattle.prof_desk.specs.Outcomes.{Reads, begun_by, ended_by, stopped_by}
use Rattle.prof_desk.specs.Output.{AreFates, AreHandled, output_of, profiles_of, readings_of, unopened_with}
use Rattle.prof_io.specs.Outside.{Kept, Seen}
use Rattle.prof_desk.specs.Playing.{Leaves, status_of}
use Rattle.prof_desk.specs.Ran.{Did, Does, Keeps, Outside, Ran, Serves}
use Rattle.prof_io.specs.Sinks.{Wrote}
use Rattle.prof_desk.specs.Telling.{refusal_status, told}
use Rattle.prof_words.specs.Reading.{Reads as ReadsWords}
use Rattle.prof_desk.specs.Ways.{Ways, no_ways}
use Rattle.prof_writer.proofs.Outputs.{writes_none, writes_then, writes_ok}

-- the file behind so many
abbrev pub file_behind : List (Kind × List ℕ) → ℕ → Option (Kind × List ℕ)
file_behind [] at = None
file_behind (file ∷ files) zero = Some file
file_behind (file ∷ files) (suc at) = file_behind files at

-- where there is a file behind so many, there is one
has_behind : (files : List (Kind × List ℕ)) (at : ℕ) (file : Kind × List ℕ) → file_behind files at ≡ Some file → has_files files ≡ true
has_behind [] at file e = absurd (cc)
has_behind (f ∷ files) at file e = refl

the_file : {a b : Kind × List ℕ} → Some a ≡ Some b → a ≡ b
the_file h = cc

-- one more accepted file
are_more : (place : Place) (files : List (Kind × List ℕ)) (inputs : List Input) (kind : Kind) (name : List ℕ) (input : Input)
    → file_behind files (length inputs) ≡ Some (kind, name) → AreInputs place files inputs → IfSome (text_in place name) (λ bytes. IsInput kind bytes input)
    → AreInputs place files (inputs ++ input ∷ [])
are_more place [] [] kind name input e are is = absurd (cc)
are_more place [] (x ∷ inputs) kind name input e are is = are
are_more place (file ∷ files) [] kind name input e are is =
    subst (λ (f : Kind × List ℕ). IfSome (text_in place f.1) (λ bytes. IsInput f.0 bytes input) × ⊤) (sym (the_file e)) (is, tt)
are_more place (file ∷ files) (x ∷ inputs) kind name input e are is = (are.0, are_more place files inputs kind name input e are.1 is)

-- the break is that of the next file
break_at : (place : Place) (files : List (Kind × List ℕ)) (at : ℕ) (kind : Kind) (name : List ℕ) (b : Break)
    → file_behind files at ≡ Some (kind, name) → IsBreak kind (text_in place name) b → IsBreakAt place files at b
break_at place [] at kind name b e is = absurd (cc)
break_at place (file ∷ files) zero kind name b e is = subst (λ (f : Kind × List ℕ). IsBreak f.0 (text_in place f.1) b) (sym (the_file e)) is
break_at place (file ∷ files) (suc at) kind name b e is = break_at place files at kind name b e is

-- the next file is there where all are
there_at : (shelf : Option Shelf) (files : List (Kind × List ℕ)) (at : ℕ) (kind : Kind) (name : List ℕ)
    → file_behind files at ≡ Some (kind, name) → AreThere shelf files → IsThere shelf name
there_at shelf [] at kind name e all = absurd (cc)
there_at shelf (file ∷ files) zero kind name e all = subst (λ (f : Kind × List ℕ). IsThere shelf f.1) (the_file e) all.0
there_at shelf (file ∷ files) (suc at) kind name e all = there_at shelf files at kind name e all.1

-- How far an order has come: these files were accepted, this was written, and so many stack rows were read at most.
pub record SoFar (order : Order) (old new : Outside) (inputs : List Input) (text : List ℕ) (readings : ℕ) : Type 0 where
  pub read : AreInputs old.files.place (files_of order) inputs
  pub begins : min new.files.place.begins (2 ^ 64 - 1) ≡ min (old.files.place.begins + length inputs) (2 ^ 64 - 1)
  pub shelf : new.files.place.files ≡ old.files.place.files
  pub calm : new.files.faults ≡ old.files.faults
  pub sure : old.files.sure → new.files.sure
  pub written : Wrote {T = ⊤} {E = ⊤} old.out new.out (Ok tt) text
  pub ended : 0 < length inputs → IsAtEnd new.files.left
  pub read_rows : new.reads ≤ old.reads + readings

-- at first nothing is read and nothing written
pub starts : (order : Order) (old : Outside) → SoFar order old old [] [] 0
starts order old = record {
  read = tt;
  begins = omega arith;
  shelf = refl;
  calm = refl;
  sure = λ s. s;
  written = writes_none old.out;
  ended = λ f. absurd (no_less f);
  read_rows = omega arith;
}
  where
    no_less : 0 < 0 → ⊥
    no_less f = omega (arith, f)

-- a file more
pub reads : {T : Type 0} (order : Order) (old now : Outside) (files : Seen) (inputs : List Input) (text : List ℕ) (k : ℕ) (input : T → Input) (kind : Kind) (name : List ℕ) (x : T)
    → SoFar order old now inputs text k → file_behind (files_of order) (length inputs) ≡ Some (kind, name) → Reads input kind name now.files files (Ok x)
    → SoFar order old (record { files = files; out = now.out; reads = now.reads }) (inputs ++ input x ∷ []) text k
reads order old now files inputs text k input kind name x so e r = record {
  read = are_more old.files.place (files_of order) inputs kind name (input x) e so.read (subst (λ (p : Option Shelf). IfSome (text_in (record (now.files.place) { files = p }) name) (λ bytes. IsInput kind bytes (input x))) so.shelf r.accepted);
  begins = omega (arith, length-append inputs (input x ∷ []), so.begins, r.begins);
  shelf = r.shelf ∙ so.shelf;
  calm = r.calm ∙ so.calm;
  sure = λ s. r.sure (so.sure s);
  written = so.written;
  ended = λ _. r.end;
  read_rows = so.read_rows;
}

-- a text more, which took so many readings
pub writes : {T E : Type 0} (order : Order) (old now : Outside) (out : Seen) (inputs : List Input) (text more : List ℕ) (k j rows : ℕ) (x : T)
    → SoFar order old now inputs text k → Wrote {T = T} {E = E} now.out out (Ok x) more → rows ≤ now.reads + j
    → SoFar order old (record { files = now.files; out = out; reads = rows }) inputs (text ++ more) (k + j)
writes order old now out inputs text more k j rows x so w few = record {
  read = so.read;
  begins = so.begins;
  shelf = so.shelf;
  calm = so.calm;
  sure = so.sure;
  written = writes_ok (writes_then so.written w);
  ended = so.ended;
  read_rows = omega (arith, so.read_rows, few);
}

-- a file that isn't accepted
pub stops : {T : Type 0} (order : Order) (old now : Outside) (files : Seen) (inputs : List Input) (text rest : List ℕ) (k : ℕ) (input : T → Input) (kind : Kind) (name : List ℕ) (s : Stop) (ways : Ways)
    → SoFar order old now inputs text k → file_behind (files_of order) (length inputs) ≡ Some (kind, name) → Reads input kind name now.files files (Err s)
    → output_of order inputs ways ≡ text ++ rest → k ≤ readings_of order inputs ways
    → Did order inputs ways old (record { files = files; out = now.out; reads = now.reads }) (stopped_by (length inputs) s)
stops order old now files inputs text rest k input kind name (stop.Broken b) ways so e r is few = record {
  read = so.read;
  accepted = refl;
  least = omega arith;
  can = has_behind (files_of order) (length inputs) (kind, name) e;
  begins = λ _. omega (arith, r.begins, so.begins);
  break = λ _. break_at old.files.place (files_of order) (length inputs) kind name b e (subst (λ (p : Option Shelf). IsBreak kind (text_in (record (now.files.place) { files = p }) name) b) so.shelf r.refused.0);
  fault = λ f. cc;
  calm = λ _ _. r.refused.1 ∙ so.calm;
  shelf = r.shelf ∙ so.shelf;
  later = omega (arith, r.later, so.calm);
  written = (text, rest, is, so.written);
  readings = omega (arith, so.read_rows, few);
  handled = λ f. cc;
  ended = λ f. cc;
  steady = λ _ _ f. cc;
}
stops order old now files inputs text rest k input kind name stop.FileFault ways so e r is few = record {
  read = so.read;
  accepted = refl;
  least = omega arith;
  can = has_behind (files_of order) (length inputs) (kind, name) e;
  begins = λ _. omega (arith, r.begins, so.begins);
  break = λ f. cc;
  fault = λ _. (subst (λ n. Rose n files.faults) (sym r.begun_at) r.refused, omega (arith, r.begun_at, so.calm));
  calm = λ f _. absurd (f refl);
  shelf = r.shelf ∙ so.shelf;
  later = omega (arith, r.later, so.calm);
  written = (text, rest, is, so.written);
  readings = omega (arith, so.read_rows, few);
  handled = λ f. cc;
  ended = λ f. cc;
  steady = λ sure all _. r.steady (so.sure sure) (subst (λ shelf. IsThere shelf name) (sym so.shelf) (there_at old.files.place.files (files_of order) (length inputs) kind name e all)) refl;
}
stops order old now files inputs text rest k input kind name stop.NoMemory ways so e r is few = record {
  read = so.read;
  accepted = refl;
  least = omega arith;
  can = refl;
  begins = λ f. absurd (f refl);
  break = λ f. cc;
  fault = λ f. cc;
  calm = λ _ f. absurd (f refl);
  shelf = r.shelf ∙ so.shelf;
  later = omega (arith, r.later, so.calm);
  written = (text, rest, is, so.written);
  readings = omega (arith, so.read_rows, few);
  handled = λ f. cc;
  ended = λ f. cc;
  steady = λ _ _ f. cc;
}

-- a front of what is left was left before
leaves_front : (old now new : Seen) (text more whole : List ℕ) → whole ≡ text ++ more → Wrote {T = ⊤} {E = ⊤} old now (Ok tt) text
    → ((front : List ℕ) × (rest : List ℕ) × (more ≡ front ++ rest) × Wrote {T = ⊤} {E = ⊤} now new (Ok tt) front)
    → ((front : List ℕ) × (rest : List ℕ) × (whole ≡ front ++ rest) × Wrote {T = ⊤} {E = ⊤} old new (Ok tt) front)
leaves_front old now new text more whole is so (front, rest, split, w) =
    (text ++ front, rest, is ∙ ap (λ l. text ++ l) split ∙ sym (append_assoc text front rest), writes_then so w)

leaves_on : (old now new : Seen) (end : Status) (text more whole : List ℕ) → whole ≡ text ++ more → Wrote {T = ⊤} {E = ⊤} old now (Ok tt) text → Leaves now new end more → Leaves old new end whole
leaves_on old now new status.Done text more whole is so left = subst (λ l. Wrote {T = ⊤} {E = ⊤} old new (Ok tt) l) (sym is) (writes_then so left)
leaves_on old now new status.OutFault text more whole is so left = subst (λ l. Wrote {T = ⊤} {E = ⊤} old new (Err tt) l) (sym is) (writes_then so left)
leaves_on old now new status.Broken text more whole is so left = leaves_front old now new text more whole is so left
leaves_on old now new status.Usage text more whole is so left = leaves_front old now new text more whole is so left
leaves_on old now new status.FileFault text more whole is so left = leaves_front old now new text more whole is so left
leaves_on old now new status.HallFault text more whole is so left = leaves_front old now new text more whole is so left
leaves_on old now new status.NoMemory text more whole is so left = leaves_front old now new text more whole is so left
leaves_on old now new status.KeeperFault text more whole is so left = leaves_front old now new text more whole is so left

-- no more files were begun than were accepted, where the end isn't a file's
begun_same : (end : Status) (accepted : ℕ) → end ≢ status.Broken → end ≢ status.FileFault → begun_by end accepted ≡ accepted
begun_same status.Broken accepted no_break no_fault = absurd (no_break refl)
begun_same status.FileFault accepted no_break no_fault = absurd (no_fault refl)
begun_same end accepted no_break no_fault = refl

-- the last step of an order, which isn't a file's
pub ends : (order : Order) (old now : Outside) (out : Seen) (inputs : List Input) (text more : List ℕ) (k j rows : ℕ) (ways : Ways) (end : Status)
    → SoFar order old now inputs text k → output_of order inputs ways ≡ text ++ more → Leaves now.out out end more
    → rows ≤ now.reads + j → k + j ≤ readings_of order inputs ways
    → least_of order end ≤ length inputs → can_end order end ≡ true → end ≢ status.Broken → end ≢ status.FileFault → (end ≡ status.Done → AreHandled order inputs ways)
    → Did order inputs ways old (record { files = now.files; out = out; reads = rows }) (ended_by (length inputs) end)
ends order old now out inputs text more k j rows ways end so is left few within least can no_break no_fault handled = record {
  read = so.read;
  accepted = refl;
  least = least;
  can = can;
  begins = λ _. rw (begun_same end (length inputs) no_break no_fault) so.begins;
  break = λ f. absurd (no_break f);
  fault = λ f. absurd (no_fault f);
  calm = λ _ _. so.calm;
  shelf = so.shelf;
  later = omega (arith, so.calm);
  written = leaves_on old.out now.out out end text more (output_of order inputs ways) is so.written left;
  readings = omega (arith, so.read_rows, few, within);
  handled = handled;
  ended = λ f some. so.ended (at_least f some);
  steady = λ _ _ f. no_fault f;
}
  where
    at_least : end ≡ status.Done → 0 < length (files_of order) → 0 < length inputs
    at_least f some =
        let l : length (files_of order) ≤ length inputs = subst (λ e. least_of order e ≤ length inputs) f least in
        omega (arith, l, some)

-- memory ran out before anything was done
pub gives_up : (order : Order) (old : Outside) → Did order [] no_ways old old (ended_by 0 status.NoMemory)
gives_up order old = ends order old old old.out [] [] (output_of order [] no_ways) 0 0 old.reads no_ways status.NoMemory (starts order old) refl
    ([], output_of order [] no_ways, refl, writes_none old.out) (omega arith) (omega arith) (omega arith) refl (λ f. cc) (λ f. cc) (λ f. cc)

pub no_fates : (order : Order) → AreFates order [] no_ways
no_fates (Script name script) = tt
no_fates (Serve port connections sessions profiles) = refl
no_fates order = tt

-- a keeper that wasn't asked
pub keeps_unasked : (order : Order) (inputs : List Input) (k : Kept) (end : Outcome) → AreFates order inputs no_ways → end.status ≢ status.Done → end.status ≢ status.KeeperFault
    → Keeps order inputs no_ways k k end
keeps_unasked order inputs k end fated not_done no_fault = record {
  fault = λ f. absurd (no_fault f);
  later = omega arith;
  began = false;
  all = λ f. absurd (not_done f);
  begun = λ f. cc;
  failed = λ f. cc;
  kept = λ f. cc;
  left = λ _. refl;
  unasked = λ _. refl;
  fated = fated;
  told = λ _ _. refl;
  steady = λ _. (no_fault, refl);
}

pub keeps_nothing : (order : Order) (k : Kept) (at : ℕ) → Keeps order [] no_ways k k (ended_by at status.NoMemory)
keeps_nothing order k at = keeps_unasked order [] k (ended_by at status.NoMemory) (no_fates order) (λ f. cc) (λ f. cc)

-- a hall that wasn't opened
pub serves_unasked : (order : Order) (inputs : List Input) (o q h : Seen) (end : Outcome) → end.status ≢ status.Done → end.status ≢ status.HallFault
    → Serves order inputs no_ways o q h h end
serves_unasked order inputs o q h end not_done no_fault = record {
  fault = λ f. absurd (no_fault f);
  later = omega arith;
  served = none_yet (profiles_of order inputs) (unopened_with []) (all_served h) h.place.coming;
  met = tt;
  settled = tt;
  number = λ f. absurd (not_done f);
  most = omega arith;
  announced = λ f. absurd (no_less f);
  unasked = λ _ _ _. (refl, refl);
  steady = λ _. no_fault;
}
  where
    no_less : 0 < 0 → ⊥
    no_less f = omega (arith, f)

-- a run in which memory ran out before anything was done
pub ran_out : (order : Order) (old : Outside) (k : Kept) (h e f : Seen) (result : Status) (telling : Result ⊤ OutFault) → result ≡ status.NoMemory
    → Wrote e f telling (told result [] []) → Ran order old old k k h h e f result
ran_out order old k h e f result telling is w = record {
  end = ended_by 0 status.NoMemory;
  is = sym is;
  carried = record {
    inputs = [];
    ways = no_ways;
    did = gives_up order old;
    kept = λ _. keeps_nothing order k 0;
    served = λ _. serves_unasked order [] old.out old.out h (ended_by 0 status.NoMemory) (λ f. cc) (λ f. cc);
  };
  telling = telling;
  tells = subst (λ s. Wrote e f telling (told s (name_at (files_of order) 0) [])) (sym is) (subst (λ s. Wrote e f telling (told s [] [])) is w);
}

-- what holds of the order that the words ask for
pub of_order : (o : Option Order) (order : Order) (P : Order → Type 0) → o ≡ Some order → P order → IfSome o P
of_order o order P e h = subst (λ x. IfSome x P) (sym e) h

-- words that are refused for themselves ask for nothing
pub refused_none : (o : Option Order) (r : WordRefusal) → ReadsWords o (Err r) → r ≡ refusal.Usage → o ≡ None
refused_none o refusal.Usage h e = h
refused_none o refusal.NoMemory h e = cc

-- and the status for a refusal is one of two
pub refused_by : (r : WordRefusal) (result : Status) → result ≡ refusal_status r → (result ≡ status.Usage) ⊎ (result ≡ status.NoMemory)
refused_by refusal.Usage result e = inl e
refused_by refusal.NoMemory result e = inr e

-- what holds of each order where memory ran out holds of that, where the words were refused
pub of_refused : (o : Option Order) (r : WordRefusal) (result : Status) (P : Order → Type 0) → (r ≡ refusal.Usage → o ≡ None) → result ≡ refusal_status r
    → (result ≡ status.NoMemory → (order : Order) → P order) → IfSome o P
of_refused None r result P none is out = tt
of_refused (Some order) refusal.Usage result P none is out = absurd (no (none refl))
  where
    no : Some order ≡ None → ⊥
    no h = cc
of_refused (Some order) refusal.NoMemory result P none is out = out is order

-- an order that reads one file, and writes one text once it is accepted
pub one_text : {T : Type 0} (order : Order) (old : Outside) (files out : Seen) (rows j : ℕ) (input : T → Input) (kind : Kind) (name : List ℕ) (x : T) (end : Status)
    → file_behind (files_of order) 0 ≡ Some (kind, name) → Reads input kind name old.files files (Ok x)
    → Leaves old.out out end (output_of order (input x ∷ []) no_ways) → rows ≤ old.reads + j → j ≤ readings_of order (input x ∷ []) no_ways
    → least_of order end ≤ 1 → can_end order end ≡ true → end ≢ status.Broken → end ≢ status.FileFault → (end ≡ status.Done → AreHandled order (input x ∷ []) no_ways)
    → Does order old (record { files = files; out = out; reads = rows }) (ended_by 1 end)
one_text order old files out rows j input kind name x end e r left few within least can no_break no_fault handled = (
  input x ∷ [],
  no_ways,
  ends order old (record { files = files; out = old.out; reads = old.reads }) out (input x ∷ []) [] (output_of order (input x ∷ []) no_ways) 0 j rows no_ways end
      (reads order old old files [] [] 0 input kind name x (starts order old) e r) refl left few (omega (arith, within)) least can no_break no_fault handled,
)

-- the same, by how its answers ended
pub answers_one : {T : Type 0} (order : Order) (old : Outside) (files out : Seen) (rows j : ℕ) (input : T → Input) (kind : Kind) (name : List ℕ) (x : T) (r : Result ⊤ PlayEnd)
    → file_behind (files_of order) 0 ≡ Some (kind, name) → length (files_of order) ≡ 1 → needed_of order ≡ 1 → Reads input kind name old.files files (Ok x)
    → Leaves old.out out (status_of r) (output_of order (input x ∷ []) no_ways) → rows ≤ old.reads + j → j ≤ readings_of order (input x ∷ []) no_ways
    → AreHandled order (input x ∷ []) no_ways → Does order old (record { files = files; out = out; reads = rows }) (ended_by 1 (status_of r))
answers_one order old files out rows j input kind name x (Ok y) e one need r left few within handled =
    one_text order old files out rows j input kind name x status.Done e r left few within (omega (arith, one)) refl (λ f. cc) (λ f. cc) (λ _. handled)
answers_one order old files out rows j input kind name x (Err play_end.OutFault) e one need r left few within handled =
    one_text order old files out rows j input kind name x status.OutFault e r left few within (omega (arith, need)) refl (λ f. cc) (λ f. cc) (λ _. handled)
answers_one order old files out rows j input kind name x (Err play_end.NoMemory) e one need r left few within handled =
    one_text order old files out rows j input kind name x status.NoMemory e r left few within (omega arith) refl (λ f. cc) (λ f. cc) (λ _. handled)

-- an order that reads no file, and writes one text
text_alone : (order : Order) (old : Outside) (out : Seen) (rows : ℕ) (end : Status)
    → rows ≤ old.reads + readings_of order [] no_ways → Leaves old.out out end (output_of order [] no_ways) → least_of order end ≤ 0 → can_end order end ≡ true → end ≢ status.Broken → end ≢ status.FileFault
    → AreHandled order [] no_ways → Does order old (record { files = old.files; out = out; reads = rows }) (ended_by 0 end)
text_alone order old out rows end few left least can no_break no_fault handled = (
  [],
  no_ways,
  ends order old old out [] [] (output_of order [] no_ways) 0 (readings_of order [] no_ways) rows no_ways end (starts order old) refl left few (omega arith) least can no_break no_fault (λ _. handled),
)

pub answers_alone : (order : Order) (old : Outside) (out : Seen) (rows : ℕ) (r : Result ⊤ PlayEnd) → rows ≤ old.reads + readings_of order [] no_ways → length (files_of order) ≡ 0 → needed_of order ≡ 0
    → Leaves old.out out (status_of r) (output_of order [] no_ways) → AreHandled order [] no_ways
    → Does order old (record { files = old.files; out = out; reads = rows }) (ended_by 0 (status_of r))
answers_alone order old out rows (Ok x) few none need left handled = text_alone order old out rows status.Done few left (omega (arith, none)) refl (λ f. cc) (λ f. cc) handled
answers_alone order old out rows (Err play_end.OutFault) few none need left handled = text_alone order old out rows status.OutFault few left (omega (arith, need)) refl (λ f. cc) (λ f. cc) handled
answers_alone order old out rows (Err play_end.NoMemory) few none need left handled = text_alone order old out rows status.NoMemory few left (omega arith) refl (λ f. cc) (λ f. cc) handled

-- and where that isn't accepted
pub first_stops : {T : Type 0} (order : Order) (old : Outside) (files : Seen) (input : T → Input) (kind : Kind) (name : List ℕ) (s : Stop)
    → file_behind (files_of order) 0 ≡ Some (kind, name) → Reads input kind name old.files files (Err s)
    → Does order old (record { files = files; out = old.out; reads = old.reads }) (stopped_by 0 s)
first_stops order old files input kind name s e r = (
  [],
  no_ways,
  stops order old old files [] [] (output_of order [] no_ways) 0 input kind name s no_ways (starts order old) e r refl (omega arith),
)
