-- How an order is carried out, and how a run ends.
use Rattle.std.specs.Prelude.{◌≡◌, ◌≢◌, ◌≤◌, ◌<◌, ◌+◌, ◌-◌, ◌^◌, ◌++◌, min, unwrap_or, ℕ, List, [], length, Bool, true, false, Option, Some, None, IfSome, IsSomeAnd, ⊤, Result}
use Rattle.std.specs.Io.KnownBytes.{Appends, IsAtEnd}
use Rattle.prof_io.specs.Causes.{Rose, RoseBy}
use Rattle.prof_io.specs.Shelf.{Shelf, file_at}
use Rattle.prof_io.specs.declared.copying.OutFault.{OutFault}
use Rattle.prof_io.specs.declared.outside.Counted.{Ghosts}
use Rattle.prof_machine.specs.Play.{shown_in}
use Rattle.prof_serve.specs.Answers.{AreMet}
use Rattle.prof_serve.specs.Readings.{AreSettled}
use Rattle.prof_serving.specs.Halls.{ServesTold, all_of, all_served}
use Rattle.prof_desk.specs.Breaks.{break_text}
use Rattle.prof_desk.specs.Inputs.{Input, AreInputs, AreThere, IsBreakAt, name_at}
use Rattle.prof_desk.specs.Orders.{asks_hall, asks_keeper, can_end, connections_of, files_of, keeper_name, least_of}
use Rattle.prof_desk.specs.Outcomes.{begun_by, ended_by}
use Rattle.prof_desk.specs.Output.{AreFates, AreHandled, announced_by, kept_of, output_of, profiles_of, readings_of, unopened_with}
use Rattle.prof_io.specs.Outside.{Kept, Seen, seen}
use Rattle.prof_desk.specs.Playing.{Leaves}
use Rattle.prof_io.specs.Sinks.{Wrote}
use Rattle.prof_desk.specs.Telling.{told}
use Rattle.prof_desk.specs.Ways.{Ways, failed_count}
use Rattle.prof_desk.specs.declared.outcome.Outcome.{Outcome}
use Rattle.prof_desk.specs.declared.status.Status.{Status}
use Rattle.prof_desk.specs.declared.status.Status.TheVariants.{Done, Broken, FileFault, HallFault, NoMemory, KeeperFault}
use Rattle.prof_desk.specs.declared.status.Status.TheVariants as status
use Rattle.prof_desk.specs.declared.words.Order.{Order}

-- what each order may move: the files, the output and the count of readings
pub record Outside : Type 1 where
  pub files : Seen
  pub out : Seen
  pub reads : ℕ

abbrev pub outside : {X Y : Type 0} → Ghosts X → Ghosts Y → X → Y → ℕ → Outside
outside f s files out reads = record { files = seen f files; out = seen s out; reads = reads }

-- How an order was carried out, where these of its files were accepted, and the outside decided so.
pub record Did (order : Order) (inputs : List Input) (ways : Ways) (old new : Outside) (end : Outcome) : Type 0 where
  pub read : AreInputs old.files.place (files_of order) inputs
  pub accepted : length inputs ≡ end.accepted
  pub least : least_of order end.status ≤ end.accepted
  pub can : can_end order end.status ≡ true
  pub begins : end.status ≢ NoMemory → min new.files.place.begins (2 ^ 64 - 1) ≡ min (old.files.place.begins + begun_by end.status end.accepted) (2 ^ 64 - 1)
  -- the file behind them isn't accepted, or failed, and else no file failed
  pub break : end.status ≡ Broken → IsSomeAnd end.broken (IsBreakAt old.files.place (files_of order) end.accepted)
  pub fault : end.status ≡ FileFault → Rose new.files.place.begun_at new.files.faults × (old.files.faults ≤ new.files.place.begun_at)
  pub calm : end.status ≢ FileFault → end.status ≢ NoMemory → new.files.faults ≡ old.files.faults
  pub shelf : new.files.place.files ≡ old.files.place.files
  pub later : old.files.faults ≤ new.files.faults
  pub written : Leaves old.out new.out end.status (output_of order inputs ways)
  pub readings : new.reads ≤ old.reads + readings_of order inputs ways
  pub handled : end.status ≡ Done → AreHandled order inputs ways
  pub ended : end.status ≡ Done → 0 < length (files_of order) → IsAtEnd new.files.left
  -- where no file can fail, and all are there
  pub steady : old.files.sure → AreThere old.files.place.files (files_of order) → end.status ≢ FileFault

-- the keeper tells these texts
abbrev pub Tells : Option Shelf → Shelf → Type 0
Tells None texts = ⊥
Tells (Some kept) texts = (name : List ℕ) → file_at kept name ≡ file_at texts name

-- What became of the keeper.
pub record Keeps (order : Order) (inputs : List Input) (ways : Ways) (old new : Kept) (end : Outcome) : Type 0 where
  pub fault : end.status ≡ KeeperFault → Rose new.called_at new.returned_at × (old.faults ≤ new.called_at)
  pub later : old.faults ≤ new.faults
  -- where it was begun, and where it wasn't
  pub began : Bool
  pub all : end.status ≡ Done → began ≡ true
  pub begun : began ≡ true → ways.begun ≡ unwrap_or (old.begun (keeper_name order)) []
  pub failed : began ≡ true → RoseBy (failed_count ways.fates) new.returned_at new.faults
  pub kept : began ≡ true → IfSome (old.begun (keeper_name order)) (λ texts. Tells new.texts (kept_of order inputs ways texts))
  pub left : began ≡ false → new.texts ≡ old.texts
  pub unasked : began ≡ false → ways.fates ≡ []
  pub fated : AreFates order inputs ways
  -- where it tells its texts, no text is taken from it in their place
  pub told : (texts : Shelf) → old.begun (keeper_name order) ≡ Some texts → shown_in ways.fates ≡ []
  -- where it can't fail
  pub steady : old.sure → (end.status ≢ KeeperFault) × (failed_count ways.fates ≡ 0)

-- what was written since then begins with this text
abbrev pub HasWritten : Seen → Seen → List ℕ → Type 0
HasWritten old new text = (rest : List ℕ) × Appends old.written new.written (text ++ rest)

-- What became of the hall, and what was written before its first connection was asked for. The first of the connections to come
-- were served, in order, behind those before, each by what is held behind the messages of those before it.
pub record Serves (order : Order) (inputs : List Input) (ways : Ways) (out new_out old new : Seen) (end : Outcome) : Type 0 where
  pub fault : end.status ≡ HallFault → Rose new.place.called_at new.place.returned_at × (old.faults ≤ new.place.called_at)
  pub later : old.faults ≤ new.faults
  pub served : ServesTold (profiles_of order inputs) (unopened_with ways.begun) (all_served old) old.place.coming (all_served new) new.place.coming ways.served
  pub met : AreMet (profiles_of order inputs) (unopened_with ways.begun) (all_of ways.served)
  pub settled : AreSettled (profiles_of order inputs) (unopened_with ways.begun) [] (all_of ways.served)
  pub number : end.status ≡ Done → IfSome old.place.coming (λ coming. length ways.served ≡ min (connections_of order) (length coming))
  pub most : length ways.served ≤ connections_of order
  pub announced : 0 < length ways.served → HasWritten out new_out (announced_by order)
  -- an end that is none of these three comes before the hall is asked
  pub unasked : end.status ≢ Done → end.status ≢ status.OutFault → end.status ≢ HallFault → (ways.served ≡ []) × (new.place ≡ old.place)
  -- where it can't fail
  pub steady : old.sure → end.status ≢ HallFault

-- How an order that asks neither keeper nor hall was carried out.
abbrev pub Does : Order → Outside → Outside → Outcome → Type 0
Does order old new end = (inputs : List Input) × (ways : Ways) × Did order inputs ways old new end

-- How an order that asks the keeper and no hall was carried out.
abbrev pub DoesKeeping : Order → Outside → Outside → Kept → Kept → Outcome → Type 0
DoesKeeping order old new k l end = (inputs : List Input) × (ways : Ways) × Did order inputs ways old new end × Keeps order inputs ways k l end

-- What is left of such an order once these of its files were accepted: it writes, reads rows, and asks the keeper.
pub record EndsKeeping (order : Order) (inputs : List Input) (out new_out : Seen) (reads new_reads : ℕ) (k l : Kept) (end : Status) : Type 0 where
  pub ways : Ways
  pub written : Leaves out new_out end (output_of order inputs ways)
  pub readings : new_reads ≤ reads + readings_of order inputs ways
  pub handled : end ≡ Done → AreHandled order inputs ways
  pub kept : Keeps order inputs ways k l (ended_by (length inputs) end)

-- How an order that asks keeper and hall was carried out.
abbrev pub DoesServing : Order → Outside → Outside → Kept → Kept → Seen → Seen → Outcome → Type 0
DoesServing order old new k l h i end =
    (inputs : List Input) × (ways : Ways) × Did order inputs ways old new end × Keeps order inputs ways k l end × Serves order inputs ways old.out new.out h i end

-- What is left of such an order once these of its files were accepted.
pub record EndsServing (order : Order) (inputs : List Input) (out new_out : Seen) (reads new_reads : ℕ) (k l : Kept) (h i : Seen) (end : Status) : Type 0 where
  pub ways : Ways
  pub written : Leaves out new_out end (output_of order inputs ways)
  pub readings : new_reads ≤ reads + readings_of order inputs ways
  pub kept : Keeps order inputs ways k l (ended_by (length inputs) end)
  pub served : Serves order inputs ways out new_out h i (ended_by (length inputs) end)

-- How an order was carried out. One choice of its inputs and of what the outside decided serves all of it.
pub record Carried (order : Order) (old new : Outside) (k l : Kept) (h i : Seen) (end : Outcome) : Type 0 where
  pub inputs : List Input
  pub ways : Ways
  pub did : Did order inputs ways old new end
  pub kept : asks_keeper order ≡ true → Keeps order inputs ways k l end
  pub served : asks_hall order ≡ true → Serves order inputs ways old.out new.out h i end

-- How a run for an order ended, and what was told of it: its status, the file behind the accepted ones, and the break.
pub record Ran (order : Order) (old new : Outside) (k l : Kept) (h i e f : Seen) (result : Status) : Type 0 where
  pub end : Outcome
  pub is : end.status ≡ result
  pub carried : Carried order old new k l h i end
  pub telling : Result ⊤ OutFault
  pub tells : Wrote e f telling (told result (name_at (files_of order) end.accepted) (break_text end.broken))
