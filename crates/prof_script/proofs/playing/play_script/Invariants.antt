-- The lines so far were played, and what is left has the others.
use Rattle.std.proofs.Common.{◌≡◌, ◌≤◌, ℕ, Bool, List, ◌++◌, length, Ok}
use Rattle.prof_machine.specs.Play.{Held, Line}
use Rattle.prof_script.specs.Lines.{lines_of}
use Rattle.prof_script.specs.Playing.{IsHeld, Plays, stage}
use Rattle.prof_script.specs.Readings.{AreLaid, Laid}
use Rattle.prof_script.proofs.playing.play_script.Given as goal

abbrev pub invariant-loop-rest : goal.invariant-loop-rest
invariant-loop-rest g l = record {
  plays : (told : Bool) (held : Held) (laid : List (List ℕ × Laid)) → IsHeld l.fn.desk.profiles told l.fn.desk (g.K.Keeper.texts l.fn.keeper) held → AreLaid l.fn.desk laid →
      (done : List Line) × (lines_of l.fn.script ≡ done ++ lines_of l.rest) × Plays l.fn.desk.profiles told held laid done
      (stage g.K.Counted g.K.Keeper g.S.Counted l.fn.desk l.fn.keeper l.fn.out l.fn.reads) (stage g.K.Counted g.K.Keeper g.S.Counted l.desk l.keeper l.out l.reads) (Ok tt);
  profiles : l.desk.profiles ≡ l.fn.desk.profiles;
  called : g.K.Keeper.called_at l.keeper ≡ g.K.Keeper.called_at l.fn.keeper;
  returned : g.K.Keeper.returned_at l.keeper ≡ g.K.Keeper.returned_at l.fn.keeper;
  later : g.K.Counted.faults l.fn.keeper ≤ g.K.Counted.faults l.keeper;
  sure : g.K.Counted.sure l.fn.keeper → g.K.Counted.sure l.keeper;
}

abbrev pub decreases-loop-rest : goal.decreases-loop-rest
decreases-loop-rest g l = length l.rest
