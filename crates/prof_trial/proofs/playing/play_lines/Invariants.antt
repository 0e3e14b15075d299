-- The lines so far were answered, and those behind them are left.
use Rattle.std.proofs.Common.{◌≡◌, ℕ, List, ◌++◌, map, drop, true, Ok}
use Rattle.prof_machine.specs.Play.{Held, Line}
use Rattle.prof_request.proofs.OutcomeLemmas.{line_of}
use Rattle.prof_script.specs.Playing.{IsHeld, stage}
use Rattle.prof_script.specs.Readings.{AreLaid, Laid}
use Rattle.prof_trial.specs.Trial.{PlaysFirsts, asked, trial_lines}
use Rattle.prof_trial.proofs.playing.play_lines.Given as goal

abbrev pub invariant-loop-place : goal.invariant-loop-place
invariant-loop-place g l = record {
  plays : (held : Held) (laid : List (List ℕ × Laid)) → g.K.Counted.sure l.fn.keeper → IsHeld l.fn.desk.profiles true l.fn.desk (g.K.Keeper.texts l.fn.keeper) held → AreLaid l.fn.desk laid →
      (done : List Line) × (asked ≡ done ++ map line_of (drop l.place trial_lines)) × PlaysFirsts l.fn.desk.profiles held laid done
      (stage g.K.Counted g.K.Keeper g.S.Counted l.fn.desk l.fn.keeper l.fn.out l.fn.reads) (stage g.K.Counted g.K.Keeper g.S.Counted l.desk l.keeper l.out l.reads) (Ok tt);
  profiles : l.desk.profiles ≡ l.fn.desk.profiles;
  sure : g.K.Counted.sure l.fn.keeper → g.K.Counted.sure l.keeper;
}
