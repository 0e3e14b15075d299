-- So many connections were served.
use Rattle.std.proofs.Common.{◌≡◌, ◌≤◌, ℕ, Bool, List}
use Rattle.prof_machine.specs.Play.{Held}
use Rattle.prof_script.specs.Playing.{IsHeld, stage}
use Rattle.prof_script.specs.Readings.{AreLaid, Laid}
use Rattle.prof_serving.specs.Halls.{AreGiven, ServesAll}
use Rattle.prof_serving.proofs.hall.serve_hall.Given as goal

abbrev pub invariant-connections : goal.invariant-connections
invariant-connections g l = record {
  counted : l.count ≡ l._turn;
  serves : (told : Bool) (held : Held) (laid : List (List ℕ × Laid)) → IsHeld l.fn.desk.profiles told l.fn.desk (g.K.Keeper.texts l.fn.keeper) held → AreLaid l.fn.desk laid →
      ServesAll l.fn.desk.profiles told held laid (stage g.K.Counted g.K.Keeper g.H.Counted l.fn.desk l.fn.keeper l.fn.hall l.fn.reads)
      (stage g.K.Counted g.K.Keeper g.H.Counted l.desk l.keeper l.hall l.reads) l.count;
  higher : g.H.Counted.faults l.fn.hall ≤ g.H.Counted.faults l.hall;
  given : AreGiven (g.H.Counted.place l.fn.hall).coming (g.H.Counted.place l.hall).coming l.count;
  steady : g.H.Counted.sure l.fn.hall → g.H.Counted.sure l.hall;
  later : g.K.Counted.faults l.fn.keeper ≤ g.K.Counted.faults l.keeper;
  sure : g.K.Counted.sure l.fn.keeper → g.K.Counted.sure l.keeper;
  profiles : l.desk.profiles ≡ l.fn.desk.profiles;
  began : g.K.Keeper.called_at l.keeper ≡ g.K.Keeper.called_at l.fn.keeper;
  begun : g.K.Keeper.returned_at l.keeper ≡ g.K.Keeper.returned_at l.fn.keeper;
}
