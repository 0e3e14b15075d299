-- Each message that came so far was answered, and none of them was the last.
use Rattle.std.proofs.Common.{◌≡◌, ◌≤◌, ℕ, Bool, List}
use Rattle.prof_machine.specs.Play.{Held}
use Rattle.prof_script.specs.Playing.{IsHeld, stage}
use Rattle.prof_script.specs.Readings.{AreLaid, Laid}
use Rattle.prof_serve.proofs.Servings.{HasServed}
use Rattle.prof_serve.proofs.serving.serve_connection.Given as goal

abbrev pub invariant-messages : goal.invariant-messages
invariant-messages g l = record {
  given : l.wire.given ≡ l._count;
  serves : (told : Bool) (held : Held) (laid : List (List ℕ × Laid)) → IsHeld l.fn.desk.profiles told l.fn.desk (g.K.Keeper.texts l.fn.keeper) held → AreLaid l.fn.desk laid →
      HasServed l.fn.desk.profiles told held laid (stage g.K.Counted g.K.Keeper g.H.Counted l.fn.desk l.fn.keeper l.fn.hall l.fn.reads)
      (stage g.K.Counted g.K.Keeper g.H.Counted l.desk l.keeper l.hall l.reads) l.wire l._count;
  place : g.H.Counted.place l.hall ≡ g.H.Counted.place l.fn.hall;
  calm : g.H.Counted.faults l.hall ≡ g.H.Counted.faults l.fn.hall;
  steady : g.H.Counted.sure l.fn.hall → g.H.Counted.sure l.hall;
  profiles : l.desk.profiles ≡ l.fn.desk.profiles;
  called : g.K.Keeper.called_at l.keeper ≡ g.K.Keeper.called_at l.fn.keeper;
  returned : g.K.Keeper.returned_at l.keeper ≡ g.K.Keeper.returned_at l.fn.keeper;
  later : g.K.Counted.faults l.fn.keeper ≤ g.K.Counted.faults l.keeper;
  sure : g.K.Counted.sure l.fn.keeper → g.K.Counted.sure l.keeper;
}
