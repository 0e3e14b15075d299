use Rattle.std.proofs.Common.{◌≡◌, map, drop}
use Rattle.std.specs.Prelude.{is_some}
use Rattle.prof_machine.specs.Machine.{first_of, view_refusal}
use Rattle.prof_session.proofs.restoring.has_refused.Given as goal

abbrev pub invariant-loop-view : goal.invariant-loop-view
invariant-loop-view l = first_of (map (view_refusal l.known) l.views) ≡ first_of (map (view_refusal l.known) (drop l.view-index l.views))
