use Rattle.std.proofs.Common.{◌≡◌, ℕ, ◌<◌, ◌∷◌, [], length, Some}
use Rattle.std.specs.Prelude.{slice_get}
use Rattle.std.specs.Str.{str_to_ascii_lowercase}
use Rattle.prof_path.specs.Finals.{occurs_in}
use Rattle.prof_path.specs.Lowered.{IsReady, sought}
use Rattle.prof_path.proofs.meeting.funcs_with.Given as goal

abbrev pub invariant-loop-func : goal.invariant-loop-func
invariant-loop-func l = record {
  ready : IsReady l.thread.shared.strings l.seeker;
  terms : sought l.seeker ≡ str_to_ascii_lowercase l.term ∷ [];
  count : length l.met.items ≡ l.func;
  each : (f : ℕ) → f < l.func → slice_get l.met.items f ≡ Some (occurs_in l.thread.shared l.term f);
}
