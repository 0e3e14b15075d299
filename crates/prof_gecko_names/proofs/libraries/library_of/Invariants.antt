use Rattle.std.proofs.Common.{◌≡◌, ◌<◌, ℕ, false}
use Rattle.prof_gecko_names.specs.Libraries.{has_address, lib_at}
use Rattle.prof_gecko_names.proofs.libraries.library_of.Given as goal

abbrev pub invariant-loop-l : goal.invariant-loop-l
invariant-loop-l l = (k : ℕ) → k < l.l → has_address l.address (lib_at l.libs k) ≡ false
