use Rattle.std.proofs.Common.{◌≡◌, ℕ, true, ◌<◌, get_or}
use Rattle.prof_gecko_names.specs.Naming as says
use Rattle.prof_gecko_names.proofs.naming.host_len.Given as goal

abbrev pub invariant-loop-i : goal.invariant-loop-i
invariant-loop-i l = (k : ℕ) → k < l.i → says.is_host_character (get_or l.text k 0) ≡ true
