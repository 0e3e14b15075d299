use Rattle.std.proofs.Common.{length, ◌-◌}
use Rattle.prof_layer.specs.Common.{IsCommon}
use Rattle.prof_session.proofs.cutting.common_len.Given as goal

abbrev pub invariant-loop-common : goal.invariant-loop-common
invariant-loop-common l = IsCommon l.common l.a l.b

abbrev pub decreases-loop-common : goal.decreases-loop-common
decreases-loop-common l = length l.a - l.common
