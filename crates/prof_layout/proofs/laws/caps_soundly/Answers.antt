use Rattle.std.proofs.Common.{arith}
use Rattle.prof_layout.proofs.Capped.{column_is, first-capped, needed-capped, optional-capped, capped_same}
use Rattle.prof_layout.proofs.laws.caps_soundly.Goals as goal

pub returns : goal.returns
returns c = record { gathered = column_is; first = first-capped; needed = needed-capped; optional = optional-capped; same = λ most c h few. capped_same most c h (omega arith) }
