use Rattle.prof_layout.proofs.Clamped.{clamped_index, clamped_minus, clamped_prefix, clamped_phase, clamped_same}
use Rattle.prof_layout.proofs.laws.clamps_soundly.Goals as goal

pub returns : goal.returns
returns c = record { index = clamped_index; minus = clamped_minus; prefix = clamped_prefix; phase = clamped_phase; same = clamped_same }
