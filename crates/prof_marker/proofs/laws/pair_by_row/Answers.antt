use Rattle.prof_marker.proofs.ByRows.{pair_by_row}
use Rattle.prof_marker.proofs.laws.pair_by_row.Goals as goal

pub returns : goal.returns
returns c = pair_by_row
