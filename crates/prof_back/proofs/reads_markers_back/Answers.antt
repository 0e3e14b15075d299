use Rattle.prof_back.proofs.MarkersBack.{markers_back}
use Rattle.prof_back.proofs.reads_markers_back.Goals as goal

pub returns : goal.returns
returns c = markers_back
