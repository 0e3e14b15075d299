use Rattle.std.proofs.Common.{sym}
use Rattle.prof_demo.specs.Generated.{frame_text}
use Rattle.prof_demo.proofs.Below.{length-cells}
use Rattle.prof_demo.proofs.columns.FramesColumn.count.Goals as goal

pub returns : goal.returns
returns c = sym (length-cells frame_text 60000)
