use Rattle.std.proofs.Common.{◌∙◌, sym}
use Rattle.prof_write.specs.Columns.{frame_cell}
use Rattle.prof_write.proofs.CellLemmas.{length-cells}
use Rattle.prof_write.proofs.frames.FramesColumn.count.Goals as goal

pub returns : goal.returns
returns c = c.frame_count.ensures ∙ sym (length-cells (frame_cell c.args.self.now.column) c.args.self.now.thread.now.shared.frames)
