use Rattle.std.proofs.Common.{◌∙◌, Some, ap, sym}
use Rattle.std.specs.Prelude.{option_map}
use Rattle.prof_tables.specs.declared.rows.FrameRow.{FrameRow}
use Rattle.prof_write.specs.Cells.{index, maybe_index}
use Rattle.prof_write.specs.Compact.{compact}
use Rattle.prof_write.proofs.frames.Frames.line.Goals as goal

pub returns-in-Func : goal.returns-in-Func
returns-in-Func c = rw c.in-Func.is (ap (option_map (λ (f : FrameRow). compact (index f.func))) c.frame-frame.ensures.row ∙ ap (λ l. Some l) (sym c.number_line.ensures))

pub returns-in-Category : goal.returns-in-Category
returns-in-Category c =
    rw c.in-Category.is (ap (option_map (λ (f : FrameRow). compact (maybe_index f.category))) c.frame-frame.ensures.row ∙ ap (λ l. Some l) (sym c.maybe_index_line.ensures))
