use Rattle.std.proofs.Common.{◌≡◌, ◌∙◌, Some, ap, sym}
use Rattle.std.specs.Prelude.{slice_get}
use Rattle.std.specs.List.{slice_range}
use Rattle.prof_tables.specs.Threads.{MarkerRows}
use Rattle.prof_page.proofs.Pages.{gathers_same}
use Rattle.prof_write.specs.Cells.{data_value}
use Rattle.prof_write.specs.Columns.{data_cell}
use Rattle.prof_write.specs.Compact.{compact}
use Rattle.prof_write.proofs.CellLemmas.{row_within, text_of_row}
use Rattle.prof_write.proofs.MarkerLemmas.{marker_read}
use Rattle.prof_write.proofs.markers.DetailsColumn.add_cell.Goals as goal

pub returns : goal.returns
returns g c =
    let t = c.args.self.now.thread.now.markers in
    let m = c.index.result.now in
    let held = c.markers.view_is ∙ c.markers-markers.ensures.rows in
    let within = row_within (data_cell t.texts) t.rows c.args.row c.requires in
    let read : slice_get t.rows c.args.row ≡ Some m = marker_read t.rows c.markers.inside.rows.items c.args.row m (ap (λ (v : MarkerRows). v.rows) held) within c.index.ensures in
    gathers_same _ _ _ _ _ _ _ c.add_texts.ensures
    (ap (λ l. compact (data_value (slice_range l m.texts.0 m.texts.1))) (c.deref.ensures.value ∙ ap (λ (v : MarkerRows). v.texts) held)
    ∙ sym (text_of_row (data_cell t.texts) t.rows c.args.row m read))
