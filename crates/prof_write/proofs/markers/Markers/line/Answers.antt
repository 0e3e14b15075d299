use Rattle.std.proofs.Common.{◌≡◌, ◌∙◌, Some, ap, sym}
use Rattle.std.specs.Prelude.{option_map, slice_get}
use Rattle.prof_tables.specs.declared.markers.RawMarker.{RawMarker}
use Rattle.prof_tables.specs.Threads.{MarkerRows}
use Rattle.prof_write.specs.Cells.{index, maybe_time}
use Rattle.prof_write.specs.Compact.{compact}
use Rattle.prof_write.proofs.MarkerLemmas.{marker_read}
use Rattle.prof_write.proofs.markers.Markers.line.Goals as goal

pub returns-in-Phase : goal.returns-in-Phase
returns-in-Phase c =
    let rows = c.args.self.now.thread.now.markers.rows in
    let read : slice_get rows c.args.row ≡ Some c.index-marker.result.now =
    marker_read rows c.behind-self.inside.rows.items c.args.row c.index-marker.result.now (ap (λ (v : MarkerRows). v.rows) (c.behind-self.view_is ∙ c.markers.ensures.rows)) c.requires c.index-marker.ensures in
    rw c.in-Phase.is (ap (option_map (λ (m : RawMarker). compact (index m.phase))) read ∙ ap (λ l. Some l) (sym c.number_line.ensures))

pub returns-in-Name : goal.returns-in-Name
returns-in-Name c =
    let rows = c.args.self.now.thread.now.markers.rows in
    let read : slice_get rows c.args.row ≡ Some c.index-marker.result.now =
    marker_read rows c.behind-self.inside.rows.items c.args.row c.index-marker.result.now (ap (λ (v : MarkerRows). v.rows) (c.behind-self.view_is ∙ c.markers.ensures.rows)) c.requires c.index-marker.ensures in
    rw c.in-Name.is (ap (option_map (λ (m : RawMarker). compact (index m.name))) read ∙ ap (λ l. Some l) (sym c.number_line-in-Name.ensures))

pub returns-in-StartTime : goal.returns-in-StartTime
returns-in-StartTime c =
    let rows = c.args.self.now.thread.now.markers.rows in
    let read : slice_get rows c.args.row ≡ Some c.index-marker.result.now =
    marker_read rows c.behind-self.inside.rows.items c.args.row c.index-marker.result.now (ap (λ (v : MarkerRows). v.rows) (c.behind-self.view_is ∙ c.markers.ensures.rows)) c.requires c.index-marker.ensures in
    rw c.in-StartTime.is (ap (option_map (λ (m : RawMarker). compact (maybe_time m.start))) read ∙ ap (λ l. Some l) (sym c.maybe_time_line.ensures))

pub returns-in-EndTime : goal.returns-in-EndTime
returns-in-EndTime c =
    let rows = c.args.self.now.thread.now.markers.rows in
    let read : slice_get rows c.args.row ≡ Some c.index-marker.result.now =
    marker_read rows c.behind-self.inside.rows.items c.args.row c.index-marker.result.now (ap (λ (v : MarkerRows). v.rows) (c.behind-self.view_is ∙ c.markers.ensures.rows)) c.requires c.index-marker.ensures in
    rw c.in-EndTime.is (ap (option_map (λ (m : RawMarker). compact (maybe_time m.end))) read ∙ ap (λ l. Some l) (sym c.maybe_time_line-in-EndTime.ensures))
