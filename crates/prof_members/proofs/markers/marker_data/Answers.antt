use Rattle.std.proofs.Common.{◌∙◌, ap}
use Rattle.prof_raw.specs.declared.raw.State.{State}
use Rattle.prof_members.specs.declared.lists.MarkerData.{MarkerData}
use Rattle.prof_members.proofs.WholeLists.{markers_read, with_state}
use Rattle.prof_members.proofs.markers.marker_data.Goals as goal

pub returns-clause-data : goal.returns-clause-data
returns-clause-data g c =
    let read = c.in_ok-kind.ensures.value in (
      read.0,
      read.1,
      markers_read read.0 c.empty-data.result c.array.new.list _ c.in_ok-kind.kind c.empty-data.ensures.column c.empty-data.ensures.texts c.empty-data.ensures.ranges read.2
          (ap (λ (x : MarkerData). with_state c.state_of-data-inside.result x.column) c.data.view_is ∙ ap (λ (s : State). with_state s c.array.new.list.column) c.state_of-data-inside.ensures)
          (ap (λ (x : MarkerData). x.texts.items) c.data.view_is) (ap (λ (x : MarkerData). x.ranges.items) c.data.view_is),
    )
