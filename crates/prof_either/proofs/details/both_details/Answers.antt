use Rattle.std.proofs.Common.{refl, ◌∙◌, ap}
use Rattle.prof_raw.specs.declared.limits.TheConstants.{MOST_ROWS}
use Rattle.prof_raw.specs.declared.raw.State.{State}
use Rattle.prof_members.specs.declared.lists.MarkerData.{MarkerData}
use Rattle.prof_members.proofs.WholeLists.{markers_read, with_state}
use Rattle.prof_schema.proofs.RowLists.{rows_read}
use Rattle.prof_either.proofs.DetailsTaken.{details_named, details_rows}
use Rattle.prof_either.proofs.details.both_details.Goals as goal

pub returns-clause-details : goal.returns-clause-details
returns-clause-details g c =
    let read = c.in_ok-kind.ensures.value in
    let named = details_named read.0 _ c.array.new.list c.in_ok-kind.kind read.2 in
    let rows = details_rows read.0 _ c.array.new.list c.in_ok-kind.kind read.2 in (
      read.0,
      read.1,
      markers_read read.0 c.empty.result c.array.new.list.named _ c.in_ok-kind.kind c.empty.ensures.column c.empty.ensures.texts c.empty.ensures.ranges named
          (ap (λ (x : MarkerData). with_state c.state_of-named-inside.result x.column) c.named.view_is ∙ ap (λ (s : State). with_state s c.array.new.list.named.column) c.state_of-named-inside.ensures)
          (ap (λ (x : MarkerData). x.texts.items) c.named.view_is) (ap (λ (x : MarkerData). x.ranges.items) c.named.view_is),
      rows_read MOST_ROWS read.0 c.absent.result c.array.new.list.rows _ c.in_ok-kind.kind c.absent.ensures.rows c.absent.ensures.count rows refl c.state_of-rows.ensures refl refl refl,
    )
