use Rattle.std.proofs.Common.{◌≤◌, length, sym, ap, arith}
use Rattle.std.specs.List.{flat_map}
use Rattle.std.proofs.lemmas.List.{take_all}
use Rattle.prof_reply.specs.Replies.{marker_line}
use Rattle.prof_page.proofs.Pages.{gathers_on, gathers_ok, gathers_same, gathers_end, gathers_failed}
use Rattle.prof_reply.proofs.Pieces.{flat_more, flat_rest}
use Rattle.prof_writer.proofs.Outputs.{writes_as}
use Rattle.prof_reply.proofs.markers.write_lines.Goals as goal

pub returns-in_err-add_marker : goal.returns-in_err-add_marker
returns-in_err-add_marker g c =
    gathers_failed _ _ _ tt _ _ _ _ _ _ _ _ c.from_residual.ensures.0 c.loop-marker.invariant c.in_err-add_marker.ensures
    (flat_rest (marker_line c.args.thread.now.shared) c.args.markers.now c.loop-marker.marker-index _ c.loop-marker-test.true)

pub loop-marker-preserved : goal.loop-marker-preserved
loop-marker-preserved g c =
    gathers_same _ _ _ _ _ _ _
    (gathers_on _ _ _ tt _ _ _ _ _ _ c.loop-marker.invariant (gathers_ok _ _ _ _ _ _ _ c.in_ok-add_marker.ensures))
    (sym (flat_more (marker_line c.args.thread.now.shared) c.args.markers.now c.loop-marker.marker-index _ c.loop-marker-test.true))

pub returns : goal.returns
returns g c =
    let markers = c.args.markers.now in
    let over = c.loop-marker-test.false in
    let all : length markers ≤ c.loop-marker.marker-index = omega arith in
    writes_as (ap (flat_map (marker_line c.args.thread.now.shared)) (take_all c.loop-marker.marker-index markers all)) (gathers_end _ _ _ tt _ _ _ c.loop-marker.invariant c.write_page.ensures.written)
