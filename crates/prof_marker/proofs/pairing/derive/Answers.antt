use Rattle.std.proofs.Common.{length, map, take, sym, ap, subst, ◌∙◌, arith}
use Rattle.std.specs.List.{All}
use Rattle.std.proofs.lemmas.Grind.{common_steps}
use Rattle.std.proofs.lemmas.List.{take_all, length-take}
use Rattle.prof_tables.specs.Threads.{MarkerRows}
use Rattle.prof_marker.specs.Markers.{Draft}
use Rattle.prof_marker.specs.Ties.{IsPlaced}
use Rattle.prof_marker.proofs.Drafted.{drafts-markers, length-drafts}
use Rattle.prof_marker.proofs.Placed.{pair_placed, pair_is, drafts_more, few_drafts}
use Rattle.prof_marker.proofs.pairing.derive.Goals as goal

pub take_in-requires-clause-few : goal.take_in-requires-clause-few
take_in-requires-clause-few c =
    let d = c.loop-row.drafts in
    let rows = take c.loop-row.row-index c.args.raw.now.rows in
    let made = length-drafts d.markers.items d.standings.items c.loop-row.invariant.kept.many in
    let same = ap length c.loop-row.invariant.drafts in
    let few = few_drafts c.args.strings.now c.of-times.result.first c.of-times.result.last 0 rows in
    let part = length-take c.loop-row.row-index c.args.raw.now.rows in
    let all = ap (λ (m : MarkerRows). length m.rows) c.requires.raw in
    omega (arith, made, same, few, part, all, c.markers.ensures.few)

pub loop-row-preserved : goal.loop-row-preserved
loop-row-preserved c =
    let seen = ap (λ (m : MarkerRows). m.rows) c.raw.view_is in
    record {
      kept = c.in_ok-take_in.ensures.kept;
      drafts = grind (arith, common_steps, drafts_more, seen);
    }

pub returns-clause-list : goal.returns-clause-list
returns-clause-list c =
    let d = c.loop-row.drafts in
    let seen = ap (λ (m : MarkerRows). length m.rows) c.raw.view_is in
    let whole = take_all c.loop-row.row-index c.args.raw.now.rows (omega (arith, seen)) in
    c.into_list.ensures
    ∙ (sym (drafts-markers d.markers.items d.standings.items c.loop-row.invariant.kept.many)
    ∙ (ap (map (λ (d : Draft). d.marker)) c.loop-row.invariant.drafts
    ∙ pair_is c.args.samples.now c.args.strings.now c.of-times.result.first c.of-times.result.last (take c.loop-row.row-index c.args.raw.now.rows)
    c.requires.strings c.of-times.ensures.first c.of-times.ensures.last (whole ∙ ap (λ (m : MarkerRows). m.rows) c.requires.raw)))

pub returns-clause-placed : goal.returns-clause-placed
returns-clause-placed c =
    subst (All (IsPlaced (length c.args.samples.now.shared.strings) (length c.args.samples.now.markers.texts))) (sym (returns-clause-list c)) (pair_placed c.args.samples.now c.markers.ensures.tied)
