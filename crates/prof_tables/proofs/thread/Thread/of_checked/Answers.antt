use Rattle.std.proofs.Common.{ap, ◌∙◌}
use Rattle.prof_raw.specs.Cells.{OwnCells}
use Rattle.prof_tables.specs.Rows.{marker_texts_of, unit_of}
use Rattle.prof_tables.proofs.OwnLemmas.{own_tied, same_thread}
use Rattle.prof_tables.proofs.thread.Thread.of_checked.Goals as goal

pub samples_of-requires : goal.samples_of-requires
samples_of-requires c = c.requires.samples

pub marker_rows_of-requires : goal.marker_rows_of-requires
marker_rows_of-requires c = c.requires.markers

pub invariant_of-result : goal.invariant_of-result
invariant_of-result c = own_tied c.args.strings c.args.stacks c.args.shared.value c.args.raw _ _ _ _ _ _ c.requires.strings c.requires.stacks
    c.in_ok-markers.ensures.ok c.in_ok-rows.ensures (c.marker_texts_of-texts.ensures ∙ ap (λ (r : OwnCells). marker_texts_of r) c.raw.view_is)
    c.in_ok-samples.ensures.count c.requires.samples c.in_ok-samples.ensures.tied c.requires.markers c.requires.ranges

pub returns : goal.returns
returns c = same_thread c.args.shared.value c.args.raw _ _ _ _ _ _
    c.in_ok-markers.ensures.ok (ap (λ (r : OwnCells). r.name) c.raw.view_is) (c.unwrap_or.ensures ∙ ap (λ (r : OwnCells). unit_of r.unit) c.raw.view_is) c.in_ok-samples.ensures.rows c.in_ok-rows.ensures
    (c.marker_texts_of-texts.ensures ∙ ap (λ (r : OwnCells). marker_texts_of r) c.raw.view_is)
