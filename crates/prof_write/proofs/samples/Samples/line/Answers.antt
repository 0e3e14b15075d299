use Rattle.std.proofs.Common.{◌∙◌, Some, ap, sym}
use Rattle.std.specs.Prelude.{option_map}
use Rattle.prof_tables.specs.declared.rows.SampleRow.{SampleRow}
use Rattle.prof_write.specs.Cells.{maybe_index, time, weight}
use Rattle.prof_write.specs.Compact.{compact}
use Rattle.prof_write.proofs.RangeLemmas.{same_number}
use Rattle.prof_write.proofs.samples.Samples.line.Goals as goal

pub returns-in-Stack : goal.returns-in-Stack
returns-in-Stack c =
    rw c.in-Stack.is (ap (option_map (λ (s : SampleRow). compact (maybe_index s.stack))) c.sample-sample.ensures.row ∙ ap (λ l. Some l) (sym c.maybe_index_line.ensures))

pub returns-in-Time : goal.returns-in-Time
returns-in-Time c =
    let same = same_number c.sample-sample.result.time c.sample-sample.ensures.time in
    rw c.in-Time.is
    (ap (option_map (λ (s : SampleRow). compact (time s.time))) c.sample-sample.ensures.row ∙ ap (λ l. Some l) (sym (c.time_line.ensures ∙ ap (λ z. compact (time z)) same)))

pub returns-in-Weight : goal.returns-in-Weight
returns-in-Weight c =
    let same = same_number c.sample-sample.result.weight c.sample-sample.ensures.weight in
    rw c.in-Weight.is
    (ap (option_map (λ (s : SampleRow). compact (weight c.args.self.now.thread.now.unit s.weight))) c.sample-sample.ensures.row
    ∙ ap (λ l. Some l) (sym (c.weight_line.ensures ∙ ap (λ z. compact (weight c.unit.result z)) same ∙ ap (λ u. compact (weight u c.sample-sample.result.weight)) c.unit.ensures)))
