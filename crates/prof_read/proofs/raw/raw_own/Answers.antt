use Rattle.std.proofs.Common.{[], sym, ◌∙◌, ap}
use Rattle.std.specs.Prelude.{codes, unwrap_or}
use Rattle.prof_grammar.specs.Value.{Value, last_named}
use Rattle.prof_layout.specs.Tables.{member_of}
use Rattle.prof_layout.proofs.KeptFrom.{kept_own-is}
use Rattle.prof_read.proofs.Held.{own_are, text_named}
use Rattle.prof_read.proofs.raw.raw_own.Goals as goal

pub returns-clause-own : goal.returns-clause-own
returns-clause-own c = λ ms is_name are_samples are_markers.
    let samples = last_named (codes "samples") ms in
    let markers = last_named (codes "markers") ms in
    let name = last_named (codes "name") ms in
    let columns = c.sample_columns-stack.result in
    let of_samples = c.sample_columns-stack.ensures samples are_samples in
    own_are name samples markers c.in_ok-name.name columns c.time_column-sample_time.result c.weight_column-sample_weight.result c.marker_columns-has_markers.result
    (c.in_ok-name.ensures ∙ ap (λ o. unwrap_or o []) is_name ∙ text_named name) of_samples
    (c.time_column-sample_time.ensures samples of_samples.time of_samples.deltas)
    (c.weight_column-sample_weight.ensures (member_of samples (codes "weight")) of_samples.weights)
    (c.marker_columns-has_markers.ensures markers are_markers)
    ∙ sym (kept_own-is (Value.object ms))
