-- The details of markers in both ways.
use Rattle.std.proofs.Common.{ap}
use Rattle.prof_gather.specs.Taking.{IsTaken}
use Rattle.prof_gather.specs.declared.objects.Kind.{Kind}
use Rattle.prof_grammar.specs.Value.{Value}
use Rattle.prof_members.specs.Columns.{IsMarkerDataOf}
use Rattle.prof_schema.specs.Gathered.{AreRowsOf}
use Rattle.prof_either.specs.Tables.{AreBothDetailsOf}
use Rattle.prof_either.specs.declared.details.BothDetails.{BothDetails}

-- what was taken in both ways was taken in each
pub details_named : (v : Value) (first last : BothDetails) (k : Kind) → IsTaken (λ a vs b. AreBothDetailsOf a vs b) v first k last → IsTaken (λ a vs b. IsMarkerDataOf a vs b) v first.named k last.named
details_named Value.null first last k h = (h.0, ap (λ (d : BothDetails). d.named) h.1)
details_named (Value.boolean b) first last k h = (h.0, ap (λ (d : BothDetails). d.named) h.1)
details_named (Value.number text) first last k h = (h.0, ap (λ (d : BothDetails). d.named) h.1)
details_named (Value.string text) first last k h = (h.0, ap (λ (d : BothDetails). d.named) h.1)
details_named (Value.array vs) first last k h = (h.0, h.1.named)
details_named (Value.object ms) first last k h = (h.0, ap (λ (d : BothDetails). d.named) h.1)

pub details_rows : (v : Value) (first last : BothDetails) (k : Kind) → IsTaken (λ a vs b. AreBothDetailsOf a vs b) v first k last → IsTaken (λ a vs b. AreRowsOf a vs b) v first.rows k last.rows
details_rows Value.null first last k h = (h.0, ap (λ (d : BothDetails). d.rows) h.1)
details_rows (Value.boolean b) first last k h = (h.0, ap (λ (d : BothDetails). d.rows) h.1)
details_rows (Value.number text) first last k h = (h.0, ap (λ (d : BothDetails). d.rows) h.1)
details_rows (Value.string text) first last k h = (h.0, ap (λ (d : BothDetails). d.rows) h.1)
details_rows (Value.array vs) first last k h = (h.0, h.1.rows)
details_rows (Value.object ms) first last k h = (h.0, ap (λ (d : BothDetails). d.rows) h.1)
