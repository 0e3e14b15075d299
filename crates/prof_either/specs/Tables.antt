-- What is gathered of a table in both ways: of its named columns, and of its schema and rows.
use Rattle.std.specs.Prelude.{ℕ, List}
use Rattle.prof_grammar.specs.Value.{Value, Members}
use Rattle.prof_raw.specs.declared.limits.TheConstants.{MOST_ROWS}
use Rattle.prof_members.specs.Columns.{IsMarkerDataOf}
use Rattle.prof_members.specs.Gathered.{AreMarkerColumns}
use Rattle.prof_schema.specs.Gathered.{IsPlaced, AreRowsOf}
use Rattle.prof_either.specs.declared.details.BothDetails.{BothDetails}
use Rattle.prof_either.specs.declared.markers.BothMarkers.{BothMarkers}
use Rattle.prof_either.specs.declared.table.BothWays.{BothWays}

-- a table, of whose rows at most one more than the most is kept
pub record AreBoth {T : Type 0} (Is : Members → T → Type 0) (most : ℕ) (ms : Members) (b : BothWays T) : Type 0 where
  pub named : Is ms b.named
  pub rows : IsPlaced most ms b.rows

-- the table of markers
pub record AreBothMarkers (ms : Members) (b : BothMarkers) : Type 0 where
  pub named : AreMarkerColumns ms b.named
  pub rows : IsPlaced MOST_ROWS ms b.rows

-- the details of markers, of which there were none at first
pub record AreBothDetailsOf (first : BothDetails) (vs : List Value) (d : BothDetails) : Type 0 where
  pub named : IsMarkerDataOf first.named vs d.named
  pub rows : AreRowsOf first.rows vs d.rows
