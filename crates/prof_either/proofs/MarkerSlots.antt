-- One more member of the table of markers in both ways.
use Rattle.std.proofs.Common.{◌≡◌, ℕ, List, Some, false, refl, inl, inr, subst, sym}
use Rattle.std.specs.Prelude.{codes}
use Rattle.prof_grammar.specs.Value.{Value, Members, snoc, same_text}
use Rattle.prof_raw.specs.declared.limits.TheConstants.{MOST_ROWS}
use Rattle.prof_members.specs.Gathered.{AreMarkerColumns, IsMarkerData}
use Rattle.prof_members.specs.declared.lists.MarkerData.{MarkerData}
use Rattle.prof_members.specs.declared.markers.MarkerTable.{MarkerTable}
use Rattle.prof_members.proofs.TableSlots.{markers_more}
use Rattle.prof_schema.specs.Gathered.{IsPlaced, AreRows}
use Rattle.prof_schema.specs.Named.{placed_name}
use Rattle.prof_schema.specs.declared.rows.Rows.{Rows}
use Rattle.prof_schema.specs.declared.table.PlacedMember.{PlacedMember}
use Rattle.prof_schema.specs.declared.table.PlacedTable.{PlacedTable}
use Rattle.prof_schema.proofs.Tables.{placed_more}
use Rattle.prof_processes.proofs.HeldTables.{placed_at}
use Rattle.prof_either.specs.Tables.{AreBothMarkers}
use Rattle.prof_either.specs.declared.markers.BothMarkers.{BothMarkers}
use Rattle.prof_either.proofs.Taking.{rows_stay}

-- the schema is none of the named columns
pub schema_taken : (v : Value) (old new : BothMarkers) → new.named ≡ old.named →
    ((ms : Members) → IsPlaced old.rows.rows.most ms old.rows → IsPlaced old.rows.rows.most (snoc ms (codes "schema") v) new.rows) →
    (ms : Members) → AreBothMarkers ms old → AreBothMarkers (snoc ms (codes "schema") v) new
schema_taken v old new same taken ms h = record {
  named = subst (λ (t : MarkerTable). AreMarkerColumns (snoc ms (codes "schema") v) t) (sym same)
      (markers_more (codes "schema") v old.named old.named (inr (refl, refl)) (inr (refl, refl)) (inr (refl, refl)) (inr (refl, refl)) (inr (refl, refl)) (inr (refl, refl)) ms h.named);
  rows = placed_at MOST_ROWS ms (snoc ms (codes "schema") v) old.rows new.rows (taken ms) h.rows;
}

-- the details are the named column and the rows
pub data_taken : (v : Value) (old : BothMarkers) (named : MarkerData) (rows : Rows) → IsMarkerData (Some v) named → AreRows MOST_ROWS (Some v) rows →
    (ms : Members) → AreBothMarkers ms old → AreBothMarkers (snoc ms (codes "data") v) (record { named = record old.named { «data» = named }; rows = record old.rows { rows = rows } })
data_taken v old named rows is are ms h = record {
  named = markers_more (codes "data") v old.named (record old.named { «data» = named }) (inr (refl, refl)) (inr (refl, refl)) (inr (refl, refl)) (inr (refl, refl)) (inl (refl, is)) (inr (refl, refl)) ms h.named;
  rows = placed_more MOST_ROWS (codes "data") v old.rows (record old.rows { rows = rows }) (inr (refl, refl)) (inl (refl, are)) ms h.rows;
}

-- a named column
pub column_taken : (n : List ℕ) (v : Value) (old new : BothMarkers) → new.rows ≡ old.rows → ((m : PlacedMember) → same_text n (placed_name m) ≡ false) →
    ((ms : Members) → AreMarkerColumns ms old.named → AreMarkerColumns (snoc ms n v) new.named) → (ms : Members) → AreBothMarkers ms old → AreBothMarkers (snoc ms n v) new
column_taken n v old new same other taken ms h = record {
  named = taken ms h.named;
  rows = subst (λ (t : PlacedTable). IsPlaced MOST_ROWS (snoc ms n v) t) (sym same) (rows_stay MOST_ROWS n v old.rows other ms h.rows);
}
