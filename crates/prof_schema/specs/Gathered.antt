-- What was gathered of a table that stands row by row.
use Rattle.std.specs.Prelude.{◌≡◌, ℕ, suc, ◌-◌, List, [], ◌++◌, true, Option, map, take, drop, codes, length, string_bytes}
use Rattle.prof_grammar.specs.Value.{Value, Members, last_named}
use Rattle.prof_layout.specs.Lists.{items_of, first_unfit}
use Rattle.prof_layout.specs.Markers.{names, data_texts, all_texts}
use Rattle.prof_gather.specs.Taking.{IsFoundIn}
use Rattle.prof_column.specs.Kept.{state_by, kept_items}
use Rattle.prof_schema.specs.Places.{member_place, place_of}
use Rattle.prof_schema.specs.Placed.{is_array, details_at}
use Rattle.prof_schema.specs.RowCells.{cell_kept, cells_kept, all_cells, ends_from}
use Rattle.prof_schema.specs.declared.cells.RowCell.{RowCell}
use Rattle.prof_schema.specs.declared.row.RowCells.{RowCells}
use Rattle.prof_schema.specs.declared.rows.Rows.{Rows}
use Rattle.prof_schema.specs.declared.schema.Schema.{Schema}
use Rattle.prof_schema.specs.declared.table.PlacedTable.{PlacedTable}

-- the members' names in the order in which each occurs first, with the places of their last values
pub record IsSchema (ms : Members) (s : Schema) : Type 0 where
  pub entries : map {B = List ℕ × Option ℕ} (λ e. (string_bytes e.0, e.1)) s.places.entries ≡ map {B = List ℕ × Option ℕ} (λ n. (n, member_place (last_named n ms))) (names ms)

-- the cells behind those that were there, as many as are still wanted of the row
pub record AreCellsOf (first : RowCells) (vs : List Value) (c : RowCells) : Type 0 where
  pub left : c.left ≡ first.left - length vs
  pub cells : c.cells.items ≡ first.cells.items ++ cells_kept (length first.texts.items) (take first.left vs)
  pub texts : c.texts.items ≡ first.texts.items ++ all_texts (take first.left vs)

-- a cell is kept of this value, whose texts are among these
pub record IsCellOf (texts : List (List ℕ)) (v : Value) (c : RowCell) : Type 0 where
  pub start : ℕ
  pub is : c ≡ cell_kept start v
  pub texts_ : take (length (data_texts v)) (drop start texts) ≡ data_texts v

-- all cells of these rows were kept
pub record AreKept (rows : List Value) (r : Rows) : Type 0 where
  pub cells : r.kept.cells.items ≡ cells_kept 0 (all_cells rows)
  pub texts : r.kept.texts.items ≡ all_texts (all_cells rows)
  pub ends : r.ends.items ≡ ends_from 0 rows

-- the rows so far: those past the most are only looked at for one that is no array
pub record AreSoFar (most : ℕ) (vs : List Value) (r : Rows) : Type 0 where
  pub kept : AreKept (take (suc most) vs) r
  pub count : r.count ≡ length vs
  pub bad : r.bad ≡ first_unfit is_array vs

-- of rows of which there were none at first
pub record AreRowsOf (first : Rows) (vs : List Value) (r : Rows) : Type 0 where
  pub most : r.most ≡ first.most
  pub rows : AreSoFar first.most [] first → AreSoFar first.most vs r

-- the rows of a member, of which at most one more than the most is kept
pub record AreRows (most : ℕ) (member : Option Value) (r : Rows) : Type 0 where
  pub most_ : r.most ≡ most
  pub state : r.state ≡ state_by true member
  pub kept : AreKept (kept_items most member) r
  pub bad : r.bad ≡ first_unfit is_array (items_of member)

-- a table's schema and its rows
pub record IsPlaced (most : ℕ) (ms : Members) (t : PlacedTable) : Type 0 where
  pub schema : IsFoundIn IsSchema (last_named (codes "schema") ms) t.schema
  pub rows : AreRows most (last_named (codes "data") ms) t.rows

-- the cells of a column of a table's rows that are kept
abbrev pub kept_details : ℕ → Members → List ℕ → List Value
kept_details most ms name = details_at (place_of name (last_named (codes "schema") ms)) (kept_items most (last_named (codes "data") ms))
