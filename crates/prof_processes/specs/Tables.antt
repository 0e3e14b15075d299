-- What is kept of the tables of a Gecko thread: of each column at most one row more than its limit.
use Rattle.std.specs.Prelude.{◌≡◌, ℕ, List, Option, Some, map, codes}
use Rattle.std.specs.Borrow.{Bor}
use Rattle.prof_grammar.specs.Value.{Value, Members, no_members}
use Rattle.prof_layout.specs.Columns.{capped}
use Rattle.prof_layout.specs.Lists.{is_object}
use Rattle.prof_layout.specs.Markers.{all_texts, ranges_from}
use Rattle.prof_raw.specs.declared.rule.Column.{Column}
use Rattle.prof_raw.specs.declared.limits.TheConstants.{MOST_ROWS}
use Rattle.prof_schema.specs.Gathered.{IsPlaced, kept_details}
use Rattle.prof_gecko.specs.Gathered.{TableCells}
use Rattle.prof_gecko_layout.specs.GeckoTables.{kind_fault, marker_table, has_markers}
use Rattle.prof_processes.specs.declared.held.HeldTable.{HeldTable}
use Rattle.prof_processes.specs.declared.tables.MarkerParts.{MarkerParts}

-- the members of an object, and no member of another value
abbrev pub members_in : Option Value → Members
members_in (Some (Value.object ms)) = ms
members_in _ = no_members

-- what is held of a member that should be a table, of which at most one row more than the most is kept
pub record IsHeld (most : ℕ) (member : Option Value) (h : HeldTable) : Type 0 where
  pub fault : h.fault ≡ kind_fault is_object member
  pub placed : IsPlaced most (members_in member) h.table

-- columns with their names
abbrev pub named_columns : List (Column × Bor (List ℕ)) → List (Column × List ℕ)
named_columns columns = map (λ c. (c.0, c.1.now)) columns

-- a table with its columns cut
abbrev pub kept_table : ℕ → TableCells → TableCells
kept_table most t = record { fault = t.fault; columns = map (capped most) t.columns }

-- the details of the markers that are kept
abbrev pub details_in : Option Value → List Value
details_in member = kept_details MOST_ROWS (members_in member) (codes "data")

-- what is kept of the markers
pub record AreMarkers (member : Option Value) (m : MarkerParts) : Type 0 where
  pub table : m.table ≡ kept_table MOST_ROWS (marker_table member)
  pub there : m.there ≡ has_markers member
  pub texts : m.texts.items ≡ all_texts (details_in member)
  pub ranges : m.ranges.items ≡ ranges_from 0 (details_in member)
