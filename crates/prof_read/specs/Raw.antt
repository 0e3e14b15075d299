-- Raw tables of what was gathered of a table's member, which may be absent or no object.
use Rattle.std.specs.Prelude.{◌≡◌, ℕ, suc, List, Bool, Option, Some, None, take, codes, is_some}
use Rattle.prof_raw.specs.declared.limits.TheConstants.{MOST_FUNCS, MOST_ROWS, MOST_SAMPLES, MOST_STRINGS}
use Rattle.prof_grammar.specs.Value.{Value}
use Rattle.prof_raw.specs.declared.rule.ListFault.{ListFault}
use Rattle.prof_layout.specs.declared.reading.Reading.TheVariants as reading
use Rattle.prof_layout.specs.Columns.{capped}
use Rattle.prof_layout.specs.Lists.{unless_null, texts_of}
use Rattle.prof_layout.specs.Tables.{first_cells, needed_cells, optional_cells, member_of, said_length, weight_unit, has_markers, strings_fault}
use Rattle.prof_members.specs.Gathered.{IsMarkerData, AreWeights}
use Rattle.prof_members.specs.declared.samples.SampleTable.{SampleTable}
use Rattle.prof_members.specs.declared.shared.ResourceTable.{ResourceTable}
use Rattle.prof_members.specs.declared.shared.FuncTable.{FuncTable}
use Rattle.prof_members.specs.declared.shared.FrameTable.{FrameTable}
use Rattle.prof_members.specs.declared.shared.StackTable.{StackTable}
use Rattle.prof_members.specs.declared.markers.MarkerTable.{MarkerTable}
use Rattle.prof_read.specs.declared.raw.HeldStrings.{HeldStrings}

-- whether there are resources, and their columns
pub record AreResources (table : Option Value) (r : Bool × ResourceTable) : Type 0 where
  pub there : r.0 ≡ is_some (unless_null table)
  pub name : r.1.name ≡ capped MOST_FUNCS (first_cells reading.Index (unless_null table) (codes "name"))
  pub length : r.1.length ≡ said_length (unless_null table)

pub record AreFuncs (table : Option Value) (t : FuncTable) : Type 0 where
  pub name : t.name ≡ capped MOST_FUNCS (first_cells reading.Index table (codes "name"))
  pub is_js : t.is_js ≡ capped MOST_FUNCS (optional_cells reading.Truth table (codes "isJS"))
  pub relevant : t.relevant_for_js ≡ capped MOST_FUNCS (optional_cells reading.Truth table (codes "relevantForJS"))
  pub resource : t.resource ≡ capped MOST_FUNCS (optional_cells reading.Index table (codes "resource"))
  pub file : t.file_name ≡ capped MOST_FUNCS (optional_cells reading.MaybeIndex table (codes "fileName"))
  pub length : t.length ≡ said_length table

pub record AreFrames (table : Option Value) (t : FrameTable) : Type 0 where
  pub func : t.func ≡ capped MOST_ROWS (first_cells reading.Index table (codes "func"))
  pub category : t.category ≡ capped MOST_ROWS (optional_cells reading.MaybeIndex table (codes "category"))
  pub length : t.length ≡ said_length table

pub record AreStacks (table : Option Value) (t : StackTable) : Type 0 where
  pub frame : t.frame ≡ capped MOST_ROWS (first_cells reading.Index table (codes "frame"))
  pub prefix : t.prefix ≡ capped MOST_ROWS (needed_cells reading.MaybeIndex table (codes "prefix"))
  pub length : t.length ≡ said_length table

pub record AreSamples (table : Option Value) (t : SampleTable) : Type 0 where
  pub stack : t.stack ≡ capped MOST_SAMPLES (first_cells reading.MaybeIndex table (codes "stack"))
  pub time : t.time ≡ capped MOST_SAMPLES (optional_cells reading.Time table (codes "time"))
  pub deltas : t.time_deltas ≡ capped MOST_SAMPLES (optional_cells reading.Time table (codes "timeDeltas"))
  pub unit : t.unit ≡ weight_unit (member_of table (codes "weightType"))
  pub weights : AreWeights (member_of table (codes "weight")) t.weights
  pub length : t.length ≡ said_length table

-- whether there are markers, and their columns where there are
pub record AreMarkers (table : Option Value) (m : Bool × MarkerTable) : Type 0 where
  pub there : m.0 ≡ has_markers table
  pub phase : m.1.phase ≡ capped MOST_ROWS (needed_cells reading.Phase table (codes "phase"))
  pub name : m.1.name ≡ capped MOST_ROWS (needed_cells reading.Index table (codes "name"))
  pub start : m.1.start_time ≡ capped MOST_ROWS (needed_cells reading.MaybeTime table (codes "startTime"))
  pub end : m.1.end_time ≡ capped MOST_ROWS (needed_cells reading.MaybeTime table (codes "endTime"))
  pub data_ : IsMarkerData (member_of table (codes "data")) m.1.data
  pub length : m.1.length ≡ said_length table

-- the strings that are kept of these, and what the list of them breaks
pub record HoldsStrings (texts : List (List ℕ)) (fault : Option ListFault) (h : HeldStrings) : Type 0 where
  pub strings : h.strings.value ≡ take (suc MOST_STRINGS) texts
  pub fault_is : h.fault ≡ fault

-- A thread's own strings count where they are there, else those that all threads share.
abbrev pub counting_texts : Option (List (List ℕ)) → Option Value → List (List ℕ)
counting_texts (Some strings) None = strings
counting_texts common own = texts_of own

-- what the list of them breaks
abbrev pub counting_fault : Option (List (List ℕ)) → Option Value → Option ListFault
counting_fault (Some strings) None = None
counting_fault common own = strings_fault own
