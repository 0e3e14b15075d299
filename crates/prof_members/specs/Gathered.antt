-- What was gathered of the members of a text: of each list and column at most one row more than its limit.
use Rattle.std.specs.Prelude.{◌≡◌, List, [], ◌∷◌, true, false, Option, map, codes, is_some, string_bytes, ⊤}
use Rattle.prof_column.specs.Kept.{string_of, state_by, kept_column, kept_items, IsTextList}
use Rattle.prof_raw.specs.declared.limits.TheConstants.{MOST_CATEGORIES, MOST_FUNCS, MOST_ROWS, MOST_SAMPLES, MOST_THREADS}
use Rattle.std.specs.Option.{option_map}
use Rattle.prof_grammar.specs.Value.{Value, Members, last_named}
use Rattle.prof_layout.specs.declared.reading.Reading.TheVariants as reading
use Rattle.prof_layout.specs.Columns.{column_of, any_cell, capped}
use Rattle.prof_layout.specs.Lists.{is_object, first_where, first_unfit}
use Rattle.prof_layout.specs.Markers.{all_texts, ranges_from}
use Rattle.prof_layout.specs.Profile.{is_category, category_name, is_grey}
use Rattle.prof_layout.specs.Tables.{said_by, weight_unit}
use Rattle.prof_gather.specs.Taking.{IsFoundIn}
use Rattle.prof_members.specs.declared.lists.CategoryList.{CategoryList}
use Rattle.prof_members.specs.declared.categories.Category.{Category}
use Rattle.prof_members.specs.declared.samples.Weights.{Weights}
use Rattle.prof_members.specs.declared.samples.SampleTable.{SampleTable}
use Rattle.prof_members.specs.declared.shared.ResourceTable.{ResourceTable}
use Rattle.prof_members.specs.declared.shared.FuncTable.{FuncTable}
use Rattle.prof_members.specs.declared.shared.FrameTable.{FrameTable}
use Rattle.prof_members.specs.declared.shared.StackTable.{StackTable}
use Rattle.prof_members.specs.declared.shared.SharedTables.{SharedTables}
use Rattle.prof_members.specs.declared.lists.MarkerData.{MarkerData}
use Rattle.prof_members.specs.declared.markers.MarkerTable.{MarkerTable}
use Rattle.prof_members.specs.declared.threads.ThreadParts.{ThreadParts}
use Rattle.prof_members.specs.declared.lists.ThreadList.{ThreadList}
use Rattle.prof_members.specs.declared.parts.Meta.{Meta}
use Rattle.prof_members.specs.declared.parts.ProfileParts.{ProfileParts}

-- ---- lists of categories

pub record AreCategoryMembers (ms : Members) (c : Category) : Type 0 where
  pub name : option_map string_bytes c.name ≡ string_of (last_named (codes "name") ms)
  pub grey : c.grey ≡ is_grey (Value.object ms)

pub record IsCategoryList (member : Option Value) (l : CategoryList) : Type 0 where
  pub state : l.state ≡ state_by false member
  pub names : l.names.items ≡ map category_name (kept_items MOST_CATEGORIES member)
  pub bad : l.bad ≡ first_unfit is_category (kept_items MOST_CATEGORIES member)
  pub grey : l.grey ≡ first_where is_grey 0 (kept_items MOST_CATEGORIES member)

-- ---- tables

-- the weights by both readings
pub record AreWeights (member : Option Value) (w : Weights) : Type 0 where
  pub counts : w.counts ≡ kept_column MOST_SAMPLES reading.Count false member
  pub times : w.times ≡ kept_column MOST_SAMPLES reading.Time false member

pub record AreSampleColumns (ms : Members) (t : SampleTable) : Type 0 where
  pub stack : t.stack ≡ kept_column MOST_SAMPLES reading.MaybeIndex true (last_named (codes "stack") ms)
  pub time : t.time ≡ kept_column MOST_SAMPLES reading.Time false (last_named (codes "time") ms)
  pub deltas : t.time_deltas ≡ kept_column MOST_SAMPLES reading.Time false (last_named (codes "timeDeltas") ms)
  pub unit : t.unit ≡ weight_unit (last_named (codes "weightType") ms)
  pub weights : AreWeights (last_named (codes "weight") ms) t.weights
  pub length : t.length ≡ said_by (last_named (codes "length") ms)

pub record AreResourceColumns (ms : Members) (t : ResourceTable) : Type 0 where
  pub name : t.name ≡ kept_column MOST_FUNCS reading.Index true (last_named (codes "name") ms)
  pub length : t.length ≡ said_by (last_named (codes "length") ms)

pub record AreFuncColumns (ms : Members) (t : FuncTable) : Type 0 where
  pub name : t.name ≡ kept_column MOST_FUNCS reading.Index true (last_named (codes "name") ms)
  pub is_js : t.is_js ≡ kept_column MOST_FUNCS reading.Truth false (last_named (codes "isJS") ms)
  pub relevant : t.relevant_for_js ≡ kept_column MOST_FUNCS reading.Truth false (last_named (codes "relevantForJS") ms)
  pub resource : t.resource ≡ kept_column MOST_FUNCS reading.Index false (last_named (codes "resource") ms)
  pub file : t.file_name ≡ kept_column MOST_FUNCS reading.MaybeIndex false (last_named (codes "fileName") ms)
  pub length : t.length ≡ said_by (last_named (codes "length") ms)

pub record AreFrameColumns (ms : Members) (t : FrameTable) : Type 0 where
  pub func : t.func ≡ kept_column MOST_ROWS reading.Index true (last_named (codes "func") ms)
  pub category : t.category ≡ kept_column MOST_ROWS reading.MaybeIndex false (last_named (codes "category") ms)
  pub length : t.length ≡ said_by (last_named (codes "length") ms)

pub record AreStackColumns (ms : Members) (t : StackTable) : Type 0 where
  pub frame : t.frame ≡ kept_column MOST_ROWS reading.Index true (last_named (codes "frame") ms)
  pub prefix : t.prefix ≡ kept_column MOST_ROWS reading.MaybeIndex true (last_named (codes "prefix") ms)
  pub length : t.length ≡ said_by (last_named (codes "length") ms)

pub record IsMarkerData (member : Option Value) (d : MarkerData) : Type 0 where
  pub column : d.column ≡ capped MOST_ROWS (column_of any_cell false member)
  pub texts : d.texts.items ≡ all_texts (kept_items MOST_ROWS member)
  pub ranges : d.ranges.items ≡ ranges_from 0 (kept_items MOST_ROWS member)

pub record AreMarkerColumns (ms : Members) (t : MarkerTable) : Type 0 where
  pub phase : t.phase ≡ kept_column MOST_ROWS reading.Phase true (last_named (codes "phase") ms)
  pub name : t.name ≡ kept_column MOST_ROWS reading.Index true (last_named (codes "name") ms)
  pub start : t.start_time ≡ kept_column MOST_ROWS reading.MaybeTime true (last_named (codes "startTime") ms)
  pub end : t.end_time ≡ kept_column MOST_ROWS reading.MaybeTime true (last_named (codes "endTime") ms)
  pub data_ : IsMarkerData (last_named (codes "data") ms) t.data
  pub length : t.length ≡ said_by (last_named (codes "length") ms)

pub record AreShared (ms : Members) (t : SharedTables) : Type 0 where
  pub strings : IsTextList (last_named (codes "stringArray") ms) t.strings
  pub resources : IsFoundIn AreResourceColumns (last_named (codes "resourceTable") ms) t.resources
  pub funcs : IsFoundIn AreFuncColumns (last_named (codes "funcTable") ms) t.funcs
  pub frames : IsFoundIn AreFrameColumns (last_named (codes "frameTable") ms) t.frames
  pub stacks : IsFoundIn AreStackColumns (last_named (codes "stackTable") ms) t.stacks

-- ---- threads, and the whole text

pub record AreThread (ms : Members) (t : ThreadParts) : Type 0 where
  pub name : option_map string_bytes t.name ≡ string_of (last_named (codes "name") ms)
  pub shared : AreShared ms t.shared
  pub samples : IsFoundIn AreSampleColumns (last_named (codes "samples") ms) t.samples
  pub markers : IsFoundIn AreMarkerColumns (last_named (codes "markers") ms) t.markers

-- what is gathered of an item that is no object plays no part
abbrev pub IsThread : Value → ThreadParts → Type 0
IsThread (Value.object ms) t = AreThread ms t
IsThread _ t = ⊤

abbrev pub AreThreads : List Value → List ThreadParts → Type 0
AreThreads [] [] = ⊤
AreThreads [] (t ∷ ts) = ⊥
AreThreads (v ∷ vs) [] = ⊥
AreThreads (v ∷ vs) (t ∷ ts) = IsThread v t × AreThreads vs ts

pub record IsThreadList (member : Option Value) (l : ThreadList) : Type 0 where
  pub state : l.state ≡ state_by true member
  pub threads : AreThreads (kept_items MOST_THREADS member) l.threads.items
  pub bad : l.bad ≡ first_unfit is_object (kept_items MOST_THREADS member)

pub record AreMeta (ms : Members) (m : Meta) : Type 0 where
  pub processed : m.processed ≡ is_some (last_named (codes "preprocessedProfileVersion") ms)
  pub categories : IsCategoryList (last_named (codes "categories") ms) m.categories

pub record AreParts (ms : Members) (p : ProfileParts) : Type 0 where
  pub meta : IsFoundIn AreMeta (last_named (codes "meta") ms) p.meta
  pub shared : IsFoundIn AreShared (last_named (codes "shared") ms) p.shared
  pub threads : IsThreadList (last_named (codes "threads") ms) p.threads
