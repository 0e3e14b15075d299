-- Raw tables, of the columns of each.
use Rattle.std.proofs.Common.{◌≡◌, ℕ, suc, Option, None, Some, List, [], Bool, false, take, refl}
use Rattle.prof_raw.specs.declared.limits.TheConstants.{MOST_SAMPLES, MOST_STRINGS}
use Rattle.std.specs.Prelude.{codes, unwrap_or}
use Rattle.prof_grammar.specs.Value.{Value}
use Rattle.prof_raw.specs.declared.rule.ListFault.{ListFault}
use Rattle.prof_raw.specs.Cells.{Cells, SharedCells, OwnCells}
use Rattle.prof_layout.specs.Tables.{member_of, time_cells, has_deltas, weight_reading}
use Rattle.prof_layout.proofs.KeptFrom.{tables_from, own_from}
use Rattle.prof_members.specs.declared.shared.ResourceTable.{ResourceTable}
use Rattle.prof_members.specs.declared.shared.FuncTable.{FuncTable}
use Rattle.prof_members.specs.declared.shared.FrameTable.{FrameTable}
use Rattle.prof_members.specs.declared.shared.StackTable.{StackTable}
use Rattle.prof_layout.specs.Columns.{capped, column_of, read_cell}
use Rattle.prof_layout.specs.Lists.{member_text}
use Rattle.prof_members.specs.declared.samples.SampleTable.{SampleTable}
use Rattle.prof_members.specs.declared.markers.MarkerTable.{MarkerTable}
use Rattle.prof_read.specs.declared.raw.HeldStrings.{HeldStrings}
use Rattle.prof_column.specs.Kept.{string_of}
use Rattle.prof_read.specs.Raw.{HoldsStrings, AreResources, AreFuncs, AreFrames, AreStacks, AreSamples, AreMarkers}

-- the tables that threads may share
abbrev pub tables_of : HeldStrings → Bool × ResourceTable → FuncTable → FrameTable → StackTable → SharedCells
tables_of h r f j s = record {
  strings = h.strings.value;
  string_fault = h.fault;
  has_resources = r.0;
  resource_name = r.1.name;
  resource_length = r.1.length;
  func_name = f.name;
  func_is_js = f.is_js;
  func_relevant_for_js = f.relevant_for_js;
  func_resource = f.resource;
  func_file_name = f.file_name;
  func_length = f.length;
  frame_func = j.func;
  frame_category = j.category;
  frame_length = j.length;
  stack_frame = s.frame;
  stack_prefix = s.prefix;
  stack_length = s.length;
}

pub tables_are : (texts : List (List ℕ)) (fault : Option ListFault) (resources funcs frames stacks : Option Value) (h : HeldStrings) (r : Bool × ResourceTable) (f : FuncTable) (j : FrameTable) (s : StackTable) →
    HoldsStrings texts fault h → AreResources resources r → AreFuncs funcs f → AreFrames frames j → AreStacks stacks s →
    tables_of h r f j s ≡ tables_from (take (suc MOST_STRINGS) texts) fault resources funcs frames stacks
tables_are texts fault resources funcs frames stacks h r f j s held are_resources are_funcs are_frames are_stacks =
    rw (
      held.strings,
      held.fault_is,
      are_resources.there,
      are_resources.name,
      are_resources.length,
      are_funcs.name,
      are_funcs.is_js,
      are_funcs.relevant,
      are_funcs.resource,
      are_funcs.file,
      are_funcs.length,
      are_frames.func,
      are_frames.category,
      are_frames.length,
      are_stacks.frame,
      are_stacks.prefix,
      are_stacks.length,
    ) refl

-- a thread's own tables
abbrev pub own_of : List ℕ → SampleTable → Cells × Bool → Cells → Bool × MarkerTable → OwnCells
own_of name s time weight m = record {
  name = name;
  sample_stack = s.stack;
  sample_time = time.0;
  deltas = time.1;
  unit = s.unit;
  sample_weight = weight;
  sample_length = s.length;
  has_markers = m.0;
  marker_phase = m.1.phase;
  marker_name = m.1.name;
  marker_start = m.1.start_time;
  marker_end = m.1.end_time;
  marker_data = m.1.«data».column;
  marker_length = m.1.length;
  marker_texts = m.1.«data».texts.items;
  marker_ranges = m.1.«data».ranges.items;
}

pub own_are : (named samples markers : Option Value) (name : List ℕ) (s : SampleTable) (time : Cells × Bool) (weight : Cells) (m : Bool × MarkerTable) →
    name ≡ member_text named → AreSamples samples s → (time.0 ≡ capped MOST_SAMPLES (time_cells samples)) × (time.1 ≡ has_deltas samples) →
    weight ≡ capped MOST_SAMPLES (column_of (read_cell (weight_reading s.unit)) false (member_of samples (codes "weight"))) → AreMarkers markers m →
    own_of name s time weight m ≡ own_from named samples markers
own_are named samples markers name s time weight m is are_samples times weights are_markers =
    rw (
      weights,
      is,
      are_samples.stack,
      times.0,
      times.1,
      are_samples.unit,
      are_samples.length,
      are_markers.there,
      are_markers.phase,
      are_markers.name,
      are_markers.start,
      are_markers.end,
      are_markers.data_.column,
      are_markers.length,
      are_markers.data_.texts,
      are_markers.data_.ranges,
    ) refl

-- a name that is no string is empty
pub text_named : (member : Option Value) → unwrap_or (string_of member) [] ≡ member_text member
text_named None = refl
text_named (Some Value.null) = refl
text_named (Some (Value.boolean b)) = refl
text_named (Some (Value.number t)) = refl
text_named (Some (Value.string t)) = refl
text_named (Some (Value.array vs)) = refl
text_named (Some (Value.object ms)) = refl
