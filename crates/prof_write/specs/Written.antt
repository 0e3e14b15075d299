-- A profile as the JSON value that is written of it, its members in their order.
use Rattle.std.specs.Prelude.{ℕ, List, [], ◌∷◌, codes, length, sum_by}
use Rattle.std.specs.List.{enumerate_from, slice_range}
use Rattle.prof_grammar.specs.Value.{Value, boolean, number, string, array, no_values}
use Rattle.prof_tables.specs.declared.rows.FrameRow.{FrameRow}
use Rattle.prof_tables.specs.declared.rows.StackRow.{StackRow}
use Rattle.prof_tables.specs.declared.rows.SampleRow.{SampleRow}
use Rattle.prof_tables.specs.declared.markers.RawMarker.{RawMarker}
use Rattle.prof_tables.specs.Threads.{Func, MarkerRows, SharedTables, ThreadTables}
use Rattle.prof_tables.specs.Profiles.{ProfileTables}
use Rattle.prof_write.specs.Cells.{category_value, column, data_value, index, maybe_index, maybe_time, object_of, resource_index, time, weight, weight_type}

abbrev pub resources_value : SharedTables → Value
resources_value t = object_of ((codes "name", column index t.resources) ∷ [])

abbrev pub funcs_value : SharedTables → Value
funcs_value t = object_of (
    (codes "name", column (λ (f : Func). index f.name) t.funcs)
    ∷ (codes "isJS", column (λ (f : Func). boolean f.is_js) t.funcs)
    ∷ (codes "relevantForJS", column (λ (f : Func). boolean f.relevant_for_js) t.funcs)
    ∷ (codes "resource", column (λ (f : Func). resource_index f.resource) t.funcs)
    ∷ (codes "fileName", column (λ (f : Func). maybe_index f.file) t.funcs)
    ∷ [])

abbrev pub frames_value : SharedTables → Value
frames_value t = object_of (
    (codes "func", column (λ (f : FrameRow). index f.func) t.frames)
    ∷ (codes "category", column (λ (f : FrameRow). maybe_index f.category) t.frames)
    ∷ [])

-- a stack row's function and category are its frame's
abbrev pub stacks_value : SharedTables → Value
stacks_value t = object_of (
    (codes "frame", column index t.stack_frames)
    ∷ (codes "prefix", column (λ (s : StackRow). maybe_index s.prefix) t.stacks)
    ∷ [])

abbrev pub samples_value : ThreadTables → Value
samples_value t = object_of (
    (codes "stack", column (λ (s : SampleRow). maybe_index s.stack) t.samples)
    ∷ (codes "time", column (λ (s : SampleRow). time s.time) t.samples)
    ∷ (codes "weightType", string (weight_type t.unit))
    ∷ (codes "weight", column (λ (s : SampleRow). weight t.unit s.weight) t.samples)
    ∷ [])

-- the texts of a marker, which has a range of all
abbrev pub marker_texts : List (List ℕ) → RawMarker → List (List ℕ)
marker_texts texts m = slice_range texts m.texts.0 m.texts.1

abbrev pub markers_value : MarkerRows → Value
markers_value t = object_of (
    (codes "phase", column (λ (m : RawMarker). index m.phase) t.rows)
    ∷ (codes "name", column (λ (m : RawMarker). index m.name) t.rows)
    ∷ (codes "startTime", column (λ (m : RawMarker). maybe_time m.start) t.rows)
    ∷ (codes "endTime", column (λ (m : RawMarker). maybe_time m.end) t.rows)
    ∷ (codes "data", column (λ (m : RawMarker). data_value (marker_texts t.texts m)) t.rows)
    ∷ [])

abbrev pub thread_value : ThreadTables → Value
thread_value t = object_of (
    (codes "name", string t.name)
    ∷ (codes "stringArray", column string t.shared.strings)
    ∷ (codes "resourceTable", resources_value t.shared)
    ∷ (codes "funcTable", funcs_value t.shared)
    ∷ (codes "frameTable", frames_value t.shared)
    ∷ (codes "stackTable", stacks_value t.shared)
    ∷ (codes "samples", samples_value t)
    ∷ (codes "markers", markers_value t.markers)
    ∷ [])

abbrev pub meta_value : ProfileTables → Value
meta_value p = object_of (
    (codes "preprocessedProfileVersion", number (codes "0"))
    ∷ (codes "categories", column (category_value p.default) (enumerate_from 0 p.categories))
    ∷ [])

abbrev pub profile_value : ProfileTables → Value
profile_value p = object_of (
    (codes "meta", meta_value p)
    ∷ (codes "libs", array no_values)
    ∷ (codes "threads", column thread_value p.threads)
    ∷ [])

-- how many stack rows there are in all threads
abbrev pub stack_rows : List ThreadTables → ℕ
stack_rows threads = sum_by (λ (t : ThreadTables). length t.shared.stacks) threads
