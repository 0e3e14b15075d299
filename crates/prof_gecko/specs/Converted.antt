-- The thread that a Gecko thread stands for.
use Rattle.std.specs.Prelude.{ℕ, ℤ, pos, negsuc, List, Bool, true, if◌then◌else◌, Option, None, Some, length, map, fold, slice_index}
use Rattle.std.specs.Option.{option_map, option_map_or}
use Rattle.prof_raw.specs.declared.raw.State.TheVariants.{Array}
use Rattle.prof_raw.specs.declared.raw.TableLength.TheVariants.{Unsaid}
use Rattle.prof_raw.specs.Cells.{Cells, cell, SharedCells}
use Rattle.prof_raw.specs.CellValues.{index_of, truth_of}
use Rattle.prof_tables.specs.Rows.{rows_of, shared_of, thread_of}
use Rattle.prof_tables.specs.Threads.{ThreadTables}
use Rattle.prof_gecko_names.specs.declared.func.Func.{Func}
use Rattle.prof_gecko_names.specs.declared.func.FuncKey.{FuncKey}
use Rattle.prof_gecko_names.specs.FirstUses.{Numbered, numbered}
use Rattle.prof_gecko.specs.Gathered.{Lib, GeckoCells}
use Rattle.prof_gecko_names.specs.Keys.{text_at, key_of, same_key}
use Rattle.prof_gecko_names.specs.Naming.{named_of}
use Rattle.prof_gecko_names.specs.Lists.{Lists, add_func, lists_over}
use Rattle.prof_gecko.specs.Columns.{FrameCells, StackCells, ThreadParts, parts_of}

-- the places of the frames' locations in the strings
abbrev pub location_at : FrameCells → ℕ → ℕ
location_at frames j = index_of (cell frames.location j)

unfoldable pub locations : FrameCells → List ℕ
locations frames = rows_of (location_at frames) (length frames.location.cells)

-- the functions are numbered by their first use over the frames
unfoldable pub numbering : List Lib → List (List ℕ) → List ℕ → Numbered FuncKey
numbering libs strings places = numbered same_key (map (key_of libs strings) places)

-- A function is that of the first frame that uses it, with that frame's `relevantForJS`.
abbrev pub add_row : List Lib → List (List ℕ) → List ℕ → Cells → Lists → ℕ → Lists
add_row libs strings places relevant d j =
    add_func d (named_of libs (text_at strings (slice_index places j))) (truth_of (cell relevant j))

-- the lists after the functions of so many frames
unfoldable pub lists_of : List Lib → List (List ℕ) → List ℕ → Cells → List ℕ → Lists
lists_of libs strings places relevant rows =
    fold (add_row libs strings places relevant) (lists_over strings) rows

-- the functions' numbers, by the columns of frames over these strings
abbrev pub numbering_in : List Lib → List (List ℕ) → FrameCells → Numbered FuncKey
numbering_in libs strings frames = numbering libs strings (locations frames)

-- the lists, by the same
unfoldable pub lists_in : List Lib → List (List ℕ) → FrameCells → Lists
lists_in libs strings frames =
    lists_of libs strings (locations frames) frames.relevant_for_js (numbering_in libs strings frames).rows

-- columns of numbers, of numbers or none, of numbers or -1, and of truth values
abbrev pub filled : List (Option ℤ) → Cells
filled cells = record { state = Array; cells = cells; bad = None }

abbrev pub number_cell : ℕ → Option ℤ
number_cell n = Some (pos n)

abbrev pub numbers_column : List ℕ → Cells
numbers_column ns = filled (map number_cell ns)

abbrev pub maybe_cell : Option ℕ → Option ℤ
maybe_cell n = option_map pos n

abbrev pub minus_cell : Option ℕ → Option ℤ
minus_cell n = Some (option_map_or pos n (negsuc 0))

abbrev pub truth_cell : Bool → Option ℤ
truth_cell b = Some (if b then pos 1 else pos 0)

-- the tables that a processed thread would have
abbrev pub shared_cells : Lists → List ℕ → Cells → StackCells → SharedCells
shared_cells d numbers category stacks = record {
  strings = d.strings;
  string_fault = None;
  has_resources = true;
  resource_name = numbers_column d.resources;
  resource_length = Unsaid;
  func_name = filled (map (λ (f : Func). number_cell f.name) d.funcs);
  func_is_js = filled (map (λ (f : Func). truth_cell f.is_js) d.funcs);
  func_relevant_for_js = filled (map (λ (f : Func). truth_cell f.relevant_for_js) d.funcs);
  func_resource = filled (map (λ (f : Func). minus_cell f.resource) d.funcs);
  func_file_name = filled (map (λ (f : Func). maybe_cell f.file) d.funcs);
  func_length = Unsaid;
  frame_func = numbers_column numbers;
  frame_category = category;
  frame_length = Unsaid;
  stack_frame = stacks.frame;
  stack_prefix = stacks.prefix;
  stack_length = Unsaid;
}

-- the same, by the columns of a thread
abbrev pub shared_in : List Lib → ThreadParts → SharedCells
shared_in libs p = shared_cells
    (lists_in libs p.strings p.frames)
    (numbering_in libs p.strings p.frames).numbers
    p.frames.category
    p.stacks

-- the thread of so many categories and this default that checked columns stand for
unfoldable pub thread_in : ℕ → ℕ → List Lib → ThreadParts → ThreadTables
thread_in categories default libs p = thread_of (shared_of categories default (shared_in libs p)) p.own

-- the same, of a process with these libraries, whose times are moved by a shift
abbrev pub gecko_thread : ℕ → ℕ → List Lib → ℤ → GeckoCells → ThreadTables
gecko_thread categories default libs shift g = thread_in categories default libs (parts_of shift g)
