-- What is gathered of the tables of a written thread that threads may share.
use Rattle.std.proofs.Common.{◌≡◌, ℕ, ◌≤◌, List, Option, None, Some, length, refl, arith, Bool, true, false}
use Rattle.std.specs.Prelude.{ℤ, pos, negsuc, if◌then◌else◌, map, slice_get}
use Rattle.std.specs.Option.{option_map, option_map_or}
use Rattle.std.proofs.lemmas.Option.{slice_get_within}
use Rattle.prof_grammar.specs.Value.{boolean, string}
use Rattle.prof_raw.specs.declared.raw.TableLength.TheVariants.{Unsaid}
use Rattle.prof_raw.specs.declared.rule.ListFault.{ListFault}
use Rattle.prof_raw.specs.Cells.{Cells, SharedCells}
use Rattle.prof_tables.specs.declared.rows.FrameRow.{FrameRow}
use Rattle.prof_tables.specs.declared.rows.StackRow.{StackRow}
use Rattle.prof_tables.specs.Threads.{Func, SharedTables, ThreadTables}
use Rattle.prof_tables.specs.Ties.{IsFunc, IsShared, AreTied}
use Rattle.prof_tables.proofs.RowLemmas.{all_at}
use Rattle.prof_layout.specs.declared.reading.Reading.TheVariants as reading
use Rattle.prof_layout.specs.Columns.{column_of, read_cell}
use Rattle.prof_layout.specs.Lists.{texts_of}
use Rattle.prof_layout.specs.Tables.{raw_tables, strings_fault}
use Rattle.prof_write.specs.Cells.{column, index, maybe_index, resource_index}
use Rattle.prof_write.specs.Written.{thread_value}
use Rattle.prof_back.specs.Gathered.{column_with}
use Rattle.prof_back.proofs.Cells.{index_back, maybe_index_back, resource_back, truth_back}
use Rattle.prof_back.proofs.Columns.{cells_back, strings_pass, texts_back}
use Rattle.prof_back.proofs.Frames.{category_told, frame_categories_back, frame_funcs_back, frames_gathered, func_told, number_told, resources_gathered}
use Rattle.prof_back.proofs.Samples.{small}

-- ---- what a function and a stack row tell

abbrev pub name_told : Func → Option ℤ
name_told f = Some (pos f.name)

abbrev pub truth_told : Bool → Option ℤ
truth_told b = Some (if b then pos 1 else pos 0)

abbrev pub is_js_told : Func → Option ℤ
is_js_told f = truth_told f.is_js

abbrev pub relevant_told : Func → Option ℤ
relevant_told f = truth_told f.relevant_for_js

abbrev pub resource_told : Func → Option ℤ
resource_told f = Some (option_map_or pos f.resource (negsuc 0))

abbrev pub file_told : Func → Option ℤ
file_told f = option_map pos f.file

abbrev pub prefix_told : StackRow → Option ℤ
prefix_told s = option_map pos s.prefix

-- ---- the tables

abbrev shared_with : List (List ℕ) → Option ListFault → Cells → Cells → Cells → Cells → Cells → Cells → Cells → Cells → Cells → Cells → SharedCells
shared_with strings fault resources names is_js relevant resource files funcs categories frames prefixes = record {
  strings = strings;
  string_fault = fault;
  has_resources = true;
  resource_name = resources;
  resource_length = Unsaid;
  func_name = names;
  func_is_js = is_js;
  func_relevant_for_js = relevant;
  func_resource = resource;
  func_file_name = files;
  func_length = Unsaid;
  frame_func = funcs;
  frame_category = categories;
  frame_length = Unsaid;
  stack_frame = frames;
  stack_prefix = prefixes;
  stack_length = Unsaid;
}

abbrev pub shared_told : SharedTables → SharedCells
shared_told t = shared_with t.strings None
    (column_with (map number_told t.resources))
    (column_with (map name_told t.funcs))
    (column_with (map is_js_told t.funcs))
    (column_with (map relevant_told t.funcs))
    (column_with (map resource_told t.funcs))
    (column_with (map file_told t.funcs))
    (column_with (map func_told t.frames))
    (column_with (map category_told t.frames))
    (column_with (map number_told t.stack_frames))
    (column_with (map prefix_told t.stacks))

same_shared : (s s' : List (List ℕ)) (o o' : Option ListFault) (a a' b b' c c' d d' e e' f f' g g' h h' i i' j j' : Cells) →
    s ≡ s' → o ≡ o' → a ≡ a' → b ≡ b' → c ≡ c' → d ≡ d' → e ≡ e' → f ≡ f' → g ≡ g' → h ≡ h' → i ≡ i' → j ≡ j' →
    shared_with s o a b c d e f g h i j ≡ shared_with s' o' a' b' c' d' e' f' g' h' i' j'
same_shared s s' o o' a a' b b' c c' d d' e e' f f' g g' h h' i i' j j' p q r1 r2 r3 r4 r5 r6 r7 r8 r9 r10 =
    rw (p, q, r1, r2, r3, r4, r5, r6, r7, r8, r9, r10) refl

-- ---- the columns

pub func_within : (t : SharedTables) → AreTied t → (i : ℕ) (f : Func) → slice_get t.funcs i ≡ Some f → IsFunc (length t.strings) (length t.resources) f
func_within t tied i f e = all_at (IsFunc (length t.strings) (length t.resources)) t.funcs i f tied.funcs e

names_gathered : (t : SharedTables) → AreTied t → column_of (read_cell reading.Index) true (Some (column (λ (f : Func). index f.name) t.funcs)) ≡ column_with (map name_told t.funcs)
names_gathered t tied =
    let few : length t.strings ≤ 4194304 = tied.few_strings in
    cells_back (read_cell reading.Index) true (λ (f : Func). index f.name) name_told t.funcs (λ i f e. let is = (func_within t tied i f e).name in index_back f.name (omega arith))

is_js_gathered : (t : SharedTables) → column_of (read_cell reading.Truth) false (Some (column (λ (f : Func). boolean f.is_js) t.funcs)) ≡ column_with (map is_js_told t.funcs)
is_js_gathered t = cells_back (read_cell reading.Truth) false (λ (f : Func). boolean f.is_js) is_js_told t.funcs (λ i f e. truth_back f.is_js)

relevant_gathered : (t : SharedTables) → column_of (read_cell reading.Truth) false (Some (column (λ (f : Func). boolean f.relevant_for_js) t.funcs)) ≡ column_with (map relevant_told t.funcs)
relevant_gathered t = cells_back (read_cell reading.Truth) false (λ (f : Func). boolean f.relevant_for_js) relevant_told t.funcs (λ i f e. truth_back f.relevant_for_js)

resource_gathered : (t : SharedTables) → AreTied t → column_of (read_cell reading.Index) false (Some (column (λ (f : Func). resource_index f.resource) t.funcs)) ≡ column_with (map resource_told t.funcs)
resource_gathered t tied =
    let few : length t.resources ≤ 1048576 = tied.few_resources in
    cells_back (read_cell reading.Index) false (λ (f : Func). resource_index f.resource) resource_told t.funcs
    (λ i f e. resource_back f.resource (small (length t.resources) (omega arith) f.resource (func_within t tied i f e).resource))

files_gathered : (t : SharedTables) → AreTied t → column_of (read_cell reading.MaybeIndex) false (Some (column (λ (f : Func). maybe_index f.file) t.funcs)) ≡ column_with (map file_told t.funcs)
files_gathered t tied =
    let few : length t.strings ≤ 4194304 = tied.few_strings in
    cells_back (read_cell reading.MaybeIndex) false (λ (f : Func). maybe_index f.file) file_told t.funcs
    (λ i f e. maybe_index_back f.file (small (length t.strings) (omega arith) f.file (func_within t tied i f e).file))

prefixes_gathered : (t : SharedTables) → IsShared t → column_of (read_cell reading.MaybeIndex) true (Some (column (λ (s : StackRow). maybe_index s.prefix) t.stacks)) ≡ column_with (map prefix_told t.stacks)
prefixes_gathered t kept =
    let few : length t.stacks ≤ 4194304 = kept.tied.few_stacks in
    cells_back (read_cell reading.MaybeIndex) true (λ (s : StackRow). maybe_index s.prefix) prefix_told t.stacks
    (λ i s e. let within = slice_get_within t.stacks i s e in maybe_index_back s.prefix (small i (omega arith) s.prefix (kept.prefixes i s e)))

pub shared_raw : (t : ThreadTables) → IsShared t.shared → t.shared.categories ≤ 65536 → raw_tables None (thread_value t) ≡ shared_told t.shared
unfolding raw_tables
shared_raw t kept few =
    let s : SharedTables = t.shared in
    let tied = kept.tied in
    same_shared (texts_of (Some (column string s.strings))) s.strings (strings_fault (Some (column string s.strings))) None
    (column_of (read_cell reading.Index) true (Some (column index s.resources))) (column_with (map number_told s.resources))
    (column_of (read_cell reading.Index) true (Some (column (λ (f : Func). index f.name) s.funcs))) (column_with (map name_told s.funcs))
    (column_of (read_cell reading.Truth) false (Some (column (λ (f : Func). boolean f.is_js) s.funcs))) (column_with (map is_js_told s.funcs))
    (column_of (read_cell reading.Truth) false (Some (column (λ (f : Func). boolean f.relevant_for_js) s.funcs))) (column_with (map relevant_told s.funcs))
    (column_of (read_cell reading.Index) false (Some (column (λ (f : Func). resource_index f.resource) s.funcs))) (column_with (map resource_told s.funcs))
    (column_of (read_cell reading.MaybeIndex) false (Some (column (λ (f : Func). maybe_index f.file) s.funcs))) (column_with (map file_told s.funcs))
    (column_of (read_cell reading.Index) true (Some (column (λ (f : FrameRow). index f.func) s.frames))) (column_with (map func_told s.frames))
    (column_of (read_cell reading.MaybeIndex) false (Some (column (λ (f : FrameRow). maybe_index f.category) s.frames))) (column_with (map category_told s.frames))
    (column_of (read_cell reading.Index) true (Some (column index s.stack_frames))) (column_with (map number_told s.stack_frames))
    (column_of (read_cell reading.MaybeIndex) true (Some (column (λ (r : StackRow). maybe_index r.prefix) s.stacks))) (column_with (map prefix_told s.stacks))
    (texts_back s.strings) (strings_pass s.strings tied.few_strings)
    (resources_gathered s tied) (names_gathered s tied) (is_js_gathered s) (relevant_gathered s) (resource_gathered s tied) (files_gathered s tied)
    (frame_funcs_back s tied) (frame_categories_back s tied few) (frames_gathered s kept) (prefixes_gathered s kept)
