-- The frames, and the frames of the stack rows, of a written thread are read as its own.
use Rattle.std.proofs.Common.{◌≡◌, ◌∙◌, ℕ, ◌^◌, ◌<◌, ◌≤◌, List, Option, None, Some, length, refl, ap, arith, true, false}
use Rattle.std.specs.Prelude.{ℤ, pos, map, slice_get}
use Rattle.std.specs.Option.{option_map}
use Rattle.std.proofs.lemmas.Option.{slice_get_within}
use Rattle.prof_raw.specs.Cells.{Cells, cell, cell_at}
use Rattle.prof_raw.specs.CellValues.{index_of, index_or_none}
use Rattle.prof_tables.specs.declared.rows.FrameRow.{FrameRow}
use Rattle.prof_tables.specs.Threads.{SharedTables, ThreadTables}
use Rattle.prof_tables.specs.Ties.{IsFrame, IsShared, AreTied}
use Rattle.prof_tables.specs.Rows.{rows_of, frames_of, resources_of, stack_frames_of}
use Rattle.prof_tables.proofs.RowLemmas.{all_at}
use Rattle.prof_layout.specs.declared.reading.Reading.TheVariants as reading
use Rattle.prof_layout.specs.Columns.{column_of, read_cell}
use Rattle.prof_layout.specs.Tables.{raw_tables}
use Rattle.prof_write.specs.Cells.{column, index, maybe_index}
use Rattle.prof_write.specs.Written.{thread_value}
use Rattle.prof_back.specs.Gathered.{column_with}
use Rattle.prof_back.proofs.Cells.{index_back, maybe_index_back}
use Rattle.prof_back.proofs.Columns.{cells_back, length_map, texts_back}
use Rattle.prof_back.proofs.Samples.{rows_of_same, cells_at, small, option_back}

-- ---- lists of numbers

abbrev pub number_told : ℕ → Option ℤ
number_told n = Some (pos n)

numbers_from : (rows : List ℕ) (cells : Cells) → cells ≡ column_with (map number_told rows) → rows_of (λ i. index_of (cell cells i)) (length cells.cells) ≡ rows
numbers_from rows cells e =
    ap (λ (x : Cells). rows_of (λ i. index_of (cell x i)) (length x.cells)) e
    ∙ (ap (rows_of (λ i. index_of (cell (column_with (map number_told rows)) i))) (length_map number_told rows)
    ∙ rows_of_same (λ i. index_of (cell (column_with (map number_told rows)) i)) rows (λ i n at. ap index_of (cells_at number_told rows i n at)))

numbers_back : (rows : List ℕ) → ((i n : ℕ) → slice_get rows i ≡ Some n → n < 2 ^ 63) → column_of (read_cell reading.Index) true (Some (column index rows)) ≡ column_with (map number_told rows)
numbers_back rows h =
    cells_back (read_cell reading.Index) true index number_told rows (λ i n e. index_back n (h i n e))

pub strings_back : (t : ThreadTables) → (raw_tables None (thread_value t)).strings ≡ t.shared.strings
unfolding raw_tables
strings_back t = texts_back t.shared.strings

pub resources_gathered : (t : SharedTables) → AreTied t → column_of (read_cell reading.Index) true (Some (column index t.resources)) ≡ column_with (map number_told t.resources)
resources_gathered t tied =
    let few : length t.strings ≤ 4194304 = tied.few_strings in
    numbers_back t.resources (λ i n e. let is : n < length t.strings = all_at (λ n. n < length t.strings) t.resources i n tied.resources e in omega arith)

pub resources_back : (t : ThreadTables) → AreTied t.shared → resources_of (raw_tables None (thread_value t)) ≡ t.shared.resources
unfolding resources_of raw_tables
resources_back t tied = numbers_from t.shared.resources (column_of (read_cell reading.Index) true (Some (column index t.shared.resources))) (resources_gathered t.shared tied)

pub frames_gathered : (t : SharedTables) → IsShared t → column_of (read_cell reading.Index) true (Some (column index t.stack_frames)) ≡ column_with (map number_told t.stack_frames)
frames_gathered t kept =
    let few : length t.frames ≤ 4194304 = kept.tied.few_frames in
    numbers_back t.stack_frames (λ i j e. let is = kept.frames.frame i j e in let within = slice_get_within t.frames j is.1.0 is.1.1.1 in omega arith)

pub stack_frames_back : (t : ThreadTables) → IsShared t.shared → stack_frames_of (raw_tables None (thread_value t)) ≡ t.shared.stack_frames
unfolding stack_frames_of raw_tables
stack_frames_back t kept = numbers_from t.shared.stack_frames (column_of (read_cell reading.Index) true (Some (column index t.shared.stack_frames))) (frames_gathered t.shared kept)

-- ---- frames

abbrev row_of : Cells → Cells → ℕ → FrameRow
row_of funcs categories j = record { func = index_of (cell funcs j); category = index_or_none (cell categories j) }

abbrev pub func_told : FrameRow → Option ℤ
func_told f = Some (pos f.func)

abbrev pub category_told : FrameRow → Option ℤ
category_told f = option_map pos f.category

same_frame : (f : FrameRow) (func : ℕ) (category : Option ℕ) → func ≡ f.func → category ≡ f.category → (let r : FrameRow = record { func = func; category = category } in r) ≡ f
same_frame f func category a b = rw (a, b) refl

pub frame_back : (rows : List FrameRow) (i : ℕ) (f : FrameRow) → slice_get rows i ≡ Some f → row_of (column_with (map func_told rows)) (column_with (map category_told rows)) i ≡ f
frame_back rows i f e =
    same_frame f (index_of (cell_at (map func_told rows) i)) (index_or_none (cell_at (map category_told rows) i))
    (ap index_of (cells_at func_told rows i f e))
    (ap index_or_none (cells_at category_told rows i f e) ∙ option_back f.category)

rows_from : (rows : List FrameRow) (funcs categories : Cells) → funcs ≡ column_with (map func_told rows) → categories ≡ column_with (map category_told rows) →
    rows_of (row_of funcs categories) (length funcs.cells) ≡ rows
rows_from rows funcs categories a b =
    let first = column_with (map func_told rows) in
    let second = column_with (map category_told rows) in
    ap (λ (x : Cells). rows_of (row_of x categories) (length x.cells)) a
    ∙ (ap (λ (x : Cells). rows_of (row_of first x) (length (map func_told rows))) b
    ∙ (ap (λ (n : ℕ). rows_of (row_of first second) n) (length_map func_told rows) ∙ rows_of_same (row_of first second) rows (frame_back rows)))

pub frame_within : (t : SharedTables) → AreTied t → (i : ℕ) (f : FrameRow) → slice_get t.frames i ≡ Some f → IsFrame (length t.funcs) t.categories f
frame_within t tied i f e = all_at (IsFrame (length t.funcs) t.categories) t.frames i f tied.frames e

pub frame_funcs_back : (t : SharedTables) → AreTied t → column_of (read_cell reading.Index) true (Some (column (λ (f : FrameRow). index f.func) t.frames)) ≡ column_with (map func_told t.frames)
frame_funcs_back t tied =
    let few : length t.funcs ≤ 1048576 = tied.few_funcs in
    cells_back (read_cell reading.Index) true (λ (f : FrameRow). index f.func) func_told t.frames (λ i f e. let is = (frame_within t tied i f e).func in index_back f.func (omega arith))

pub frame_categories_back : (t : SharedTables) → AreTied t → t.categories ≤ 65536 →
    column_of (read_cell reading.MaybeIndex) false (Some (column (λ (f : FrameRow). maybe_index f.category) t.frames)) ≡ column_with (map category_told t.frames)
frame_categories_back t tied few =
    cells_back (read_cell reading.MaybeIndex) false (λ (f : FrameRow). maybe_index f.category) category_told t.frames
    (λ i f e. maybe_index_back f.category (small t.categories (omega arith) f.category (frame_within t tied i f e).category))

pub frames_back : (t : ThreadTables) → AreTied t.shared → t.shared.categories ≤ 65536 → frames_of (raw_tables None (thread_value t)) ≡ t.shared.frames
unfolding frames_of raw_tables
frames_back t tied few =
    rows_from t.shared.frames
    (column_of (read_cell reading.Index) true (Some (column (λ (f : FrameRow). index f.func) t.shared.frames)))
    (column_of (read_cell reading.MaybeIndex) false (Some (column (λ (f : FrameRow). maybe_index f.category) t.shared.frames)))
    (frame_funcs_back t.shared tied) (frame_categories_back t.shared tied few)
