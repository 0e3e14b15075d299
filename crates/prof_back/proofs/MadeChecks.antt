-- The value of the text that a number makes breaks no rule.
use Rattle.std.proofs.Common.{◌≡◌, ◌∙◌, ℕ, zero, suc, ◌-◌, ◌^◌, ◌<◌, List, [], ◌∷◌, codes, Bool, true, false, Option, None, Some, length, refl, sym, ap, subst, arith}
use Rattle.std.specs.Prelude.{ℤ, pos, IfSome, ◌==◌, if◌then◌else◌, map, nat_lt, slice_get}
use Rattle.std.specs.List.{AllByRecursion}
use Rattle.std.specs.Option.{option_map, option_or}
use Rattle.std.proofs.lemmas.Bool.Decides.{nat_tests}
use Rattle.std.proofs.lemmas.Int.{ints}
use Rattle.prof_demo.specs.Generated.{below}
use Rattle.prof_raw.specs.declared.column.CellKind.TheVariants as kind
use Rattle.prof_raw.specs.declared.column.Size.TheVariants.{AtMost, Same}
use Rattle.prof_raw.specs.declared.limits.TheConstants.{MOST_ROWS, MOST_SAMPLES}
use Rattle.prof_raw.specs.declared.raw.State.TheVariants.{Array}
use Rattle.prof_raw.specs.declared.raw.TableLength.TheVariants.{Unsaid}
use Rattle.prof_raw.specs.declared.raw.Unit.TheVariants as unit
use Rattle.prof_raw.specs.declared.rule.Table.TheVariants as table
use Rattle.prof_raw.specs.declared.rule.Column.TheVariants as column
use Rattle.prof_raw.specs.Cells.{Cells, OwnCells, SharedCells}
use Rattle.prof_raw.specs.Checks.{frames_broken, funcs_broken, markers_broken, named, own_broken, resources_broken, samples_broken, shared_broken, stacks_broken, strings_broken, thread_broken}
use Rattle.prof_raw.specs.Moments.{time_fault, time_name, time_rule}
use Rattle.prof_raw.specs.Rules.{cell_rule, column_fault}
use Rattle.prof_tables.specs.Ties.{InRange}
use Rattle.prof_layout.specs.declared.reading.Reading.TheVariants as reading
use Rattle.prof_layout.specs.Columns.{absent, column_of, read_cell}
use Rattle.prof_layout.specs.Tables.{raw_own, raw_tables, raw_thread}
use Rattle.prof_layout.specs.Profile.{base_broken, broken, categories_broken, category_names, is_shared, processed_broken, thread_fails, threads_broken}
use Rattle.prof_write.specs.Cells.{column as column_value, index, maybe_index, time}
use Rattle.prof_back.specs.Gathered.{column_with}
use Rattle.prof_back.specs.Made.{eight, frame_of, made, moment_of, names, prefix_of, stack_of, thread_made}
use Rattle.prof_back.proofs.Below.{at_below, length_below}
use Rattle.prof_back.proofs.Cells.{index_back, maybe_index_back, time_back}
use Rattle.prof_back.proofs.Columns.{column_back, length_map, rows_back}
use Rattle.prof_back.proofs.Passing.{as_many, cells_pass, column_passes, index_passes, none_both, none_or, range_passes, rows_pass, within_most}

-- ---- what is gathered of the columns

abbrev number_told : ℕ → Option ℤ
number_told n = Some (pos n)

abbrev frame_told : ℕ → Option ℤ
frame_told row = Some (pos (frame_of row))

abbrev prefix_told : ℕ → Option ℤ
prefix_told row = option_map pos (prefix_of row)

abbrev stack_told : ℕ → ℕ → Option ℤ
stack_told n sample = Some (pos (stack_of n sample))

abbrev time_told : ℕ → Option ℤ
time_told sample = Some (moment_of sample)

abbrev func_cells : Cells
func_cells = column_with (map number_told eight)

abbrev frame_cells : Cells
frame_cells = column_with (map frame_told (below 60000))

abbrev prefix_cells : Cells
prefix_cells = column_with (map prefix_told (below 60000))

abbrev stack_cells : ℕ → Cells
stack_cells n = column_with (map (stack_told n) (below 200000))

abbrev time_cells : Cells
time_cells = column_with (map time_told (below 200000))

by_recursion : (P : ℕ → Type 0) (xs : List ℕ) → AllByRecursion P xs → (i r : ℕ) → slice_get xs i ≡ Some r → P r
by_recursion P [] h i r e = absurd (cc)
by_recursion P (x ∷ xs) h zero r e = let same : x ≡ r = cc in subst P same h.0
by_recursion P (x ∷ xs) h (suc i) r e = by_recursion P xs h.1 i r e

-- the numbers of eight are below eight
pub eight_small : (i r : ℕ) → slice_get eight i ≡ Some r → r < 8
eight_small i r e = by_recursion (λ k. k < 8) eight (omega arith, (omega arith, (omega arith, (omega arith, (omega arith, (omega arith, (omega arith, (omega arith, tt)))))))) i r e

funcs_back : column_of (read_cell reading.Index) true (Some (column_value index eight)) ≡ func_cells
funcs_back =
    column_back (read_cell reading.Index) true (map index eight) (map number_told eight)
    (rows_back (read_cell reading.Index) index number_told eight (λ i r e. let small = eight_small i r e in index_back r (omega arith)))

pub frame_small : (r : ℕ) → frame_of r < 8
frame_small r = omega arith

pub stack_small : (n r : ℕ) → stack_of n r < 60000
stack_small n r = omega arith

frames_back : column_of (read_cell reading.Index) true (Some (column_value (λ row. index (frame_of row)) (below 60000))) ≡ frame_cells
frames_back =
    column_back (read_cell reading.Index) true (map (λ row. index (frame_of row)) (below 60000)) (map frame_told (below 60000))
    (rows_back (read_cell reading.Index) (λ row. index (frame_of row)) frame_told (below 60000) (λ i r e. let small = frame_small r in index_back (frame_of r) (omega arith)))

pub before_small : (r : ℕ) → r < 60000 → (t : Bool) → (let o : Option ℕ = if t then None else Some (r - 1) in IfSome o (λ n. n < 2 ^ 63))
before_small r h true = tt
before_small r h false = omega arith

prefixes_back : column_of (read_cell reading.MaybeIndex) true (Some (column_value (λ row. maybe_index (prefix_of row)) (below 60000))) ≡ prefix_cells
prefixes_back =
    column_back (read_cell reading.MaybeIndex) true (map (λ row. maybe_index (prefix_of row)) (below 60000)) (map prefix_told (below 60000))
    (rows_back (read_cell reading.MaybeIndex) (λ row. maybe_index (prefix_of row)) prefix_told (below 60000)
    (λ i r e. let at = at_below 60000 i r e in maybe_index_back (prefix_of r) (before_small r (omega (arith, at.0, at.1)) (r == 0))))

stacks_back : (n : ℕ) → column_of (read_cell reading.MaybeIndex) true (Some (column_value (λ sample. index (stack_of n sample)) (below 200000))) ≡ stack_cells n
stacks_back n =
    column_back (read_cell reading.MaybeIndex) true (map (λ sample. index (stack_of n sample)) (below 200000)) (map (stack_told n) (below 200000))
    (rows_back (read_cell reading.MaybeIndex) (λ sample. index (stack_of n sample)) (stack_told n) (below 200000)
    (λ i r e. let small = stack_small n r in maybe_index_back (Some (stack_of n r)) (omega arith)))

pub moment_in : (r : ℕ) → r < 200000 → InRange (moment_of r)
moment_in r h = (omega (arith, ints), omega (arith, ints))

times_back : column_of (read_cell reading.Time) false (Some (column_value (λ sample. time (moment_of sample)) (below 200000))) ≡ time_cells
times_back =
    column_back (read_cell reading.Time) false (map (λ sample. time (moment_of sample)) (below 200000)) (map time_told (below 200000))
    (rows_back (read_cell reading.Time) (λ sample. time (moment_of sample)) time_told (below 200000)
    (λ i r e. let at = at_below 200000 i r e in time_back (moment_of r) (moment_in r (omega (arith, at.0, at.1)))))

-- ---- the raw tables

abbrev shared_with : Cells → Cells → Cells → SharedCells
shared_with funcs frames prefixes = record {
  strings = names;
  string_fault = None;
  has_resources = false;
  resource_name = absent;
  resource_length = Unsaid;
  func_name = funcs;
  func_is_js = absent;
  func_relevant_for_js = absent;
  func_resource = absent;
  func_file_name = absent;
  func_length = Unsaid;
  frame_func = funcs;
  frame_category = absent;
  frame_length = Unsaid;
  stack_frame = frames;
  stack_prefix = prefixes;
  stack_length = Unsaid;
}

abbrev own_with : Cells → Cells → OwnCells
own_with stacks times = record {
  name = codes "gen";
  sample_stack = stacks;
  sample_time = times;
  deltas = false;
  unit = Some unit.Samples;
  sample_weight = absent;
  sample_length = Unsaid;
  has_markers = false;
  marker_phase = absent;
  marker_name = absent;
  marker_start = absent;
  marker_end = absent;
  marker_data = absent;
  marker_length = Unsaid;
  marker_texts = [];
  marker_ranges = [];
}

same_shared : (f g p funcs frames prefixes : Cells) → f ≡ funcs → g ≡ frames → p ≡ prefixes → shared_with f g p ≡ shared_with funcs frames prefixes
same_shared f g p funcs frames prefixes a b c = rw (a, b, c) refl

same_own : (s t stacks times : Cells) → s ≡ stacks → t ≡ times → own_with s t ≡ own_with stacks times
same_own s t stacks times a b = rw (a, b) refl

shared_raw : (n : ℕ) → raw_tables None (thread_made n) ≡ shared_with func_cells frame_cells prefix_cells
unfolding raw_tables
shared_raw n =
    same_shared (column_of (read_cell reading.Index) true (Some (column_value index eight)))
    (column_of (read_cell reading.Index) true (Some (column_value (λ row. index (frame_of row)) (below 60000))))
    (column_of (read_cell reading.MaybeIndex) true (Some (column_value (λ row. maybe_index (prefix_of row)) (below 60000))))
    func_cells frame_cells prefix_cells funcs_back frames_back prefixes_back

own_raw : (n : ℕ) → raw_own (thread_made n) ≡ own_with (stack_cells n) time_cells
unfolding raw_own
own_raw n =
    same_own (column_of (read_cell reading.MaybeIndex) true (Some (column_value (λ sample. index (stack_of n sample)) (below 200000))))
    (column_of (read_cell reading.Time) false (Some (column_value (λ sample. time (moment_of sample)) (below 200000))))
    (stack_cells n) time_cells (stacks_back n) times_back

-- ---- the checks

row_before_passes : (i r : ℕ) → r ≡ i → (t : Bool) → (r == 0) ≡ t → cell_rule kind.Prefix i (option_map pos (let o : Option ℕ = if t then None else Some (r - 1) in o)) ≡ None
row_before_passes i r e true t = refl
row_before_passes i r e false t = let test : nat_lt (r - 1) i ≡ true = grind (arith, nat_tests) in rw test refl

abbrev made_shared : SharedCells
made_shared = shared_with func_cells frame_cells prefix_cells

frame_column : column_fault true (AtMost MOST_ROWS) (kind.Index 8) frame_cells ≡ None
frame_column =
    column_passes true (AtMost MOST_ROWS) (kind.Index 8) frame_told (below 60000) (within_most (length (below 60000)) MOST_ROWS (omega (arith, length_below 60000)))
    (λ i r e. index_passes 8 (frame_of r) (frame_small r))

prefix_column : column_fault true (Same (length frame_cells.cells)) kind.Prefix prefix_cells ≡ None
prefix_column =
    column_passes true (Same (length frame_cells.cells)) kind.Prefix prefix_told (below 60000) (as_many (length (below 60000)) (length frame_cells.cells) (sym (length_map frame_told (below 60000))))
    (λ i r e. let at = at_below 60000 i r e in row_before_passes i r at.0 (r == 0) refl)

stacks_pass : stacks_broken (Some 0) made_shared ≡ None
unfolding stacks_broken
stacks_pass =
    none_both _ _ (ap (named (Some 0) table.StackTable column.Frame) frame_column) (ap (named (Some 0) table.StackTable column.Prefix) prefix_column)

strings_pass : strings_broken (Some 0) made_shared ≡ None
unfolding strings_broken
strings_pass = refl

resources_pass : resources_broken (Some 0) made_shared ≡ None
unfolding resources_broken
resources_pass = refl

funcs_pass : funcs_broken (Some 0) made_shared ≡ None
unfolding funcs_broken
funcs_pass = refl

frames_pass : frames_broken (Some 0) 1 made_shared ≡ None
unfolding frames_broken
frames_pass = refl

shared_passes : shared_broken (Some 0) 1 made_shared ≡ None
unfolding shared_broken
shared_passes = rw (strings_pass, resources_pass, funcs_pass, frames_pass, stacks_pass) refl

stack_column : (n rows : ℕ) → rows ≡ 60000 → column_fault true (AtMost MOST_SAMPLES) (kind.MaybeIndex rows) (stack_cells n) ≡ None
stack_column n rows h =
    column_passes true (AtMost MOST_SAMPLES) (kind.MaybeIndex rows) (stack_told n) (below 200000) (within_most (length (below 200000)) MOST_SAMPLES (omega (arith, length_below 200000)))
    (λ i r e. index_passes rows (stack_of n r) (let small = stack_small n r in omega (arith, h)))

time_column : (rows : ℕ) → rows ≡ 200000 → time_fault false rows time_cells ≡ None
time_column rows h =
    rows_pass (Same rows) (time_rule false None (map time_told (below 200000))) (length (map time_told (below 200000)))
    (as_many (length (map time_told (below 200000))) rows (length_map time_told (below 200000) ∙ length_below 200000 ∙ sym h))
    (cells_pass (λ i o. cell_rule kind.Number i o ≡ None) time_told (below 200000) (λ i r e. let at = at_below 200000 i r e in range_passes (moment_of r) (moment_in r (omega (arith, at.0, at.1)))))

samples_pass : (n rows : ℕ) → rows ≡ 60000 → samples_broken (Some 0) rows (own_with (stack_cells n) time_cells) ≡ None
unfolding samples_broken
samples_pass n rows h =
    none_both _ _ (ap (named (Some 0) table.Samples column.Stack) (stack_column n rows h))
    (ap (named (Some 0) table.Samples (time_name Array false)) (time_column (length (map (stack_told n) (below 200000))) (length_map (stack_told n) (below 200000) ∙ length_below 200000)))

own_passes : (n rows : ℕ) → rows ≡ 60000 → own_broken (Some 0) 8 rows (own_with (stack_cells n) time_cells) ≡ None
unfolding own_broken markers_broken
own_passes n rows h = none_or (samples_broken (Some 0) rows (own_with (stack_cells n) time_cells)) None (samples_pass n rows h) refl

abbrev ThreadPasses : SharedCells → OwnCells → Type 0
ThreadPasses shared own = thread_broken 0 1 (record { shared = shared; own = own }) ≡ None

thread_passes : (n : ℕ) → thread_broken 0 1 (raw_thread None (thread_made n)) ≡ None
thread_passes n =
    let rows = length_map frame_told (below 60000) ∙ length_below 60000 in
    subst (λ s. ThreadPasses s (raw_own (thread_made n))) (sym (shared_raw n))
    (subst (λ o. ThreadPasses made_shared o) (sym (own_raw n))
    (none_or (shared_broken (Some 0) 1 made_shared) (own_broken (Some 0) 8 (length frame_cells.cells) (own_with (stack_cells n) time_cells)) shared_passes (own_passes n (length frame_cells.cells) rows)))

pub made_passes : (n : ℕ) → broken (made n) ≡ None
unfolding broken processed_broken categories_broken base_broken threads_broken thread_fails is_shared category_names
made_passes n = let thread = thread_broken 0 1 (raw_thread None (thread_made n)) in none_or (option_or thread None) None (none_or thread None (thread_passes n) refl) refl
