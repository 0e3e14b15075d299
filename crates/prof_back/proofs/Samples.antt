-- The samples of a written thread are read as its samples.
use Rattle.std.proofs.Common.{◌≡◌, ◌∙◌, ℕ, zero, suc, ◌^◌, ◌<◌, ◌≤◌, List, [], ◌∷◌, Option, None, Some, length, refl, ap, arith, true, false}
use Rattle.std.specs.Prelude.{ℤ, pos, IfSome, map, slice_get}
use Rattle.std.specs.Option.{option_map}
use Rattle.std.proofs.lemmas.Option.{slice_get_within}
use Rattle.prof_grammar.specs.Value.{Value, string}
use Rattle.prof_raw.specs.Cells.{Cells, cell, cell_at}
use Rattle.prof_raw.specs.CellValues.{index_or_none, number_of, weight_in}
use Rattle.prof_raw.specs.Moments.{time_of}
use Rattle.prof_raw.specs.declared.raw.Unit.{Unit as WeightUnit}
use Rattle.prof_tables.specs.declared.rows.SampleRow.{SampleRow}
use Rattle.prof_tables.specs.Threads.{ThreadTables}
use Rattle.prof_tables.specs.Ties.{IsSample, AreTied, AreOwn}
use Rattle.prof_tables.specs.Rows.{rows_of, samples_of, unit_of}
use Rattle.prof_tables.proofs.RowLemmas.{length-rows_of, slice_get-rows_of, all_at}
use Rattle.prof_layout.specs.declared.reading.Reading.TheVariants as reading
use Rattle.prof_layout.specs.Columns.{column_of, read_cell}
use Rattle.prof_layout.specs.Tables.{raw_own, weight_reading, weight_unit}
use Rattle.prof_write.specs.Cells.{column, maybe_index, time, weight, weight_type}
use Rattle.prof_write.specs.Written.{thread_value}
use Rattle.prof_back.specs.Gathered.{column_with}
use Rattle.prof_back.proofs.Cells.{maybe_index_back, time_back, unit_back, weight_back}
use Rattle.prof_back.proofs.Columns.{cells_back, length_map}

-- ---- rows by their numbers

rows_same : {A : Type 0} (xs ys : List A) → length xs ≡ length ys → ((i : ℕ) (y : A) → slice_get ys i ≡ Some y → slice_get xs i ≡ Some y) → xs ≡ ys
rows_same [] [] many h = refl
rows_same [] (y ∷ ys) many h = absurd (omega arith)
rows_same (x ∷ xs) [] many h = absurd (omega arith)
rows_same {A} (x ∷ xs) (y ∷ ys) many h =
    let first : Some x ≡ Some y = h 0 y refl in
    let same : x ≡ y = cc in
    ap (λ (z : A). z ∷ xs) same ∙ ap (λ (zs : List A). y ∷ zs) (rows_same xs ys (omega arith) (λ i z e. h (suc i) z e))

pub rows_of_same : {A : Type 0} (row : ℕ → A) (xs : List A) → ((i : ℕ) (x : A) → slice_get xs i ≡ Some x → row i ≡ x) → rows_of row (length xs) ≡ xs
rows_of_same {A} row xs h =
    rows_same (rows_of row (length xs)) xs (length-rows_of row (length xs))
    (λ i x e. let inside = slice_get_within xs i x e in slice_get-rows_of row (length xs) i inside ∙ ap (λ (y : A). let o : Option A = Some y in o) (h i x e))

pub cells_at : {A : Type 0} (told : A → Option ℤ) (rows : List A) (i : ℕ) (r : A) → slice_get rows i ≡ Some r → cell_at (map told rows) i ≡ told r
cells_at told [] i r e = cc
cells_at told (s ∷ rows) zero r e = let same : s ≡ r = cc in ap told same
cells_at told (s ∷ rows) (suc i) r e = cells_at told rows i r e

pub small : (n : ℕ) → n ≤ 8388608 → (o : Option ℕ) → IfSome o (λ k. k < n) → IfSome o (λ k. k < 2 ^ 63)
small n h None i = tt
small n h (Some x) i = omega arith

-- ---- samples

abbrev row_of : Cells → Cells → Cells → ℕ → SampleRow
row_of stacks times weights k = record { stack = index_or_none (cell stacks k); time = time_of false times k; weight = weight_in weights.state weights.cells k }

abbrev pub stack_told : SampleRow → Option ℤ
stack_told s = option_map pos s.stack

abbrev pub time_told : SampleRow → Option ℤ
time_told s = Some s.time

abbrev pub weight_told : SampleRow → Option ℤ
weight_told s = Some s.weight

pub option_back : (o : Option ℕ) → index_or_none (option_map pos o) ≡ o
option_back None = refl
option_back (Some n) = refl

same_sample : (s : SampleRow) (stack : Option ℕ) (moment size : ℤ) → stack ≡ s.stack → moment ≡ s.time → size ≡ s.weight →
    (let r : SampleRow = record { stack = stack; time = moment; weight = size } in r) ≡ s
same_sample s stack moment size a b c = rw (a, b, c) refl

sample_back : (rows : List SampleRow) (i : ℕ) (s : SampleRow) → slice_get rows i ≡ Some s →
    row_of (column_with (map stack_told rows)) (column_with (map time_told rows)) (column_with (map weight_told rows)) i ≡ s
sample_back rows i s e =
    same_sample s (index_or_none (cell_at (map stack_told rows) i)) (number_of (cell_at (map time_told rows) i)) (number_of (cell_at (map weight_told rows) i))
    (ap index_or_none (cells_at stack_told rows i s e) ∙ option_back s.stack)
    (ap number_of (cells_at time_told rows i s e))
    (ap number_of (cells_at weight_told rows i s e))

rows_from : (rows : List SampleRow) (stacks times weights : Cells) → stacks ≡ column_with (map stack_told rows) → times ≡ column_with (map time_told rows) → weights ≡ column_with (map weight_told rows) →
    rows_of (row_of stacks times weights) (length stacks.cells) ≡ rows
rows_from rows stacks times weights a b c =
    let first = column_with (map stack_told rows) in
    let second = column_with (map time_told rows) in
    let third = column_with (map weight_told rows) in
    ap (λ (x : Cells). rows_of (row_of x times weights) (length x.cells)) a
    ∙ (ap (λ (x : Cells). rows_of (row_of first x weights) (length (map stack_told rows))) b
    ∙ (ap (λ (x : Cells). rows_of (row_of first second x) (length (map stack_told rows))) c
    ∙ (ap (λ (n : ℕ). rows_of (row_of first second third) n) (length_map stack_told rows) ∙ rows_of_same (row_of first second third) rows (sample_back rows))))

pub sample_within : (t : ThreadTables) → AreOwn t → (i : ℕ) (s : SampleRow) → slice_get t.samples i ≡ Some s → IsSample (length t.shared.stacks) s
sample_within t own i s e = all_at (IsSample (length t.shared.stacks)) t.samples i s own.samples e

pub stacks_back : (t : ThreadTables) → AreTied t.shared → AreOwn t →
    column_of (read_cell reading.MaybeIndex) true (Some (column (λ (s : SampleRow). maybe_index s.stack) t.samples)) ≡ column_with (map stack_told t.samples)
stacks_back t tied own =
    let few : length t.shared.stacks ≤ 4194304 = tied.few_stacks in
    cells_back (read_cell reading.MaybeIndex) true (λ (s : SampleRow). maybe_index s.stack) stack_told t.samples
    (λ i s e. maybe_index_back s.stack (small (length t.shared.stacks) (omega arith) s.stack (sample_within t own i s e).stack))

pub moments_back : (t : ThreadTables) → AreOwn t → column_of (read_cell reading.Time) false (Some (column (λ (s : SampleRow). time s.time) t.samples)) ≡ column_with (map time_told t.samples)
moments_back t own = cells_back (read_cell reading.Time) false (λ (s : SampleRow). time s.time) time_told t.samples (λ i s e. time_back s.time (sample_within t own i s e).time)

pub weights_back : (t : ThreadTables) → AreOwn t →
    column_of (read_cell (weight_reading (weight_unit (Some (string (weight_type t.unit)))))) false (Some (column (λ (s : SampleRow). weight t.unit s.weight) t.samples)) ≡ column_with (map weight_told t.samples)
weights_back t own =
    let size : SampleRow → Value = λ s. weight t.unit s.weight in
    ap (λ (u : Option WeightUnit). column_of (read_cell (weight_reading u)) false (Some (column size t.samples))) (unit_back t.unit)
    ∙ cells_back (read_cell (weight_reading (Some t.unit))) false size weight_told t.samples (λ i s e. weight_back t.unit s.weight (sample_within t own i s e).weight)

pub samples_back : (t : ThreadTables) → AreTied t.shared → AreOwn t → samples_of (raw_own (thread_value t)) ≡ t.samples
unfolding samples_of raw_own
samples_back t tied own =
    rows_from t.samples
    (column_of (read_cell reading.MaybeIndex) true (Some (column (λ (s : SampleRow). maybe_index s.stack) t.samples)))
    (column_of (read_cell reading.Time) false (Some (column (λ (s : SampleRow). time s.time) t.samples)))
    (column_of (read_cell (weight_reading (weight_unit (Some (string (weight_type t.unit)))))) false (Some (column (λ (s : SampleRow). weight t.unit s.weight) t.samples)))
    (stacks_back t tied own) (moments_back t own) (weights_back t own)

pub unit_of_back : (t : ThreadTables) → unit_of (raw_own (thread_value t)).unit ≡ t.unit
unfolding raw_own
unit_of_back t = ap unit_of (unit_back t.unit)

pub name_back : (t : ThreadTables) → (raw_own (thread_value t)).name ≡ t.name
unfolding raw_own
name_back t = refl
