-- The samples and the markers of a written thread break no rule.
use Rattle.std.proofs.Common.{◌≡◌, ◌∙◌, ◌⊎◌, ℕ, ◌<◌, List, [], ◌∷◌, Option, None, Some, length, refl, sym, ap, subst, arith, true, false, inl, inr}
use Rattle.std.specs.Prelude.{ℤ, IfSome, IsSome, map, nat_eq, slice_get}
use Rattle.std.specs.Option.{option_or}
use Rattle.std.proofs.lemmas.Bool.{cases_Bool}
use Rattle.std.proofs.lemmas.Bool.Decides.{nat_tests}
use Rattle.prof_raw.specs.declared.column.CellKind.TheVariants as kind
use Rattle.prof_raw.specs.declared.column.Size.TheVariants.{AtMost, Same}
use Rattle.prof_raw.specs.declared.limits.TheConstants.{MOST_ROWS, MOST_SAMPLES}
use Rattle.prof_raw.specs.declared.moment.Moment.{Moment}
use Rattle.prof_raw.specs.declared.moment.Moment.TheVariants.{Start, End}
use Rattle.prof_raw.specs.declared.raw.State.TheVariants.{Array}
use Rattle.prof_raw.specs.declared.rule.Rule.{Rule}
use Rattle.prof_raw.specs.declared.rule.Table.TheVariants as table
use Rattle.prof_raw.specs.declared.rule.Column.TheVariants as column
use Rattle.prof_raw.specs.Cells.{cell_at}
use Rattle.prof_raw.specs.CellValues.{index_of}
use Rattle.prof_raw.specs.Checks.{first_column, markers_broken, markers_checks, named, needed_column, optional_column, own_broken, samples_broken, samples_checks}
use Rattle.prof_raw.specs.Moments.{moment_fault, moment_rule, null_rule, time_fault, time_name, time_rule}
use Rattle.prof_raw.specs.Rules.{cell_rule}
use Rattle.prof_tables.specs.declared.markers.RawMarker.{RawMarker}
use Rattle.prof_tables.specs.Threads.{ThreadTables}
use Rattle.prof_tables.specs.Ties.{InRange, AreOwn}
use Rattle.prof_back.specs.Gathered.{column_with}
use Rattle.prof_back.proofs.Columns.{length_map}
use Rattle.prof_back.proofs.OwnTold.{data_told, end_told, marker_name_told, marker_within, own_told, phase_told, start_told}
use Rattle.prof_back.proofs.Passing.{as_many, as_others, cells_pass, checks_pass, column_passes, index_passes, maybe_index_passes, maybe_range_passes, none_or, phase_passes, range_passes, rows_pass, within_most}
use Rattle.prof_back.proofs.Samples.{cells_at, sample_within, stack_told, time_told, weight_told}

-- ---- samples

sample_stacks : (thread : Option ℕ) (t : ThreadTables) (stacks : ℕ) → stacks ≡ length t.shared.stacks → AreOwn t →
    first_column thread table.Samples column.Stack MOST_SAMPLES (kind.MaybeIndex stacks) (column_with (map stack_told t.samples)) ≡ None
sample_stacks thread t stacks same own =
    let P : ℕ → Type 0 = λ n. first_column thread table.Samples column.Stack MOST_SAMPLES (kind.MaybeIndex n) (column_with (map stack_told t.samples)) ≡ None in
    subst P (sym same) (ap (named thread table.Samples column.Stack) (column_passes true (AtMost MOST_SAMPLES) (kind.MaybeIndex (length t.shared.stacks)) stack_told t.samples
    (within_most (length t.samples) MOST_SAMPLES own.few_samples)
    (λ i s e. maybe_index_passes (length t.shared.stacks) i s.stack (sample_within t own i s e).stack)))

sample_times : (t : ThreadTables) → AreOwn t → time_fault false (length (map stack_told t.samples)) (column_with (map time_told t.samples)) ≡ None
sample_times t own =
    let rows = length (map stack_told t.samples) in
    rows_pass (Same rows) (time_rule false None (map time_told t.samples)) (length (map time_told t.samples))
    (as_many (length (map time_told t.samples)) rows (length_map time_told t.samples ∙ sym (length_map stack_told t.samples)))
    (cells_pass (λ i o. cell_rule kind.Number i o ≡ None) time_told t.samples (λ i s e. range_passes s.time (sample_within t own i s e).time))

sample_weights : (thread : Option ℕ) (t : ThreadTables) → AreOwn t →
    optional_column thread table.Samples column.Weight (length (map stack_told t.samples)) kind.Number (column_with (map weight_told t.samples)) ≡ None
sample_weights thread t own =
    ap (named thread table.Samples column.Weight) (column_passes false (Same (length (map stack_told t.samples))) kind.Number weight_told t.samples (as_others t.samples stack_told)
    (λ i s e. range_passes s.weight (sample_within t own i s e).weight))

samples_whole : (thread : Option ℕ) (t : ThreadTables) (stacks : ℕ) → stacks ≡ length t.shared.stacks → AreOwn t → samples_broken thread stacks (own_told t) ≡ None
unfolding samples_broken
samples_whole thread t stacks same own =
    checks_pass (samples_checks thread stacks (own_told t))
    (sample_stacks thread t stacks same own, (ap (named thread table.Samples (time_name Array false)) (sample_times t own), (refl, (sample_weights thread t own, (refl, tt)))))

-- ---- markers

marker_phases : (thread : Option ℕ) (t : ThreadTables) → AreOwn t → first_column thread table.Markers column.Phase MOST_ROWS kind.Phase (column_with (map phase_told t.markers.rows)) ≡ None
marker_phases thread t own =
    ap (named thread table.Markers column.Phase) (column_passes true (AtMost MOST_ROWS) kind.Phase phase_told t.markers.rows
    (within_most (length t.markers.rows) MOST_ROWS own.few_markers)
    (λ i m e. phase_passes m.phase (marker_within t own i m e).phase))

marker_names : (thread : Option ℕ) (t : ThreadTables) → AreOwn t →
    needed_column thread table.Markers column.Name (length (map phase_told t.markers.rows)) (kind.Index (length t.shared.strings)) (column_with (map marker_name_told t.markers.rows)) ≡ None
marker_names thread t own =
    ap (named thread table.Markers column.Name) (column_passes true (Same (length (map phase_told t.markers.rows))) (kind.Index (length t.shared.strings)) marker_name_told t.markers.rows
    (as_others t.markers.rows phase_told)
    (λ i m e. index_passes (length t.shared.strings) m.name (marker_within t own i m e).name))

-- a null stands only where the phase allows it
start_passes : (phase : ℕ) (o : Option ℤ) → (phase < 3 → IsSome o) → phase < 4 → null_rule Start phase o ≡ None
start_passes phase (Some z) h small = refl
start_passes phase None h small = elim (cases_Bool (nat_eq phase 3)) [
  | inl e ↦ rw e refl
  | inr e ↦ (let less : phase < 3 = grind (arith, nat_tests) in (let some : IsSome {T = ℤ} None = h less in absurd (cc)))
]

end_passes : (phase : ℕ) (o : Option ℤ) → ((phase ≡ 1) ⊎ (phase ≡ 3) → IsSome o) → null_rule End phase o ≡ None
end_passes phase (Some z) h = refl
end_passes phase None h = elim (cases_Bool (nat_eq phase 1)) [
  | inl e ↦ (let is : phase ≡ 1 = grind (arith, nat_tests) in (let some : IsSome {T = ℤ} None = h (inl is) in absurd (cc)))
  | inr e ↦ elim (cases_Bool (nat_eq phase 3)) [
    | inl f ↦ (let is : phase ≡ 3 = grind (arith, nat_tests) in (let some : IsSome {T = ℤ} None = h (inr is) in absurd (cc)))
    | inr f ↦ rw (e, f) refl
  ]
]

-- the starts, and the ends
moments_pass : (moment : Moment) (t : ThreadTables) (told : RawMarker → Option ℤ) →
    ((i : ℕ) (m : RawMarker) → slice_get t.markers.rows i ≡ Some m → IfSome (told m) InRange) →
    ((i : ℕ) (m : RawMarker) → slice_get t.markers.rows i ≡ Some m → null_rule moment m.phase (told m) ≡ None) →
    moment_fault moment (length (map phase_told t.markers.rows)) (column_with (map phase_told t.markers.rows)) (column_with (map told t.markers.rows)) ≡ None
moments_pass moment t told ranges nulls =
    let rows : List RawMarker = t.markers.rows in
    let phases = column_with (map phase_told rows) in
    let breaks : ℕ → Option ℤ → Option Rule = λ i o. option_or (cell_rule kind.MaybeNumber i o) (null_rule moment (index_of (cell_at (map phase_told rows) i)) o) in
    rows_pass (Same (length (map phase_told rows))) (moment_rule moment phases None (map told rows)) (length (map told rows))
    (as_many (length (map told rows)) (length (map phase_told rows)) (length_map told rows ∙ sym (length_map phase_told rows)))
    (cells_pass (λ i o. breaks i o ≡ None) told rows
    (λ i m e. none_or (cell_rule kind.MaybeNumber i (told m)) (null_rule moment (index_of (cell_at (map phase_told rows) i)) (told m))
    (maybe_range_passes i (told m) (ranges i m e))
    (ap (λ (o : Option ℤ). null_rule moment (index_of o) (told m)) (cells_at phase_told rows i m e) ∙ nulls i m e)))

starts_pass : (t : ThreadTables) → AreOwn t → moment_fault Start (length (map phase_told t.markers.rows)) (column_with (map phase_told t.markers.rows)) (column_with (map start_told t.markers.rows)) ≡ None
starts_pass t own =
    moments_pass Start t start_told (λ i m e. (marker_within t own i m e).start)
    (λ i m e. let is = marker_within t own i m e in start_passes m.phase m.start is.has_start is.phase)

ends_pass : (t : ThreadTables) → AreOwn t → moment_fault End (length (map phase_told t.markers.rows)) (column_with (map phase_told t.markers.rows)) (column_with (map end_told t.markers.rows)) ≡ None
ends_pass t own =
    moments_pass End t end_told (λ i m e. (marker_within t own i m e).end)
    (λ i m e. let is = marker_within t own i m e in end_passes m.phase m.end is.has_end)

marker_data : (thread : Option ℕ) (t : ThreadTables) →
    optional_column thread table.Markers column.Data (length (map phase_told t.markers.rows)) kind.Any (column_with (map data_told t.markers.rows)) ≡ None
marker_data thread t =
    ap (named thread table.Markers column.Data) (column_passes false (Same (length (map phase_told t.markers.rows))) kind.Any data_told t.markers.rows (as_others t.markers.rows phase_told) (λ i m e. refl))

markers_whole : (thread : Option ℕ) (t : ThreadTables) → AreOwn t → markers_broken thread (length t.shared.strings) (own_told t) ≡ None
unfolding markers_broken
markers_whole thread t own =
    checks_pass (markers_checks thread (length t.shared.strings) (own_told t)) (
      marker_phases thread t own,
      (
        marker_names thread t own,
        (ap (named thread table.Markers column.StartTime) (starts_pass t own), (ap (named thread table.Markers column.EndTime) (ends_pass t own), (marker_data thread t, (refl, tt)))),
      ),
    )

-- ---- both

pub own_whole : (thread : Option ℕ) (t : ThreadTables) (stacks : ℕ) → stacks ≡ length t.shared.stacks → AreOwn t → own_broken thread (length t.shared.strings) stacks (own_told t) ≡ None
unfolding own_broken
own_whole thread t stacks same own =
    checks_pass (samples_broken thread stacks (own_told t) ∷ (markers_broken thread (length t.shared.strings) (own_told t) ∷ []))
    (samples_whole thread t stacks same own, (markers_whole thread t own, tt))
