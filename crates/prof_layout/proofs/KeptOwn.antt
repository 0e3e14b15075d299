-- What is kept of a thread's own tables breaks what all of them break.
use Rattle.std.proofs.Common.{◌≡◌, ℕ, suc, ◌≤◌, Option, None, List, [], ◌∷◌, length, take, Bool, true, false, refl, sym, ◌∙◌, ap, arith, inl, inr}
use Rattle.std.specs.Prelude.{nat_le, nat_eq, if◌then◌else◌}
use Rattle.std.proofs.lemmas.Bool.{cases_lt, cases_Bool}
use Rattle.std.proofs.lemmas.List.{take_all}
use Rattle.prof_raw.specs.declared.raw.State.TheVariants.{Array}
use Rattle.prof_raw.specs.declared.rule.Broken.{Broken}
use Rattle.prof_raw.specs.Cells.{Cells, OwnCells}
use Rattle.prof_raw.specs.Checks.{first_of, samples_checks, samples_broken, markers_checks, markers_broken, own_broken}
use Rattle.prof_tables.specs.declared.rows.SampleRow.{SampleRow}
use Rattle.prof_tables.specs.Threads.{SharedTables, ThreadTables, MarkerRows}
use Rattle.prof_tables.specs.Rows.{thread_of, samples_of, markers_of, marker_rows_of, unit_of}
use Rattle.prof_grammar.specs.Value.{Value}
use Rattle.prof_layout.specs.Markers.{all_texts, ranges_from}
use Rattle.prof_layout.specs.Columns.{capped, IsGathered}
use Rattle.prof_layout.specs.Kept.{kept_samples, kept_markers, kept_texts, AreOwnGathered}
use Rattle.prof_layout.proofs.Capped.{capped_same, capped_over}
use Rattle.prof_layout.proofs.Kept.{or_same, all_pass, some_none, not_within, not_same, is_array, capped_is}
use Rattle.prof_raw.specs.declared.limits.TheConstants.{MOST_ROWS, MOST_SAMPLES}

samples-sample_time : (thread : Option ℕ) (stacks : ℕ) (raw : OwnCells) → IsGathered raw.sample_time → length raw.sample_stack.cells ≤ MOST_SAMPLES → samples_broken thread stacks (record raw { sample_time = capped MOST_SAMPLES raw.sample_time }) ≡ samples_broken thread stacks raw
unfolding samples_broken
samples-sample_time thread stacks raw h few = elim (cases_lt MOST_SAMPLES (length raw.sample_time.cells)) [
  | inl over ↦
      let kept : nat_eq (length (take (suc MOST_SAMPLES) raw.sample_time.cells)) (length raw.sample_stack.cells) ≡ false = let more = capped_over MOST_SAMPLES raw.sample_time over in not_same (length (take (suc MOST_SAMPLES) raw.sample_time.cells)) (length raw.sample_stack.cells) (omega arith) in
      let all : nat_eq (length raw.sample_time.cells) (length raw.sample_stack.cells) ≡ false = not_same (length raw.sample_time.cells) (length raw.sample_stack.cells) (omega arith) in
      rw (kept, all) refl
  | inr within ↦ ap (λ (c : Cells). samples_broken thread stacks (record raw { sample_time = c })) (capped_same MOST_SAMPLES raw.sample_time h (omega arith))
]

samples-sample_weight : (thread : Option ℕ) (stacks : ℕ) (raw : OwnCells) → IsGathered raw.sample_weight → length raw.sample_stack.cells ≤ MOST_SAMPLES → samples_broken thread stacks (record raw { sample_weight = capped MOST_SAMPLES raw.sample_weight }) ≡ samples_broken thread stacks raw
unfolding samples_broken
samples-sample_weight thread stacks raw h few = elim (cases_lt MOST_SAMPLES (length raw.sample_weight.cells)) [
  | inl over ↦
      let kept : nat_eq (length (take (suc MOST_SAMPLES) raw.sample_weight.cells)) (length raw.sample_stack.cells) ≡ false = let more = capped_over MOST_SAMPLES raw.sample_weight over in not_same (length (take (suc MOST_SAMPLES) raw.sample_weight.cells)) (length raw.sample_stack.cells) (omega arith) in
      let all : nat_eq (length raw.sample_weight.cells) (length raw.sample_stack.cells) ≡ false = not_same (length raw.sample_weight.cells) (length raw.sample_stack.cells) (omega arith) in
      rw (kept, all) refl
  | inr within ↦ ap (λ (c : Cells). samples_broken thread stacks (record raw { sample_weight = c })) (capped_same MOST_SAMPLES raw.sample_weight h (omega arith))
]

pub samples_kept : (thread : Option ℕ) (stacks : ℕ) (raw : OwnCells) → AreOwnGathered raw → samples_broken thread stacks (kept_samples raw) ≡ samples_broken thread stacks raw
unfolding samples_broken kept_samples
samples_kept thread stacks raw h = elim (cases_lt MOST_SAMPLES (length raw.sample_stack.cells)) [
  | inl over ↦
      let array : raw.sample_stack.state ≡ Array = is_array raw.sample_stack h.sample_stack (omega arith) in
      let kept : nat_le (length (take (suc MOST_SAMPLES) raw.sample_stack.cells)) MOST_SAMPLES ≡ false = not_within (length (take (suc MOST_SAMPLES) raw.sample_stack.cells)) MOST_SAMPLES (capped_over MOST_SAMPLES raw.sample_stack over) in
      let all : nat_le (length raw.sample_stack.cells) MOST_SAMPLES ≡ false = not_within (length raw.sample_stack.cells) MOST_SAMPLES over in
      rw (array, kept, all) refl
  | inr few ↦
      ap (λ (c : Cells). samples_broken thread stacks (record raw { sample_stack = c; sample_time = capped MOST_SAMPLES raw.sample_time; sample_weight = capped MOST_SAMPLES raw.sample_weight })) (capped_same MOST_SAMPLES raw.sample_stack h.sample_stack (omega arith))
      ∙ samples-sample_time thread stacks (record raw { sample_weight = capped MOST_SAMPLES raw.sample_weight }) h.sample_time few
      ∙ samples-sample_weight thread stacks raw h.sample_weight few
]

-- where nothing breaks, these have at most the most rows
samples_few : (thread : Option ℕ) (stacks : ℕ) (raw : OwnCells) → AreOwnGathered raw → first_of (samples_checks thread stacks raw) ≡ None → (length raw.sample_stack.cells ≤ MOST_SAMPLES) × (length raw.sample_time.cells ≤ MOST_SAMPLES) × (length raw.sample_weight.cells ≤ MOST_SAMPLES)
samples_few thread stacks raw h none =
    let all = all_pass (samples_checks thread stacks raw) none in
    let few : length raw.sample_stack.cells ≤ MOST_SAMPLES = elim (cases_lt MOST_SAMPLES (length raw.sample_stack.cells)) [
      | inl over ↦
          let array : raw.sample_stack.state ≡ Array = is_array raw.sample_stack h.sample_stack (omega arith) in
          let test : nat_le (length raw.sample_stack.cells) MOST_SAMPLES ≡ false = not_within (length raw.sample_stack.cells) MOST_SAMPLES over in
          absurd (some_none _ (rw (array, test) at all.0))
      | inr within ↦ within
    ] in
    let few-sample_time : length raw.sample_time.cells ≤ MOST_SAMPLES = elim (cases_lt MOST_SAMPLES (length raw.sample_time.cells)) [
      | inl over ↦
          let array : raw.sample_time.state ≡ Array = is_array raw.sample_time h.sample_time (omega arith) in
          let test : nat_eq (length raw.sample_time.cells) (length raw.sample_stack.cells) ≡ false = not_same (length raw.sample_time.cells) (length raw.sample_stack.cells) (omega arith) in
          absurd (some_none _ (rw (array, test) at all.1.0))
      | inr within ↦ within
    ] in
    let few-sample_weight : length raw.sample_weight.cells ≤ MOST_SAMPLES = elim (cases_lt MOST_SAMPLES (length raw.sample_weight.cells)) [
      | inl over ↦
          let array : raw.sample_weight.state ≡ Array = is_array raw.sample_weight h.sample_weight (omega arith) in
          let test : nat_eq (length raw.sample_weight.cells) (length raw.sample_stack.cells) ≡ false = not_same (length raw.sample_weight.cells) (length raw.sample_stack.cells) (omega arith) in
          absurd (some_none _ (rw (array, test) at all.1.1.1.0))
      | inr within ↦ within
    ] in
    (few, few-sample_time, few-sample_weight)

pub samples_whole : (thread : Option ℕ) (stacks : ℕ) (raw : OwnCells) → AreOwnGathered raw → samples_broken thread stacks raw ≡ None → kept_samples raw ≡ raw
unfolding samples_broken kept_samples
samples_whole thread stacks raw h none =
    let few = samples_few thread stacks raw h none in
    (let le : length raw.sample_stack.cells ≤ MOST_SAMPLES = few.0 in ap (λ (c : Cells). let r : OwnCells = record raw { sample_stack = c; sample_time = capped MOST_SAMPLES raw.sample_time; sample_weight = capped MOST_SAMPLES raw.sample_weight } in r) (capped_same MOST_SAMPLES raw.sample_stack h.sample_stack (omega arith)))
    ∙ (let le : length raw.sample_time.cells ≤ MOST_SAMPLES = few.1 in ap (λ (c : Cells). let r : OwnCells = record raw { sample_time = c; sample_weight = capped MOST_SAMPLES raw.sample_weight } in r) (capped_same MOST_SAMPLES raw.sample_time h.sample_time (omega arith)))
    ∙ (let le : length raw.sample_weight.cells ≤ MOST_SAMPLES = few.2 in ap (λ (c : Cells). let r : OwnCells = record raw { sample_weight = c } in r) (capped_same MOST_SAMPLES raw.sample_weight h.sample_weight (omega arith)))

markers-marker_name : (thread : Option ℕ) (strings : ℕ) (raw : OwnCells) → IsGathered raw.marker_name → length raw.marker_phase.cells ≤ MOST_ROWS → markers_broken thread strings (record raw { marker_name = capped MOST_ROWS raw.marker_name }) ≡ markers_broken thread strings raw
unfolding markers_broken
markers-marker_name thread strings raw h few = elim (cases_lt MOST_ROWS (length raw.marker_name.cells)) [
  | inl over ↦
      let kept : nat_eq (length (take (suc MOST_ROWS) raw.marker_name.cells)) (length raw.marker_phase.cells) ≡ false = let more = capped_over MOST_ROWS raw.marker_name over in not_same (length (take (suc MOST_ROWS) raw.marker_name.cells)) (length raw.marker_phase.cells) (omega arith) in
      let all : nat_eq (length raw.marker_name.cells) (length raw.marker_phase.cells) ≡ false = not_same (length raw.marker_name.cells) (length raw.marker_phase.cells) (omega arith) in
      rw (kept, all) refl
  | inr within ↦ ap (λ (c : Cells). markers_broken thread strings (record raw { marker_name = c })) (capped_same MOST_ROWS raw.marker_name h (omega arith))
]

markers-marker_start : (thread : Option ℕ) (strings : ℕ) (raw : OwnCells) → IsGathered raw.marker_start → length raw.marker_phase.cells ≤ MOST_ROWS → markers_broken thread strings (record raw { marker_start = capped MOST_ROWS raw.marker_start }) ≡ markers_broken thread strings raw
unfolding markers_broken
markers-marker_start thread strings raw h few = elim (cases_lt MOST_ROWS (length raw.marker_start.cells)) [
  | inl over ↦
      let kept : nat_eq (length (take (suc MOST_ROWS) raw.marker_start.cells)) (length raw.marker_phase.cells) ≡ false = let more = capped_over MOST_ROWS raw.marker_start over in not_same (length (take (suc MOST_ROWS) raw.marker_start.cells)) (length raw.marker_phase.cells) (omega arith) in
      let all : nat_eq (length raw.marker_start.cells) (length raw.marker_phase.cells) ≡ false = not_same (length raw.marker_start.cells) (length raw.marker_phase.cells) (omega arith) in
      rw (kept, all) refl
  | inr within ↦ ap (λ (c : Cells). markers_broken thread strings (record raw { marker_start = c })) (capped_same MOST_ROWS raw.marker_start h (omega arith))
]

markers-marker_end : (thread : Option ℕ) (strings : ℕ) (raw : OwnCells) → IsGathered raw.marker_end → length raw.marker_phase.cells ≤ MOST_ROWS → markers_broken thread strings (record raw { marker_end = capped MOST_ROWS raw.marker_end }) ≡ markers_broken thread strings raw
unfolding markers_broken
markers-marker_end thread strings raw h few = elim (cases_lt MOST_ROWS (length raw.marker_end.cells)) [
  | inl over ↦
      let kept : nat_eq (length (take (suc MOST_ROWS) raw.marker_end.cells)) (length raw.marker_phase.cells) ≡ false = let more = capped_over MOST_ROWS raw.marker_end over in not_same (length (take (suc MOST_ROWS) raw.marker_end.cells)) (length raw.marker_phase.cells) (omega arith) in
      let all : nat_eq (length raw.marker_end.cells) (length raw.marker_phase.cells) ≡ false = not_same (length raw.marker_end.cells) (length raw.marker_phase.cells) (omega arith) in
      rw (kept, all) refl
  | inr within ↦ ap (λ (c : Cells). markers_broken thread strings (record raw { marker_end = c })) (capped_same MOST_ROWS raw.marker_end h (omega arith))
]

markers-marker_data : (thread : Option ℕ) (strings : ℕ) (raw : OwnCells) → IsGathered raw.marker_data → length raw.marker_phase.cells ≤ MOST_ROWS → markers_broken thread strings (record raw { marker_data = capped MOST_ROWS raw.marker_data }) ≡ markers_broken thread strings raw
unfolding markers_broken
markers-marker_data thread strings raw h few = elim (cases_lt MOST_ROWS (length raw.marker_data.cells)) [
  | inl over ↦
      let kept : nat_eq (length (take (suc MOST_ROWS) raw.marker_data.cells)) (length raw.marker_phase.cells) ≡ false = let more = capped_over MOST_ROWS raw.marker_data over in not_same (length (take (suc MOST_ROWS) raw.marker_data.cells)) (length raw.marker_phase.cells) (omega arith) in
      let all : nat_eq (length raw.marker_data.cells) (length raw.marker_phase.cells) ≡ false = not_same (length raw.marker_data.cells) (length raw.marker_phase.cells) (omega arith) in
      rw (kept, all) refl
  | inr within ↦ ap (λ (c : Cells). markers_broken thread strings (record raw { marker_data = c })) (capped_same MOST_ROWS raw.marker_data h (omega arith))
]

pub markers_kept : (thread : Option ℕ) (strings : ℕ) (raw : OwnCells) → AreOwnGathered raw → markers_broken thread strings (kept_markers raw) ≡ markers_broken thread strings raw
unfolding markers_broken kept_markers
markers_kept thread strings raw h = elim (cases_lt MOST_ROWS (length raw.marker_phase.cells)) [
  | inl over ↦
      let array : raw.marker_phase.state ≡ Array = is_array raw.marker_phase h.marker_phase (omega arith) in
      let kept : nat_le (length (take (suc MOST_ROWS) raw.marker_phase.cells)) MOST_ROWS ≡ false = not_within (length (take (suc MOST_ROWS) raw.marker_phase.cells)) MOST_ROWS (capped_over MOST_ROWS raw.marker_phase over) in
      let all : nat_le (length raw.marker_phase.cells) MOST_ROWS ≡ false = not_within (length raw.marker_phase.cells) MOST_ROWS over in
      rw (array, kept, all) refl
  | inr few ↦
      ap (λ (c : Cells). markers_broken thread strings (record raw { marker_phase = c; marker_name = capped MOST_ROWS raw.marker_name; marker_start = capped MOST_ROWS raw.marker_start; marker_end = capped MOST_ROWS raw.marker_end; marker_data = capped MOST_ROWS raw.marker_data })) (capped_same MOST_ROWS raw.marker_phase h.marker_phase (omega arith))
      ∙ markers-marker_name thread strings (record raw { marker_start = capped MOST_ROWS raw.marker_start; marker_end = capped MOST_ROWS raw.marker_end; marker_data = capped MOST_ROWS raw.marker_data }) h.marker_name few
      ∙ markers-marker_start thread strings (record raw { marker_end = capped MOST_ROWS raw.marker_end; marker_data = capped MOST_ROWS raw.marker_data }) h.marker_start few
      ∙ markers-marker_end thread strings (record raw { marker_data = capped MOST_ROWS raw.marker_data }) h.marker_end few
      ∙ markers-marker_data thread strings raw h.marker_data few
]

-- where nothing breaks, these have at most the most rows
markers_few : (thread : Option ℕ) (strings : ℕ) (raw : OwnCells) → AreOwnGathered raw → first_of (markers_checks thread strings raw) ≡ None → (length raw.marker_phase.cells ≤ MOST_ROWS) × (length raw.marker_name.cells ≤ MOST_ROWS) × (length raw.marker_start.cells ≤ MOST_ROWS) × (length raw.marker_end.cells ≤ MOST_ROWS) × (length raw.marker_data.cells ≤ MOST_ROWS)
markers_few thread strings raw h none =
    let all = all_pass (markers_checks thread strings raw) none in
    let few : length raw.marker_phase.cells ≤ MOST_ROWS = elim (cases_lt MOST_ROWS (length raw.marker_phase.cells)) [
      | inl over ↦
          let array : raw.marker_phase.state ≡ Array = is_array raw.marker_phase h.marker_phase (omega arith) in
          let test : nat_le (length raw.marker_phase.cells) MOST_ROWS ≡ false = not_within (length raw.marker_phase.cells) MOST_ROWS over in
          absurd (some_none _ (rw (array, test) at all.0))
      | inr within ↦ within
    ] in
    let few-marker_name : length raw.marker_name.cells ≤ MOST_ROWS = elim (cases_lt MOST_ROWS (length raw.marker_name.cells)) [
      | inl over ↦
          let array : raw.marker_name.state ≡ Array = is_array raw.marker_name h.marker_name (omega arith) in
          let test : nat_eq (length raw.marker_name.cells) (length raw.marker_phase.cells) ≡ false = not_same (length raw.marker_name.cells) (length raw.marker_phase.cells) (omega arith) in
          absurd (some_none _ (rw (array, test) at all.1.0))
      | inr within ↦ within
    ] in
    let few-marker_start : length raw.marker_start.cells ≤ MOST_ROWS = elim (cases_lt MOST_ROWS (length raw.marker_start.cells)) [
      | inl over ↦
          let array : raw.marker_start.state ≡ Array = is_array raw.marker_start h.marker_start (omega arith) in
          let test : nat_eq (length raw.marker_start.cells) (length raw.marker_phase.cells) ≡ false = not_same (length raw.marker_start.cells) (length raw.marker_phase.cells) (omega arith) in
          absurd (some_none _ (rw (array, test) at all.1.1.0))
      | inr within ↦ within
    ] in
    let few-marker_end : length raw.marker_end.cells ≤ MOST_ROWS = elim (cases_lt MOST_ROWS (length raw.marker_end.cells)) [
      | inl over ↦
          let array : raw.marker_end.state ≡ Array = is_array raw.marker_end h.marker_end (omega arith) in
          let test : nat_eq (length raw.marker_end.cells) (length raw.marker_phase.cells) ≡ false = not_same (length raw.marker_end.cells) (length raw.marker_phase.cells) (omega arith) in
          absurd (some_none _ (rw (array, test) at all.1.1.1.0))
      | inr within ↦ within
    ] in
    let few-marker_data : length raw.marker_data.cells ≤ MOST_ROWS = elim (cases_lt MOST_ROWS (length raw.marker_data.cells)) [
      | inl over ↦
          let array : raw.marker_data.state ≡ Array = is_array raw.marker_data h.marker_data (omega arith) in
          let test : nat_eq (length raw.marker_data.cells) (length raw.marker_phase.cells) ≡ false = not_same (length raw.marker_data.cells) (length raw.marker_phase.cells) (omega arith) in
          absurd (some_none _ (rw (array, test) at all.1.1.1.1.0))
      | inr within ↦ within
    ] in
    (few, few-marker_name, few-marker_start, few-marker_end, few-marker_data)

passed : (there : Bool) (check : Option Broken) → there ≡ true → (if there then check else None) ≡ None → check ≡ None
passed true check e none = none
passed false check e none = cc

-- where there are markers and they break nothing, they are kept whole
pub markers_whole : (thread : Option ℕ) (strings : ℕ) (raw : OwnCells) → AreOwnGathered raw → raw.has_markers ≡ true → markers_broken thread strings raw ≡ None →
    (length raw.marker_data.cells ≤ MOST_ROWS) × (kept_markers raw ≡ raw)
unfolding markers_broken kept_markers
markers_whole thread strings raw h there none =
    let few = markers_few thread strings raw h (passed raw.has_markers (first_of (markers_checks thread strings raw)) there none) in (
      few.4,
      (let le : length raw.marker_phase.cells ≤ MOST_ROWS = few.0 in ap (λ (c : Cells). let r : OwnCells = record raw { marker_phase = c; marker_name = capped MOST_ROWS raw.marker_name; marker_start = capped MOST_ROWS raw.marker_start; marker_end = capped MOST_ROWS raw.marker_end; marker_data = capped MOST_ROWS raw.marker_data } in r) (capped_same MOST_ROWS raw.marker_phase h.marker_phase (omega arith)))
          ∙ (let le : length raw.marker_name.cells ≤ MOST_ROWS = few.1 in ap (λ (c : Cells). let r : OwnCells = record raw { marker_name = c; marker_start = capped MOST_ROWS raw.marker_start; marker_end = capped MOST_ROWS raw.marker_end; marker_data = capped MOST_ROWS raw.marker_data } in r) (capped_same MOST_ROWS raw.marker_name h.marker_name (omega arith)))
          ∙ (let le : length raw.marker_start.cells ≤ MOST_ROWS = few.2 in ap (λ (c : Cells). let r : OwnCells = record raw { marker_start = c; marker_end = capped MOST_ROWS raw.marker_end; marker_data = capped MOST_ROWS raw.marker_data } in r) (capped_same MOST_ROWS raw.marker_start h.marker_start (omega arith)))
          ∙ (let le : length raw.marker_end.cells ≤ MOST_ROWS = few.3 in ap (λ (c : Cells). let r : OwnCells = record raw { marker_end = c; marker_data = capped MOST_ROWS raw.marker_data } in r) (capped_same MOST_ROWS raw.marker_end h.marker_end (omega arith)))
          ∙ (let le : length raw.marker_data.cells ≤ MOST_ROWS = few.4 in ap (λ (c : Cells). let r : OwnCells = record raw { marker_data = c } in r) (capped_same MOST_ROWS raw.marker_data h.marker_data (omega arith))),
    )

gathered-samples : (raw : OwnCells) → AreOwnGathered raw → AreOwnGathered (kept_samples raw)
unfolding kept_samples
gathered-samples raw h = record {
  sample_stack = capped_is MOST_SAMPLES raw.sample_stack h.sample_stack;
  sample_time = capped_is MOST_SAMPLES raw.sample_time h.sample_time;
  sample_weight = capped_is MOST_SAMPLES raw.sample_weight h.sample_weight;
  marker_phase = h.marker_phase;
  marker_name = h.marker_name;
  marker_start = h.marker_start;
  marker_end = h.marker_end;
  marker_data = h.marker_data;
}

skip-markers-samples : (thread : Option ℕ) (strings : ℕ) (raw : OwnCells) → markers_broken thread strings (kept_samples raw) ≡ markers_broken thread strings raw
unfolding markers_broken kept_samples
skip-markers-samples thread strings raw = refl

skip-samples-markers : (thread : Option ℕ) (stacks : ℕ) (raw : OwnCells) → samples_broken thread stacks (kept_markers raw) ≡ samples_broken thread stacks raw
unfolding samples_broken kept_markers
skip-samples-markers thread stacks raw = refl

-- no check looks at the texts
skip-texts : (thread : Option ℕ) (strings stacks : ℕ) (rows : List Value) (raw : OwnCells) → own_broken thread strings stacks (kept_texts rows raw) ≡ own_broken thread strings stacks raw
unfolding own_broken samples_broken markers_broken kept_texts
skip-texts thread strings stacks rows raw = refl

samples-then : (thread : Option ℕ) (strings stacks : ℕ) (raw : OwnCells) → AreOwnGathered raw → own_broken thread strings stacks (kept_samples raw) ≡ own_broken thread strings stacks raw
unfolding own_broken
samples-then thread strings stacks raw h =
    or_same (samples_broken thread stacks (kept_samples raw)) (samples_broken thread stacks raw) (first_of (markers_broken thread strings (kept_samples raw) ∷ [])) (first_of (markers_broken thread strings raw ∷ []))
    (samples_kept thread stacks raw h) (λ none. ap (λ c. first_of (c ∷ [])) (skip-markers-samples thread strings raw))

markers-then : (thread : Option ℕ) (strings stacks : ℕ) (raw : OwnCells) → AreOwnGathered raw → own_broken thread strings stacks (kept_markers raw) ≡ own_broken thread strings stacks raw
unfolding own_broken
markers-then thread strings stacks raw h =
    or_same (samples_broken thread stacks (kept_markers raw)) (samples_broken thread stacks raw) (first_of (markers_broken thread strings (kept_markers raw) ∷ [])) (first_of (markers_broken thread strings raw ∷ []))
    (skip-samples-markers thread stacks raw) (λ none. ap (λ c. first_of (c ∷ [])) (markers_kept thread strings raw h))

-- what is kept of a thread's own tables breaks what they break
pub own_kept : (thread : Option ℕ) (strings stacks : ℕ) (rows : List Value) (raw : OwnCells) → AreOwnGathered raw →
    own_broken thread strings stacks (kept_texts rows (kept_markers (kept_samples raw))) ≡ own_broken thread strings stacks raw
own_kept thread strings stacks rows raw h =
    skip-texts thread strings stacks rows (kept_markers (kept_samples raw))
    ∙ markers-then thread strings stacks (kept_samples raw) (gathered-samples raw h)
    ∙ samples-then thread strings stacks raw h

-- without markers nothing of their table counts
no-markers : (raw : OwnCells) → raw.has_markers ≡ false → markers_of raw ≡ record { rows = []; texts = [] }
unfolding marker_rows_of
no-markers raw e = rw e refl

kept-rows : (rows : List Value) → length rows ≤ MOST_ROWS → take (suc MOST_ROWS) rows ≡ rows
kept-rows rows few = take_all (suc MOST_ROWS) rows (omega arith)

texts-kept : (rows : List Value) (raw : OwnCells) → raw.marker_texts ≡ all_texts rows → raw.marker_ranges ≡ ranges_from 0 rows → length rows ≤ MOST_ROWS → kept_texts rows raw ≡ raw
unfolding kept_texts
texts-kept rows raw texts ranges few =
    ap (λ (vs : List Value). let r : OwnCells = record raw { marker_texts = all_texts vs; marker_ranges = ranges_from 0 vs } in r) (kept-rows rows few)
    ∙ ap (λ (ts : List (List ℕ)). let r : OwnCells = record raw { marker_texts = ts; marker_ranges = ranges_from 0 rows } in r) (sym texts)
    ∙ ap (λ (ns : List (ℕ × ℕ)). let r : OwnCells = record raw { marker_ranges = ns } in r) (sym ranges)

kept-unmarked : (rows : List Value) (raw : OwnCells) → raw.has_markers ≡ false → markers_of (kept_texts rows (kept_markers raw)) ≡ markers_of raw
unfolding kept_texts kept_markers
kept-unmarked rows raw gone =
    no-markers (record raw {
      marker_phase = capped MOST_ROWS raw.marker_phase;
      marker_name = capped MOST_ROWS raw.marker_name;
      marker_start = capped MOST_ROWS raw.marker_start;
      marker_end = capped MOST_ROWS raw.marker_end;
      marker_data = capped MOST_ROWS raw.marker_data;
      marker_texts = all_texts (take (suc MOST_ROWS) rows);
      marker_ranges = ranges_from 0 (take (suc MOST_ROWS) rows);
    }) gone ∙ sym (no-markers raw gone)

samples-unmarked : (rows : List Value) (raw : OwnCells) → samples_of (kept_texts rows (kept_markers raw)) ≡ samples_of raw
unfolding kept_texts kept_markers samples_of
samples-unmarked rows raw = refl

unmarked : (shared : SharedTables) (rows : List Value) (raw : OwnCells) → raw.has_markers ≡ false → thread_of shared (kept_texts rows (kept_markers raw)) ≡ thread_of shared raw
unfolding kept_texts kept_markers
unmarked shared rows raw gone =
    ap (λ (m : MarkerRows). let t : ThreadTables = record { shared = shared; name = raw.name; unit = unit_of raw.unit; samples = samples_of (kept_texts rows (kept_markers raw)); markers = m } in t) (kept-unmarked rows raw gone)
    ∙ ap (λ (s : List SampleRow). let t : ThreadTables = record { shared = shared; name = raw.name; unit = unit_of raw.unit; samples = s; markers = markers_of raw } in t) (samples-unmarked rows raw)

-- where nothing breaks, what is kept stands for the same thread
pub own_whole : (thread : Option ℕ) (strings stacks : ℕ) (shared : SharedTables) (rows : List Value) (raw : OwnCells) → AreOwnGathered raw →
    raw.marker_texts ≡ all_texts rows → raw.marker_ranges ≡ ranges_from 0 rows → length rows ≤ length raw.marker_data.cells →
    own_broken thread strings stacks raw ≡ None →
    thread_of shared (kept_texts rows (kept_markers (kept_samples raw))) ≡ thread_of shared raw
unfolding own_broken
own_whole thread strings stacks shared rows raw h texts ranges few none =
    let all = all_pass (samples_broken thread stacks raw ∷ markers_broken thread strings raw ∷ []) none in
    ap (λ r. thread_of shared (kept_texts rows (kept_markers r))) (samples_whole thread stacks raw h all.0)
    ∙ elim (cases_Bool raw.has_markers) [
      | inl there ↦
          let m = markers_whole thread strings raw h there all.1.0 in
          ap (λ r. thread_of shared (kept_texts rows r)) m.1 ∙ ap (thread_of shared) (texts-kept rows raw texts ranges (let le : length raw.marker_data.cells ≤ MOST_ROWS = m.0 in omega arith))
      | inr gone ↦ unmarked shared rows raw gone
    ]
