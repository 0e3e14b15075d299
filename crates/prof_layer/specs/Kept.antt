-- The samples that the settled transforms of samples keep
use Rattle.std.specs.Prelude.{◌≡◌, ℕ, ℤ, Bool, List, [], ◌∷◌, length, Some, slice_get, if◌then◌else◌}
use Rattle.std.specs.List.{list_any, list_all}
use Rattle.prof_tables.specs.declared.rows.SampleRow.{SampleRow}
use Rattle.prof_path.specs.declared.lists.Span.{Span}
use Rattle.prof_path.specs.declared.transform.Transform.{Transform}
use Rattle.prof_path.specs.Rewriting.{is_during}
use Rattle.prof_layer.specs.Simulates.{is_of_samples}

-- the intervals of each transform of samples
abbrev pub found_of : List Transform → List (List Span) → List (List Span)
found_of [] spans = []
found_of (t ∷ transforms) [] = if is_of_samples t then [] ∷ found_of transforms [] else found_of transforms []
found_of (t ∷ transforms) (found ∷ spans) = if is_of_samples t then found ∷ found_of transforms spans else found_of transforms spans

-- whether a moment lies in an interval of each
abbrev pub is_kept : List (List Span) → ℤ → Bool
is_kept found m = list_all (λ spans. list_any (is_during m) spans) found

-- a flag for each sample: whether it is kept
pub record AreFlags (samples : List SampleRow) (found : List (List Span)) (flags : List Bool) : Type 0 where
  pub count : length flags ≡ length samples
  pub each : (k : ℕ) (s : SampleRow) → slice_get samples k ≡ Some s → slice_get flags k ≡ Some (is_kept found s.time)
