-- Intervals in an order in which a moment is looked up by halving
use Rattle.std.specs.Prelude.{◌≡◌, ℕ, ◌<◌, ◌≤◌, ℤ, ◌≤ℤ◌, List, length, slice_index_or}
use Rattle.std.specs.List.{list_any}
use Rattle.prof_path.specs.declared.lists.Span.{Span}
use Rattle.prof_path.specs.Rewriting.{is_during}

-- no interval starts before an earlier one
abbrev pub AreByStart : List Span → Type 0
AreByStart spans = (i j : ℕ) (d : Span) → i ≤ j → j < length spans → (slice_index_or spans i d).start ≤ℤ (slice_index_or spans j d).start

-- nor ends before an earlier one
pub record AreAscending (spans : List Span) : Type 0 where
  pub starts : AreByStart spans
  pub ends : (i j : ℕ) (d : Span) → i ≤ j → j < length spans → (slice_index_or spans i d).end ≤ℤ (slice_index_or spans j d).end

-- a moment lies in one of these intervals just where it lies in one of those
abbrev pub HaveSameMoments : List Span → List Span → Type 0
HaveSameMoments these those = (m : ℤ) → list_any (is_during m) these ≡ list_any (is_during m) those
