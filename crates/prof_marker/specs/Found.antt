-- The markers that a search finds
use Rattle.std.specs.Prelude.{ℕ, Bool, ◌&&◌, ◌||◌, ◌==◌, int_lt, int_le, List, [], ◌∷◌, ◌++◌, length, map, slice_range}
use Rattle.std.specs.List.{filter, list_any, list_all, enumerate_from}
use Rattle.prof_tables.specs.Threads.{ThreadTables}
use Rattle.prof_path.specs.declared.lists.Span.{Span}
use Rattle.prof_path.specs.declared.transform.Range.{Range}
use Rattle.prof_path.specs.Terms.{has_term, terms_of}
use Rattle.prof_marker.specs.declared.list.Marker.{Marker}
use Rattle.prof_marker.specs.Markers.{name_text}

-- whether a marker overlaps a range, which holds its start and not its end
abbrev pub overlaps : Marker → Range → Bool
overlaps m r = int_lt r.start r.end && int_lt m.start r.end && int_le r.start m.end

-- the name of a marker, and its texts: those of its row, and those of the end that closed it
abbrev pub words_of : List (List ℕ) → List (List ℕ) → Marker → List (List ℕ)
words_of strings texts m = name_text strings m.name ∷ (slice_range texts m.texts.0 m.texts.1 ++ slice_range texts m.more.0 m.more.1)

-- whether some term occurs in a text
abbrev pub has_some : List (List ℕ) → List ℕ → Bool
has_some terms text = list_any (λ term. has_term term text) terms

-- whether a marker is found: it overlaps every range, and there are no terms, or some term occurs in one of its words
abbrev pub is_found : List (List ℕ) → List (List ℕ) → List (List ℕ) → List Range → Marker → Bool
is_found strings texts terms ranges m =
    list_all (overlaps m) ranges && (length terms == 0 || list_any (has_some terms) (words_of strings texts m))

-- the places of the items that pass a test, in order
abbrev pub places : {A : Type 0} → (A → Bool) → List A → List ℕ
places test xs = map (λ e. e.0) (filter (λ e. test e.1) (enumerate_from 0 xs))

-- the places of the found markers
abbrev pub found : ThreadTables → List (List ℕ) → List Range → List Marker → List ℕ
found t terms ranges markers = places (is_found t.shared.strings t.markers.texts terms ranges) markers

-- the intervals of the found markers
abbrev pub span_of : Marker → Span
span_of m = record { start = m.start; end = m.end }

abbrev pub spans : ThreadTables → List ℕ → List Marker → List Span
spans t text markers = map span_of (filter (is_found t.shared.strings t.markers.texts (terms_of text) []) markers)
