-- A small thread with markers, and what the definitions make of it
use Rattle.std.specs.Prelude.{◌≡◌, ℕ, ℤ, pos, List, [], ◌∷◌, Option, Some, None, refl}
use Rattle.prof_tables.specs.declared.markers.RawMarker.{RawMarker}
use Rattle.prof_tables.specs.declared.rows.SampleRow.{SampleRow}
use Rattle.prof_raw.specs.declared.raw.Unit.TheVariants.{Samples}
use Rattle.prof_tables.specs.Threads.{SharedTables, ThreadTables}
use Rattle.prof_path.specs.declared.transform.Range.{Range}
use Rattle.prof_path.specs.Terms.{terms_of}
use Rattle.prof_path.specs.Rows.{p_tables}
use Rattle.prof_marker.specs.declared.list.Marker.{Marker}
use Rattle.prof_marker.specs.Markers.{pair}
use Rattle.prof_marker.specs.ByRow.{rows_markers}
use Rattle.prof_marker.specs.Found.{found, spans}

abbrev at : ℕ → SampleRow
at time = record { stack = None; time = pos time; weight = pos 1 }

-- the strings are `gc`, `load` and `gc` again
abbrev shared : SharedTables
shared = record p_tables { strings = (103 ∷ 99 ∷ []) ∷ (108 ∷ 111 ∷ 97 ∷ 100 ∷ []) ∷ (103 ∷ 99 ∷ []) ∷ [] }

abbrev six_samples : List SampleRow
six_samples = at 0 ∷ at 1000000 ∷ at 2000000 ∷ at 3000000 ∷ at 4000000 ∷ at 5000000 ∷ []

-- a thread with these samples and rows of markers, and the text `http://a/`
abbrev thread : List SampleRow → List RawMarker → ThreadTables
thread samples rows = record {
  shared = shared;
  name = [];
  unit = Samples;
  samples = samples;
  markers = record { rows = rows; texts = (104 ∷ 116 ∷ 116 ∷ 112 ∷ 58 ∷ 47 ∷ 47 ∷ 97 ∷ 47 ∷ []) ∷ [] };
}

abbrev row : ℕ → ℕ → Option ℤ → Option ℤ → RawMarker
row name phase start end = record { name = name; phase = phase; start = start; end = end; texts = (0, 0) }

abbrev marker : ℕ → ℕ → ℕ → Marker
marker name start end = record { name = name; start = pos start; end = pos end; texts = (0, 0); more = (0, 0) }

-- M: a start of `gc`, an instant of `load` with a text, two ends of `gc` and a start of `load`
abbrev m_rows : List RawMarker
m_rows =
    row 0 2 (Some (pos 1000000)) None
    ∷ record (row 1 0 (Some (pos 2000000)) None) { texts = (0, 1) }
    ∷ row 0 3 None (Some (pos 3000000))
    ∷ row 0 3 None (Some (pos 4000000))
    ∷ row 1 2 (Some (pos 4500000)) None
    ∷ []

abbrev m_markers : List Marker
m_markers =
    marker 0 1000000 3000000
    ∷ record (marker 1 2000000 2000000) { texts = (0, 1) }
    ∷ marker 0 0 4000000
    ∷ marker 1 4500000 5000000
    ∷ []

m_pairs : pair (thread six_samples m_rows) ≡ m_markers
m_pairs = refl

-- the same, row by row
m_by_row : rows_markers shared.strings (Some (pos 0)) (Some (pos 5000000)) [] m_rows ≡ m_markers
m_by_row = refl

-- without samples the unpaired rows have their own times alone
m_pairs_alone : pair (thread [] m_rows) ≡ marker 0 1000000 3000000 ∷ record (marker 1 2000000 2000000) { texts = (0, 1) } ∷ marker 0 4000000 4000000 ∷ marker 1 4500000 4500000 ∷ []
m_pairs_alone = refl

-- the second of two starts is closed first, and the first at the second end, whichever of two equal texts is its name. The
-- closed one has the texts of the end too
nested : pair (thread six_samples (row 0 2 (Some (pos 1)) None ∷ row 2 2 (Some (pos 2)) None ∷ record (row 0 3 None (Some (pos 3))) { texts = (0, 1) } ∷ row 2 3 None (Some (pos 4)) ∷ []))
    ≡ marker 0 1 4 ∷ record (marker 2 2 3) { more = (0, 1) } ∷ []
nested = refl

-- a start with two later starts of its name, of which one stays open, is open still
nested_by_row : rows_markers shared.strings None None [] (row 0 2 (Some (pos 1)) None ∷ row 0 2 (Some (pos 2)) None ∷ row 2 2 (Some (pos 3)) None ∷ row 0 3 None (Some (pos 4)) ∷ row 0 3 None (Some (pos 5)) ∷ [])
    ≡ marker 0 1 1 ∷ marker 0 2 5 ∷ marker 2 3 4 ∷ []
nested_by_row = refl

-- a row after the last sample, and one before the first, keep their own times
outside : pair (thread (at 5 ∷ at 7 ∷ []) (row 0 3 None (Some (pos 2)) ∷ row 0 2 (Some (pos 9)) None ∷ row 1 1 (Some (pos 1)) (Some (pos 8)) ∷ []))
    ≡ marker 0 2 2 ∷ marker 0 9 9 ∷ marker 1 1 8 ∷ []
outside = refl

-- what a search finds in M, within some ranges
abbrev m_found : List ℕ → List Range → List ℕ
m_found text ranges = found (thread six_samples m_rows) (terms_of text) ranges m_markers

-- `A/`, `A/,gc` and no terms
by_text : m_found (65 ∷ 47 ∷ []) [] ≡ 1 ∷ []
by_text = refl

by_text_or_name : m_found (65 ∷ 47 ∷ 44 ∷ 103 ∷ 99 ∷ []) [] ≡ 0 ∷ 1 ∷ 2 ∷ []
by_text_or_name = refl

by_none : m_found (32 ∷ 44 ∷ []) [] ≡ 0 ∷ 1 ∷ 2 ∷ 3 ∷ []
by_none = refl

abbrev range : ℕ → ℕ → Range
range start end = record { start = pos start; end = pos end }

within : m_found [] (range 3500000 4000000 ∷ []) ≡ 2 ∷ []
within = refl

-- a marker that ends where the range starts overlaps it, and one that starts where it ends doesn't. Every range counts
at_the_ends : m_found [] (range 3000000 4500000 ∷ range 0 1000001 ∷ []) ≡ 0 ∷ 2 ∷ []
at_the_ends = refl

empty_range : m_found [] (range 3000000 3000000 ∷ []) ≡ []
empty_range = refl

-- the intervals of `load`
loads : spans (thread six_samples m_rows) (108 ∷ 111 ∷ 97 ∷ 100 ∷ []) m_markers ≡ record { start = pos 2000000; end = pos 2000000 } ∷ record { start = pos 4500000; end = pos 5000000 } ∷ []
loads = refl
