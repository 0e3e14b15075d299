-- The markers of a written thread are read as its markers, each with its own texts.
use Rattle.std.proofs.Common.{◌≡◌, ◌∙◌, ℕ, zero, suc, ◌+◌, ◌-◌, ◌^◌, ◌<◌, ◌≤◌, List, [], ◌∷◌, ◌++◌, Option, Some, length, take, drop, refl, sym, ap, subst, arith, append_assoc, length-append}
use Rattle.std.specs.Prelude.{ℤ, map, slice_get, slice_range, unwrap_or}
use Rattle.std.proofs.lemmas.List.{length-take, map_push}
use Rattle.prof_grammar.specs.Value.{Value}
use Rattle.prof_raw.specs.Cells.{OwnCells, cell_at}
use Rattle.prof_raw.specs.CellValues.{index_of}
use Rattle.prof_tables.specs.declared.markers.RawMarker.{RawMarker}
use Rattle.prof_tables.specs.Threads.{ThreadTables}
use Rattle.prof_tables.specs.Rows.{rows_of, marker_at, marker_rows_of, markers_of}
use Rattle.prof_tables.proofs.RowLemmas.{all_at}
use Rattle.prof_layout.specs.Markers.{all_texts, data_texts, ranges_from}
use Rattle.prof_layout.specs.Tables.{raw_own}
use Rattle.prof_write.specs.Cells.{data_value}
use Rattle.prof_write.specs.Written.{marker_texts, thread_value}
use Rattle.prof_back.specs.Equal.{MarkerWithTexts, marker_with_texts, rows_with_texts}
use Rattle.prof_back.specs.Texts.{IsThread}
use Rattle.prof_back.proofs.Columns.{length_map}
use Rattle.prof_back.proofs.MarkerData.{data_back}
use Rattle.prof_back.proofs.OwnTold.{data_rows, end_told, marker_name_told, own_raw, own_told, phase_told, start_told}
use Rattle.prof_back.proofs.Samples.{cells_at, rows_of_same}

-- ---- ranges of the texts of rows

behind : {A : Type 0} (xs ys : List A) → drop (length xs) (xs ++ ys) ≡ ys
behind [] ys = refl
behind (x ∷ xs) ys = behind xs ys

front : {A : Type 0} (xs ys : List A) → take (length xs) (xs ++ ys) ≡ xs
front [] ys = refl
front {A} (x ∷ xs) ys = ap (λ (l : List A). x ∷ l) (front xs ys)

part_between : {A : Type 0} (before part rest : List A) → slice_range (before ++ (part ++ rest)) (length before) (length before + length part) ≡ part
part_between {A} before part rest =
    let many : length before + length part - length before ≡ length part = omega arith in
    ap (λ (l : List A). take (length before + length part - length before) l) (behind before (part ++ rest))
    ∙ (ap (λ (n : ℕ). take n (part ++ rest)) many ∙ front part rest)

abbrev range_at : List (ℕ × ℕ) → ℕ → ℕ × ℕ
range_at ranges i = unwrap_or (slice_get ranges i) (0, 0)

-- the range of a row has the texts of its value, behind those of the rows before
range_told : (rows : List Value) (start : ℕ) (before : List (List ℕ)) → start ≡ length before → (i : ℕ) (v : Value) → slice_get rows i ≡ Some v →
    slice_range (before ++ all_texts rows) (range_at (ranges_from start rows) i).0 (range_at (ranges_from start rows) i).1 ≡ data_texts v
range_told [] start before is i v e = absurd (cc)
range_told (w ∷ rows) start before is zero v e =
    let same : w ≡ v = cc in
    let P : ℕ → Type 0 = λ n. slice_range (before ++ all_texts (w ∷ rows)) n (n + length (data_texts w)) ≡ data_texts w in
    subst P (sym is) (part_between before (data_texts w) (all_texts rows)) ∙ ap data_texts same
range_told (w ∷ rows) start before is (suc i) v e =
    let here = data_texts w in
    let many : start + length here ≡ length (before ++ here) = omega (arith, length-append before here) in
    let P : List (List ℕ) → Type 0 = λ l. slice_range l (range_at (ranges_from (start + length here) rows) i).0 (range_at (ranges_from (start + length here) rows) i).1 ≡ data_texts v in
    subst P (append_assoc before here (all_texts rows)) (range_told rows (start + length here) (before ++ here) many i v e)

-- ---- rows

map_rows_of : {A B : Type 0} (f : A → B) (row : ℕ → A) (n : ℕ) → map f (rows_of row n) ≡ rows_of (λ i. f (row i)) n
map_rows_of f row zero = refl
map_rows_of {A} {B} f row (suc n) = map_push f (rows_of row n) (row n) ∙ ap (λ (l : List B). l ++ f (row n) ∷ []) (map_rows_of f row n)

-- a row of a list that was made of another
made_of : {A B : Type 0} (f : A → B) (xs : List A) (i : ℕ) (y : B) → slice_get (map f xs) i ≡ Some y → (x : A) × ((slice_get xs i ≡ Some x) × (f x ≡ y))
made_of f [] i y e = absurd (cc)
made_of f (x ∷ xs) zero y e = (x, (refl, cc))
made_of f (x ∷ xs) (suc i) y e = made_of f xs i y e

pub at_map : {A B : Type 0} (f : A → B) (xs : List A) (i : ℕ) (x : A) → slice_get xs i ≡ Some x → slice_get (map f xs) i ≡ Some (f x)
at_map f [] i x e = absurd (cc)
at_map {A} {B} f (y ∷ xs) zero x e = let same : y ≡ x = cc in ap (λ (z : A). let o : Option B = Some (f z) in o) same
at_map f (y ∷ xs) (suc i) x e = at_map f xs i x e

-- ---- markers

same_marker : (m : MarkerWithTexts) (name phase : ℕ) (start end : Option ℤ) (texts : List (List ℕ)) → name ≡ m.name → phase ≡ m.phase → start ≡ m.start → end ≡ m.end → texts ≡ m.texts →
    (let r : MarkerWithTexts = record { name = name; phase = phase; start = start; end = end; texts = texts } in r) ≡ m
same_marker m name phase start end texts a b c d e = rw (a, b, c, d, e) refl

few_texts : (t : ThreadTables) → IsThread t → (i : ℕ) (m : RawMarker) → slice_get t.markers.rows i ≡ Some m → length (marker_texts t.markers.texts m) ≤ 2 ^ 64
few_texts t kept i m e =
    let end : m.texts.1 < 2 ^ 32 = all_at (λ (m : RawMarker). m.texts.1 < 2 ^ 32) t.markers.rows i m kept.ranges e in
    omega (arith, length-take (m.texts.1 - m.texts.0) (drop m.texts.0 t.markers.texts))

texts_told : (t : ThreadTables) → IsThread t → (i : ℕ) (m : RawMarker) → slice_get t.markers.rows i ≡ Some m →
    slice_range (all_texts (data_rows t.markers)) (range_at (ranges_from 0 (data_rows t.markers)) i).0 (range_at (ranges_from 0 (data_rows t.markers)) i).1 ≡ marker_texts t.markers.texts m
texts_told t kept i m e =
    let value = data_value (marker_texts t.markers.texts m) in
    let at : slice_get (data_rows t.markers) i ≡ Some value = at_map (λ (m : RawMarker). data_value (marker_texts t.markers.texts m)) t.markers.rows i m e in
    range_told (data_rows t.markers) 0 [] refl i value at ∙ data_back (marker_texts t.markers.texts m) (few_texts t kept i m e)

marker_told : (t : ThreadTables) → IsThread t → (i : ℕ) (m : RawMarker) → slice_get t.markers.rows i ≡ Some m →
    marker_with_texts (all_texts (data_rows t.markers)) (marker_at (own_told t) i) ≡ marker_with_texts t.markers.texts m
marker_told t kept i m e =
    let rows : List RawMarker = t.markers.rows in
    let range = range_at (ranges_from 0 (data_rows t.markers)) i in
    same_marker (marker_with_texts t.markers.texts m) (index_of (cell_at (map marker_name_told rows) i)) (index_of (cell_at (map phase_told rows) i)) (cell_at (map start_told rows) i) (cell_at (map end_told rows) i)
    (slice_range (all_texts (data_rows t.markers)) range.0 range.1)
    (ap index_of (cells_at marker_name_told rows i m e)) (ap index_of (cells_at phase_told rows i m e)) (cells_at start_told rows i m e) (cells_at end_told rows i m e)
    (texts_told t kept i m e)

rows_told : (t : ThreadTables) → IsThread t → rows_with_texts (markers_of (own_told t)) ≡ rows_with_texts t.markers
unfolding marker_rows_of
rows_told t kept =
    let texts = all_texts (data_rows t.markers) in
    let wanted : List MarkerWithTexts = rows_with_texts t.markers in
    let row : ℕ → MarkerWithTexts = λ i. marker_with_texts texts (marker_at (own_told t) i) in
    let many : length (map phase_told t.markers.rows) ≡ length wanted = length_map phase_told t.markers.rows ∙ sym (length_map (marker_with_texts t.markers.texts) t.markers.rows) in
    map_rows_of (marker_with_texts texts) (marker_at (own_told t)) (length (map phase_told t.markers.rows))
    ∙ (ap (rows_of row) many
    ∙ rows_of_same row wanted (λ i y e. let m = made_of (marker_with_texts t.markers.texts) t.markers.rows i y e in marker_told t kept i m.0 m.1.0 ∙ m.1.1))

pub markers_back : (t : ThreadTables) → IsThread t → rows_with_texts (markers_of (raw_own (thread_value t))) ≡ rows_with_texts t.markers
markers_back t kept = ap (λ (raw : OwnCells). rows_with_texts (markers_of raw)) (own_raw t kept.shared.tied kept.own) ∙ rows_told t kept
