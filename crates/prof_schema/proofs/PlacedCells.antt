-- A column out of the rows that are kept, row by row.
use Rattle.std.proofs.Common.{◌≡◌, ℕ, suc, ◌+◌, ◌<◌, ◌≤◌, Some, List, [], ◌∷◌, ◌++◌, refl, sym, ◌∙◌, ap, subst, arith, append_assoc, length, take, drop, length-append, get_or, drop-cons, inl, inr}
use Rattle.std.specs.Prelude.{map, slice_get}
use Rattle.std.proofs.Math.Seq.{drop-append_seam, take-append_seam, get_or-append_seam}
use Rattle.std.proofs.lemmas.Bool.{cases_lt}
use Rattle.std.proofs.lemmas.Grind.{flat_map-append}
use Rattle.std.proofs.lemmas.List.{take_all, append-nil, length-take-le, length-map, map_push, take-map, take-append-drop, get_or-take, get_or_past}
use Rattle.std.proofs.lemmas.Option.{unwrap_or-slice_get, get_or_from_slice_get}
use Rattle.prof_grammar.specs.Value.{Value, null, boolean, number, string, array, object, items}
use Rattle.prof_raw.specs.Cells.{Cells}
use Rattle.prof_layout.specs.Columns.{Cell, cell_value, gathered, capped}
use Rattle.prof_layout.specs.Markers.{data_texts, all_texts, ranges_from}
use Rattle.prof_layout.proofs.Gathering.{kept, kept-more}
use Rattle.prof_layout.proofs.Items.{length-push}
use Rattle.prof_layout.proofs.MarkerTexts.{all_texts-push, ranges_from-push}
use Rattle.prof_column.specs.Columns.{kept_by}
use Rattle.prof_schema.specs.Placed.{cell_of}
use Rattle.prof_schema.specs.RowCells.{cell_kept, cells_kept, row_cells, all_cells, ends_from}
use Rattle.prof_schema.specs.Gathered.{AreKept, IsCellOf}
use Rattle.prof_schema.specs.declared.cells.RowCell.{RowCell}
use Rattle.prof_schema.specs.declared.cells.RowCell.TheVariants as cell
use Rattle.prof_schema.specs.declared.rows.Rows.{Rows}
use Rattle.prof_schema.proofs.KeptCells.{cells_kept-append, length-cells_kept, ends_from-append, length-ends_from}

-- ---- a column of which only the first cells are looked at

kept-front : (most : ℕ) (front back : List Cell) → most < length (kept most front).cells → kept most (front ++ back) ≡ kept most front
kept-front most front [] h = ap (kept most) (append-nil front)
kept-front most front (c ∷ back) h =
    let same = kept-more most front c h in
    ap (kept most) (sym (append_assoc front (c ∷ []) back))
    ∙ kept-front most (front ++ c ∷ []) back (subst (λ (k : Cells). most < length k.cells) (sym same) h)
    ∙ same

kept-take : (most : ℕ) (cells : List Cell) → kept most (take (suc most) cells) ≡ kept most cells
kept-take most cells = elim (cases_lt (suc most) (length cells)) [
  | inl over ↦
      let front = take (suc most) cells in
      let many : length front ≡ suc most = length-take-le (suc most) cells (omega arith) in
      let mapped : length (map cell_value front) ≡ length front = length-map front cell_value in
      let whole : take (suc most) (map cell_value front) ≡ map cell_value front = take_all (suc most) (map cell_value front) (omega arith) in
      let count : length (kept most front).cells ≡ suc most = ap (λ (t : List _). length t) whole ∙ mapped ∙ many in
      sym (kept-front most front (drop (suc most) cells) (omega arith)) ∙ ap (kept most) (take-append-drop (suc most) cells)
  | inr within ↦ ap (kept most) (take_all (suc most) cells (omega arith))
]

-- so only the first values are looked at
pub kept_by-take : (read : Value → Cell) (most : ℕ) (vs : List Value) → kept_by read most (take (suc most) vs) ≡ kept_by read most vs
kept_by-take read most vs = ap (kept most) (sym (take-map read (suc most) vs)) ∙ kept-take most (map read vs)

-- ---- a cell by its place

seam : (front after : List Value) (w : Value) → cells_kept 0 (front ++ w ∷ after) ≡ cells_kept 0 front ++ cell_kept (length (all_texts front)) w ∷ cells_kept (length (all_texts front) + length (data_texts w)) after
seam front after w =
    let e : 0 + length (all_texts front) ≡ length (all_texts front) = omega arith in
    cells_kept-append 0 front (w ∷ after) ∙ ap (λ (n : ℕ). cells_kept 0 front ++ cells_kept n (w ∷ after)) e

-- the cell that stands behind others
cell_behind : (front after : List Value) (w : Value) (cells : List RowCell) (texts : List (List ℕ)) (c : RowCell) → cells ≡ cells_kept 0 (front ++ w ∷ after) → texts ≡ all_texts (front ++ w ∷ after) →
    slice_get cells (length front) ≡ Some c → IsCellOf texts w c
cell_behind front after w cells texts c e t h =
    let start = length (all_texts front) in
    let count : length (cells_kept 0 front) ≡ length front = length-cells_kept 0 front in
    let at : get_or (cells_kept 0 front ++ cell_kept start w ∷ cells_kept (start + length (data_texts w)) after) (length (cells_kept 0 front)) c ≡ cell_kept start w =
    get_or-append_seam (cells_kept 0 front) (cell_kept start w) (cells_kept (start + length (data_texts w)) after) c in
    let is : get_or cells (length front) c ≡ c = get_or_from_slice_get cells (length front) c c h in
    let split : texts ≡ all_texts front ++ (data_texts w ++ all_texts after) = t ∙ flat_map-append data_texts front (w ∷ after) in
    record {
      start = start;
      is = sym is ∙ ap (λ (l : List RowCell). get_or l (length front) c) (e ∙ seam front after w) ∙ ap (λ (n : ℕ). get_or (cells_kept 0 front ++ cell_kept start w ∷ cells_kept (start + length (data_texts w)) after) n c) (sym count) ∙ at;
      texts_ =
          ap (λ (l : List (List ℕ)). take (length (data_texts w)) (drop start l)) split
          ∙ ap (λ (l : List (List ℕ)). take (length (data_texts w)) l) (drop-append_seam (all_texts front) (data_texts w ++ all_texts after))
          ∙ take-append_seam (data_texts w) (all_texts after);
    }

-- the cells of a row at a place that it has
row-split : (v : Value) (place : ℕ) → place < length (row_cells v) → row_cells v ≡ take place (row_cells v) ++ get_or (row_cells v) place null ∷ drop (suc place) (row_cells v)
row-split v place h = sym (take-append-drop place (row_cells v)) ∙ ap (λ (t : List Value). take place (row_cells v) ++ t) (drop-cons (row_cells v) place null h)

all-split : (front back : List Value) (v : Value) (place : ℕ) → place < length (row_cells v) →
    all_cells (front ++ v ∷ back) ≡ (all_cells front ++ take place (row_cells v)) ++ get_or (row_cells v) place null ∷ (drop (suc place) (row_cells v) ++ all_cells back)
all-split front back v place h =
    let w = get_or (row_cells v) place null in
    let rest = drop (suc place) (row_cells v) in
    flat_map-append row_cells front (v ∷ back)
    ∙ ap (λ (t : List Value). all_cells front ++ (t ++ all_cells back)) (row-split v place h)
    ∙ ap (λ (t : List Value). all_cells front ++ t) (append_assoc (take place (row_cells v)) (w ∷ rest) (all_cells back))
    ∙ sym (append_assoc (all_cells front) (take place (row_cells v)) (w ∷ (rest ++ all_cells back)))

-- what a row has at a place that is small
pub cell-within : (v : Value) (place : ℕ) → place < 256 → get_or (row_cells v) place null ≡ cell_of place v
cell-within (array vs) place h = get_or-take 256 (items vs) place null h ∙ sym (unwrap_or-slice_get (items vs) place null)
cell-within null place h = refl
cell-within (boolean b) place h = refl
cell-within (number s) place h = refl
cell-within (string s) place h = refl
cell-within (object ms) place h = refl

-- a cell of a row, which stands behind the rows before it
pub placed_within : (r : Rows) (front back : List Value) (v : Value) (place at : ℕ) (c : RowCell) → AreKept (front ++ v ∷ back) r → place < 256 → place < length (row_cells v) →
    at ≡ length (all_cells front) + place → slice_get r.kept.cells.items at ≡ Some c → IsCellOf r.kept.texts.items (cell_of place v) c
placed_within r front back v place at c h small within e is =
    let before = all_cells front ++ take place (row_cells v) in
    let after = drop (suc place) (row_cells v) ++ all_cells back in
    let split = all-split front back v place within in
    let many : length (take place (row_cells v)) ≡ place = length-take-le place (row_cells v) (omega arith) in
    let count : length before ≡ at = length-append (all_cells front) (take place (row_cells v)) ∙ (omega arith) in
    subst (λ (w : Value). IsCellOf r.kept.texts.items w c) (cell-within v place small)
    (cell_behind before after (get_or (row_cells v) place null) r.kept.cells.items r.kept.texts.items c
    (h.cells ∙ ap (λ (t : List Value). cells_kept 0 t) split)
    (h.texts ∙ ap (λ (t : List Value). all_texts t) split)
    (ap (λ (n : ℕ). slice_get r.kept.cells.items n) count ∙ is))

-- what is missing is null
pub placed_missing : (texts : List (List ℕ)) (v : Value) (place : ℕ) → place < 256 → length (row_cells v) ≤ place → IsCellOf texts (cell_of place v) cell.Null
placed_missing texts v place small past =
    let none : null ≡ cell_of place v = sym (get_or_past (row_cells v) place null past) ∙ cell-within v place small in
    subst (λ (w : Value). IsCellOf texts w cell.Null) none (record { start = 0; is = refl; texts_ = refl })

-- the cell is there
pub placed_there : (r : Rows) (front back : List Value) (v : Value) (place at : ℕ) → AreKept (front ++ v ∷ back) r → place < length (row_cells v) → at ≡ length (all_cells front) + place → at < length r.kept.cells.items
placed_there r front back v place at h within e =
    let all : length r.kept.cells.items ≡ length (all_cells (front ++ v ∷ back)) = ap (λ (t : List RowCell). length t) h.cells ∙ length-cells_kept 0 (all_cells (front ++ v ∷ back)) in
    let parts : length (all_cells (front ++ v ∷ back)) ≡ length (all_cells front) + length (row_cells v ++ all_cells back) =
    ap (λ (t : List Value). length t) (flat_map-append row_cells front (v ∷ back)) ∙ length-append (all_cells front) (row_cells v ++ all_cells back) in
    let here : length (row_cells v ++ all_cells back) ≡ length (row_cells v) + length (all_cells back) = length-append (row_cells v) (all_cells back) in
    omega arith

-- ---- row by row

-- so many rows have been read, and the cells of the next begin here
pub record AreRead (rows : List Value) (i start : ℕ) (front : List Value) : Type 0 where
  pub back : List Value
  pub is : rows ≡ front ++ back
  pub count : length front ≡ i
  pub place : start ≡ length (all_cells front)

pub none_read : (rows : List Value) → AreRead rows 0 0 []
none_read rows = record { back = rows; is = refl; count = refl; place = refl }

-- the next row, behind those that were read
pub record IsNext (rows front : List Value) (i end : ℕ) (r : Rows) : Type 0 where
  pub row : Value
  pub back : List Value
  pub kept : AreKept (front ++ row ∷ back) r
  pub end_is : end ≡ length (all_cells front) + length (row_cells row)
  pub then : AreRead rows (i + 1) end (front ++ row ∷ [])

next-of : (rows front back : List Value) (i end : ℕ) (r : Rows) → rows ≡ front ++ back → length front ≡ i → AreKept rows r → i < length r.ends.items → end ≡ get_or r.ends.items i 0 → IsNext rows front i end r
next-of rows front [] i end r is count h below e =
    let a : length r.ends.items ≡ length (front ++ []) = ap (λ (t : List ℕ). length t) h.ends ∙ length-ends_from 0 rows ∙ ap (λ (t : List Value). length t) is in
    let b : length (front ++ []) ≡ length front = ap (λ (t : List Value). length t) (append-nil front) in
    absurd (omega arith)
next-of rows front (v ∷ back) i end r is count h below e =
    let kept : AreKept (front ++ v ∷ back) r = subst (λ (t : List Value). AreKept t r) is h in
    let n = length (all_cells front) in
    let many : length (ends_from 0 front) ≡ i = length-ends_from 0 front ∙ count in
    let split : r.ends.items ≡ ends_from 0 front ++ (0 + n + length (row_cells v)) ∷ ends_from (0 + n + length (row_cells v)) back = kept.ends ∙ ends_from-append 0 front (v ∷ back) in
    let at : get_or (ends_from 0 front ++ (0 + n + length (row_cells v)) ∷ ends_from (0 + n + length (row_cells v)) back) (length (ends_from 0 front)) 0 ≡ 0 + n + length (row_cells v) =
    get_or-append_seam (ends_from 0 front) (0 + n + length (row_cells v)) (ends_from (0 + n + length (row_cells v)) back) 0 in
    let end_is : end ≡ 0 + n + length (row_cells v) = e ∙ ap (λ (t : List ℕ). get_or t i 0) split ∙ ap (λ (k : ℕ). get_or (ends_from 0 front ++ (0 + n + length (row_cells v)) ∷ ends_from (0 + n + length (row_cells v)) back) k 0) (sym many) ∙ at in
    let all : length (all_cells (front ++ v ∷ [])) ≡ n + length (row_cells v) = ap (λ (t : List Value). length t) (flat_map-append row_cells front (v ∷ [])) ∙ length-append (all_cells front) (row_cells v ++ []) ∙ ap (λ (t : List Value). n + length t) (append-nil (row_cells v)) in
    record {
      row = v;
      back = back;
      kept = kept;
      end_is = omega arith;
      then = record {
        back = back;
        is = is ∙ sym (append_assoc front (v ∷ []) back);
        count = (let l = length-push front v in omega arith);
        place = omega arith;
      };
    }

pub next_row : (rows front : List Value) (i start end : ℕ) (r : Rows) → AreRead rows i start front → AreKept rows r → i < length r.ends.items → end ≡ get_or r.ends.items i 0 → IsNext rows front i end r
next_row rows front i start end r h kept below e = next-of rows front h.back i end r h.is h.count kept below e

read-of : (rows front back : List Value) (i : ℕ) (r : Rows) → rows ≡ front ++ back → length front ≡ i → AreKept rows r → length r.ends.items ≤ i → front ≡ rows
read-of rows front [] i r is count h past = sym (is ∙ append-nil front)
read-of rows front (v ∷ back) i r is count h past =
    let a : length r.ends.items ≡ length (front ++ v ∷ back) = ap (λ (t : List ℕ). length t) h.ends ∙ length-ends_from 0 rows ∙ ap (λ (t : List Value). length t) is in
    let b : length (front ++ v ∷ back) ≡ length front + length (v ∷ back) = length-append front (v ∷ back) in
    absurd (omega arith)

-- at the end all rows were read
pub all_read : (rows front : List Value) (i start : ℕ) (r : Rows) → AreRead rows i start front → AreKept rows r → length r.ends.items ≤ i → front ≡ rows
all_read rows front i start r h kept past = read-of rows front h.back i r h.is h.count kept past

-- the column of the rows that were read
pub record IsColumnSoFar (read : Value → Cell) (most : ℕ) (rows : List Value) (i start : ℕ) (column : Cells) : Type 0 where
  pub front : List Value
  pub rows_ : AreRead rows i start front
  pub column_ : column ≡ kept_by read most front

pub column_none : (read : Value → Cell) (most : ℕ) (rows : List Value) (column : Cells) → column ≡ kept_by read most [] → IsColumnSoFar read most rows 0 0 column
column_none read most rows column e = record { front = []; rows_ = none_read rows; column_ = e }

pub column_all : (read : Value → Cell) (most : ℕ) (vs : List Value) (i start : ℕ) (column : Cells) (r : Rows) → IsColumnSoFar read most (take (suc most) vs) i start column → AreKept (take (suc most) vs) r →
    length r.ends.items ≤ i → column ≡ capped most (gathered (map read vs))
column_all read most vs i start column r h kept past = h.column_ ∙ ap (kept_by read most) (all_read (take (suc most) vs) h.front i start r h.rows_ kept past) ∙ kept_by-take read most vs

-- the texts at a place of the rows that were read
pub record AreTextsSoFar (place : ℕ) (rows : List Value) (i start : ℕ) (texts : List (List ℕ)) (ranges : List (ℕ × ℕ)) : Type 0 where
  pub front : List Value
  pub rows_ : AreRead rows i start front
  pub texts_ : texts ≡ all_texts (map (cell_of place) front)
  pub ranges_ : ranges ≡ ranges_from 0 (map (cell_of place) front)

pub texts_none : (place : ℕ) (rows : List Value) → AreTextsSoFar place rows 0 0 [] []
texts_none place rows = record { front = []; rows_ = none_read rows; texts_ = refl; ranges_ = refl }

-- one more row's texts
pub texts_more : (place i start end : ℕ) (rows : List Value) (texts more grown : List (List ℕ)) (ranges spans : List (ℕ × ℕ)) (r : Rows) (t : AreTextsSoFar place rows i start texts ranges) → (n : IsNext rows t.front i end r) →
    more ≡ data_texts (cell_of place n.row) → grown ≡ texts ++ more → spans ≡ ranges ++ (length texts, length grown) ∷ [] → AreTextsSoFar place rows (i + 1) end grown spans
texts_more place i start end rows texts more grown ranges spans r t n is e s =
    let front = map (cell_of place) t.front in
    let w = cell_of place n.row in
    let mapped : map (cell_of place) (t.front ++ n.row ∷ []) ≡ front ++ w ∷ [] = map_push (cell_of place) t.front n.row in
    let all : grown ≡ all_texts (front ++ w ∷ []) = e ∙ ap (λ (l : List (List ℕ)). l ++ more) t.texts_ ∙ ap (λ (l : List (List ℕ)). all_texts front ++ l) is ∙ sym (all_texts-push front w) in
    record {
      front = t.front ++ n.row ∷ [];
      rows_ = n.then;
      texts_ = all ∙ ap (λ (l : List Value). all_texts l) (sym mapped);
      ranges_ =
          s
          ∙ ap (λ (l : List (ℕ × ℕ)). l ++ (length texts, length grown) ∷ []) t.ranges_
          ∙ ap (λ (l : List (List ℕ)). ranges_from 0 front ++ (length l, length grown) ∷ []) t.texts_
          ∙ ap (λ (l : List (List ℕ)). ranges_from 0 front ++ (length (all_texts front), length l) ∷ []) all
          ∙ sym (ranges_from-push front w)
          ∙ ap (λ (l : List Value). ranges_from 0 l) (sym mapped);
    }

pub texts_all : (place : ℕ) (rows : List Value) (i start : ℕ) (texts : List (List ℕ)) (ranges : List (ℕ × ℕ)) (r : Rows) → AreTextsSoFar place rows i start texts ranges → AreKept rows r → length r.ends.items ≤ i →
    (texts ≡ all_texts (map (cell_of place) rows)) × (ranges ≡ ranges_from 0 (map (cell_of place) rows))
texts_all place rows i start texts ranges r h kept past =
    let all = all_read rows h.front i start r h.rows_ kept past in (
      h.texts_ ∙ ap (λ (l : List Value). all_texts (map (cell_of place) l)) all,
      h.ranges_ ∙ ap (λ (l : List Value). ranges_from 0 (map (cell_of place) l)) all,
    )
