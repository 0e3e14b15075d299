-- What is kept of a number, by how it is read as a whole one and as a time.
use Rattle.std.proofs.Common.{◌≡◌, ℕ, List, Option, None, Some, refl, sym, ◌∙◌, ap, subst, inl, inr}
use Rattle.std.specs.Prelude.{ℤ, unsigned_abs, nat_le}
use Rattle.std.proofs.lemmas.Bool.{cases_Bool}
use Rattle.prof_raw.specs.declared.rule.Rule.TheVariants as rule
use Rattle.prof_raw.specs.declared.limits.TheConstants.{GREATEST}
use Rattle.prof_grammar.specs.Value.{Value, number}
use Rattle.prof_layout.specs.Columns.{clamped, cell_value, whole_cell, scaled_cell, read_cell}
use Rattle.prof_layout.specs.declared.reading.Reading.TheVariants as reading
use Rattle.prof_layout.specs.Numbers.{whole_of, scaled_of}
use Rattle.prof_schema.specs.RowCells.{number_kept, cell_kept}
use Rattle.prof_schema.specs.declared.cells.RowCell.TheVariants as cell

whole-kept : (o : Option ℤ) (s n : ℤ) → Some n ≡ cell_value (whole_cell rule.IndexOut o) → cell.Whole n ≡ number_kept o s
whole-kept None s n h = cc
whole-kept (Some m) s n h = let e : n ≡ clamped m = cc in ap cell.Whole e

-- a whole number
pub whole_kept : (v : Value) (n : ℤ) (start : ℕ) → (text : List ℕ) × (v ≡ number text) → Some n ≡ cell_value (read_cell reading.Index v) → cell.Whole n ≡ cell_kept start v
whole_kept v n start t h = subst (λ (x : Value). cell.Whole n ≡ cell_kept start x) (sym t.1) (whole-kept (whole_of t.0) (scaled_of t.0 6) n (h ∙ ap (λ (x : Value). cell_value (read_cell reading.Index x)) t.1))

scaled-kept : (o : Option ℤ) (s n : ℤ) → None ≡ cell_value (whole_cell rule.IndexOut o) → Some n ≡ cell_value (scaled_cell s) → cell.Scaled n ≡ number_kept o s
scaled-kept (Some m) s n none h = cc
scaled-kept None s n none h = elim (cases_Bool (nat_le (unsigned_abs s) GREATEST)) [
  | inl t ↦ (let k : Some n ≡ Some s = h ∙ rw t refl in let e : n ≡ s = cc in rw t (ap cell.Scaled e))
  | inr f ↦ (let k : Some n ≡ None = h ∙ rw f refl in cc)
]

far-kept : (o : Option ℤ) (s : ℤ) → None ≡ cell_value (whole_cell rule.IndexOut o) → None ≡ cell_value (scaled_cell s) → cell.Far ≡ number_kept o s
far-kept (Some m) s none h = cc
far-kept None s none h = elim (cases_Bool (nat_le (unsigned_abs s) GREATEST)) [
  | inl t ↦ (let k : None ≡ Some s = h ∙ rw t refl in cc)
  | inr f ↦ rw f refl
]

-- a number that isn't whole, in the range of times
pub scaled_kept : (v : Value) (n : ℤ) (start : ℕ) → (text : List ℕ) × (v ≡ number text) → None ≡ cell_value (read_cell reading.Index v) → Some n ≡ cell_value (read_cell reading.Time v) → cell.Scaled n ≡ cell_kept start v
scaled_kept v n start t none h =
    subst (λ (x : Value). cell.Scaled n ≡ cell_kept start x) (sym t.1)
    (scaled-kept (whole_of t.0) (scaled_of t.0 6) n (none ∙ ap (λ (x : Value). cell_value (read_cell reading.Index x)) t.1) (h ∙ ap (λ (x : Value). cell_value (read_cell reading.Time x)) t.1))

-- and out of it
pub far_kept : (v : Value) (start : ℕ) → (text : List ℕ) × (v ≡ number text) → None ≡ cell_value (read_cell reading.Index v) → None ≡ cell_value (read_cell reading.Time v) → cell.Far ≡ cell_kept start v
far_kept v start t none h =
    subst (λ (x : Value). cell.Far ≡ cell_kept start x) (sym t.1)
    (far-kept (whole_of t.0) (scaled_of t.0 6) (none ∙ ap (λ (x : Value). cell_value (read_cell reading.Index x)) t.1) (h ∙ ap (λ (x : Value). cell_value (read_cell reading.Time x)) t.1))
