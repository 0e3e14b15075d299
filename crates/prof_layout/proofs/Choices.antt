-- What is chosen among a table's columns, by what was gathered of each.
use Rattle.std.proofs.Common.{◌≡◌, ◌≢◌, ℕ, Option, None, Some, List, Bool, true, false, refl, ap, inl, inr}
use Rattle.std.specs.Prelude.{codes, is_some, not, ◌&&◌, if◌then◌else◌}
use Rattle.std.proofs.lemmas.Bool.{cases_Bool}
use Rattle.prof_grammar.specs.Value.{Value}
use Rattle.prof_raw.specs.declared.raw.State.TheVariants.{Absent, NotArray, Array}
use Rattle.prof_raw.specs.declared.raw.Unit.{Unit as WeightUnit}
use Rattle.prof_raw.specs.declared.raw.Unit.TheVariants as unit
use Rattle.prof_raw.specs.Cells.{Cells}
use Rattle.prof_layout.specs.declared.reading.Reading.TheVariants as reading
use Rattle.prof_layout.specs.Columns.{Cell, read_cell, column_of, raw_column, absent}
use Rattle.prof_layout.specs.Lists.{unless_null}
use Rattle.prof_layout.specs.Tables.{member_of, optional_cells, has_deltas, time_cells, has_markers, weight_reading}

-- an optional column is absent exactly where its member is, or is null
pub optional-absent : (read : Value → Cell) (member : Option Value) → is_some (unless_null member) ≡ false → column_of read false member ≡ absent
optional-absent read None h = refl
optional-absent read (Some Value.null) h = refl
optional-absent read (Some (Value.boolean b)) h = cc
optional-absent read (Some (Value.number t)) h = cc
optional-absent read (Some (Value.string t)) h = cc
optional-absent read (Some (Value.array vs)) h = cc
optional-absent read (Some (Value.object ms)) h = cc

pub optional-there : (read : Value → Cell) (member : Option Value) → is_some (unless_null member) ≡ true → (column_of read false member).state ≢ Absent
optional-there read None h = cc
optional-there read (Some Value.null) h = cc
optional-there read (Some (Value.boolean b)) h = λ (e : NotArray ≡ Absent). cc
optional-there read (Some (Value.number t)) h = λ (e : NotArray ≡ Absent). cc
optional-there read (Some (Value.string t)) h = λ (e : NotArray ≡ Absent). cc
optional-there read (Some (Value.array vs)) h = λ (e : Array ≡ Absent). cc
optional-there read (Some (Value.object ms)) h = λ (e : NotArray ≡ Absent). cc

-- a needed one exactly where its member is
pub needed-there : (read : Value → Cell) (v : Value) → (column_of read true (Some v)).state ≢ Absent
needed-there read Value.null = λ (e : NotArray ≡ Absent). cc
needed-there read (Value.boolean b) = λ (e : NotArray ≡ Absent). cc
needed-there read (Value.number t) = λ (e : NotArray ≡ Absent). cc
needed-there read (Value.string t) = λ (e : NotArray ≡ Absent). cc
needed-there read (Value.array vs) = λ (e : Array ≡ Absent). cc
needed-there read (Value.object ms) = λ (e : NotArray ≡ Absent). cc

-- the deltas count where the times are absent and the deltas aren't
pub deltas-count : (table : Option Value) → (optional_cells reading.Time table (codes "time")).state ≡ Absent → (optional_cells reading.Time table (codes "timeDeltas")).state ≢ Absent →
    (has_deltas table ≡ true) × (time_cells table ≡ optional_cells reading.Time table (codes "timeDeltas"))
deltas-count table time deltas =
    let no_time : is_some (unless_null (member_of table (codes "time"))) ≡ false = elim (cases_Bool (is_some (unless_null (member_of table (codes "time"))))) [
      | inl there ↦ absurd (optional-there (read_cell reading.Time) (member_of table (codes "time")) there time)
      | inr gone ↦ gone
    ] in
    let some_deltas : is_some (unless_null (member_of table (codes "timeDeltas"))) ≡ true = elim (cases_Bool (is_some (unless_null (member_of table (codes "timeDeltas"))))) [
      | inl there ↦ there
      | inr gone ↦ absurd (deltas (ap (λ (c : Cells). c.state) (optional-absent (read_cell reading.Time) (member_of table (codes "timeDeltas")) gone)))
    ] in
    let has : has_deltas table ≡ true = rw (no_time, some_deltas) refl in
    (has, ap (λ (b : Bool). optional_cells reading.Time table (if b then codes "timeDeltas" else codes "time")) has)

pub time-counts : (table : Option Value) → has_deltas table ≡ false → time_cells table ≡ optional_cells reading.Time table (codes "time")
time-counts table h = ap (λ (b : Bool). optional_cells reading.Time table (if b then codes "timeDeltas" else codes "time")) h

-- where the times are there, or the deltas are absent, the times count
pub times-there : (table : Option Value) → (optional_cells reading.Time table (codes "time")).state ≢ Absent → has_deltas table ≡ false
times-there table time = elim (cases_Bool (is_some (unless_null (member_of table (codes "time"))))) [
  | inl there ↦ rw there refl
  | inr gone ↦ absurd (time (ap (λ (c : Cells). c.state) (optional-absent (read_cell reading.Time) (member_of table (codes "time")) gone)))
]

and-false : (b : Bool) → (b && false) ≡ false
and-false true = refl
and-false false = refl

pub deltas-absent : (table : Option Value) → (optional_cells reading.Time table (codes "timeDeltas")).state ≡ Absent → has_deltas table ≡ false
deltas-absent table deltas = elim (cases_Bool (is_some (unless_null (member_of table (codes "timeDeltas"))))) [
  | inl there ↦ absurd (optional-there (read_cell reading.Time) (member_of table (codes "timeDeltas")) there deltas)
  | inr gone ↦ rw gone (and-false (not (is_some (unless_null (member_of table (codes "time"))))))
]

-- there are markers exactly where their phases aren't absent
markers-by : (member : Option Value) → ((raw_column reading.Phase true member).state ≡ Absent → is_some member ≡ false) × ((raw_column reading.Phase true member).state ≢ Absent → is_some member ≡ true)
markers-by None = (λ e. refl, λ (ne : Absent ≢ Absent). absurd (ne refl))
markers-by (Some v) = (λ e. absurd (needed-there (read_cell reading.Phase) v e), λ ne. refl)

pub markers-absent : (table : Option Value) → (raw_column reading.Phase true (member_of table (codes "phase"))).state ≡ Absent → has_markers table ≡ false
markers-absent table e = (markers-by (member_of table (codes "phase"))).0 e

pub markers-there : (table : Option Value) → (raw_column reading.Phase true (member_of table (codes "phase"))).state ≢ Absent → has_markers table ≡ true
markers-there table ne = (markers-by (member_of table (codes "phase"))).1 ne

-- of the two readings of the weights that of their unit counts
pub weight-times : (table : Option Value) (name : List ℕ) → optional_cells (weight_reading (Some unit.Ns)) table name ≡ optional_cells reading.Time table name
weight-times table name = refl

pub weight-counts : (u : Option WeightUnit) (table : Option Value) (name : List ℕ) → u ≢ Some unit.Ns → optional_cells (weight_reading u) table name ≡ optional_cells reading.Count table name
weight-counts None table name h = refl
weight-counts (Some unit.Samples) table name h = refl
weight-counts (Some unit.Bytes) table name h = refl
weight-counts (Some unit.Ns) table name h = absurd (h refl)
