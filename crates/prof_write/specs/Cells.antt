-- Cells and columns as JSON values.
use Rattle.std.specs.Prelude.{ℕ, ◌==◌, ℤ, Bool, List, [], ◌∷◌, Option, None, Some, codes, map, if◌then◌else◌}
use Rattle.std.specs.Fmt.{decimal, signed_decimal}
use Rattle.std.specs.List.{enumerate_from}
use Rattle.prof_grammar.specs.Value.{Value, null, number, string, array, object}
use Rattle.prof_time.specs.Spelling.{scaled_text}
use Rattle.prof_raw.specs.declared.raw.Unit.{Unit as WeightUnit}
use Rattle.prof_raw.specs.declared.raw.Unit.TheVariants as unit
use Rattle.prof_write.specs.Compact.{compact, members_of, values_of}

-- a column: the cell of each row
abbrev pub column : {A : Type 0} → (A → Value) → List A → Value
column cell rows = array (values_of (map cell rows))

abbrev pub object_of : List (List ℕ × Value) → Value
object_of ms = object (members_of ms)

abbrev pub index : ℕ → Value
index n = number (decimal n)

abbrev pub maybe_index : Option ℕ → Value
maybe_index None = null
maybe_index (Some n) = index n

-- -1 stands for no resource
abbrev pub resource_index : Option ℕ → Value
resource_index None = number (codes "-1")
resource_index (Some r) = index r

-- nanoseconds, written in milliseconds
abbrev pub time : ℤ → Value
time ns = number (scaled_text 6 ns)

abbrev pub maybe_time : Option ℤ → Value
maybe_time None = null
maybe_time (Some ns) = time ns

-- weights in nanoseconds are written as times, and the others as whole numbers
abbrev pub weight : WeightUnit → ℤ → Value
weight unit.Ns n = time n
weight unit.Samples n = number (signed_decimal n)
weight unit.Bytes n = number (signed_decimal n)

abbrev pub weight_type : WeightUnit → List ℕ
weight_type unit.Samples = codes "samples"
weight_type unit.Bytes = codes "bytes"
weight_type unit.Ns = codes "tracing-ms"

-- texts, each under its number
abbrev pub numbered : List (List ℕ) → List (List ℕ × Value)
numbered texts = map (λ (p : ℕ × List ℕ). (decimal p.0, string p.1)) (enumerate_from 0 texts)

-- the texts of a marker, and null where it has none
abbrev pub data_value : List (List ℕ) → Value
data_value [] = null
data_value (text ∷ texts) = object_of (numbered (text ∷ texts))

-- the default category is grey, and the others are blue
abbrev pub color : Bool → List ℕ
color is_default = if is_default then codes "grey" else codes "blue"

abbrev pub category_value : ℕ → ℕ × List ℕ → Value
category_value default row = object_of ((codes "name", string row.1) ∷ (codes "color", string (color (row.0 == default))) ∷ [])

-- the cells of rows, as texts
abbrev pub texts_of_cells : {A : Type 0} → (A → Value) → List A → List (List ℕ)
texts_of_cells cell rows = map compact (map cell rows)
