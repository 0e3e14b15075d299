-- Written cells are read as what they are written of.
use Rattle.std.proofs.Common.{◌≡◌, ◌∙◌, ℕ, ◌+◌, ◌*◌, ◌^◌, ◌<◌, ◌≤◌, List, [], Option, None, Some, codes, refl, ap, arith, Bool, true, false}
use Rattle.std.specs.Prelude.{ℤ, pos, negsuc, unsigned_abs, IfSome, if◌then◌else◌}
use Rattle.std.specs.Fmt.{decimal, signed_decimal}
use Rattle.std.specs.Option.{option_map, option_map_or}
use Rattle.std.proofs.Math.Nat.{mul_assoc, mul-add, add-mul}
use Rattle.std.proofs.lemmas.Int.{ints}
use Rattle.prof_time.specs.Numeral.{Numeral, IsNumber}
use Rattle.prof_time.specs.Numeral as n
use Rattle.prof_time.specs.Scaled.{over, under, IsScaled, IsExact}
use Rattle.prof_time.specs.Spelling.{scaled_text}
use Rattle.prof_time.proofs.Values.{ten_pos}
use Rattle.prof_told.proofs.Numbers.{decimal_is_exact, signed_decimal_is_exact, scaled_text_is_scaled}
use Rattle.prof_grammar.specs.Value.{boolean, string}
use Rattle.prof_raw.specs.declared.limits.TheConstants.{GREATEST}
use Rattle.prof_raw.specs.declared.raw.Unit.{Unit as WeightUnit}
use Rattle.prof_raw.specs.declared.raw.Unit.TheVariants as unit
use Rattle.prof_raw.specs.declared.rule.Rule.{Rule}
use Rattle.prof_raw.specs.declared.rule.Rule.TheVariants as rule
use Rattle.prof_tables.specs.Ties.{InRange}
use Rattle.prof_layout.specs.declared.reading.Reading.TheVariants as reading
use Rattle.prof_layout.specs.Numbers.{whole_of}
use Rattle.prof_layout.specs.Columns.{read_cell, whole_cell}
use Rattle.prof_layout.specs.Tables.{weight_unit, weight_reading}
use Rattle.prof_layout.proofs.Clamped.{clamped_same}
use Rattle.prof_layout.proofs.ReadCells.{scaled-within, whole-read}
use Rattle.prof_write.specs.Cells.{index, maybe_index, resource_index, time, maybe_time, weight, weight_type}
use Rattle.prof_back.specs.Gathered.{passed}

-- ---- the number -1, and numbers in their range

minus_one : Numeral
minus_one = record { negative = true; whole = codes "1"; fraction = []; down = false; exponent = [] }

pub minus_one_exact : IsExact (codes "-1") (negsuc 0)
unfolding over under minus_one
minus_one_exact = record {
  numeral = minus_one;
  reads = n.number n.IsSign.minus (n.int (omega arith, omega arith) (λ e. omega arith) tt) n.no_fraction n.no_exponent;
  size = 1;
  exact = refl;
  is = refl;
}

within_greatest : (z : ℤ) → InRange z → unsigned_abs z ≤ GREATEST
within_greatest (pos m) h = omega (arith, ints, h.0, h.1)
within_greatest (negsuc m) h = omega (arith, ints, h.0, h.1)

pub in_range_small : (z : ℤ) → InRange z → unsigned_abs z < 2 ^ 64
in_range_small z h = let most = within_greatest z h in omega arith

under_pos : (m : Numeral) → 0 < under m
unfolding under
under_pos m = ten_pos _

-- an exact value is the nearest whole number
exact_scaled : (text : List ℕ) (z : ℤ) → IsExact text z → IsScaled text 0 z
exact_scaled text z h =
    let b = under h.numeral in
    let some : 0 < b = under_pos h.numeral in
    let low : 2 * h.size * b ≡ 2 * (h.size * b) = mul_assoc 2 h.size b in
    let high : 2 * (h.size + 1) * b ≡ 2 * h.size * b + 2 * b = ap (λ x. x * b) (mul-add 2 h.size 1) ∙ add-mul (2 * h.size) (2 * 1) b in
    let exact : over h.numeral 0 ≡ h.size * b = h.exact in
    record { numeral = h.numeral; reads = h.reads; size = h.size; nearest = record { low = omega arith; high = omega arith }; is = h.is }

-- ---- cells

whole_back : (broken : Rule) (text : List ℕ) (z : ℤ) → IsExact text z → unsigned_abs z < 2 ^ 63 → whole_cell broken (whole_of text) ≡ passed (Some z)
whole_back broken text z h small = whole-read text broken z h ∙ ap (λ (y : ℤ). passed (Some y)) (clamped_same z small)

natural_back : (broken : Rule) (n : ℕ) → n < 2 ^ 63 → whole_cell broken (whole_of (decimal n)) ≡ passed (Some (pos n))
natural_back broken n h = whole_back broken (decimal n) (pos n) (decimal_is_exact n (omega arith)) h

pub index_back : (n : ℕ) → n < 2 ^ 63 → read_cell reading.Index (index n) ≡ passed (Some (pos n))
index_back n h = natural_back rule.IndexOut n h

pub phase_back : (n : ℕ) → n < 2 ^ 63 → read_cell reading.Phase (index n) ≡ passed (Some (pos n))
phase_back n h = natural_back rule.Phase n h

pub maybe_index_back : (o : Option ℕ) → IfSome o (λ n. n < 2 ^ 63) → read_cell reading.MaybeIndex (maybe_index o) ≡ passed (option_map pos o)
maybe_index_back None h = refl
maybe_index_back (Some n) h = natural_back rule.IndexOut n h

pub resource_back : (o : Option ℕ) → IfSome o (λ n. n < 2 ^ 63) → read_cell reading.Index (resource_index o) ≡ passed (Some (option_map_or pos o (negsuc 0)))
resource_back None h = whole_back rule.IndexOut (codes "-1") (negsuc 0) minus_one_exact (omega arith)
resource_back (Some n) h = natural_back rule.IndexOut n h

pub truth_back : (b : Bool) → read_cell reading.Truth (boolean b) ≡ passed (Some (if b then pos 1 else pos 0))
truth_back b = refl

pub time_back : (z : ℤ) → InRange z → read_cell reading.Time (time z) ≡ passed (Some z)
time_back z h = scaled-within (scaled_text 6 z) 6 z (scaled_text_is_scaled 6 z (in_range_small z h)) (within_greatest z h)

pub maybe_time_back : (o : Option ℤ) → IfSome o InRange → read_cell reading.MaybeTime (maybe_time o) ≡ passed o
maybe_time_back None h = refl
maybe_time_back (Some z) h = time_back z h

pub unit_back : (u : WeightUnit) → weight_unit (Some (string (weight_type u))) ≡ Some u
unit_back unit.Samples = refl
unit_back unit.Bytes = refl
unit_back unit.Ns = refl

pub weight_back : (u : WeightUnit) (z : ℤ) → InRange z → read_cell (weight_reading (Some u)) (weight u z) ≡ passed (Some z)
weight_back unit.Ns z h = time_back z h
weight_back unit.Samples z h = scaled-within (signed_decimal z) 0 z (exact_scaled (signed_decimal z) z (signed_decimal_is_exact z (in_range_small z h))) (within_greatest z h)
weight_back unit.Bytes z h = scaled-within (signed_decimal z) 0 z (exact_scaled (signed_decimal z) z (signed_decimal_is_exact z (in_range_small z h))) (within_greatest z h)
