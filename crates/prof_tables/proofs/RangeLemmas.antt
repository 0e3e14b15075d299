-- A number that passes is in the range.
use Rattle.std.proofs.Common.{◌≡◌, ℕ, ◌<◌, ◌≤◌, Option, None, Some, ◌⊎◌, inl, inr, refl, arith, w64}
use Rattle.std.proofs.lemmas.Bool.Decides.{nat_tests}
use Rattle.std.proofs.lemmas.Int.{ints}
use Rattle.std.specs.Prelude.{ℤ, pos, negsuc, IfSome, IsSome, FitsSigned}
use Rattle.prof_raw.specs.declared.column.CellKind.TheVariants as kind
use Rattle.prof_raw.specs.declared.rule.Rule.{Rule}
use Rattle.prof_raw.specs.Rules.{range_rule, cell_rule}
use Rattle.prof_raw.specs.declared.limits.TheConstants.{GREATEST}
use Rattle.prof_raw.specs.declared.moment.Moment.TheVariants.{Start, End}
use Rattle.prof_raw.specs.Moments.{null_rule}
use Rattle.prof_raw.specs.CellValues.{index_of}
use Rattle.prof_tables.specs.Ties.{InRange}

pos-within : (n : ℕ) → range_rule (pos n) ≡ None → n ≤ GREATEST
pos-within n h = grind (arith, nat_tests)

negsuc-within : (n : ℕ) → range_rule (negsuc n) ≡ None → n < GREATEST
negsuc-within n h = grind (arith, nat_tests)

pub in_range : (n : ℤ) → range_rule n ≡ None → InRange n
in_range (pos n) h = let e : n ≤ GREATEST = pos-within n h in (omega (arith, ints), omega (arith, ints))
in_range (negsuc n) h = let e : n < GREATEST = negsuc-within n h in (omega (arith, ints), omega (arith, ints))

pub maybe_in_range : (o : Option ℤ) → cell_rule kind.MaybeNumber 0 o ≡ None → IfSome o InRange
maybe_in_range None h = tt
maybe_in_range (Some n) h = in_range n h

-- such a number fits its type
pub in_range-fits : (n : ℤ) → InRange n → FitsSigned w64 n
in_range-fits (pos n) h = omega (arith, ints, h.0, h.1)
in_range-fits (negsuc n) h = omega (arith, ints, h.0, h.1)

some_none : (r : Rule) → Some r ≡ None → ⊥
some_none r h = cc

-- a time that its phase needs is there
pub start_there : (phase : ℕ) (o : Option ℤ) → null_rule Start phase o ≡ None → phase < 3 → IsSome o
start_there phase None h lt = grind (arith, nat_tests)
start_there phase (Some n) h lt = refl

pub end_there : (phase : ℕ) (o : Option ℤ) → null_rule End phase o ≡ None → (phase ≡ 1) ⊎ (phase ≡ 3) → IsSome o
end_there phase None h (inl e) = absurd (some_none _ (rw e at h))
end_there phase None h (inr e) = absurd (some_none _ (rw e at h))
end_there phase (Some n) h e = refl

-- an index that passes is in its range
pub index-below : (limit : ℕ) (o : Option ℤ) → cell_rule (kind.Index limit) 0 o ≡ None → index_of o < limit
index-below limit None h = cc
index-below limit (Some (pos n)) h = grind (arith, nat_tests)
index-below limit (Some (negsuc n)) h = cc

pub phase-below : (o : Option ℤ) → cell_rule kind.Phase 0 o ≡ None → index_of o < 4
phase-below None h = cc
phase-below (Some (pos n)) h = grind (arith, nat_tests)
phase-below (Some (negsuc n)) h = cc
