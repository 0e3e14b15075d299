-- What the cells of checked columns stand for.
use Rattle.std.specs.Prelude.{ℕ, zero, suc, ℤ, pos, negsuc, List, Bool, true, false, Option, None, Some}
use Rattle.prof_raw.specs.declared.raw.State.{State}
use Rattle.prof_raw.specs.declared.raw.State.TheVariants.{Absent, NotArray, Array}
use Rattle.prof_raw.specs.Cells.{cell_at}

-- a number; null is 0
abbrev pub number_of : Option ℤ → ℤ
number_of None = pos 0
number_of (Some n) = n

-- an index; what is none is 0
abbrev pub index_of : Option ℤ → ℕ
index_of (Some (pos n)) = n
index_of (Some (negsuc n)) = 0
index_of None = 0

-- null and -1 stand for none
abbrev pub index_or_none : Option ℤ → Option ℕ
index_or_none (Some (pos n)) = Some n
index_or_none (Some (negsuc n)) = None
index_or_none None = None

-- 1 is true; null and 0 are false
abbrev pub truth_of : Option ℤ → Bool
truth_of (Some (pos zero)) = false
truth_of (Some (pos (suc n))) = true
truth_of (Some (negsuc n)) = true
truth_of None = false

-- without a weight column each sample weighs 1
abbrev pub weight_in : State → List (Option ℤ) → ℕ → ℤ
weight_in Absent cells k = pos 1
weight_in NotArray cells k = pos 1
weight_in Array cells k = number_of (cell_at cells k)
