-- The running sum of the deltas.
use Rattle.std.proofs.Common.{◌≡◌, ℕ, suc, ◌<◌, Option, None, Some, List, true, refl, sym, ◌∙◌, ap}
use Rattle.std.specs.Prelude.{ℤ, ◌+ℤ◌}
use Rattle.std.specs.Option.{option_or}
use Rattle.prof_raw.specs.declared.column.CellKind.TheVariants as kind
use Rattle.prof_raw.specs.declared.rule.Rule.{Rule}
use Rattle.prof_raw.specs.declared.rule.BadCell.{BadCell}
use Rattle.prof_raw.specs.Cells.{cell_at}
use Rattle.prof_raw.specs.Rules.{row_rule, range_rule, first_row}
use Rattle.prof_raw.specs.Moments.{time_rule, sum_below}
use Rattle.prof_raw.specs.CellValues.{number_of}
use Rattle.prof_raw.proofs.FirstRowLemmas.{first_row-found}

or-first : {A : Type 0} (a b : Option A) (x : A) → a ≡ Some x → option_or a b ≡ Some x
or-first a b x h = rw h refl

or-second : {A : Type 0} (a b : Option A) (x : A) → a ≡ None → b ≡ Some x → option_or a b ≡ Some x
or-second a b x h k = rw h k

pub delta-cell : (bad : Option BadCell) (cells : List (Option ℤ)) (row rows : ℕ) (r : Rule) → first_row (time_rule true bad cells) row ≡ None → row < rows →
    Some r ≡ row_rule kind.Number bad cells row → Some (record { row = row; rule = r }) ≡ first_row (time_rule true bad cells) rows
delta-cell bad cells row rows r none lt e = sym (first_row-found (time_rule true bad cells) row rows r none (or-first (row_rule kind.Number bad cells row) (range_rule (sum_below cells (suc row))) r (sym e)) lt)

pub delta-sum : (bad : Option BadCell) (cells : List (Option ℤ)) (row rows : ℕ) (r : Rule) (sum : ℤ) → first_row (time_rule true bad cells) row ≡ None → row < rows →
    None ≡ row_rule kind.Number bad cells row → sum ≡ sum_below cells row → range_rule (sum +ℤ number_of (cell_at cells row)) ≡ Some r →
    Some (record { row = row; rule = r }) ≡ first_row (time_rule true bad cells) rows
delta-sum bad cells row rows r sum none lt own e out =
    sym (first_row-found (time_rule true bad cells) row rows r none (or-second (row_rule kind.Number bad cells row) (range_rule (sum_below cells (suc row))) r (sym own)
    (ap (λ (z : ℤ). range_rule (z +ℤ number_of (cell_at cells row))) (sym e) ∙ out)) lt)
