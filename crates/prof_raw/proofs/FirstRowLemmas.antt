-- The first row that breaks a rule.
use Rattle.std.proofs.Common.{◌≡◌, ℕ, zero, suc, ◌<◌, Option, None, Some, inl, inr, arith, refl, subst}
use Rattle.std.proofs.lemmas.Bool.{cases_lt}
use Rattle.std.specs.Option.{option_or}
use Rattle.std.specs.Prelude.{option_map}
use Rattle.prof_raw.specs.declared.rule.Rule.{Rule}
use Rattle.prof_raw.specs.declared.rule.BadCell.{BadCell}
use Rattle.prof_raw.specs.Rules.{first_row}

-- no row breaks a rule before one more that breaks none
pub first_row-next : (breaks : ℕ → Option Rule) (rows : ℕ) → first_row breaks rows ≡ None → breaks rows ≡ None → first_row breaks (suc rows) ≡ None
first_row-next breaks rows before here = rw (before, here) refl

first_row-here : (breaks : ℕ → Option Rule) (row : ℕ) (r : Rule) → first_row breaks row ≡ None → breaks row ≡ Some r → first_row breaks (suc row) ≡ Some (record { row = row; rule = r })
first_row-here breaks row r before here = rw (before, here) refl

-- the row that breaks a rule where none before it does is the first, however many follow
pub first_row-found : (breaks : ℕ → Option Rule) (row rows : ℕ) (r : Rule) → first_row breaks row ≡ None → breaks row ≡ Some r → row < rows → first_row breaks rows ≡ Some (record { row = row; rule = r })
first_row-found breaks row zero r before here h = absurd (omega arith)
first_row-found breaks row (suc rows) r before here h = elim (cases_lt row rows) [
  | inl l ↦ (let e = first_row-found breaks row rows r before here l in rw e refl)
  | inr g ↦ (let e : row ≡ rows = omega arith in
      let P : ℕ → Type 0 = λ n. first_row breaks (suc n) ≡ Some (record { row = row; rule = r }) in
      subst P e (first_row-here breaks row r before here))
]

pub or_none : {A : Type 0} (a b : Option A) → option_or a b ≡ None → (a ≡ None) × (b ≡ None)
or_none None b h = (refl, h)
or_none (Some x) b h = cc

pub map_none : {A B : Type 0} (f : A → B) (a : Option A) → option_map f a ≡ None → a ≡ None
map_none f None h = refl
map_none f (Some x) h = cc

-- where no row does, each breaks none
pub first_row-none : (breaks : ℕ → Option Rule) (row rows : ℕ) → first_row breaks rows ≡ None → row < rows → breaks row ≡ None
first_row-none breaks row zero none h = absurd (omega arith)
first_row-none breaks row (suc rows) none h =
    let parts = or_none (first_row breaks rows) (option_map (λ (r : Rule). let b : BadCell = record { row = rows; rule = r } in b) (breaks rows)) none in
    elim (cases_lt row rows) [
      | inl l ↦ first_row-none breaks row rows parts.0 l
      | inr g ↦ (let e : rows ≡ row = omega arith in
          let P : ℕ → Type 0 = λ n. breaks n ≡ None in
          subst P e (map_none _ (breaks rows) parts.1))
    ]
