-- Names that aren't the same.
use Rattle.std.proofs.Common.{◌≡◌, ℕ, List, Bool, false, refl, inl, inr}
use Rattle.std.specs.Prelude.{if◌then◌else◌}
use Rattle.std.proofs.lemmas.Bool.{cases_Bool}
use Rattle.prof_grammar.specs.Value.{same_text}
use Rattle.prof_layout.proofs.Members.{same_text-true}

pub other-text : (xs ys : List ℕ) → (xs ≡ ys → ⊥) → same_text xs ys ≡ false
other-text xs ys ne = elim (cases_Bool (same_text xs ys)) [
  | inl same ↦ absurd (ne (same_text-true xs ys same))
  | inr other ↦ other
]

-- a slot of another name stays
pub stays : {X : Type 0} (same : Bool) (taken before : X) → same ≡ false → before ≡ (if same then taken else before)
stays same taken before e = rw e refl
