-- What is gathered of an object or of an array, as one more of its members or items is taken.
use Rattle.std.proofs.Common.{◌≡◌, ◌⊎◌, ◌++◌, ◌∷◌, [], ℕ, List, Option, Some, true, false, sym, ap, ◌∙◌, subst, inl, inr}
use Rattle.std.proofs.lemmas.Bool.{cases_Bool}
use Rattle.prof_grammar.specs.Event as told
use Rattle.prof_grammar.specs.Value.{Value, Members, snoc, last_named, same_text}
use Rattle.prof_layout.proofs.Members.{last_named-same, last_named-other, same_text-true}
use Rattle.prof_gather.specs.Feeding.{Told}
use Rattle.prof_gather.specs.Taking.{Reads, ReadsOn, TakesMember, TakesItem}

-- The slot holds what it should of a member of its name, or the member has another name and the slot is what it was.
abbrev pub Goes : {X : Type 0} → (Option Value → X → Type 0) → List ℕ → List ℕ → Value → X → X → Type 0
Goes Holds name n v before after = ((same_text n name ≡ true) × Holds (Some v) after) ⊎ ((same_text n name ≡ false) × (after ≡ before))

pub slot_after : {X : Type 0} (Holds : Option Value → X → Type 0) (name n : List ℕ) (v : Value) (before after : X) → Goes Holds name n v before after →
    (ms : Members) → Holds (last_named name ms) before → Holds (last_named name (snoc ms n v)) after
slot_after {X} Holds name n v before after g ms h = elim g [
  | inl t ↦ subst (λ (o : Option Value). Holds o after) (sym (last_named-same name ms n v t.0)) t.1
  | inr s ↦ subst (λ (o : Option Value). Holds o after) (sym (last_named-other name ms n v s.0)) (subst (λ (x : X). Holds (last_named name ms) x) (sym s.1) h)
]

-- a name that isn't this one
pub differs : (xs ys : List ℕ) → (xs ≡ ys → ⊥) → same_text xs ys ≡ false
differs xs ys h = elim (cases_Bool (same_text xs ys)) [
  | inl t ↦ absurd (h (same_text-true xs ys t))
  | inr f ↦ f
]

-- a member is taken whose name is said to be this one
pub takes : {S : Type 0} (Is : Members → S → Type 0) (old new : Told) (s t : S) (said name : List ℕ) → old.last ≡ Some (told.name said) → said ≡ name →
    (v : Value) → Reads old new v → ((ms : Members) → Is ms s → Is (snoc ms name v) t) → TakesMember Is old new s t
takes Is old new s t said name l e v r k = record {
  name = name;
  last = l ∙ ap (λ (x : List ℕ). Some (told.name x)) e;
  value = v;
  reads = r;
  taken = k;
}

-- the item that was read is taken
pub takes_item : {S : Type 0} (Is : S → List Value → S → Type 0) (old new : Told) (s t : S) (v : Value) → ReadsOn old new v →
    ((first : S) (vs : List Value) → Is first vs s → Is first (vs ++ v ∷ []) t) → TakesItem Is old new s t
takes_item Is old new s t v r k = record { value = v; reads = r; taken = k }
