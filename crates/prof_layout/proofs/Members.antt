-- One more member of an object.
use Rattle.std.proofs.Common.{◌≡◌, ℕ, Option, Some, List, [], ◌∷◌, ◌++◌, true, false, refl, sym, ◌∙◌, ap, arith, append_assoc, nat_eq, inl, inr}
use Rattle.std.specs.Prelude.{if◌then◌else◌}
use Rattle.std.proofs.lemmas.Bool.{cases_Bool}
use Rattle.std.proofs.lemmas.Bool.Decides.{nat_tests}
use Rattle.std.proofs.lemmas.List.{append-nil}
use Rattle.prof_grammar.specs.Event.{Event}
use Rattle.prof_grammar.specs.Value.{Value, Members, no_members, member, snoc, last_named, same_text, flatten, flatten_members}

pub flatten_members-snoc : (ms : Members) (n : List ℕ) (v : Value) → flatten_members (snoc ms n v) ≡ flatten_members ms ++ (Event.name n ∷ flatten v)
flatten_members-snoc no_members n v = ap (λ (t : List Event). Event.name n ∷ t) (append-nil (flatten v))
flatten_members-snoc (member m w ms) n v =
    ap (λ (t : List Event). Event.name m ∷ t) (ap (λ (t : List Event). flatten w ++ t) (flatten_members-snoc ms n v) ∙ sym (append_assoc (flatten w) (flatten_members ms) (Event.name n ∷ flatten v)))

pub same_text-true : (xs ys : List ℕ) → same_text xs ys ≡ true → xs ≡ ys
same_text-true [] [] h = refl
same_text-true [] (y ∷ ys) h = cc
same_text-true (x ∷ xs) [] h = cc
same_text-true (x ∷ xs) (y ∷ ys) h = elim (cases_Bool (nat_eq x y)) [
  | inl e ↦ (let f : x ≡ y = grind (arith, nat_tests) in let k : same_text xs ys ≡ true = rw e at h in let t = same_text-true xs ys k in cc)
  | inr e ↦ (let k : false ≡ true = rw e at h in cc)
]

pub same_text-self : (xs : List ℕ) → same_text xs xs ≡ true
same_text-self [] = refl
same_text-self (x ∷ xs) = let e : nat_eq x x ≡ true = grind (arith, nat_tests) in rw e (same_text-self xs)

pub same_text-swap : (xs ys : List ℕ) → same_text xs ys ≡ same_text ys xs
same_text-swap [] [] = refl
same_text-swap [] (y ∷ ys) = refl
same_text-swap (x ∷ xs) [] = refl
same_text-swap (x ∷ xs) (y ∷ ys) = elim (cases_Bool (nat_eq x y)) [
  | inl e ↦ (let f : nat_eq y x ≡ true = grind (arith, nat_tests) in rw (e, f) (same_text-swap xs ys))
  | inr e ↦ (let f : nat_eq y x ≡ false = grind (arith, nat_tests) in rw (e, f) refl)
]

-- a member of that name is the last of that name
pub last_named-same : (name : List ℕ) (ms : Members) (n : List ℕ) (v : Value) → same_text n name ≡ true → last_named name (snoc ms n v) ≡ Some v
last_named-same name no_members n v h = rw h refl
last_named-same name (member m w ms) n v h = rw (last_named-same name ms n v h) refl

-- one of another name isn't
pub last_named-other : (name : List ℕ) (ms : Members) (n : List ℕ) (v : Value) → same_text n name ≡ false → last_named name (snoc ms n v) ≡ last_named name ms
last_named-other name no_members n v h = rw h refl
last_named-other name (member m w ms) n v h = rw (last_named-other name ms n v h) refl

pub last_named-snoc : (name : List ℕ) (ms : Members) (n : List ℕ) (v : Value) → last_named name (snoc ms n v) ≡ (if same_text n name then Some v else last_named name ms)
last_named-snoc name ms n v = elim (cases_Bool (same_text n name)) [
  | inl e ↦ last_named-same name ms n v e ∙ rw e refl
  | inr e ↦ last_named-other name ms n v e ∙ rw e refl
]

-- A slot that holds what is read of the last member of its name, whatever is read: it takes a member of that name, and
-- one of another name leaves it.
pub slot-same : {X : Type 0} (read : Option Value → X) (name : List ℕ) (ms : Members) (n : List ℕ) (v : Value) (slot : X) → same_text n name ≡ true →
    slot ≡ read (Some v) → slot ≡ read (last_named name (snoc ms n v))
slot-same read name ms n v slot h e = e ∙ ap read (sym (last_named-same name ms n v h))

pub slot-other : {X : Type 0} (read : Option Value → X) (name : List ℕ) (ms : Members) (n : List ℕ) (v : Value) (slot : X) → same_text n name ≡ false →
    slot ≡ read (last_named name ms) → slot ≡ read (last_named name (snoc ms n v))
slot-other read name ms n v slot h e = e ∙ ap read (sym (last_named-other name ms n v h))

-- both, where what becomes of the slot is told by the name
pub slot : {X : Type 0} (read : Option Value → X) (name : List ℕ) (ms : Members) (n : List ℕ) (v : Value) (before after : X) →
    before ≡ read (last_named name ms) → after ≡ (if same_text n name then read (Some v) else before) → after ≡ read (last_named name (snoc ms n v))
slot read name ms n v before after b a = elim (cases_Bool (same_text n name)) [
  | inl e ↦ slot-same read name ms n v after e (rw e at a)
  | inr e ↦ slot-other read name ms n v after e ((rw e at a) ∙ b)
]
