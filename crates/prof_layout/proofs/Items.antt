-- The items of an array, one more at a time.
use Rattle.std.proofs.Common.{◌≡◌, ℕ, zero, suc, ◌+◌, ◌<◌, ◌≤◌, Option, None, Some, List, [], ◌∷◌, ◌++◌, Bool, true, false, refl, sym, ◌∙◌, ap, arith, append_assoc, length, take, inl, inr}
use Rattle.std.specs.Prelude.{nat_le, if◌then◌else◌}
use Rattle.std.specs.List.{flat_map}
use Rattle.std.specs.Option.{option_or, option_map}
use Rattle.std.proofs.lemmas.Bool.{cases_lt, cases_Bool}
use Rattle.std.proofs.lemmas.List.{append-nil, take_all, length-take-le}
use Rattle.prof_grammar.specs.Event.{Event}
use Rattle.prof_grammar.specs.Value.{Value, Values, no_values, value, items, flatten, flatten_values}
use Rattle.prof_raw.specs.declared.rule.Rule.TheVariants as rule
use Rattle.prof_raw.specs.Rules.{whole_fault}
use Rattle.prof_layout.specs.Lists.{first_where, first_unfit, wrong_kind, list_fault}
use Rattle.prof_layout.proofs.KeptValue.{list_kept}

abbrev pub of_list : List Value → Values
of_list [] = no_values
of_list (v ∷ vs) = value v (of_list vs)

pub items-of_list : (vs : List Value) → items (of_list vs) ≡ vs
items-of_list [] = refl
items-of_list (v ∷ vs) = ap (λ (t : List Value). v ∷ t) (items-of_list vs)

pub flatten_values-of_list : (vs : List Value) → flatten_values (of_list vs) ≡ flat_map flatten vs
flatten_values-of_list [] = refl
flatten_values-of_list (v ∷ vs) = ap (λ (t : List Event). flatten v ++ t) (flatten_values-of_list vs)

-- the events of the items, and those of one more
pub flatten-push : (vs : List Value) (v : Value) → flat_map flatten (vs ++ v ∷ []) ≡ flat_map flatten vs ++ flatten v
flatten-push [] v = append-nil (flatten v)
flatten-push (w ∷ vs) v = ap (λ (t : List Event). flatten w ++ t) (flatten-push vs v) ∙ sym (append_assoc (flatten w) (flat_map flatten vs) (flatten v))

pub length-push : {X : Type 0} (xs : List X) (x : X) → length (xs ++ x ∷ []) ≡ suc (length xs)
length-push [] x = refl
length-push (y ∷ xs) x = ap suc (length-push xs x)

-- where more than the most are kept, one more item isn't
pub kept-full : {X : Type 0} (most : ℕ) (xs : List X) (x : X) → most < length (take (suc most) xs) → take (suc most) (xs ++ x ∷ []) ≡ take (suc most) xs
kept-full most [] x h = absurd (omega arith)
kept-full zero (y ∷ xs) x h = refl
kept-full (suc most) (y ∷ xs) x h = ap (λ (t : List _). y ∷ t) (kept-full most xs x (omega arith))

-- where no more than the most are, each was, and one more is
pub kept-whole : {X : Type 0} (most : ℕ) (xs : List X) → length (take (suc most) xs) ≤ most → take (suc most) xs ≡ xs
kept-whole most xs h = elim (cases_lt most (length xs)) [
  | inl over ↦ (let e = length-take-le (suc most) xs (omega arith) in absurd (omega arith))
  | inr within ↦ take_all (suc most) xs (omega arith)
]

pub kept-push : {X : Type 0} (most : ℕ) (xs : List X) (x : X) → length (take (suc most) xs) ≤ most → take (suc most) (xs ++ x ∷ []) ≡ take (suc most) xs ++ x ∷ []
kept-push most xs x h =
    let whole : take (suc most) xs ≡ xs = kept-whole most xs h in
    let few : length xs ≤ most = let e : length (take (suc most) xs) ≡ length xs = ap (λ (t : List _). length t) whole in omega arith in
    take_all (suc most) (xs ++ x ∷ []) (let e = length-push xs x in omega arith) ∙ ap (λ (t : List _). t ++ x ∷ []) (sym whole)

-- the first item that meets a test, and one more item
pub first_where-push : (test : Value → Bool) (row : ℕ) (vs : List Value) (v : Value) →
    first_where test row (vs ++ v ∷ []) ≡ option_or (first_where test row vs) (if test v then Some (row + length vs) else None)
first_where-push test row [] v = let e : row ≡ row + 0 = omega arith in ap (λ (n : ℕ). let o : Option ℕ = if test v then Some n else None in o) e
first_where-push test row (w ∷ vs) v = elim (cases_Bool (test w)) [
  | inl t ↦ rw t refl
  | inr t ↦ rw t (first_where-push test (suc row) vs v ∙ (let k : suc row + length vs ≡ row + suc (length vs) = omega arith in
      ap (λ (n : ℕ). option_or (first_where test (suc row) vs) (let o : Option ℕ = if test v then Some n else None in o)) k))
]

-- one that meets it is the first where none before it does, and another changes nothing
pub first_where-meets : (test : Value → Bool) (vs : List Value) (v : Value) → test v ≡ true → first_where test 0 (vs ++ v ∷ []) ≡ option_or (first_where test 0 vs) (Some (length vs))
first_where-meets test vs v t = first_where-push test 0 vs v ∙ rw t (let e : 0 + length vs ≡ length vs = omega arith in ap (λ (n : ℕ). option_or (first_where test 0 vs) (Some n)) e)

or-none : {X : Type 0} (o : Option X) → option_or o None ≡ o
or-none None = refl
or-none (Some x) = refl

pub first_where-fails : (test : Value → Bool) (vs : List Value) (v : Value) → test v ≡ false → first_where test 0 (vs ++ v ∷ []) ≡ first_where test 0 vs
first_where-fails test vs v t = first_where-push test 0 vs v ∙ (let e : (if test v then Some (0 + length vs) else None) ≡ None = rw t refl in ap (λ (o : Option ℕ). option_or (first_where test 0 vs) o) e) ∙ or-none (first_where test 0 vs)

-- where the first row that meets it is below the number of rows
pub first_where-below : (test : Value → Bool) (row : ℕ) (vs : List Value) (n : ℕ) → first_where test row vs ≡ Some n → n < row + length vs
first_where-below test row [] n h = cc
first_where-below test row (v ∷ vs) n h = elim (cases_Bool (test v)) [
  | inl t ↦ (let k : Some row ≡ Some n = rw t at h in let e : row ≡ n = cc in omega arith)
  | inr t ↦ (let k : first_where test (suc row) vs ≡ Some n = rw t at h in let l = first_where-below test (suc row) vs n k in omega arith)
]

-- what a list breaks, of the items that are kept
pub kept_fault : (fits : Value → Bool) (most : ℕ) (vs kept : List Value) → kept ≡ take (suc most) vs →
    list_fault fits most vs ≡ (if nat_le (length kept) most then option_map wrong_kind (first_unfit fits kept) else Some (whole_fault rule.RowLimit))
kept_fault fits most vs kept e = sym (list_kept fits most vs) ∙ ap (list_fault fits most) (sym e)
