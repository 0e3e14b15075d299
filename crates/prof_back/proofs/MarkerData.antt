-- The texts of a marker are read of the object that is written of them, in which each stands under its number.
use Rattle.std.proofs.Common.{◌≡◌, ◌∙◌, ℕ, ◌+◌, ◌^◌, ◌<◌, ◌≤◌, List, [], ◌∷◌, ◌++◌, Option, None, Some, length, refl, ap, arith, false, inl, inr}
use Rattle.std.specs.Prelude.{map, not}
use Rattle.std.specs.Fmt.{decimal}
use Rattle.std.specs.List.{enumerate_from, filter, flat_map}
use Rattle.std.specs.Option.{option_or}
use Rattle.std.proofs.lemmas.Bool.{cases_Bool}
use Rattle.std.proofs.lemmas.Fmt.{decimal_injective}
use Rattle.prof_grammar.specs.Value.{Value, Members, string, member, last_named, same_text}
use Rattle.prof_layout.specs.Markers.{data_texts, names, string_text}
use Rattle.prof_layout.proofs.Members.{same_text-self, same_text-true}
use Rattle.prof_write.specs.Compact.{members_of}
use Rattle.prof_write.specs.Cells.{data_value}

-- two numbers' texts differ
numbers_differ : (j k : ℕ) → j < k → k < 2 ^ 64 → same_text (decimal j) (decimal k) ≡ false
numbers_differ j k less small = elim (cases_Bool (same_text (decimal j) (decimal k))) [
  | inl e ↦ (let same : j ≡ k = decimal_injective j k (omega arith) small (same_text-true (decimal j) (decimal k) e) in absurd (omega arith))
  | inr e ↦ e
]

numbers_differ_back : (j k : ℕ) → j < k → k < 2 ^ 64 → same_text (decimal k) (decimal j) ≡ false
numbers_differ_back j k less small = elim (cases_Bool (same_text (decimal k) (decimal j))) [
  | inl e ↦ (let same : k ≡ j = decimal_injective k j small (omega arith) (same_text-true (decimal k) (decimal j) e) in absurd (omega arith))
  | inr e ↦ e
]

-- the members whose first has a number, and their names
abbrev members_from : ℕ → List (List ℕ) → Members
members_from from texts = members_of (map (λ (p : ℕ × List ℕ). (decimal p.0, string p.1)) (enumerate_from from texts))

abbrev names_from : ℕ → List (List ℕ) → List (List ℕ)
names_from from [] = []
names_from from (text ∷ texts) = decimal from ∷ names_from (from + 1) texts

-- no later name is an earlier one
all_others : (j from : ℕ) (texts : List (List ℕ)) → j < from → from + length texts ≤ 2 ^ 64 → filter (λ other. not (same_text (decimal j) other)) (names_from from texts) ≡ names_from from texts
all_others j from [] less few = refl
all_others j from (text ∷ texts) less few =
    let differs = numbers_differ j from less (omega arith) in
    rw differs (ap (λ (l : List (List ℕ)). decimal from ∷ l) (all_others j (from + 1) texts (omega arith) (omega arith)))

names_told : (from : ℕ) (texts : List (List ℕ)) → from + length texts ≤ 2 ^ 64 → names (members_from from texts) ≡ names_from from texts
names_told from [] few = refl
names_told from (text ∷ texts) few =
    ap (λ (l : List (List ℕ)). decimal from ∷ filter (λ other. not (same_text (decimal from) other)) l) (names_told (from + 1) texts (omega arith))
    ∙ ap (λ (l : List (List ℕ)). decimal from ∷ l) (all_others from (from + 1) texts (omega arith) (omega arith))

-- an earlier number names none of the members
none_named : (j from : ℕ) (texts : List (List ℕ)) → j < from → from + length texts ≤ 2 ^ 64 → last_named (decimal j) (members_from from texts) ≡ None
none_named j from [] less few = refl
none_named j from (text ∷ texts) less few =
    let none = none_named j (from + 1) texts (omega arith) (omega arith) in
    let differs = numbers_differ_back j from less (omega arith) in
    rw (none, differs) refl

abbrev named_in : Members → List ℕ → List (List ℕ)
named_in ms n = string_text (last_named n ms)

or_none : (o : Option Value) → option_or o None ≡ o
or_none None = refl
or_none (Some v) = refl

-- an earlier member changes nothing for later names
later_named : (j from : ℕ) (v : Value) (ms : Members) (texts : List (List ℕ)) → j < from → from + length texts ≤ 2 ^ 64 →
    flat_map (named_in (member (decimal j) v ms)) (names_from from texts) ≡ flat_map (named_in ms) (names_from from texts)
later_named j from v ms [] less few = refl
later_named j from v ms (text ∷ texts) less few =
    let differs = numbers_differ j from less (omega arith) in
    let here : named_in (member (decimal j) v ms) (decimal from) ≡ named_in ms (decimal from) = rw (differs, or_none (last_named (decimal from) ms)) refl in
    ap (λ (l : List (List ℕ)). l ++ flat_map (named_in (member (decimal j) v ms)) (names_from (from + 1) texts)) here
    ∙ ap (λ (l : List (List ℕ)). named_in ms (decimal from) ++ l) (later_named j (from + 1) v ms texts (omega arith) (omega arith))

texts_named : (from : ℕ) (texts : List (List ℕ)) → from + length texts ≤ 2 ^ 64 → flat_map (named_in (members_from from texts)) (names_from from texts) ≡ texts
texts_named from [] few = refl
texts_named from (text ∷ texts) few =
    let rest = members_from (from + 1) texts in
    let none = none_named from (from + 1) texts (omega arith) (omega arith) in
    let self = same_text-self (decimal from) in
    let here : named_in (member (decimal from) (string text) rest) (decimal from) ≡ text ∷ [] = rw (none, self) refl in
    ap (λ (l : List (List ℕ)). l ++ flat_map (named_in (member (decimal from) (string text) rest)) (names_from (from + 1) texts)) here
    ∙ ap (λ (l : List (List ℕ)). text ∷ l) (later_named from (from + 1) (string text) rest texts (omega arith) (omega arith) ∙ texts_named (from + 1) texts (omega arith))

pub data_back : (texts : List (List ℕ)) → length texts ≤ 2 ^ 64 → data_texts (data_value texts) ≡ texts
data_back [] few = refl
data_back (text ∷ texts) few =
    ap (flat_map (named_in (members_from 0 (text ∷ texts)))) (names_told 0 (text ∷ texts) (omega arith)) ∙ texts_named 0 (text ∷ texts) (omega arith)
