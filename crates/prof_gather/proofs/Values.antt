-- One more item of an array, and one more member of an object.
use Rattle.std.proofs.Common.{◌≡◌, ℕ, List, [], ◌∷◌, ◌++◌, refl, sym, ap, ◌∙◌, append_assoc, append-nil}
use Rattle.prof_grammar.specs.Event.{Event, name}
use Rattle.prof_grammar.specs.Value.{Value, Values, no_values, value, Members, no_members, member, snoc, items, flatten, flatten_values, flatten_members}

abbrev pub push : Values → Value → Values
push no_values v = value v no_values
push (value w vs) v = value w (push vs v)

pub items-push : (vs : Values) (v : Value) → items (push vs v) ≡ items vs ++ v ∷ []
items-push no_values v = refl
items-push (value w vs) v = ap (λ (t : List Value). w ∷ t) (items-push vs v)

pub flatten-push : (vs : Values) (v : Value) → flatten_values (push vs v) ≡ flatten_values vs ++ flatten v
flatten-push no_values v = append-nil (flatten v)
flatten-push (value w vs) v = ap (λ (t : List Event). flatten w ++ t) (flatten-push vs v) ∙ sym (append_assoc (flatten w) (flatten_values vs) (flatten v))

pub flatten-snoc : (ms : Members) (n : List ℕ) (v : Value) → flatten_members (snoc ms n v) ≡ flatten_members ms ++ (name n ∷ flatten v)
flatten-snoc no_members n v = ap (λ (t : List Event). name n ∷ t) (append-nil (flatten v))
flatten-snoc (member m w ms) n v =
    ap (λ (t : List Event). name m ∷ t) (ap (λ (t : List Event). flatten w ++ t) (flatten-snoc ms n v) ∙ sym (append_assoc (flatten w) (flatten_members ms) (name n ∷ flatten v)))
