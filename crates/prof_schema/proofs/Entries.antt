-- Maps by text, as one more member of an object is put into them, and what they have of a name.
use Rattle.std.proofs.Common.{◌≡◌, ℕ, Option, None, Some, List, [], ◌∷◌, Bool, true, false, refl, sym, ◌∙◌, ap, nat_eq, inl, inr}
use Rattle.std.specs.Prelude.{map, not, is_some, if◌then◌else◌, String, string_bytes}
use Rattle.std.specs.List.{filter}
use Rattle.std.specs.Option.{option_or}
use Rattle.std.specs.String.{string_eq}
use Rattle.std.specs.Str.{bytes_eq}
use Rattle.std.specs.declared.alloc.Global.{Global}
use Rattle.std.proofs.lemmas.Bool.{cases_Bool}
use Rattle.indexmap.specs.IndexMap.{insert_entry}
use Rattle.prof_grammar.specs.Value.{Value, Members, no_members, member, last_named, same_text}
use Rattle.prof_layout.specs.Markers.{names}
use Rattle.prof_layout.proofs.Members.{same_text-true, same_text-swap}
use Rattle.prof_layout.proofs.MarkerTexts.{put, entries, entries_of}

-- an entry with its name as a text
abbrev pub shown : {V X : Type 0} → (V → X) → String Global × V → List ℕ × X
shown show e = (string_bytes e.0, show e.1)

pub same-bytes : (xs ys : List ℕ) → bytes_eq xs ys ≡ same_text xs ys
same-bytes [] [] = refl
same-bytes [] (y ∷ ys) = refl
same-bytes (x ∷ xs) [] = refl
same-bytes (x ∷ xs) (y ∷ ys) = elim (cases_Bool (nat_eq x y)) [
  | inl t ↦ rw t (same-bytes xs ys)
  | inr f ↦ rw f refl
]

-- what a map puts is what the entries put
pub insert_put : {V X : Type 0} (show : V → X) (es : List (String Global × V)) (k : String Global) (t : V) →
    map {B = List ℕ × X} (shown show) (insert_entry string_eq es k t) ≡ put (map {B = List ℕ × X} (shown show) es) (string_bytes k) (show t)
insert_put show [] k t = refl
insert_put {V} {X} show (e ∷ es) k t =
    let same : string_eq k e.0 ≡ same_text (string_bytes k) (string_bytes e.0) = same-bytes (string_bytes k) (string_bytes e.0) in
    elim (cases_Bool (string_eq k e.0)) [
      | inl x ↦ (let y : same_text (string_bytes k) (string_bytes e.0) ≡ true = sym same ∙ x in rw (x, y) refl)
      | inr x ↦ (let y : same_text (string_bytes k) (string_bytes e.0) ≡ false = sym same ∙ x in rw (x, y) (ap (λ (l : List (List ℕ × X)). shown show e ∷ l) (insert_put show es k t)))
    ]

-- the first entry of a name
abbrev pub found : {X : Type 0} → List ℕ → List (List ℕ × X) → Option X
found n [] = None
found n (e ∷ es) = if same_text n e.0 then Some e.1 else found n es

abbrev has : List ℕ → List (List ℕ) → Bool
has n [] = false
has n (m ∷ ns) = if same_text n m then true else has n ns

has-others : (m n : List ℕ) (ns : List (List ℕ)) → same_text n m ≡ false → has n (filter (λ other. not (same_text m other)) ns) ≡ has n ns
has-others m n [] h = refl
has-others m n (k ∷ ns) h = elim (cases_Bool (same_text m k)) [
  | inl t ↦
      let e : same_text n k ≡ false = ap (λ (x : List ℕ). same_text n x) (sym (same_text-true m k t)) ∙ h in
      rw (t, e) (has-others m n ns h)
  | inr f ↦ rw f (ap (λ (b : Bool). if same_text n k then true else b) (has-others m n ns h))
]

some-or : {X : Type 0} (o p : Option X) → is_some (option_or o p) ≡ (if is_some p then true else is_some o)
some-or None None = refl
some-or None (Some y) = refl
some-or (Some x) None = refl
some-or (Some x) (Some y) = refl

has-names : (n : List ℕ) (ms : Members) → is_some (last_named n ms) ≡ has n (names ms)
has-names n no_members = refl
has-names n (member m w ms) = elim (cases_Bool (same_text n m)) [
  | inl t ↦
      let u : same_text m n ≡ true = same_text-swap m n ∙ t in
      some-or (last_named n ms) (if same_text m n then Some w else None) ∙ rw (u, t) refl
  | inr f ↦
      let u : same_text m n ≡ false = same_text-swap m n ∙ f in
      some-or (last_named n ms) (if same_text m n then Some w else None) ∙ rw (u, f) (has-names n ms ∙ sym (has-others m n (names ms) f))
]

found-of : {X : Type 0} (keep : Option Value → X) (ms : Members) (n : List ℕ) (ns : List (List ℕ)) → found n (entries_of keep ms ns) ≡ (if has n ns then Some (keep (last_named n ms)) else None)
found-of keep ms n [] = refl
found-of {X} keep ms n (m ∷ ns) = elim (cases_Bool (same_text n m)) [
  | inl t ↦ rw t (ap (λ (x : List ℕ). let o : Option X = Some (keep (last_named x ms)) in o) (sym (same_text-true n m t)))
  | inr f ↦ rw f (found-of keep ms n ns)
]

-- a name is found where a member has it, with what is kept of the last one
pub found-entry : {X : Type 0} (keep : Option Value → X) (ms : Members) (n : List ℕ) → found n (entries keep ms) ≡ (if is_some (last_named n ms) then Some (keep (last_named n ms)) else None)
found-entry {X} keep ms n = found-of keep ms n (names ms) ∙ ap (λ (b : Bool). let o : Option X = if b then Some (keep (last_named n ms)) else None in o) (sym (has-names n ms))
