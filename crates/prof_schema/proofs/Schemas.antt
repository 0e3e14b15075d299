-- The places of a schema, one more member at a time, and by their names.
use Rattle.std.proofs.Common.{◌≡◌, ℕ, Option, None, Some, List, [], ◌∷◌, true, false, cond, refl, sym, ◌∙◌, ap, inl, inr}
use Rattle.std.specs.Prelude.{map, is_some, if◌then◌else◌, String, string_bytes}
use Rattle.std.specs.List.{list_all}
use Rattle.std.specs.Str.{bytes_eq}
use Rattle.std.specs.String.{string_eq}
use Rattle.std.specs.declared.alloc.Global.{Global}
use Rattle.std.proofs.lemmas.Bool.{cases_Bool}
use Rattle.indexmap.specs.IndexMap.{insert_entry}
use Rattle.prof_grammar.specs.Value.{Value, Members, snoc, last_named, same_text}
use Rattle.prof_layout.specs.Markers.{names}
use Rattle.prof_layout.proofs.MarkerTexts as texts
use Rattle.prof_schema.specs.Places.{member_place, place_value, has_place}
use Rattle.prof_schema.specs.Gathered.{IsSchema}
use Rattle.prof_schema.specs.declared.schema.Schema.{Schema}
use Rattle.prof_schema.proofs.Entries.{shown, same-bytes, insert_put, found, found-entry}

abbrev pub Placing : Type 0
Placing = String Global × Option ℕ

abbrev pub Entry : Type 0
Entry = List ℕ × Option ℕ

abbrev it : Option ℕ → Option ℕ
it p = p

-- one more member is put among the places
pub schema_more : (old new : Schema) (k : String Global) (p : Option ℕ) (v : Value) → new.places.entries ≡ insert_entry string_eq old.places.entries k p →
    p ≡ place_value v → (ms : Members) → IsSchema ms old → IsSchema (snoc ms (string_bytes k) v) new
schema_more old new k p v e s ms h = record {
  entries =
      ap (λ (es : List Placing). map {B = Entry} (shown it) es) e
      ∙ insert_put it old.places.entries k p
      ∙ ap (λ (es : List Entry). texts.put es (string_bytes k) p) h.entries
      ∙ ap (λ (x : Option ℕ). texts.put (texts.entries member_place ms) (string_bytes k) x) s
      ∙ sym (texts.entries-snoc member_place ms (string_bytes k) v);
}

-- the first place whose name has these bytes
abbrev pub sought : List ℕ → List Placing → Option (Option ℕ)
sought n [] = None
sought n (e ∷ es) = cond (bytes_eq n (string_bytes e.0)) (Some e.1) (sought n es)

looked-up : (n : List ℕ) (es : List Placing) → sought n es ≡ found n (map {B = Entry} (shown it) es)
looked-up n [] = refl
looked-up n (e ∷ es) =
    let same : bytes_eq n (string_bytes e.0) ≡ same_text n (string_bytes e.0) = same-bytes n (string_bytes e.0) in
    elim (cases_Bool (same_text n (string_bytes e.0))) [
      | inl y ↦ (let x : bytes_eq n (string_bytes e.0) ≡ true = same ∙ y in rw (x, y) refl)
      | inr y ↦ (let x : bytes_eq n (string_bytes e.0) ≡ false = same ∙ y in rw (x, y) (looked-up n es))
    ]

-- what the map has of a name
pub schema_found : (ms : Members) (s : Schema) (n : List ℕ) → IsSchema ms s →
    sought n s.places.entries ≡ (if is_some (last_named n ms) then Some (member_place (last_named n ms)) else None)
schema_found ms s n h = looked-up n s.places.entries ∙ ap (found n) h.entries ∙ found-entry member_place ms n

pub place-some : (o : Option Value) (p : Option ℕ) → Some p ≡ (if is_some o then Some (member_place o) else None) → (p ≡ member_place o) × (true ≡ is_some o)
place-some None p h = cc
place-some (Some v) p h = (cc, refl)

pub place-none : (o : Option Value) → None ≡ (if is_some o then Some (member_place o) else None) → (None ≡ member_place o) × (false ≡ is_some o)
place-none None h = (refl, refl)
place-none (Some v) h = absurd (cc)

all-shown : (es : List Placing) → list_all (λ p. is_some p) (map (λ (e : Placing). e.1) es) ≡ list_all (λ (e : Entry). is_some e.1) (map {B = Entry} (shown it) es)
all-shown [] = refl
all-shown (e ∷ es) = elim (cases_Bool (is_some e.1)) [
  | inl t ↦ rw t (all-shown es)
  | inr f ↦ rw f refl
]

all-names : (ms : Members) (ns : List (List ℕ)) → list_all (λ (e : Entry). is_some e.1) (texts.entries_of member_place ms ns) ≡ list_all (has_place ms) ns
all-names ms [] = refl
all-names ms (n ∷ ns) = elim (cases_Bool (has_place ms n)) [
  | inl t ↦ rw t (all-names ms ns)
  | inr f ↦ rw f refl
]

-- each name has a place where each entry has one
pub schema_all : (ms : Members) (s : Schema) → IsSchema ms s → list_all (λ p. is_some p) (map (λ (e : Placing). e.1) s.places.entries) ≡ list_all (has_place ms) (names ms)
schema_all ms s h = all-shown s.places.entries ∙ ap (list_all (λ (e : Entry). is_some e.1)) h.entries ∙ all-names ms (names ms)

-- where the first has none not all have
pub none_first : (ps rest : List (Option ℕ)) (p : Option ℕ) → ps ≡ p ∷ rest → is_some p ≡ false → list_all (λ q. is_some q) ps ≡ false
none_first ps rest p e none = ap (list_all (λ q. is_some q)) e ∙ rw none refl
