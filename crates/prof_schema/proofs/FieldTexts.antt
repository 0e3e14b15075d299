-- The fields of a marker's data, and their texts.
use Rattle.std.proofs.Common.{◌≡◌, ℕ, Option, None, Some, List, [], ◌∷◌, ◌++◌, refl, sym, ◌∙◌, ap}
use Rattle.std.specs.Prelude.{map, String, string_bytes}
use Rattle.std.specs.List.{flat_map}
use Rattle.std.specs.Option.{option_map}
use Rattle.std.specs.String.{string_eq}
use Rattle.std.specs.declared.alloc.Global.{Global}
use Rattle.indexmap.specs.IndexMap.{insert_entry}
use Rattle.prof_grammar.specs.Value.{Value, Members, snoc}
use Rattle.prof_layout.specs.Markers.{string_text, data_texts}
use Rattle.prof_layout.proofs.MarkerTexts as texts
use Rattle.prof_column.specs.Kept.{string_of}
use Rattle.prof_schema.specs.Fields.{field_text, AreFields, field_texts}
use Rattle.prof_schema.specs.declared.fields.MarkerFields.{MarkerFields}
use Rattle.prof_schema.proofs.Entries.{shown, insert_put}

abbrev pub Field : Type 0
Field = String Global × Option (String Global)

abbrev pub Entry : Type 0
Entry = List ℕ × List (List ℕ)

-- the text of a value that is a string
pub field-text : (t : Option (String Global)) (v : Value) → option_map string_bytes t ≡ string_of (Some v) → field_text t ≡ string_text (Some v)
field-text None Value.null h = refl
field-text None (Value.boolean b) h = refl
field-text None (Value.number text) h = refl
field-text None (Value.string text) h = cc
field-text None (Value.array vs) h = refl
field-text None (Value.object ms) h = refl
field-text (Some s) Value.null h = cc
field-text (Some s) (Value.boolean b) h = cc
field-text (Some s) (Value.number text) h = cc
field-text (Some s) (Value.string text) h = let e : string_bytes s ≡ text = cc in ap (λ (x : List ℕ). let l : List (List ℕ) = x ∷ [] in l) e
field-text (Some s) (Value.array vs) h = cc
field-text (Some s) (Value.object ms) h = cc

-- one more member is put among the fields
pub fields_more : (old new : MarkerFields) (k : String Global) (t : Option (String Global)) (v : Value) → new.fields.entries ≡ insert_entry string_eq old.fields.entries k t →
    option_map string_bytes t ≡ string_of (Some v) → (ms : Members) → AreFields ms old → AreFields (snoc ms (string_bytes k) v) new
fields_more old new k t v e s ms h = record {
  entries =
      ap (λ (es : List Field). map {B = Entry} (shown field_text) es) e
      ∙ insert_put field_text old.fields.entries k t
      ∙ ap (λ (es : List Entry). texts.put es (string_bytes k) (field_text t)) h.entries
      ∙ ap (λ (x : List (List ℕ)). texts.put (texts.entries string_text ms) (string_bytes k) x) (field-text t v s)
      ∙ sym (texts.entries-snoc string_text ms (string_bytes k) v);
}

entry-texts : (es : List Field) → flat_map (λ (e : Entry). e.1) (map {B = Entry} (shown field_text) es) ≡ flat_map (λ (e : Field). field_text e.1) es
entry-texts [] = refl
entry-texts (e ∷ es) = ap (λ (l : List (List ℕ)). field_text e.1 ++ l) (entry-texts es)

-- the texts of an object are those of its fields
pub fields-texts : (ms : Members) (f : MarkerFields) → AreFields ms f → data_texts (Value.object ms) ≡ field_texts f
fields-texts ms f h =
    texts.data_texts-entries ms
    ∙ ap (λ (es : List Entry). flat_map (λ (e : Entry). e.1) es) (sym h.entries)
    ∙ entry-texts f.fields.entries

-- the texts of a map's values are those of its entries
pub values-texts : (es : List Field) → flat_map field_text (map (λ (e : Field). e.1) es) ≡ flat_map (λ (e : Field). field_text e.1) es
values-texts [] = refl
values-texts (e ∷ es) = ap (λ (l : List (List ℕ)). field_text e.1 ++ l) (values-texts es)
