-- Threads and their tables, part by part.
use Rattle.std.proofs.Common.{◌≡◌, ℕ, Option, Some, None, List, [], ◌∷◌, ◌++◌, Bool, refl, ◌∙◌, ap}
use Rattle.std.specs.Prelude.{unwrap_or}
use Rattle.prof_grammar.specs.Value.{Value, null, boolean, number, string, array, object}
use Rattle.prof_raw.specs.declared.rule.ListFault.{ListFault}
use Rattle.prof_raw.specs.Cells.{Cells}
use Rattle.prof_layout.specs.Lists.{member_text}
use Rattle.prof_column.specs.Kept.{string_of}
use Rattle.prof_gecko.specs.declared.gathered.TableFault.{TableFault}
use Rattle.prof_gecko.specs.Gathered.{TableCells, GeckoCells}

-- columns that were added one by one
pub two_columns : (d e f : List Cells) (a b x y : Cells) → d ≡ [] → e ≡ d ++ a ∷ [] → f ≡ e ++ b ∷ [] → a ≡ x → b ≡ y → f ≡ x ∷ y ∷ []
two_columns d e f a b x y hd he hf ha hb = rw (hf, he, hd, ha, hb) refl

pub three_columns : (d e f g : List Cells) (a b c x y z : Cells) → d ≡ [] → e ≡ d ++ a ∷ [] → f ≡ e ++ b ∷ [] → g ≡ f ++ c ∷ [] → a ≡ x → b ≡ y → c ≡ z → g ≡ x ∷ y ∷ z ∷ []
three_columns d e f g a b c x y z hd he hf hg ha hb hc = rw (hg, hf, he, hd, ha, hb, hc) refl

pub five_columns : (d e f g h k : List Cells) (a b c m n x y z v w : Cells) → d ≡ [] → e ≡ d ++ a ∷ [] → f ≡ e ++ b ∷ [] → g ≡ f ++ c ∷ [] → h ≡ g ++ m ∷ [] → k ≡ h ++ n ∷ [] →
    a ≡ x → b ≡ y → c ≡ z → m ≡ v → n ≡ w → k ≡ x ∷ y ∷ z ∷ v ∷ w ∷ []
five_columns d e f g h k a b c m n x y z v w hd he hf hg hh hk ha hb hc hm hn = rw (hk, hh, hg, hf, he, hd, ha, hb, hc, hm, hn) refl

pub table_is : (t u : TableCells) → t.fault ≡ u.fault → t.columns ≡ u.columns → t ≡ u
table_is t u p q =
    ap (λ (f : Option TableFault). let r : TableCells = record t { fault = f } in r) p
    ∙ ap (λ (cs : List Cells). let r : TableCells = record { fault = u.fault; columns = cs } in r) q

-- a name is empty where it is no string
pub name_is : (member : Option Value) → unwrap_or (string_of member) [] ≡ member_text member
name_is None = refl
name_is (Some null) = refl
name_is (Some (boolean b)) = refl
name_is (Some (number text)) = refl
name_is (Some (string text)) = refl
name_is (Some (array vs)) = refl
name_is (Some (object ms)) = refl

-- a thread by its parts
pub thread_is : (t u : GeckoCells) → t.name ≡ u.name → t.strings ≡ u.strings → t.string_fault ≡ u.string_fault → t.frame ≡ u.frame → t.stack ≡ u.stack → t.samples ≡ u.samples → t.markers ≡ u.markers →
    t.has_markers ≡ u.has_markers → t.marker_texts ≡ u.marker_texts → t.marker_ranges ≡ u.marker_ranges → t ≡ u
thread_is t u name strings fault frame stack samples markers there texts ranges =
    ap (λ (x : List ℕ). let r : GeckoCells = record t { name = x } in r) name
    ∙ ap (λ (x : List (List ℕ)). let r : GeckoCells = record t { name = u.name; strings = x } in r) strings
    ∙ ap (λ (x : Option ListFault). let r : GeckoCells = record t { name = u.name; strings = u.strings; string_fault = x } in r) fault
    ∙ ap (λ (x : TableCells). let r : GeckoCells = record t { name = u.name; strings = u.strings; string_fault = u.string_fault; frame = x } in r) frame
    ∙ ap (λ (x : TableCells). let r : GeckoCells = record t { name = u.name; strings = u.strings; string_fault = u.string_fault; frame = u.frame; stack = x } in r) stack
    ∙ ap (λ (x : TableCells). let r : GeckoCells = record u { samples = x; markers = t.markers; has_markers = t.has_markers; marker_texts = t.marker_texts; marker_ranges = t.marker_ranges } in r) samples
    ∙ ap (λ (x : TableCells). let r : GeckoCells = record u { markers = x; has_markers = t.has_markers; marker_texts = t.marker_texts; marker_ranges = t.marker_ranges } in r) markers
    ∙ ap (λ (x : Bool). let r : GeckoCells = record u { has_markers = x; marker_texts = t.marker_texts; marker_ranges = t.marker_ranges } in r) there
    ∙ ap (λ (x : List (List ℕ)). let r : GeckoCells = record u { marker_texts = x; marker_ranges = t.marker_ranges } in r) texts
    ∙ ap (λ (x : List (ℕ × ℕ)). let r : GeckoCells = record u { marker_ranges = x } in r) ranges
