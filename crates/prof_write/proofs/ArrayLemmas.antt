-- Arrays and objects as texts with a comma between.
use Rattle.std.proofs.Common.{◌≡◌, ◌∙◌, ◌<◌, ℕ, List, [], ◌∷◌, ◌++◌, codes, false, true, refl, sym, ap, arith, length, append_assoc}
use Rattle.std.specs.Prelude.{◌==◌, Bool, map}
use Rattle.std.specs.List.{join_with_byte}
use Rattle.std.proofs.lemmas.Bool.Decides.{nat_tests}
use Rattle.prof_grammar.specs.Value.{Value}
use Rattle.prof_page.proofs.Joined.{behind, joined_split}
use Rattle.prof_writer.specs.Writing.{quoted}
use Rattle.prof_write.specs.Compact.{compact, compact_items, compact_members, members_of, values_of}
use Rattle.prof_write.specs.Cells.{data_value, numbered}
use Rattle.prof_write.specs.Members.{member_text}

-- a text, and what stands behind it up to the end
joined_on : (x : List ℕ) (xs : List (List ℕ)) (end : List ℕ) → x ++ (behind xs ++ end) ≡ join_with_byte 44 (x ∷ xs) ++ end
joined_on x xs end = sym (append_assoc x (behind xs) end) ∙ ap (λ l. l ++ end) (sym (joined_split [] x xs))

more_items : (vs : List Value) → compact_items true (values_of vs) ≡ behind (map compact vs) ++ codes "]"
more_items [] = refl
more_items (v ∷ vs) = ap (λ l. 44 ∷ (compact v ++ l)) (more_items vs) ∙ ap (λ l. 44 ∷ l) (joined_on (compact v) (map compact vs) (codes "]"))

pub items_joined : (vs : List Value) → compact_items false (values_of vs) ≡ join_with_byte 44 (map compact vs) ++ codes "]"
items_joined [] = refl
items_joined (v ∷ vs) = ap (λ l. compact v ++ l) (more_items vs) ∙ joined_on (compact v) (map compact vs) (codes "]")

-- a member, and what stands behind it
member_on : (n : List ℕ) (v : Value) (rest : List ℕ) → quoted n ++ (codes ":" ++ (compact v ++ rest)) ≡ (quoted n ++ (codes ":" ++ compact v)) ++ rest
member_on n v rest = sym (append_assoc (quoted n) (codes ":" ++ compact v) rest)

more_members : (ms : List (List ℕ × Value)) → compact_members true (members_of ms) ≡ behind (map member_text ms) ++ codes "}"
more_members [] = refl
more_members (m ∷ ms) =
    ap (λ l. 44 ∷ (quoted m.0 ++ (codes ":" ++ (compact m.1 ++ l)))) (more_members ms)
    ∙ ap (λ l. 44 ∷ l) (member_on m.0 m.1 (behind (map member_text ms) ++ codes "}") ∙ joined_on (member_text m) (map member_text ms) (codes "}"))

pub members_joined : (ms : List (List ℕ × Value)) → compact_members false (members_of ms) ≡ join_with_byte 44 (map member_text ms) ++ codes "}"
members_joined [] = refl
members_joined (m ∷ ms) =
    ap (λ l. quoted m.0 ++ (codes ":" ++ (compact m.1 ++ l))) (more_members ms)
    ∙ member_on m.0 m.1 (behind (map member_text ms) ++ codes "}") ∙ joined_on (member_text m) (map member_text ms) (codes "}")

-- a text before an array whose items are known
pub array_is : (before : List ℕ) (cells : List (List ℕ)) (values : List Value) → cells ≡ map compact values →
    before ++ (join_with_byte 44 cells ++ codes "]") ≡ before ++ compact_items false (values_of values)
array_is before cells values is = ap (λ l. before ++ l) (ap (λ l. join_with_byte 44 l ++ codes "]") is ∙ sym (items_joined values))

-- an array's items, its bracket, and what stands behind it
pub closed_is : (values : List Value) (rest : List ℕ) → join_with_byte 44 (map compact values) ++ (codes "]" ++ rest) ≡ compact_items false (values_of values) ++ rest
closed_is values rest = sym (append_assoc (join_with_byte 44 (map compact values)) (codes "]") rest) ∙ ap (λ l. l ++ rest) (sym (items_joined values))

pub data_none : (texts : List (List ℕ)) → length texts ≡ 0 → codes "null" ≡ compact (data_value texts)
data_none [] h = refl
data_none (text ∷ texts) h = absurd (omega arith)

pub data_some : (texts : List (List ℕ)) → 0 < length texts → codes "{" ++ (join_with_byte 44 (map member_text (numbered texts)) ++ codes "}") ≡ compact (data_value texts)
data_some [] h = absurd (omega arith)
data_some (text ∷ texts) h = ap (λ l. codes "{" ++ l) (sym (members_joined (numbered (text ∷ texts))))

pub empty_is : (n : ℕ) (r : Bool) → r ≡ (n == 0) → r ≡ true → n ≡ 0
empty_is n r is e = grind (arith, nat_tests)

pub not_empty : (n : ℕ) (r : Bool) → r ≡ (n == 0) → r ≡ false → 0 < n
not_empty n r is e = grind (arith, nat_tests)
