-- The text that a number makes is that of a value, which can be written and read back.
use Rattle.std.proofs.Common.{◌≡◌, ◌∙◌, ℕ, ◌+◌, ◌-◌, ◌<◌, List, [], ◌∷◌, ◌++◌, codes, Bool, true, false, None, Some, refl, ap, arith, append_assoc}
use Rattle.std.specs.Prelude.{◌==◌, if◌then◌else◌, map}
use Rattle.std.specs.Fmt.{decimal}
use Rattle.std.specs.List.{join_with_byte}
use Rattle.std.proofs.lemmas.Fmt.{decimal_digit}
use Rattle.prof_grammar.specs.Value.{Value, number, string, array, no_values}
use Rattle.prof_demo.specs.Generated.{below, frame_text, frames, generated, prefix_text, prefixes, stack_text, stacks, time_text, times}
use Rattle.prof_write.specs.Cells.{column, index, maybe_index, object_of, time}
use Rattle.prof_write.specs.Compact.{compact, compact_items, values_of}
use Rattle.prof_write.proofs.ArrayLemmas.{items_joined}
use Rattle.prof_back.specs.Made.{eight, frame_of, made, moment_of, names, prefix_of, stack_of}

-- ---- columns

same_texts : (cell : ℕ → Value) (text : ℕ → List ℕ) → ((r : ℕ) → compact (cell r) ≡ text r) → (rows : List ℕ) → map compact (map cell rows) ≡ map text rows
same_texts cell text h [] = refl
same_texts cell text h (r ∷ rows) = ap (λ (l : List ℕ). l ∷ map compact (map cell rows)) (h r) ∙ ap (λ (ls : List (List ℕ)). text r ∷ ls) (same_texts cell text h rows)

pub joined : (cell : ℕ → Value) (text : ℕ → List ℕ) (k : ℕ) → ((r : ℕ) → compact (cell r) ≡ text r) → compact_items false (values_of (map cell (below k))) ≡ join_with_byte 44 (map text (below k)) ++ codes "]"
joined cell text k h = items_joined (map cell (below k)) ∙ ap (λ (ls : List (List ℕ)). join_with_byte 44 ls ++ codes "]") (same_texts cell text h (below k))

pub prefix_is : (r : ℕ) → compact (maybe_index (prefix_of r)) ≡ prefix_text r
prefix_is r = by_test (r == 0)
  where
    by_test : (t : Bool) → compact (maybe_index (if t then None else Some (r - 1))) ≡ (if t then codes "null" else decimal (r - 1))
    by_test true = refl
    by_test false = refl

-- the digits of the eight functions
same_eight : (a b c d e f g h : List ℕ) → a ≡ codes "0" → b ≡ codes "1" → c ≡ codes "2" → d ≡ codes "3" → e ≡ codes "4" → f ≡ codes "5" → g ≡ codes "6" → h ≡ codes "7" →
    compact_items false (values_of (map number (a ∷ b ∷ c ∷ d ∷ e ∷ f ∷ g ∷ h ∷ []))) ≡ codes "0,1,2,3,4,5,6,7]"
same_eight a b c d e f g h p q r s t u v w = rw (p, q, r, s, t, u, v, w) refl

digit : (n : ℕ) → n < 10 → decimal n ≡ (48 + n) ∷ []
digit n h = decimal_digit n h

eight_text : compact_items false (values_of (map index eight)) ≡ codes "0,1,2,3,4,5,6,7]"
eight_text =
    same_eight (decimal 0) (decimal 1) (decimal 2) (decimal 3) (decimal 4) (decimal 5) (decimal 6) (decimal 7)
    (digit 0 (omega arith)) (digit 1 (omega arith)) (digit 2 (omega arith)) (digit 3 (omega arith)) (digit 4 (omega arith)) (digit 5 (omega arith)) (digit 6 (omega arith)) (digit 7 (omega arith))

-- ---- the text

-- the text of the value, where its columns are these texts with their closing brackets
abbrev items : List ℕ → Value
items text = number (codes "[" ++ text)

abbrev shaped : List ℕ → List ℕ → List ℕ → List ℕ → List ℕ → List ℕ
shaped e p q x y =
    let thread : Value = object_of (
    (codes "name", string (codes "gen"))
    ∷ (codes "stringArray", column string names)
    ∷ (codes "funcTable", object_of ((codes "name", items e) ∷ []))
    ∷ (codes "frameTable", object_of ((codes "func", items e) ∷ []))
    ∷ (codes "stackTable", object_of ((codes "frame", items p) ∷ (codes "prefix", items q) ∷ []))
    ∷ (codes "samples", object_of ((codes "stack", items x) ∷ (codes "time", items y) ∷ []))
    ∷ []) in
    compact (object_of (
    (codes "meta", object_of ((codes "preprocessedProfileVersion", number (codes "0")) ∷ []))
    ∷ (codes "libs", array no_values)
    ∷ (codes "threads", array (values_of (thread ∷ [])))
    ∷ []))

same_shape : (d e p q x y f g h i : List ℕ) → d ≡ e → p ≡ f → q ≡ g → x ≡ h → y ≡ i → shaped d p q x y ≡ shaped e f g h i
same_shape d e p q x y f g h i a b c j k = rw (a, b, c, j, k) refl

nested : (p q x y c d e : List ℕ) →
    ((((p ++ codes "]") ++ (c ++ ((q ++ codes "]") ++ codes "}"))) ++ (d ++ (((x ++ codes "]") ++ (e ++ ((y ++ codes "]") ++ codes "}"))) ++ codes "}"))) ++ codes "]") ++ codes "}"
    ≡ (p ++ ((codes "]" ++ c) ++ q)) ++ ((codes "]}" ++ d) ++ (x ++ ((codes "]" ++ e) ++ (y ++ codes "]}}]}"))))
nested p q x y c d e = simp append_assoc

shaped_is : (p q x y : List ℕ) → shaped (codes "0,1,2,3,4,5,6,7]") (p ++ codes "]") (q ++ codes "]") (x ++ codes "]") (y ++ codes "]")
    ≡ (codes "{\"meta\":{\"preprocessedProfileVersion\":0},\"libs\":[],\"threads\":[{\"name\":\"gen\",\"stringArray\":[\"f0\",\"f1\",\"f2\",\"f3\",\"f4\",\"f5\",\"f6\",\"f7\"],\"funcTable\":{\"name\":[0,1,2,3,4,5,6,7]},\"frameTable\":{\"func\":[0,1,2,3,4,5,6,7]},\"stackTable\":{\"frame\":["
    ++ (p ++ (codes "],\"prefix\":[" ++ q))) ++ (codes "]},\"samples\":{\"stack\":[" ++ (x ++ (codes "],\"time\":[" ++ (y ++ codes "]}}]}"))))
shaped_is p q x y =
    ap (λ l. codes "{\"meta\":{\"preprocessedProfileVersion\":0},\"libs\":[],\"threads\":[{\"name\":\"gen\",\"stringArray\":[\"f0\",\"f1\",\"f2\",\"f3\",\"f4\",\"f5\",\"f6\",\"f7\"],\"funcTable\":{\"name\":[0,1,2,3,4,5,6,7]},\"frameTable\":{\"func\":[0,1,2,3,4,5,6,7]},\"stackTable\":{\"frame\":[" ++ l)
    (nested p q x y (codes ",\"prefix\":[") (codes ",\"samples\":{\"stack\":[") (codes ",\"time\":["))

pub made_text : (n : ℕ) → compact (made n) ≡ generated n
made_text n =
    same_shape (compact_items false (values_of (map index eight))) (codes "0,1,2,3,4,5,6,7]")
    (compact_items false (values_of (map (λ row. index (frame_of row)) (below 60000))))
    (compact_items false (values_of (map (λ row. maybe_index (prefix_of row)) (below 60000))))
    (compact_items false (values_of (map (λ sample. index (stack_of n sample)) (below 200000))))
    (compact_items false (values_of (map (λ sample. time (moment_of sample)) (below 200000))))
    (join_with_byte 44 frames ++ codes "]") (join_with_byte 44 prefixes ++ codes "]") (join_with_byte 44 (stacks n) ++ codes "]") (join_with_byte 44 times ++ codes "]")
    eight_text
    (joined (λ row. index (frame_of row)) frame_text 60000 (λ r. refl))
    (joined (λ row. maybe_index (prefix_of row)) prefix_text 60000 prefix_is)
    (joined (λ sample. index (stack_of n sample)) (stack_text n) 200000 (λ r. refl))
    (joined (λ sample. time (moment_of sample)) time_text 200000 (λ r. refl))
    ∙ shaped_is (join_with_byte 44 frames) (join_with_byte 44 prefixes) (join_with_byte 44 (stacks n)) (join_with_byte 44 times)
