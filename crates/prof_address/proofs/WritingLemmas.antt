-- The parts of a view that are written.
use Rattle.std.proofs.Common.{◌≡◌, ℕ, ◌<◌, List, [], ◌∷◌, ◌++◌, length, sym, ap, ◌∙◌, arith, append_assoc, append-nil}
use Rattle.std.specs.Prelude.{codes}
use Rattle.prof_spell.specs.Pieces.{joined_text}
use Rattle.prof_spell.specs.Escapes.{escaped}
use Rattle.prof_path.specs.declared.transform.Range.{Range}
use Rattle.prof_path.specs.declared.transform.Transform.{Transform}
use Rattle.prof_address.specs.Transforms.{transforms_text}
use Rattle.prof_address.specs.Views.{range_text, ranges_part, transforms_part, search_part}

pub no_ranges : (list : List Range) (text : List ℕ) → length list ≡ 0 → text ≡ text ++ ranges_part list
no_ranges [] text e = sym (append-nil text)
no_ranges (r ∷ list) text e = absurd (omega arith)

pub some_ranges : (list : List Range) (text a b : List ℕ) → 0 < length list → a ≡ text ++ codes "&range=" → b ≡ a ++ joined_text range_text 126 list → b ≡ text ++ ranges_part list
some_ranges [] text a b l e f = absurd (omega arith)
some_ranges (r ∷ list) text a b l e f = f ∙ ap (λ t. t ++ joined_text range_text 126 (r ∷ list)) e ∙ append_assoc text (codes "&range=") (joined_text range_text 126 (r ∷ list))

pub no_transforms : (list : List Transform) (text : List ℕ) → length list ≡ 0 → text ≡ text ++ transforms_part list
no_transforms [] text e = sym (append-nil text)
no_transforms (t ∷ list) text e = absurd (omega arith)

pub some_transforms : (list : List Transform) (text a b : List ℕ) → 0 < length list → a ≡ text ++ codes "&transforms=" → b ≡ a ++ transforms_text list → b ≡ text ++ transforms_part list
some_transforms [] text a b l e f = absurd (omega arith)
some_transforms (t ∷ list) text a b l e f = f ∙ ap (λ s. s ++ transforms_text (t ∷ list)) e ∙ append_assoc text (codes "&transforms=") (transforms_text (t ∷ list))

pub no_search : (s text : List ℕ) → length s ≡ 0 → text ≡ text ++ search_part s
no_search [] text e = sym (append-nil text)
no_search (b ∷ s) text e = absurd (omega arith)

pub some_search : (s text a b : List ℕ) → 0 < length s → a ≡ text ++ codes "&search=" → b ≡ a ++ escaped s → b ≡ text ++ search_part s
some_search [] text a b l e f = absurd (omega arith)
some_search (c ∷ s) text a b l e f = f ∙ ap (λ t. t ++ escaped (c ∷ s)) e ∙ append_assoc text (codes "&search=") (escaped (c ∷ s))

-- six texts, one behind another
pub six_texts : (text a b c d e f t1 t2 t3 t4 t5 t6 : List ℕ) → t1 ≡ text ++ a → t2 ≡ t1 ++ b → t3 ≡ t2 ++ c → t4 ≡ t3 ++ d → t5 ≡ t4 ++ e → t6 ≡ t5 ++ f → t6 ≡ text ++ ((a ++ b) ++ (c ++ (d ++ (e ++ f))))
six_texts text a b c d e f t1 t2 t3 t4 t5 t6 e1 e2 e3 e4 e5 e6 =
    e6 ∙ ap (λ t. t ++ f) (e5 ∙ ap (λ t. t ++ e) (e4 ∙ ap (λ t. t ++ d) (e3 ∙ ap (λ t. t ++ c) (e2 ∙ ap (λ t. t ++ b) e1 ∙ append_assoc text a b))))
    ∙ append_assoc ((((text ++ (a ++ b)) ++ c) ++ d)) e f
    ∙ append_assoc ((text ++ (a ++ b)) ++ c) d (e ++ f)
    ∙ append_assoc (text ++ (a ++ b)) c (d ++ (e ++ f))
    ∙ append_assoc text (a ++ b) (c ++ (d ++ (e ++ f)))
