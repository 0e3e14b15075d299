-- Saved sessions as they are written.
use Rattle.std.proofs.Common.{◌≡◌, ℕ, ◌+◌, ◌<◌, List, [], ◌∷◌, ◌++◌, length, get_or, take, zero, suc, sym, ap, ◌∙◌, arith, append_assoc, append-nil}
use Rattle.std.proofs.lemmas.List.{take_more}
use Rattle.prof_spell.specs.Pieces.{EachFits}
use Rattle.prof_path.specs.Views.{ViewLists}
use Rattle.prof_keep.specs.Saved.{line_text, lines_text}

lines_last : (vs : List ViewLists) (v : ViewLists) → lines_text (vs ++ v ∷ []) ≡ lines_text vs ++ line_text v
lines_last [] v = append-nil (line_text v)
lines_last (w ∷ vs) v = ap (λ t. line_text w ++ t) (lines_last vs v) ∙ sym (append_assoc (line_text w) (lines_text vs) (line_text v))

pub lines_more : (vs : List ViewLists) (i : ℕ) (v : ViewLists) (text old new : List ℕ) → i < length vs → v ≡ get_or vs i v → old ≡ text ++ lines_text (take i vs) → new ≡ old ++ line_text v → new ≡ text ++ lines_text (take (i + 1) vs)
lines_more vs i v text old new l here so last =
    last ∙ ap (λ t. t ++ line_text v) so ∙ append_assoc text (lines_text (take i vs)) (line_text v)
    ∙ ap (λ t. text ++ t) (sym (ap lines_text (take_more vs i v l ∙ ap (λ w. take i vs ++ w ∷ []) (sym here)) ∙ lines_last (take i vs) v))

pub each_get : {V : Type 0} (P : V → Type 0) (xs : List V) (i : ℕ) (d : V) → EachFits P xs → i < length xs → P (get_or xs i d)
each_get P [] i d f l = absurd (omega arith)
each_get P (x ∷ xs) zero d f l = f.0
each_get P (x ∷ xs) (suc i) d f l = each_get P xs i d f.1 (omega arith)

-- eight texts, one behind another
pub eight_texts : (a b c d e f g h t0 t1 t2 t3 t4 t5 t6 t7 t8 : List ℕ) → t1 ≡ t0 ++ a → t2 ≡ t1 ++ b → t3 ≡ t2 ++ c → t4 ≡ t3 ++ d → t5 ≡ t4 ++ e → t6 ≡ t5 ++ f → t7 ≡ t6 ++ g → t8 ≡ t7 ++ h
    → t8 ≡ t0 ++ (a ++ (b ++ (c ++ (d ++ (e ++ (f ++ (g ++ h)))))))
eight_texts a b c d e f g h t0 t1 t2 t3 t4 t5 t6 t7 t8 e1 e2 e3 e4 e5 e6 e7 e8 =
    e8 ∙ ap (λ t. t ++ h) (e7 ∙ ap (λ t. t ++ g) (e6 ∙ ap (λ t. t ++ f) (e5 ∙ ap (λ t. t ++ e) (e4 ∙ ap (λ t. t ++ d) (e3 ∙ ap (λ t. t ++ c) (e2 ∙ ap (λ t. t ++ b) e1))))))
    ∙ append_assoc ((((((t0 ++ a) ++ b) ++ c) ++ d) ++ e) ++ f) g h
    ∙ append_assoc (((((t0 ++ a) ++ b) ++ c) ++ d) ++ e) f (g ++ h)
    ∙ append_assoc ((((t0 ++ a) ++ b) ++ c) ++ d) e (f ++ (g ++ h))
    ∙ append_assoc (((t0 ++ a) ++ b) ++ c) d (e ++ (f ++ (g ++ h)))
    ∙ append_assoc ((t0 ++ a) ++ b) c (d ++ (e ++ (f ++ (g ++ h))))
    ∙ append_assoc (t0 ++ a) b (c ++ (d ++ (e ++ (f ++ (g ++ h)))))
    ∙ append_assoc t0 a (b ++ (c ++ (d ++ (e ++ (f ++ (g ++ h))))))
