-- Items written with a byte between.
use Rattle.std.proofs.Common.{◌≡◌, ℕ, ◌+◌, ◌<◌, List, [], ◌∷◌, ◌++◌, length, get_or, take, suc, zero, refl, sym, ap, ◌∙◌, arith, append_assoc, append-nil, inl, inr, ◌⊎◌}
use Rattle.std.proofs.lemmas.List.{take_more}
use Rattle.prof_spell.specs.Pieces.{joined_text}

joined_more : {V : Type 0} (text : V → List ℕ) (mark : ℕ) (w : V) (ws : List V) (v : V) → joined_text text mark (w ∷ ws ++ v ∷ []) ≡ joined_text text mark (w ∷ ws) ++ (mark ∷ text v)
joined_more text mark w [] v = refl
joined_more text mark w (x ∷ ws) v = ap (λ t. text w ++ mark ∷ t) (joined_more text mark x ws v) ∙ sym (append_assoc (text w) (mark ∷ joined_text text mark (x ∷ ws)) (mark ∷ text v))

-- the text so far, and the next item with the byte before it
pub first_item : {V : Type 0} (text : V → List ℕ) (mark : ℕ) (xs : List V) (d : V) → 0 < length xs → joined_text text mark (take 1 xs) ≡ text (get_or xs 0 d)
first_item text mark [] d l = absurd (omega arith)
first_item text mark (x ∷ xs) d l = refl

pub next_item : {V : Type 0} (text : V → List ℕ) (mark : ℕ) (xs : List V) (i : ℕ) (d : V) → i < length xs → 0 < i → joined_text text mark (take (i + 1) xs) ≡ joined_text text mark (take i xs) ++ (mark ∷ text (get_or xs i d))
next_item text mark [] i d l p = absurd (omega arith)
next_item {V} text mark (x ∷ xs) zero d l p = absurd (omega arith)
next_item {V} text mark (x ∷ xs) (suc i) d l p =
    ap (joined_text text mark) (take_more (x ∷ xs) (suc i) d l) ∙ joined_more text mark x (take i xs) (get_or (x ∷ xs) (suc i) d)

-- One more item was written behind the items so far, with the byte between where there were any.
pub next_text : {V : Type 0} (text : V → List ℕ) (mark : ℕ) (xs : List V) (i : ℕ) (x : V) (start old mid new : List ℕ) → i < length xs → get_or xs i x ≡ x
    → old ≡ start ++ joined_text text mark (take i xs) → ((0 < i) × (mid ≡ old ++ mark ∷ [])) ⊎ ((i ≡ 0) × (mid ≡ old)) → new ≡ mid ++ text x
    → new ≡ start ++ joined_text text mark (take (i + 1) xs)
next_text text mark xs i x start old mid new small here so (inl more) last =
    let so-far : List ℕ = joined_text text mark (take i xs) in
    let grown : joined_text text mark (take (i + 1) xs) ≡ so-far ++ (mark ∷ text x) = next_item text mark xs i x small more.0 ∙ ap (λ y. so-far ++ (mark ∷ text y)) here in
    last ∙ ap (λ t. t ++ text x) (more.1 ∙ ap (λ t. t ++ mark ∷ []) so) ∙ append_assoc (start ++ so-far) (mark ∷ []) (text x) ∙ append_assoc start so-far (mark ∷ text x) ∙ ap (λ t. start ++ t) (sym grown)
next_text text mark xs i x start old mid new small here so (inr none) last =
    let first-one : joined_text text mark (take (i + 1) xs) ≡ text x =
    ap (λ n. joined_text text mark (take (n + 1) xs)) none.0 ∙ first_item text mark xs x (omega arith) ∙ ap (λ n. text (get_or xs n x)) (sym none.0) ∙ ap text here in
    let begin : old ≡ start = so ∙ ap (λ n. start ++ joined_text text mark (take n xs)) none.0 ∙ append-nil start in
    last ∙ ap (λ t. t ++ text x) (none.1 ∙ begin) ∙ ap (λ t. start ++ t) (sym first-one)

-- what a read outside the list gives plays no part within it
pub within_list : {V : Type 0} (xs : List V) (i : ℕ) (d e : V) → i < length xs → get_or xs i d ≡ get_or xs i e
within_list [] i d e l = absurd (omega arith)
within_list (x ∷ xs) zero d e l = refl
within_list (x ∷ xs) (suc i) d e l = within_list xs i d e (omega arith)
