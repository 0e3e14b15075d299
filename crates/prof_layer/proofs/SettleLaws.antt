-- Lists taken item by item
use Rattle.std.proofs.Common.{◌≡◌, ℕ, ◌+◌, ◌-◌, ◌*◌, ◌<◌, ◌≤◌, List, [], ◌∷◌, ◌++◌, length, get_or, take, drop, Option, None, Some, sym, ap, ◌∙◌, arith, add-one, drop-cons, length-drop, append_assoc}
use Rattle.std.proofs.Math.Nat.{mul-le-mul_left}
use Rattle.std.proofs.lemmas.List.{take_more, take_all, length-take-le, take-append-drop}
use Rattle.std.proofs.Math.Seq.{take-append-add}
use Rattle.std.specs.Prelude.{MatchOption}

-- the next item of what is left
pub next-drop : {A : Type 0} (xs : List A) (k : ℕ) (left rest : List A) (len new_len : ℕ) (r : Option A) → k < length xs → left ≡ drop k xs → len ≡ length left
    → MatchOption r ((len ≡ 0) × (new_len ≡ 0)) (λ x. (left ≡ x ∷ rest) × (new_len + 1 ≡ len))
    → rest ≡ drop (k + 1) xs
next-drop xs k left rest len new_len None lt is count h = absurd (omega (arith, ap length is, length-drop k xs, h.0))
next-drop xs k left rest len new_len (Some x) lt is count h =
    let one : drop k xs ≡ get_or xs k x ∷ drop (k + 1) xs = rw (add-one, drop-cons xs k x) in
    let both : x ∷ rest ≡ get_or xs k x ∷ drop (k + 1) xs = sym h.0 ∙ is ∙ one in
    cc

pub next-item : {A : Type 0} (xs : List A) (k : ℕ) (left rest : List A) (x : A) → k < length xs → left ≡ drop k xs → left ≡ x ∷ rest → x ≡ get_or xs k x
next-item xs k left rest x lt is h =
    let one : drop k xs ≡ get_or xs k x ∷ drop (k + 1) xs = rw (add-one, drop-cons xs k x) in
    let both : x ∷ rest ≡ get_or xs k x ∷ drop (k + 1) xs = sym h ∙ is ∙ one in
    cc

-- one item more at the end
pub front-more : {A : Type 0} (begun xs now next : List A) (k : ℕ) (x : A) → k < length xs → x ≡ get_or xs k x → now ≡ begun ++ take k xs → next ≡ now ++ x ∷ [] → next ≡ begun ++ take (k + 1) xs
front-more begun xs now next k x lt is n h =
    h ∙ ap (λ l. l ++ x ∷ []) n ∙ append_assoc begun (take k xs) (x ∷ []) ∙ ap (λ y. begun ++ (take k xs ++ y ∷ [])) is ∙ ap (λ l. begun ++ l) (sym (take_more xs k x lt))

-- one reading more of each row
pub reads-more : (begun now new n k many top : ℕ) → now ≤ begun + k * n → new ≤ now + top → top ≤ n → k + 1 ≤ many → new ≤ begun + many * n
reads-more begun now new n k many top h step few more =
    let le : n * (k + 1) ≤ n * many = mul-le-mul_left n more in
    omega (arith, le)

-- a front, and what comes after it
pub front-all : {A : Type 0} (xs begun new : List A) (common k : ℕ) → common ≤ length xs → begun ≡ take common xs → new ≡ begun ++ take k (drop common xs) → new ≡ take (common + k) xs
front-all xs begun new common k le is h =
    let count : length (take common xs) ≡ common = length-take-le common xs le in
    h ∙ ap (λ l. l ++ take k (drop common xs)) is ∙ sym (take-append-add (take common xs) (drop common xs) k)
    ∙ ap (λ n. take (n + k) (take common xs ++ drop common xs)) count ∙ ap (take (common + k)) (take-append-drop common xs)

pub front-length : {A : Type 0} (xs new : List A) (common k : ℕ) → common ≤ length xs → k ≤ length (drop common xs) → new ≡ take (common + k) xs → length new ≡ common + k
front-length xs new common k le few is = ap length is ∙ length-take-le (common + k) xs (omega (arith, length-drop common xs))

-- a slice up to the end
pub slice-rest : {A : Type 0} (xs : List A) (n : ℕ) → take (length xs - n) (drop n xs) ≡ drop n xs
slice-rest xs n = take_all (length xs - n) (drop n xs) (omega (arith, length-drop n xs))
