-- Two lists with a common front.
use Rattle.std.proofs.Common.{◌≡◌, ℕ, ◌+◌, ◌≤◌, Bool, true, false, List, [], ◌∷◌, ◌++◌, length, length-append, take, suc, refl, sym, ap, ◌∙◌, arith}
use Rattle.std.specs.Prelude.{⊤, Some}
use Rattle.prof_spell.specs.Spelling.{first, Apart}

-- each byte passes
abbrev pub Passes : (ℕ → Bool) → List ℕ → Type 0
Passes p [] = ⊤
Passes p (b ∷ bs) = (p b ≡ true) × Passes p bs

pub passes_append : (p : ℕ → Bool) (xs ys : List ℕ) → Passes p xs → Passes p ys → Passes p (xs ++ ys)
passes_append p [] ys h k = k
passes_append p (x ∷ xs) ys h k = (h.0, passes_append p xs ys h.1 k)

not_both : (p : ℕ → Bool) (b c : ℕ) (bs cs ys : List ℕ) → p b ≡ true → Apart p ys → ys ≡ b ∷ bs → ⊥
not_both p b c bs cs [] h a e = cc
not_both p b c bs cs (y ∷ ys) h a e = let f : y ≡ b = cc in let g : p b ≡ false = rw f at a in cc

-- a front that passes reaches as far as the bytes pass
pub reaches : (p : ℕ → Bool) (xs zs ys : List ℕ) (b : ℕ) (s : List ℕ) → Passes p zs → p b ≡ true → Apart p ys → xs ++ ys ≡ zs ++ b ∷ s → (u : List ℕ) × (xs ≡ zs ++ b ∷ u)
reaches p [] [] ys b s z h a e = absurd (not_both p b b s s ys h a e)
reaches p (x ∷ xs) [] ys b s z h a e = let f : x ≡ b = cc in (xs, ap (λ c. c ∷ xs) f)
reaches p [] (c ∷ zs) ys b s z h a e = absurd (not_both p c c (zs ++ b ∷ s) s ys z.0 a e)
reaches p (x ∷ xs) (c ∷ zs) ys b s z h a e =
    let f : x ≡ c = cc in
    let g : xs ++ ys ≡ zs ++ b ∷ s = cc in
    let r = reaches p xs zs ys b s z.1 h a g in
    let k : xs ≡ zs ++ b ∷ r.0 = r.1 in
    (r.0, ap (λ d. d ∷ xs) f ∙ ap (λ d. c ∷ d) k)

-- two fronts that pass and end where the bytes don't are one
pub one_front : (p : ℕ → Bool) (xs zs ys ws : List ℕ) → Passes p xs → Passes p zs → Apart p ys → Apart p ws → xs ++ ys ≡ zs ++ ws → xs ≡ zs
one_front p [] [] ys ws x z a b e = refl
one_front p (x ∷ xs) [] ys ws h z a b e = absurd (not_both p x x (xs ++ ys) ys ws h.0 b (sym e))
one_front p [] (c ∷ zs) ys ws h z a b e = absurd (not_both p c c (zs ++ ws) ws ys z.0 a e)
one_front p (x ∷ xs) (c ∷ zs) ys ws h z a b e =
    let f : x ≡ c = cc in
    let g : xs ++ ys ≡ zs ++ ws = cc in
    let k : xs ≡ zs = one_front p xs zs ys ws h.1 z.1 a b g in
    ap (λ d. d ∷ xs) f ∙ ap (λ d. c ∷ d) k

pub first_cons : (b : ℕ) (s : List ℕ) → first s ≡ Some b → (t : List ℕ) × (s ≡ b ∷ t)
first_cons b [] e = cc
first_cons b (c ∷ cs) e = let f : c ≡ b = cc in (cs, ap (λ d. d ∷ cs) f)

pub first_append : (g s t : List ℕ) → first s ≡ first t → first (g ++ s) ≡ first (g ++ t)
first_append [] s t e = e
first_append (b ∷ g) s t e = refl

-- of two fronts of one list, the one with less behind it goes on from the other
pub longer_front : (f g s t : List ℕ) → f ++ s ≡ g ++ t → length t ≤ length s → (h : List ℕ) × (g ≡ f ++ h) × (s ≡ h ++ t)
longer_front [] g s t e l = (g, refl, e)
longer_front (x ∷ f) [] s t e l =
    let k : length (x ∷ f ++ s) ≡ length t = ap length e in
    absurd (omega (arith, length-append f s))
longer_front (x ∷ f) (y ∷ g) s t e l =
    let a : x ≡ y = cc in
    let b : f ++ s ≡ g ++ t = cc in
    let r = longer_front f g s t b l in
    let k : g ≡ f ++ r.0 = r.1 in
    (r.0, ap (λ z. z ∷ g) (sym a) ∙ ap (λ z. x ∷ z) k, r.2)

-- what doesn't begin with a byte that passes, stays so by its first byte
pub apart_first : (p : ℕ → Bool) (s t : List ℕ) → first s ≡ first t → Apart p t → Apart p s
apart_first p [] t e a = tt
apart_first p (b ∷ s) [] e a = cc
apart_first p (b ∷ s) (c ∷ t) e a = let f : c ≡ b = cc in rw f at a

pub take_past : (f : List ℕ) (c : ℕ) (s : List ℕ) → take (length f + 1) (f ++ c ∷ s) ≡ f ++ c ∷ []
take_past [] c s = refl
take_past (b ∷ f) c s =
    let e : length (b ∷ f) + 1 ≡ suc (length f + 1) = omega arith in
    ap (λ n. take n (b ∷ (f ++ c ∷ s))) e ∙ ap (λ t. b ∷ t) (take_past f c s)
