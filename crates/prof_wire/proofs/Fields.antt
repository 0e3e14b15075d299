-- Lists of fields, by the spans that cover them.
use Rattle.std.proofs.Common.{◌≡◌, ℕ, zero, suc, ◌+◌, ◌-◌, ◌*◌, ◌^◌, ◌<◌, ◌≤◌, Bool, true, false, not, ◌&&◌, ◌||◌, List, [], ◌∷◌, length, take, map, filter, slice_get, ◌++◌, cond, if◌then◌else◌, Option, Some, None, option_map, codes, refl, sym, ap, ◌∙◌, subst, arith, get_or, IsTrue}
use Rattle.std.specs.List.{list_any, list_all}
use Rattle.std.specs.Str.{bytes_eq}
use Rattle.std.specs.Str.Parse.{digits_value}
use Rattle.std.specs.Char.{is_ascii_digit, digit_value}
use Rattle.std.proofs.lemmas.List.Folds.{list_all_at}
use Rattle.std.proofs.lemmas.Bool.Decides.{nat_tests}
use Rattle.prof_wire.specs.Heads.{Pair, is_named, is_size, size_of, values}

pub any-map : {X Y : Type 0} (p : Y → Bool) (f : X → Y) (xs : List X) → list_any p (map f xs) ≡ list_any (λ x. p (f x)) xs
any-map p f [] = refl
any-map p f (x ∷ xs) = ap (λ b. p (f x) || b) (any-map p f xs)

-- a test of the values of the fields of a name
pub all-values : {X : Type 0} (test : List ℕ → Bool) (name : List ℕ) (f : X → Pair) (xs : List X)
    → list_all test (values name (map f xs)) ≡ list_all (λ x. not (is_named name (f x)) || test (f x).1) xs
all-values test name f [] = refl
all-values test name f (x ∷ xs) = go (is_named name (f x)) refl (all-values test name f xs)
  where
    go : (t : Bool) → is_named name (f x) ≡ t
        → list_all test (values name (map f xs)) ≡ list_all (λ y. not (is_named name (f y)) || test (f y).1) xs
        → list_all test (values name (map f (x ∷ xs))) ≡ ((not (is_named name (f x)) || test (f x).1) && list_all (λ y. not (is_named name (f y)) || test (f y).1) xs)
    go true e more = rw (e, more) refl
    go false e more = rw (e, more) refl

-- the first field of a name, where none in front of it has the name
pub first_named : {X : Type 0} (name : List ℕ) (f : X → Pair) (xs : List X) (i : ℕ) (d : X)
    → values name (map f (take i xs)) ≡ [] → i < length xs → is_named name (f (get_or xs i d)) ≡ true
    → Some (f (get_or xs i d)).1 ≡ slice_get (values name (map f xs)) 0
first_named name f [] i d none within is = absurd (omega arith)
first_named name f (x ∷ xs) zero d none within is = rw is refl
first_named name f (x ∷ xs) (suc i) d none within is = go (is_named name (f x)) refl (λ k. first_named name f xs i d k (omega arith) is)
  where
    go : (t : Bool) → is_named name (f x) ≡ t
        → (values name (map f (take i xs)) ≡ [] → Some (f (get_or xs i d)).1 ≡ slice_get (values name (map f xs)) 0)
        → Some (f (get_or xs i d)).1 ≡ slice_get (values name (map f (x ∷ xs))) 0
    go true e more = let bad : (f x).1 ∷ values name (map f (take i xs)) ≡ [] = rw e at none in cc bad
    go false e more = let rest : values name (map f (take i xs)) ≡ [] = rw e at none in rw e (more rest)

-- the size that values say, by the first of them
pub size_none : (texts : List (List ℕ)) → None ≡ slice_get texts 0 → Some 0 ≡ size_of texts
size_none [] e = refl
size_none (first ∷ texts) e = cc e

both : (a b : Bool) → b ≡ true → (a && b) ≡ a
both true b e = e
both false b e = refl

neither : (a b : Bool) → b ≡ false → (a && b) ≡ false
neither true b e = e
neither false b e = refl

pub size_said : (texts : List (List ℕ)) (text : List ℕ) → Some text ≡ slice_get texts 0 → list_all (bytes_eq text) texts ≡ true
    → (if is_size text then Some (digits_value 10 text) else None) ≡ size_of texts
size_said [] text e all = cc e
size_said (first ∷ texts) text e all =
    let same : text ≡ first = cc e in
    let equal : list_all (bytes_eq first) (first ∷ texts) ≡ true = subst (λ (t : List ℕ). list_all (bytes_eq t) (first ∷ texts) ≡ true) same all in
    subst (λ (t : List ℕ). (if is_size t then Some (digits_value 10 t) else None) ≡ size_of (first ∷ texts)) (sym same)
    (ap (λ (t : Bool). if t then Some (digits_value 10 first) else None) (sym (both _ _ equal)))

pub size_unsaid : (texts : List (List ℕ)) (text : List ℕ) → Some text ≡ slice_get texts 0 → list_all (bytes_eq text) texts ≡ false → None ≡ size_of texts
size_unsaid [] text e all = cc e
size_unsaid (first ∷ texts) text e all =
    let same : text ≡ first = cc e in
    let differ : list_all (bytes_eq first) (first ∷ texts) ≡ false = subst (λ (t : List ℕ). list_all (bytes_eq t) (first ∷ texts) ≡ false) same all in
    ap (λ (t : Bool). if t then Some (digits_value 10 first) else None) (sym (neither _ _ differ))

-- a digit of a number
pub digit_at : (digits : List ℕ) (i : ℕ) → list_all is_ascii_digit digits ≡ true → i < length digits → is_ascii_digit (get_or digits i 0) ≡ true
digit_at digits i all within = go (is_ascii_digit (get_or digits i 0)) refl
  where
    go : (t : Bool) → is_ascii_digit (get_or digits i 0) ≡ t → is_ascii_digit (get_or digits i 0) ≡ true
    go true e = e
    go false e = let bad : list_all is_ascii_digit digits ≡ false = list_all_at is_ascii_digit digits i 0 within e in cc (sym all ∙ bad)

pub digit_is : (d : ℕ) → is_ascii_digit d ≡ true → (digit_value d ≡ d - 48) × (d - 48 ≤ 9)
digit_is d e = (grind (arith, nat_tests), grind (arith, nat_tests))
