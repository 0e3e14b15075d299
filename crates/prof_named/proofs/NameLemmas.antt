-- Places of names, and names by their entries
use Rattle.std.proofs.Common.{◌≡◌, ℕ, suc, ◌+◌, ◌≤◌, cond, true, false, Bool, not, List, [], ◌∷◌, ◌++◌, length, map, take, drop, Some, None, refl, sym, ap, ◌∙◌, arith}
use Rattle.std.specs.Prelude.{nat_lt, ◌||◌}
use Rattle.std.specs.Str.{bytes_eq}
use Rattle.std.specs.List.{remove, position, position_or_len, list_any}
use Rattle.std.proofs.lemmas.List.{map-append, take-map, drop-map}
use Rattle.prof_io.specs.Named.{place_of}
use Rattle.prof_io.proofs.NamedLemmas.{same_names, names_same}
use Rattle.prof_named.specs.Names.{names_of}

module _ {X : Type 0} (p : X → Bool) where
  within : (xs : List X) → position_or_len p xs ≤ length xs
  within [] = omega arith
  within (x ∷ xs) = at (p x) (within xs)
    where
      at : (b : Bool) → position_or_len p xs ≤ length xs → cond (not b) (1 + position_or_len p xs) 0 ≤ suc (length xs)
      at true h = omega arith
      at false h = omega arith

  chosen : (b : Bool) (n k : ℕ) → cond b (Some n) None ≡ Some k → n ≡ k
  chosen true n k h = cc
  chosen false n k h = cc

  pub place_found : (xs : List X) (k : ℕ) → position p xs ≡ Some k → k ≡ position_or_len p xs
  place_found xs k h = sym (chosen (nat_lt (position_or_len p xs) (length xs)) (position_or_len p xs) k h)

  pub place_lacks : (xs : List X) → position p xs ≡ None → length xs ≡ position_or_len p xs
  place_lacks xs h = at (nat_lt (position_or_len p xs) (length xs)) refl h
    where
      at : (b : Bool) → nat_lt (position_or_len p xs) (length xs) ≡ b → cond b (Some (position_or_len p xs)) None ≡ None → length xs ≡ position_or_len p xs
      at true e k = cc
      at false e k = grind (arith, within xs)

  pub none_any : (xs : List X) → length xs ≤ position_or_len p xs → list_any p xs ≡ false
  none_any [] h = refl
  none_any (x ∷ xs) h = at (p x) h (none_any xs)
    where
      at : (b : Bool) → suc (length xs) ≤ cond (not b) (1 + position_or_len p xs) 0 → (length xs ≤ position_or_len p xs → list_any p xs ≡ false) → (b || list_any p xs) ≡ false
      at true k rest = absurd (omega arith)
      at false k rest = rest (omega arith)

module _ {X Y : Type 0} (f : X → Y) where
  pub place-mapped : (p : Y → Bool) (xs : List X) → position_or_len p (map f xs) ≡ position_or_len (λ x. p (f x)) xs
  place-mapped p [] = refl
  place-mapped p (x ∷ xs) = ap (λ k. cond (not (p (f x))) (1 + k) 0) (place-mapped p xs)

  pub removed-mapped : (xs : List X) (i : ℕ) → map f (remove xs i) ≡ remove (map f xs) i
  removed-mapped xs i = map-append f (take i xs) (drop (suc i) xs) ∙ (ap (λ l. l ++ map f (drop (suc i) xs)) (sym (take-map f i xs)) ∙ ap (λ l. take i (map f xs) ++ l) (sym (drop-map f (suc i) xs)))

-- the index after a new name
pub pushed : {X : Type 0} (b : Bool) (xs ys zs : List X) → b ≡ false → zs ≡ cond b xs ys → zs ≡ ys
pushed true xs ys zs e h = cc
pushed false xs ys zs e h = h

turned : (a b : List ℕ) → bytes_eq a b ≡ bytes_eq b a
turned a b = at (bytes_eq a b) (bytes_eq b a) refl refl
  where
    at : (x y : Bool) → bytes_eq a b ≡ x → bytes_eq b a ≡ y → x ≡ y
    at true true e f = refl
    at false false e f = refl
    at true false e f = sym (names_same b a (sym (same_names a b e))) ∙ f
    at false true e f = sym e ∙ names_same a b (sym (same_names b a f))

pub place-named : {X : Type 0} (es : List (List ℕ × X)) (name : List ℕ) → position_or_len (bytes_eq name) (names_of es) ≡ place_of es name
place-named [] name = refl
place-named (e ∷ es) name = ap (λ b. cond (not b) (1 + position_or_len (bytes_eq name) (names_of es)) 0) (turned name e.0) ∙ at (bytes_eq e.0 name) _ _ (place-named es name)
  where
    at : (b : Bool) (m n : ℕ) → m ≡ n → cond (not b) (1 + m) 0 ≡ cond b 0 (suc n)
    at true m n h = refl
    at false m n h = omega arith
