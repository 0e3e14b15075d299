-- Texts that are set by their keys.
use Rattle.std.proofs.Common.{◌≡◌, ℕ, ◌<◌, ◌≤◌, suc, List, [], ◌∷◌, ◌++◌, length, get_or, set, true, false, Bool, None, Some, cond, refl, sym, ap, ◌∙◌, arith}
use Rattle.std.specs.Str.{bytes_eq}
use Rattle.std.specs.declared.option.Option.{Option}
use Rattle.std.proofs.lemmas.Slice.Eq.{bytes_eq-Decides}
use Rattle.prof_io.specs.Shelf.{Shelf, file_at}
use Rattle.prof_io.specs.Named.{place_of}

-- the text at the place of a key is the one that is found
pub text_there : (entries : Shelf) (key : List ℕ) (entry : List ℕ × List ℕ)
    → place_of entries key < length entries → entry ≡ get_or entries (place_of entries key) entry → file_at entries key ≡ Some entry.1
text_there [] key entry = λ h e. absurd (omega arith)
text_there (x ∷ xs) key entry =
    elim (bytes_eq x.0 key) as (λ b. cond b 0 (suc (place_of xs key)) < suc (length xs) → entry ≡ get_or (x ∷ xs) (cond b 0 (suc (place_of xs key))) entry
    → cond b (Some x.1) (file_at xs key) ≡ Some entry.1)
    [ true ↦ λ h e. ap (λ (f : List ℕ × List ℕ). Some f.1) (sym e) | false ↦ λ h e. text_there xs key entry (omega arith) e ]

-- a key past the last place has no text
pub text_lacks : (entries : Shelf) (key : List ℕ) → length entries ≤ place_of entries key → file_at entries key ≡ None
text_lacks [] key = λ h. refl
text_lacks (x ∷ xs) key =
    elim (bytes_eq x.0 key) as (λ b. suc (length xs) ≤ cond b 0 (suc (place_of xs key)) → cond b (Some x.1) (file_at xs key) ≡ None)
    [ true ↦ λ h. absurd (omega arith) | false ↦ λ h. text_lacks xs key (omega arith) ]

cond_twice : {A : Type 0} → (b : Bool) (x y z : A) → cond b x z ≡ cond b x (cond b y z)
cond_twice true x y z = refl
cond_twice false x y z = refl

cond_swap : {A : Type 0} → (b c : Bool) (x y z : A) → (b ≡ true → c ≡ true → ⊥) → cond b x (cond c y z) ≡ cond c y (cond b x z)
cond_swap true true x y z h = absurd (h refl refl)
cond_swap true false x y z h = refl
cond_swap false true x y z h = refl
cond_swap false false x y z h = refl

-- a text that has one key has no other
not_both : (a key other : List ℕ) → bytes_eq a key ≡ false → bytes_eq a other ≡ true → bytes_eq key other ≡ true → ⊥
not_both a key other f s t =
    let one : a ≡ key = (bytes_eq-Decides a other).0 s ∙ sym ((bytes_eq-Decides key other).0 t) in
    let both : bytes_eq a key ≡ true = (bytes_eq-Decides a key).1 one in
    cc

-- a text that is set in its place is the text of its key, and those of the other keys stay
pub set_puts : (entries : Shelf) (key text : List ℕ) (entry : List ℕ × List ℕ)
    → place_of entries key < length entries → entry ≡ get_or entries (place_of entries key) entry
    → (other : List ℕ) → file_at (set entries (place_of entries key) (entry.0, text)) other ≡ cond (bytes_eq key other) (Some text) (file_at entries other)
set_puts [] key text entry = λ h e other. absurd (omega arith)
set_puts (x ∷ xs) key text entry =
    (elim (bytes_eq x.0 key) as (λ b. bytes_eq x.0 key ≡ b → cond b 0 (suc (place_of xs key)) < suc (length xs) → entry ≡ get_or (x ∷ xs) (cond b 0 (suc (place_of xs key))) entry
    → (other : List ℕ) → file_at (set (x ∷ xs) (cond b 0 (suc (place_of xs key))) (entry.0, text)) other ≡ cond (bytes_eq key other) (Some text) (cond (bytes_eq x.0 other) (Some x.1) (file_at xs other))) [
      | true ↦ λ t h e other.
          let here : x.0 ≡ key = (bytes_eq-Decides x.0 key).0 t in
          let there : entry.0 ≡ key = ap (λ (f : List ℕ × List ℕ). f.0) e ∙ here in
          ap (λ (k : List ℕ). cond (bytes_eq k other) (Some text) (file_at xs other)) there
          ∙ cond_twice (bytes_eq key other) (Some text) (Some x.1) (file_at xs other)
          ∙ ap (λ (k : List ℕ). cond (bytes_eq key other) (Some text) (cond (bytes_eq k other) (Some x.1) (file_at xs other))) (sym here)
      | false ↦ λ f h e other.
          ap (λ (l : Option (List ℕ)). cond (bytes_eq x.0 other) (Some x.1) l) (set_puts xs key text entry (omega arith) e other)
          ∙ cond_swap (bytes_eq x.0 other) (bytes_eq key other) (Some x.1) (Some text) (file_at xs other) (not_both x.0 key other f)
    ]) refl

-- a text that is added for a key that is lacking is the text of its key, and those of the other keys stay
pub push_puts : (entries : Shelf) (key text : List ℕ) → length entries ≤ place_of entries key
    → (other : List ℕ) → file_at (entries ++ (key, text) ∷ []) other ≡ cond (bytes_eq key other) (Some text) (file_at entries other)
push_puts [] key text = λ h other. refl
push_puts (x ∷ xs) key text =
    (elim (bytes_eq x.0 key) as (λ b. bytes_eq x.0 key ≡ b → suc (length xs) ≤ cond b 0 (suc (place_of xs key))
    → (other : List ℕ) → cond (bytes_eq x.0 other) (Some x.1) (file_at (xs ++ (key, text) ∷ []) other) ≡ cond (bytes_eq key other) (Some text) (cond (bytes_eq x.0 other) (Some x.1) (file_at xs other))) [
      | true ↦ λ t h other. absurd (omega arith)
      | false ↦ λ f h other.
          ap (λ (l : Option (List ℕ)). cond (bytes_eq x.0 other) (Some x.1) l) (push_puts xs key text (omega arith) other)
          ∙ cond_swap (bytes_eq x.0 other) (bytes_eq key other) (Some x.1) (Some text) (file_at xs other) (not_both x.0 key other f)
    ]) refl

-- the same, where the place has another name
pub found_text : (entries : Shelf) (key : List ℕ) (place : ℕ) (entry : List ℕ × List ℕ)
    → place ≡ place_of entries key → place < length entries → entry ≡ get_or entries place entry → file_at entries key ≡ Some entry.1
found_text entries key place entry e h g = text_there entries key entry (omega arith) (rw e at g)

pub lacking_text : (entries : Shelf) (key : List ℕ) (place : ℕ) → place ≡ place_of entries key → length entries ≤ place → file_at entries key ≡ None
lacking_text entries key place e h = text_lacks entries key (omega arith)

pub set_puts_at : (entries : Shelf) (key text new : List ℕ) (place : ℕ) (entry : List ℕ × List ℕ)
    → new ≡ text → place ≡ place_of entries key → place < length entries → entry ≡ get_or entries place entry
    → (other : List ℕ) → file_at (set entries place (entry.0, new)) other ≡ cond (bytes_eq key other) (Some text) (file_at entries other)
set_puts_at entries key text new place entry n e h g other = rw (n, e) (set_puts entries key text entry (omega arith) (rw e at g) other)

pub push_puts_at : (entries all : Shelf) (key name text new : List ℕ) (place : ℕ)
    → all ≡ entries ++ (name, new) ∷ [] → name ≡ key → new ≡ text → place ≡ place_of entries key → length entries ≤ place
    → (other : List ℕ) → file_at all other ≡ cond (bytes_eq key other) (Some text) (file_at entries other)
push_puts_at entries all key name text new place a m n e h other = rw (a, m, n) (push_puts entries key text (omega arith) other)
