-- Entering a text.
use Rattle.std.proofs.Common.{◌≡◌, ℕ, zero, suc, ◌+◌, ◌<◌, Bool, true, false, cond, List, [], ◌∷◌, ◌++◌, length, map, get_or, Option, Some, None, refl, sym, ◌∙◌, ap, arith, add-zero, zero-add, inl, inr}
use Rattle.std.specs.Prelude.{slice_get, position, is_some, if◌then◌else◌}
use Rattle.std.specs.List.{position_from}
use Rattle.std.specs.Option.{option_or, option_map_or, option_map}
use Rattle.std.specs.Str.{bytes_eq}
use Rattle.std.proofs.lemmas.Bool.{cases_Bool}
use Rattle.std.proofs.lemmas.Option.{slice_get-map, slice_get-get_or}
use Rattle.std.proofs.lemmas.List.Quantifiers.{position-Some}
use Rattle.std.proofs.lemmas.Slice.Eq.{bytes_eq-Decides}
use Rattle.std.proofs.lemmas.Iterator.Adapters.{position_from-zero}
use Rattle.prof_raw.proofs.PushLemmas.{slice_get-push_last}
use Rattle.prof_raw.specs.Texts.{entry_text, texts_of, first_place, with_text, entered, IsPrefixOf}

-- the entry that a text was found at has that text
pub found_text : {K : Type 0} (bytes : K → List ℕ) (entries : List (K × ℕ)) (q : List ℕ) (e : ℕ) (d : K) →
    position (λ k. bytes_eq q (bytes k)) (map (λ p. p.0) entries) ≡ Some e → entry_text (λ p. bytes p.0) entries e ≡ q
found_text {K} bytes entries q e d h =
    let w = position-Some (λ k. bytes_eq q (bytes k)) (map (λ p. p.0) entries) e d h in
    let same : q ≡ bytes (get_or (map (λ (p : K × ℕ). p.0) entries) e d) = (bytes_eq-Decides q (bytes (get_or (map (λ (p : K × ℕ). p.0) entries) e d))).0 w.1 in
    let at : slice_get (map (λ (p : K × ℕ). p.0) entries) e ≡ Some (get_or (map (λ (p : K × ℕ). p.0) entries) e d) = slice_get-get_or (map (λ (p : K × ℕ). p.0) entries) e d w.0 in
    through (slice_get entries e) _ (sym (slice_get-map (λ (p : K × ℕ). p.0) entries e) ∙ at) ∙ sym same
  where
    through : (o : Option (K × ℕ)) (k : K) → option_map (λ (p : K × ℕ). p.0) o ≡ Some k → option_map_or (λ (p : K × ℕ). bytes p.0) o [] ≡ bytes k
    through None k e = cc
    through (Some p) k e = (let same : p.0 ≡ k = cc in ap bytes same)

-- a text that has a place keeps each place
or-kept : (o : Option ℕ) (b : Bool) (place : ℕ) → is_some o ≡ true → o ≡ option_or o (if b then Some place else None)
or-kept None b place h = cc
or-kept (Some x) b place h = refl

or-false : (o : Option ℕ) → o ≡ option_or o None
or-false None = refl
or-false (Some x) = refl

pub kept_places : (f : List ℕ → Option ℕ) (text : List ℕ) (place : ℕ) → is_some (f text) ≡ true → (q : List ℕ) → f q ≡ entered (f q) q text place
kept_places f text place h q = elim (cases_Bool (bytes_eq q text)) [
  | inl e ↦ (let same : q ≡ text = (bytes_eq-Decides q text).0 e in or-kept (f q) (bytes_eq q text) place (ap (λ x. is_some (f x)) same ∙ h))
  | inr e ↦ rw e (or-false (f q))
]

-- a text without a place gets this one
pub new_places : (f g : List ℕ → Option ℕ) (text : List ℕ) (place : ℕ) → f text ≡ None → ((q : List ℕ) → g q ≡ cond (bytes_eq text q) (Some place) (f q)) → (q : List ℕ) → g q ≡ entered (f q) q text place
new_places f g text place h all q = elim (cases_Bool (bytes_eq q text)) [
  | inl e ↦ (let same : q ≡ text = (bytes_eq-Decides q text).0 e in
      let back : bytes_eq text q ≡ true = (bytes_eq-Decides text q).1 (sym same) in
      let none : f q ≡ None = ap f same ∙ h in
      all q ∙ rw (back, e, none) refl)
  | inr e ↦ all q ∙ others (bytes_eq text q) refl e
]
  where
    others : (b : Bool) → bytes_eq text q ≡ b → bytes_eq q text ≡ false → cond b (Some place) (f q) ≡ entered (f q) q text place
    others true k e = (let same : text ≡ q = (bytes_eq-Decides text q).0 k in let back : bytes_eq q text ≡ true = (bytes_eq-Decides q text).1 (sym same) in cc)
    others false k e = rw e (or-false (f q))

-- one more text has the first place where it had none
from-push : (t : List ℕ → Bool) (i : ℕ) (xs : List (List ℕ)) (y : List ℕ) → position_from t i (xs ++ y ∷ []) ≡ option_or (position_from t i xs) (cond (t y) (Some (i + length xs)) None)
from-push t i [] y = rw add-zero refl
from-push t i (x ∷ xs) y = elim (cases_Bool (t x)) [
  | inl e ↦ rw e refl
  | inr e ↦ (let n : i + 1 + length xs ≡ i + suc (length xs) = omega arith in rw e (from-push t (i + 1) xs y ∙ ap (λ k. option_or (position_from t (i + 1) xs) (cond (t y) (Some k) None)) n))
]

pub first_place-push : (texts : List (List ℕ)) (text q : List ℕ) → first_place (texts ++ text ∷ []) q ≡ entered (first_place texts q) q text (length texts)
first_place-push texts text q =
    position_from-zero (bytes_eq q) (texts ++ text ∷ []) ∙ from-push (bytes_eq q) 0 texts text
    ∙ ap (λ k. option_or (position_from (bytes_eq q) 0 texts) (cond (bytes_eq q text) (Some k) None)) (zero-add (length texts))
    ∙ ap (λ o. option_or o (cond (bytes_eq q text) (Some (length texts)) None)) (sym (position_from-zero (bytes_eq q) texts))

-- a list is the beginning of itself
pub app-nil : {A : Type 0} (xs : List A) → xs ≡ xs ++ []
app-nil [] = refl
app-nil (x ∷ xs) = ap (λ ys. x ∷ ys) (app-nil xs)

pub is_none_from : {A : Type 0} (o : Option A) → false ≡ is_some o → o ≡ None
is_none_from None h = refl
is_none_from (Some x) h = cc

-- the entry that was appended has its text
pub pushed_text : {K : Type 0} (bytes : K → List ℕ) (old new : List (K × ℕ)) (k : K) (place e : ℕ) → new ≡ old ++ (k, place) ∷ [] → e ≡ length old → entry_text (λ p. bytes p.0) new e ≡ bytes k
pushed_text {K} bytes old new k place e grown at = rw (grown, at) (ap (λ (o : Option (K × ℕ)). option_map_or (λ (p : K × ℕ). bytes p.0) o []) (slice_get-push_last old (k, place)))

-- an entry that stood keeps its text
kept_text : {K : Type 0} (bytes : K → List ℕ) (old more : List (K × ℕ)) (e : ℕ) → e < length old → entry_text (λ p. bytes p.0) (old ++ more) e ≡ entry_text (λ p. bytes p.0) old e
kept_text bytes [] more e h = absurd (omega arith)
kept_text bytes (x ∷ old) more zero h = refl
kept_text bytes (x ∷ old) more (suc e) h = kept_text bytes old more e (omega arith)

kept_texts : {K : Type 0} (bytes : K → List ℕ) (old more : List (K × ℕ)) (places : List ℕ) → ((k d : ℕ) → k < length places → get_or places k d < length old) → texts_of (λ p. bytes p.0) (old ++ more) places ≡ texts_of (λ p. bytes p.0) old places
kept_texts bytes old more [] h = refl
kept_texts bytes old more (e ∷ places) h =
    let first : e < length old = h 0 0 (omega arith) in
    let rest = kept_texts bytes old more places (λ k d lt. h (suc k) d (omega arith)) in
    ap (λ x. x ∷ texts_of (λ p. bytes p.0) (old ++ more) places) (kept_text bytes old more e first) ∙ ap (λ xs. entry_text (λ p. bytes p.0) old e ∷ xs) rest

map-push : {A B : Type 0} (f : A → B) (xs : List A) (y : A) → map f (xs ++ y ∷ []) ≡ map f xs ++ f y ∷ []
map-push f [] y = refl
map-push f (x ∷ xs) y = ap (λ ys. f x ∷ ys) (map-push f xs y)

-- one more text was entered
pub texts_push : {K : Type 0} (bytes : K → List ℕ) (old new : List (K × ℕ)) (places : List ℕ) (e : ℕ) (texts : List (List ℕ)) (text : List ℕ) → IsPrefixOf old new →
    ((k d : ℕ) → k < length places → get_or places k d < length old) → texts_of (λ p. bytes p.0) old places ≡ texts → entry_text (λ p. bytes p.0) new e ≡ text →
    texts_of (λ p. bytes p.0) new (places ++ e ∷ []) ≡ texts ++ text ∷ []
texts_push bytes old new places e texts text prefix within read at =
    map-push (entry_text (λ p. bytes p.0) new) places e
    ∙ ap (λ xs. xs ++ entry_text (λ p. bytes p.0) new e ∷ []) (ap (λ es. texts_of (λ p. bytes p.0) es places) prefix.1 ∙ kept_texts bytes old prefix.0 places within ∙ read)
    ∙ ap (λ x. texts ++ x ∷ []) at

pub read_push : {K : Type 0} (bytes : K → List ℕ) (old new : List (K × ℕ)) (places : List ℕ) (e : ℕ) (done : List K) (text : K) → IsPrefixOf old new →
    ((k d : ℕ) → k < length places → get_or places k d < length old) → texts_of (λ p. bytes p.0) old places ≡ map bytes done → entry_text (λ p. bytes p.0) new e ≡ bytes text →
    texts_of (λ p. bytes p.0) new (places ++ e ∷ []) ≡ map bytes (done ++ text ∷ [])
read_push bytes old new places e done text prefix within read at =
    texts_push bytes old new places e (map bytes done) (bytes text) prefix within read at ∙ sym (map-push bytes done text)

pub length-map : {A B : Type 0} (f : A → B) (xs : List A) → length (map f xs) ≡ length xs
length-map f [] = refl
length-map f (x ∷ xs) = ap suc (length-map f xs)

-- the places after one more text
pub place_push : (texts : List (List ℕ)) (text q : List ℕ) (before : Option ℕ) (n : ℕ) → before ≡ first_place texts q → n ≡ length texts → entered before q text n ≡ first_place (texts ++ text ∷ []) q
place_push texts text q before n e many = ap (λ o. entered o q text n) e ∙ ap (λ k. entered (first_place texts q) q text k) many ∙ sym (first_place-push texts text q)

pub found_push : {K : Type 0} (bytes : K → List ℕ) (done : List K) (text : K) (before : Option ℕ) (q : List ℕ) → before ≡ first_place (map bytes done) q →
    entered before q (bytes text) (length done) ≡ first_place (map bytes (done ++ text ∷ [])) q
found_push bytes done text before q e =
    place_push (map bytes done) (bytes text) q before (length done) e (sym (length-map bytes done)) ∙ ap (λ xs. first_place xs q) (sym (map-push bytes done text))

-- a text that had no place stands behind the others
pub place-pushed : (texts : List (List ℕ)) (text : List ℕ) → first_place texts text ≡ None → first_place (texts ++ text ∷ []) text ≡ Some (length texts)
place-pushed texts text none = first_place-push texts text text ∙ rw (none, (bytes_eq-Decides text text).1 refl) refl

pub with_text-new : (texts : List (List ℕ)) (text : List ℕ) → first_place texts text ≡ None → texts ++ text ∷ [] ≡ with_text texts text
with_text-new texts text none = rw none refl
