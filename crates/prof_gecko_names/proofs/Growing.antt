-- The lists that grow with the functions: they grow by little, keep what they have, and each of their numbers is in its range.
use Rattle.std.proofs.Common.{◌≡◌, ℕ, suc, ◌+◌, ◌<◌, ◌≤◌, Bool, true, false, List, [], ◌∷◌, ◌++◌, length, Option, None, Some, IfSome, refl, ◌∙◌, ap, arith, inl, inr, length-append}
use Rattle.std.specs.Prelude.{is_some, unwrap_or, if◌then◌else◌, All}
use Rattle.std.specs.List.{list_any, position_or_len}
use Rattle.std.specs.Option.{option_or}
use Rattle.std.specs.Str.{bytes_eq}
use Rattle.std.proofs.lemmas.Bool.{cases_Bool}
use Rattle.std.proofs.lemmas.List.Quantifiers.{position-Some}
use Rattle.std.proofs.lemmas.List.Elements.{All-push, All-weaker}
use Rattle.std.proofs.lemmas.Slice.Eq.{bytes_eq-Decides}
use Rattle.prof_raw.specs.Texts.{first_place, with_text, entered}
use Rattle.prof_raw.proofs.TextLemmas.{first_place-push}
use Rattle.prof_gecko_names.specs.declared.func.Func.{Func}
use Rattle.prof_gecko_names.specs.declared.func.ResourceKey.{ResourceKey}
use Rattle.prof_gecko_names.specs.Naming.{Named, Resource}
use Rattle.prof_gecko_names.specs.Lists.{Lists, place_in, maybe_place, with_maybe, same_resource, key_in, with_resource, resource_number, on_strings, add_func}

-- ---- texts

abbrev Has : List (List ℕ) → List ℕ → Type 0
Has strings t = is_some (first_place strings t) ≡ true

has_place : (strings : List (List ℕ)) (t : List ℕ) → Has strings t → place_in strings t < length strings
has_place strings t h = go (first_place strings t) refl h
  where
    go : (o : Option ℕ) → first_place strings t ≡ o → is_some o ≡ true → unwrap_or o 0 < length strings
    go None e h = absurd (grind (arith, h))
    go (Some n) e h = (position-Some (bytes_eq t) strings n [] e).0

with_is : (strings : List (List ℕ)) (t : List ℕ) (b : Bool) → is_some (first_place strings t) ≡ b → with_text strings t ≡ (if b then strings else strings ++ t ∷ [])
with_is strings t b e = rw e refl

or_second : (o : Option ℕ) (n : ℕ) → is_some (option_or o (Some n)) ≡ true
or_second None n = refl
or_second (Some m) n = refl

has_pushed : (strings : List (List ℕ)) (t : List ℕ) → Has (strings ++ t ∷ []) t
has_pushed strings t =
    let same : bytes_eq t t ≡ true = (bytes_eq-Decides t t).1 refl in
    let at : entered (first_place strings t) t t (length strings) ≡ option_or (first_place strings t) (Some (length strings)) = rw same refl in
    ap is_some (first_place-push strings t t ∙ at) ∙ or_second (first_place strings t) (length strings)

has_with : (strings : List (List ℕ)) (t : List ℕ) → Has (with_text strings t) t
has_with strings t = elim (cases_Bool (is_some (first_place strings t))) [
  | inl e ↦ ap (λ (s : List (List ℕ)). is_some (first_place s t)) (with_is strings t true e) ∙ e
  | inr e ↦ ap (λ (s : List (List ℕ)). is_some (first_place s t)) (with_is strings t false e) ∙ has_pushed strings t
]

-- a text that was entered has a place
pub text_placed : (strings : List (List ℕ)) (t : List ℕ) → place_in (with_text strings t) t < length (with_text strings t)
text_placed strings t = has_place (with_text strings t) t (has_with strings t)

-- the strings grow behind those that were there, by one at most
pub record Grows (most : ℕ) (old new : List (List ℕ)) : Type 0 where
  pub more : List (List ℕ)
  pub behind : new ≡ old ++ more
  pub few : length more ≤ most

pub nil_behind : {X : Type 0} (xs : List X) → xs ≡ xs ++ []
nil_behind [] = refl
nil_behind (x ∷ xs) = ap (λ ys. x ∷ ys) (nil_behind xs)

append_behind : {X : Type 0} (xs ys zs : List X) → (xs ++ ys) ++ zs ≡ xs ++ (ys ++ zs)
append_behind [] ys zs = refl
append_behind (x ∷ xs) ys zs = ap (λ l. x ∷ l) (append_behind xs ys zs)

text_grows : (strings : List (List ℕ)) (t : List ℕ) → Grows 1 strings (with_text strings t)
text_grows strings t = elim (cases_Bool (is_some (first_place strings t))) [
  | inl e ↦ record { more = []; behind = with_is strings t true e ∙ nil_behind strings; few = omega arith }
  | inr e ↦ record { more = t ∷ []; behind = with_is strings t false e; few = omega arith }
]

pub grows_none : (m : ℕ) (strings : List (List ℕ)) → Grows m strings strings
grows_none m strings = record { more = []; behind = nil_behind strings; few = omega arith }

pub grows_both : (m n : ℕ) (a b c : List (List ℕ)) → Grows m a b → Grows n b c → Grows (m + n) a c
grows_both m n a b c g h = record {
  more = g.more ++ h.more;
  behind = h.behind ∙ ap (λ s. s ++ h.more) g.behind ∙ append_behind a g.more h.more;
  few = (let e = length-append g.more h.more in let k = g.few in let l = h.few in omega arith);
}

pub grows_length : (m : ℕ) (a b : List (List ℕ)) → Grows m a b → (length a ≤ length b) × (length b ≤ length a + m)
grows_length m a b g = let e = ap (λ s. length s) g.behind ∙ length-append a g.more in let k = g.few in (omega arith, omega arith)

maybe_grows : (strings : List (List ℕ)) (t : Option (List ℕ)) → Grows 1 strings (with_maybe strings t)
maybe_grows strings None = grows_none 1 strings
maybe_grows strings (Some t) = text_grows strings t

maybe_placed : (strings : List (List ℕ)) (t : Option (List ℕ)) → IfSome (maybe_place (with_maybe strings t) t) (λ n. n < length (with_maybe strings t))
maybe_placed strings None = tt
maybe_placed strings (Some t) = text_placed strings t

resource_grows : (d : Lists) (r : Option Resource) → Grows 1 d.strings (with_resource d r).strings
resource_grows d None = grows_none 1 d.strings
resource_grows d (Some r) = text_grows d.strings r.name

-- one more function makes three more strings at most, behind those that were there
pub func_grows : (d : Lists) (f : Named) (relevant : Bool) → Grows 3 d.strings (add_func d f relevant).strings
func_grows d f relevant =
    let named = with_text d.strings f.name in
    let filed = with_maybe named f.file in
    grows_both 2 1 d.strings filed (add_func d f relevant).strings
    (grows_both 1 1 d.strings named filed (text_grows d.strings f.name) (maybe_grows named f.file))
    (resource_grows (on_strings d filed) f.resource)

-- ---- resources

-- the number of keys
keys_if : (b : Bool) (keys : List ResourceKey) (k : ResourceKey) → length (if b then keys else keys ++ k ∷ []) ≤ length keys + 1
keys_if true keys k = omega arith
keys_if false keys k = let e = length-append keys (k ∷ []) in omega arith

resource_keys : (d : Lists) (r : Option Resource) → length (with_resource d r).keys ≤ length d.keys + 1
resource_keys d None = omega arith
resource_keys d (Some r) =
    let key = key_in (with_text d.strings r.name) r in
    keys_if (list_any (same_resource key) d.keys) d.keys key

-- one more function makes one more resource at most
pub func_keys : (d : Lists) (f : Named) (relevant : Bool) → length (add_func d f relevant).keys ≤ length d.keys + 1
func_keys d f relevant = resource_keys (on_strings d (with_maybe (with_text d.strings f.name) f.file)) f.resource

resource_funcs : (d : Lists) (r : Option Resource) → (with_resource d r).funcs ≡ d.funcs
resource_funcs d None = refl
resource_funcs d (Some r) = refl

-- and one more function
pub func_count : (d : Lists) (f : Named) (relevant : Bool) → length (add_func d f relevant).funcs ≡ suc (length d.funcs)
func_count d f relevant =
    let before = on_strings d (with_maybe (with_text d.strings f.name) f.file) in
    let e = ap (λ fs. length fs) (resource_funcs before f.resource) in
    let g = length-append (with_resource before f.resource).funcs _ in
    g ∙ omega arith

-- ---- ranges

-- a function whose numbers are below these
pub record FitsIn (strings resources : ℕ) (f : Func) : Type 0 where
  pub name : f.name < strings
  pub file : IfSome f.file (λ n. n < strings)
  pub resource : IfSome f.resource (λ n. n < resources)

pub record AreFit (d : Lists) : Type 0 where
  pub resources : All (λ n. n < length d.strings) d.resources
  pub keys : length d.keys ≡ length d.resources
  pub funcs : All (FitsIn (length d.strings) (length d.resources)) d.funcs

some_more : (o : Option ℕ) (a b : ℕ) → a ≤ b → IfSome o (λ n. n < a) → IfSome o (λ n. n < b)
some_more None a b l h = tt
some_more (Some n) a b l h = omega arith

fits_more : (s t r q : ℕ) → s ≤ t → r ≤ q → (f : Func) → FitsIn s r f → FitsIn t q f
fits_more s t r q l m f h = (let name = h.name in record { name = omega arith; file = some_more f.file s t l h.file; resource = some_more f.resource r q m h.resource })

pub place_le : {X : Type 0} (p : X → Bool) (xs : List X) → position_or_len p xs ≤ length xs
place_le p [] = omega arith
place_le p (x ∷ xs) = let rest = place_le p xs in elim (cases_Bool (p x)) [
  | inl e ↦ rw e (omega arith)
  | inr e ↦ rw e (omega arith)
]

pub any_below : {X : Type 0} (p : X → Bool) (xs : List X) → list_any p xs ≡ true → position_or_len p xs < length xs
any_below p [] h = absurd (grind (arith, h))
any_below p (x ∷ xs) h = elim (cases_Bool (p x)) [
  | inl e ↦ rw e (omega arith)
  | inr e ↦ (let rest : list_any p xs ≡ true = rw e at h in let m = any_below p xs rest in rw e (omega arith))
]

-- what one more resource leaves
record Uses (d used : Lists) (place : Option ℕ) : Type 0 where
  resources : All (λ n. n < length used.strings) used.resources
  keys : length used.keys ≡ length used.resources
  funcs : All (FitsIn (length used.strings) (length used.resources)) used.funcs
  grows : length d.resources ≤ length used.resources
  number : IfSome place (λ n. n < length used.resources)

-- the lists after a resource, by whether it was there
abbrev after_resource : Lists → List (List ℕ) → ResourceKey → ℕ → Bool → Lists
after_resource d strings key place known = record {
  strings = strings;
  keys = if known then d.keys else d.keys ++ key ∷ [];
  resources = if known then d.resources else d.resources ++ place ∷ [];
  funcs = d.funcs;
}

uses_by : (d : Lists) (strings : List (List ℕ)) (key : ResourceKey) (place : ℕ) (known : Bool) → list_any (same_resource key) d.keys ≡ known → length d.strings ≤ length strings → place < length strings → AreFit d
    → Uses d (after_resource d strings key place known) (Some (position_or_len (same_resource key) d.keys))
uses_by d strings key place true e l h fit =
    let k = fit.keys in
    let at = any_below (same_resource key) d.keys e in
    record {
      resources = All-weaker (λ n. n < length d.strings) (λ n. n < length strings) (λ n k. omega arith) d.resources fit.resources;
      keys = fit.keys;
      funcs = All-weaker (FitsIn (length d.strings) (length d.resources)) _ (fits_more (length d.strings) (length strings) (length d.resources) (length d.resources) l (omega arith)) d.funcs fit.funcs;
      grows = omega arith;
      number = omega arith;
    }
uses_by d strings key place false e l h fit =
    let k = fit.keys in
    let more = length-append d.keys (key ∷ []) in
    let many = length-append d.resources (place ∷ []) in
    let at = place_le (same_resource key) d.keys in
    record {
      resources = All-push (λ n. n < length strings) d.resources place (All-weaker (λ n. n < length d.strings) (λ n. n < length strings) (λ n k. omega arith) d.resources fit.resources) h;
      keys = omega arith;
      funcs = All-weaker (FitsIn (length d.strings) (length d.resources)) _ (fits_more (length d.strings) (length strings) (length d.resources) (length (d.resources ++ place ∷ [])) l (omega arith)) d.funcs fit.funcs;
      grows = omega arith;
      number = omega arith;
    }

uses : (d : Lists) (r : Option Resource) → AreFit d → Uses d (with_resource d r) (resource_number d r)
uses d None fit = record { resources = fit.resources; keys = fit.keys; funcs = fit.funcs; grows = omega arith; number = tt }
uses d (Some r) fit =
    let strings = with_text d.strings r.name in
    let key = key_in strings r in
    let l = (grows_length 1 d.strings strings (text_grows d.strings r.name)).0 in
    uses_by d strings key (place_in strings r.name) (list_any (same_resource key) d.keys) refl l (text_placed d.strings r.name) fit

-- the lists on more strings
fit_on : (d : Lists) (strings : List (List ℕ)) → length d.strings ≤ length strings → AreFit d → AreFit (on_strings d strings)
fit_on d strings l fit = record {
  resources = All-weaker (λ n. n < length d.strings) (λ n. n < length strings) (λ n k. omega arith) d.resources fit.resources;
  keys = fit.keys;
  funcs = All-weaker (FitsIn (length d.strings) (length d.resources)) _ (fits_more (length d.strings) (length strings) (length d.resources) (length d.resources) l (omega arith)) d.funcs fit.funcs;
}

pub add_fits : (d : Lists) (f : Named) (relevant : Bool) → AreFit d → AreFit (add_func d f relevant)
add_fits d f relevant fit =
    let named = with_text d.strings f.name in
    let filed = with_maybe named f.file in
    let before = on_strings d filed in
    let used = with_resource before f.resource in
    let to_named = (grows_length 1 d.strings named (text_grows d.strings f.name)).0 in
    let to_filed = (grows_length 1 named filed (maybe_grows named f.file)).0 in
    let to_used = (grows_length 1 filed used.strings (resource_grows before f.resource)).0 in
    let u = uses before f.resource (fit_on d filed (omega arith) fit) in
    let placed = text_placed d.strings f.name in
    record {
      resources = u.resources;
      keys = u.keys;
      funcs = All-push (FitsIn (length used.strings) (length used.resources)) used.funcs _ u.funcs
          (record { name = omega arith; file = some_more (maybe_place filed f.file) (length filed) (length used.strings) to_used (maybe_placed named f.file); resource = u.number });
    }
