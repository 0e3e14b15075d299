-- Terms in lower case, and the words of a marker
use Rattle.std.proofs.Common.{◌≡◌, ℕ, Bool, true, false, ◌||◌, List, [], ◌∷◌, ◌++◌, length, map, Result, Ok, Err, sym, ap, ◌∙◌, refl}
use Rattle.std.specs.Prelude.{IfOk}
use Rattle.std.specs.List.{list_any}
use Rattle.std.specs.Str.{str_to_ascii_lowercase}
use Rattle.std.proofs.lemmas.Bool.{or_left, or_right}
use Rattle.std.proofs.lemmas.List.{length-map}
use Rattle.std.proofs.lemmas.List.Folds.{list_any-append}
use Rattle.prof_path.specs.Terms.{has_term}
use Rattle.prof_path.specs.Lowered.{has_lowered}
use Rattle.prof_marker.specs.Found.{has_some}

-- terms in lower case
lowered_is : (terms : List (List ℕ)) (text : List ℕ) → has_lowered (map str_to_ascii_lowercase terms) text ≡ has_some terms text
lowered_is [] text = refl
lowered_is (t ∷ terms) text = ap (λ b. has_term t text || b) (lowered_is terms text)

pub lowered_any : (terms : List (List ℕ)) (texts : List (List ℕ)) → list_any (has_lowered (map str_to_ascii_lowercase terms)) texts ≡ list_any (has_some terms) texts
lowered_any terms [] = refl
lowered_any terms (text ∷ texts) =
    ap (λ b. b || list_any (has_lowered (map str_to_ascii_lowercase terms)) texts) (lowered_is terms text)
    ∙ ap (λ b. has_some terms text || b) (lowered_any terms texts)

-- the parts of the words of a marker
pub any_parts : (p : List ℕ → Bool) (name : List ℕ) (own more : List (List ℕ)) → p name ≡ false → list_any p own ≡ false → list_any p more ≡ list_any p (name ∷ (own ++ more))
any_parts p name own more none_name none_own =
    sym (ap (λ b. b || list_any p (own ++ more)) none_name ∙ (list_any-append p own more ∙ ap (λ b. b || list_any p more) none_own))

pub any_own : (p : List ℕ → Bool) (name : List ℕ) (own more : List (List ℕ)) → list_any p own ≡ true → true ≡ list_any p (name ∷ (own ++ more))
any_own p name own more t = sym (or_right (p name) (list_any p (own ++ more)) (list_any-append p own more ∙ or_left (list_any p own) (list_any p more) t))

pub if_ok : {T E : Type 0} {P Q : T → Type 0} (r : Result T E) → IfOk r P → ((x : T) → P x → Q x) → IfOk r Q
if_ok (Ok x) p f = f x p
if_ok (Err e) p f = tt

pub same_many : (terms lowered : List (List ℕ)) → lowered ≡ map str_to_ascii_lowercase terms → length terms ≡ length lowered
same_many terms lowered e =
    let there : length (map str_to_ascii_lowercase terms) ≡ length terms = simp length-map in
    sym there ∙ sym (ap length e)
