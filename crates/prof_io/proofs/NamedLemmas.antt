-- Values that are set and taken away by their names.
use Rattle.std.proofs.Common.{◌≡◌, ℕ, ◌<◌, ◌≤◌, suc, List, [], ◌∷◌, ◌++◌, length, get_or, set, true, false, Bool, None, Some, Option, cond, refl, sym, ap, ◌∙◌, arith}
use Rattle.std.specs.Str.{bytes_eq}
use Rattle.std.specs.List.{remove}
use Rattle.std.proofs.lemmas.Slice.Eq.{bytes_eq-Decides}
use Rattle.prof_io.specs.Named.{value_at, with_own, AreNamed, place_of}

-- names that one name has
pub same_names : (a b : List ℕ) → bytes_eq a b ≡ true → a ≡ b
same_names a b h = (bytes_eq-Decides a b).0 h

pub names_same : (a b : List ℕ) → a ≡ b → bytes_eq a b ≡ true
names_same a b h = (bytes_eq-Decides a b).1 h

flip : (a b : List ℕ) → bytes_eq a b ≡ false → bytes_eq b a ≡ false
flip a b f = (elim (bytes_eq b a) as (λ c. bytes_eq b a ≡ c → c ≡ false) [ true ↦ λ t. absurd (clash (names_same a b (sym (same_names b a t)))) | false ↦ λ _. refl ]) refl
  where
    clash : bytes_eq a b ≡ true → ⊥
    clash h = cc

not_both : (a key other : List ℕ) → bytes_eq a key ≡ false → bytes_eq a other ≡ true → bytes_eq key other ≡ true → ⊥
not_both a key other f s t =
    let one : a ≡ key = (bytes_eq-Decides a other).0 s ∙ sym ((bytes_eq-Decides key other).0 t) in
    let both : bytes_eq a key ≡ true = (bytes_eq-Decides a key).1 one in
    cc

module _ {X : Type 0} where
  twice : (b : Bool) (x y z : Option X) → cond b x z ≡ cond b x (cond b y z)
  twice true x y z = refl
  twice false x y z = refl

  swapped : (b c : Bool) (x y z : Option X) → (b ≡ true → c ≡ true → ⊥) → cond b x (cond c y z) ≡ cond c y (cond b x z)
  swapped true true x y z h = absurd (h refl refl)
  swapped true false x y z h = refl
  swapped false true x y z h = refl
  swapped false false x y z h = refl

  -- what stands at the place of a name
  pub value_there : (es : List (List ℕ × X)) (name : List ℕ) (d : List ℕ × X) → place_of es name < length es → value_at es name ≡ Some (get_or es (place_of es name) d).1
  value_there [] name d = λ h. absurd (omega arith)
  value_there (e ∷ es) name d =
      elim (bytes_eq e.0 name) as (λ b. cond b 0 (suc (place_of es name)) < suc (length es) → cond b (Some e.1) (value_at es name) ≡ Some (get_or (e ∷ es) (cond b 0 (suc (place_of es name))) d).1)
      [ true ↦ λ h. refl | false ↦ λ h. value_there es name d (omega arith) ]

  pub value_lacks : (es : List (List ℕ × X)) (name : List ℕ) → length es ≤ place_of es name → value_at es name ≡ None
  value_lacks [] name = λ h. refl
  value_lacks (e ∷ es) name =
      elim (bytes_eq e.0 name) as (λ b. suc (length es) ≤ cond b 0 (suc (place_of es name)) → cond b (Some e.1) (value_at es name) ≡ None)
      [ true ↦ λ h. absurd (omega arith) | false ↦ λ h. value_lacks es name (omega arith) ]

  -- the ways in which a list is changed
  pub with_set : (es : List (List ℕ × X)) (name : List ℕ) (d : List ℕ × X) (x : X) → place_of es name < length es
      → set es (place_of es name) ((get_or es (place_of es name) d).0, x) ≡ with_own name (Some x) es
  with_set [] name d x = λ h. absurd (omega arith)
  with_set (e ∷ es) name d x =
      elim (bytes_eq e.0 name) as (λ b. cond b 0 (suc (place_of es name)) < suc (length es)
      → set (e ∷ es) (cond b 0 (suc (place_of es name))) ((get_or (e ∷ es) (cond b 0 (suc (place_of es name))) d).0, x) ≡ cond b ((e.0, x) ∷ es) (e ∷ with_own name (Some x) es))
      [ true ↦ λ h. refl | false ↦ λ h. ap (λ l. e ∷ l) (with_set es name d x (omega arith)) ]

  pub with_push : (es : List (List ℕ × X)) (name : List ℕ) (x : X) → length es ≤ place_of es name → es ++ (name, x) ∷ [] ≡ with_own name (Some x) es
  with_push [] name x = λ h. refl
  with_push (e ∷ es) name x =
      elim (bytes_eq e.0 name) as (λ b. suc (length es) ≤ cond b 0 (suc (place_of es name)) → e ∷ (es ++ (name, x) ∷ []) ≡ cond b ((e.0, x) ∷ es) (e ∷ with_own name (Some x) es))
      [ true ↦ λ h. absurd (omega arith) | false ↦ λ h. ap (λ l. e ∷ l) (with_push es name x (omega arith)) ]

  absent : (es : List (List ℕ × X)) (name : List ℕ) → value_at es name ≡ None → with_own name None es ≡ es
  absent [] name = λ h. refl
  absent (e ∷ es) name =
      elim (bytes_eq e.0 name) as (λ b. cond b (Some e.1) (value_at es name) ≡ None → cond b (with_own name None es) (e ∷ with_own name None es) ≡ e ∷ es)
      [ true ↦ λ h. cc | false ↦ λ h. ap (λ l. e ∷ l) (absent es name h) ]

  pub with_removed : (es : List (List ℕ × X)) (name : List ℕ) → AreNamed es → place_of es name < length es → remove es (place_of es name) ≡ with_own name None es
  with_removed [] name named = λ h. absurd (omega arith)
  with_removed (e ∷ es) name named =
      (elim (bytes_eq e.0 name) as (λ b. bytes_eq e.0 name ≡ b → cond b 0 (suc (place_of es name)) < suc (length es)
      → remove (e ∷ es) (cond b 0 (suc (place_of es name))) ≡ cond b (with_own name None es) (e ∷ with_own name None es)) [
        | true ↦ λ t h. sym (absent es name (ap (value_at es) (sym (same_names e.0 name t)) ∙ named.0))
        | false ↦ λ f h. ap (λ l. e ∷ l) (with_removed es name named.1 (omega arith))
      ]) refl

  -- what stands under each name then
  pub value_at-with_own : (name : List ℕ) (own : Option X) (es : List (List ℕ × X)) (other : List ℕ) → value_at (with_own name own es) other ≡ cond (bytes_eq name other) own (value_at es other)
  value_at-with_own name (Some x) [] other = refl
  value_at-with_own name None [] other = elim (bytes_eq name other) as (λ b. ◌≡◌ {A = Option X} None (cond b None None)) [ true ↦ refl | false ↦ refl ]
  value_at-with_own name (Some x) (e ∷ es) other =
      (elim (bytes_eq e.0 name) as (λ b. bytes_eq e.0 name ≡ b → value_at (cond b ((e.0, x) ∷ es) (e ∷ with_own name (Some x) es)) other ≡ cond (bytes_eq name other) (Some x) (cond (bytes_eq e.0 other) (Some e.1) (value_at es other))) [
        | true ↦ λ t.
            let same : e.0 ≡ name = same_names e.0 name t in
            ap (λ (k : List ℕ). cond (bytes_eq k other) (Some x) (value_at es other)) same
            ∙ twice (bytes_eq name other) (Some x) (Some e.1) (value_at es other)
            ∙ ap (λ (k : List ℕ). cond (bytes_eq name other) (Some x) (cond (bytes_eq k other) (Some e.1) (value_at es other))) (sym same)
        | false ↦ λ f.
            ap (λ l. cond (bytes_eq e.0 other) (Some e.1) l) (value_at-with_own name (Some x) es other)
            ∙ swapped (bytes_eq e.0 other) (bytes_eq name other) (Some e.1) (Some x) (value_at es other) (not_both e.0 name other f)
      ]) refl
  value_at-with_own name None (e ∷ es) other =
      (elim (bytes_eq e.0 name) as (λ b. bytes_eq e.0 name ≡ b → value_at (cond b (with_own name None es) (e ∷ with_own name None es)) other ≡ cond (bytes_eq name other) None (cond (bytes_eq e.0 other) (Some e.1) (value_at es other))) [
        | true ↦ λ t.
            let same : e.0 ≡ name = same_names e.0 name t in
            value_at-with_own name None es other
            ∙ twice (bytes_eq name other) None (Some e.1) (value_at es other)
            ∙ ap (λ (k : List ℕ). cond (bytes_eq name other) None (cond (bytes_eq k other) (Some e.1) (value_at es other))) (sym same)
        | false ↦ λ f.
            ap (λ l. cond (bytes_eq e.0 other) (Some e.1) l) (value_at-with_own name None es other)
            ∙ swapped (bytes_eq e.0 other) (bytes_eq name other) (Some e.1) None (value_at es other) (not_both e.0 name other f)
      ]) refl

  other_name : (es : List (List ℕ × X)) (name : List ℕ) (own : Option X) (k : List ℕ) → bytes_eq name k ≡ false → value_at es k ≡ None → value_at (with_own name own es) k ≡ None
  other_name es name own k f h = value_at-with_own name own es k ∙ ap (λ b. cond b own (value_at es k)) f ∙ h

  -- names stay apart
  pub named_still : (name : List ℕ) (own : Option X) (es : List (List ℕ × X)) → AreNamed es → AreNamed (with_own name own es)
  named_still name (Some x) [] named = (refl, tt)
  named_still name None [] named = tt
  named_still name (Some x) (e ∷ es) named =
      (elim (bytes_eq e.0 name) as (λ b. bytes_eq e.0 name ≡ b → AreNamed (cond b ((e.0, x) ∷ es) (e ∷ with_own name (Some x) es))) [
        | true ↦ λ t. (named.0, named.1)
        | false ↦ λ f. (other_name es name (Some x) e.0 (flip e.0 name f) named.0, named_still name (Some x) es named.1)
      ]) refl
  named_still name None (e ∷ es) named =
      (elim (bytes_eq e.0 name) as (λ b. bytes_eq e.0 name ≡ b → AreNamed (cond b (with_own name None es) (e ∷ with_own name None es))) [
        | true ↦ λ t. named_still name None es named.1
        | false ↦ λ f. (other_name es name None e.0 (flip e.0 name f) named.0, named_still name None es named.1)
      ]) refl
