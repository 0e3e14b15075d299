-- The nodes of a forest in preorder are the nodes of the tree, in its order
use Rattle.std.proofs.Common.{◌≡◌, ◌≢◌, ℕ, Bool, true, false, ◌&&◌, nat_abs, nat_eq, List, [], ◌∷◌, ◌++◌, ◌⊎◌, inl, inr, sym, ap, ◌∙◌, refl, append_assoc}
use Rattle.std.specs.List.{starts_with}
use Rattle.std.specs.Cmp.{IsTotalOrder}
use Rattle.std.specs.Ordering.{ordering_then, nat_cmp}
use Rattle.std.specs.declared.cmp.Ordering.{Ordering}
use Rattle.std.specs.declared.cmp.Ordering.TheVariants.{Less, Equal, Greater}
use Rattle.std.proofs.lemmas.Cmp.{tied_itself, nat_cmp_total, on_total, then_total, back_total}
use Rattle.std.proofs.lemmas.Map.Lookups.{exact_unsigned}
use Rattle.prof_tree.specs.Nodes.{Weighed, list_of, total_at, sibling_cmp, path_cmp}
pub use Rattle.prof_tree.specs.Forest.{Pairs, HasPrefix, key_above, no_branch, key, branch, IsForest, link, NotBefore, AreKids}
use Rattle.prof_tree.proofs.Order.{Elem, EachOf-of, EachOf-append}

pub sibling_total : (xs : List Weighed) (at : List ℕ) → IsTotalOrder (sibling_cmp xs at)
sibling_total xs at = then_total (back_total (on_total (λ a. nat_abs (total_at xs (at ++ a ∷ []))) nat_cmp_total)) nat_cmp_total

pub sibling_apart : (xs : List Weighed) (at : List ℕ) (a b : ℕ) → sibling_cmp xs at a b ≡ Equal → a ≡ b
sibling_apart xs at a b h =
    elim (nat_cmp (nat_abs (total_at xs (at ++ b ∷ []))) (nat_abs (total_at xs (at ++ a ∷ [])))) as (λ o. ordering_then o (nat_cmp a b) ≡ Equal → a ≡ b) [
      | Less ↦ λ k. cc
      | Equal ↦ λ k. exact_unsigned a b k
      | Greater ↦ λ k. cc
    ] h

-- pairs of an element and a later one
module _ {K : Type 0} where
  pub Pairs-append : (R : K → K → Type 0) (xs ys : List K) → Pairs R xs → Pairs R ys → ((x y : K) → Elem x xs → Elem y ys → R x y) → Pairs R (xs ++ ys)
  Pairs-append R [] ys h k f = k
  Pairs-append R (x ∷ xs) ys h k f =
      (EachOf-append (R x) xs ys h.0 (EachOf-of (R x) ys (λ y e. f x y (inl refl) e)), Pairs-append R xs ys h.1 k (λ z y e g. f z y (inr e) g))

module _ (S : List ℕ → ℕ → ℕ → Ordering) (o : (at : List ℕ) → IsTotalOrder (S at)) (apart : (at : List ℕ) (a b : ℕ) → S at a b ≡ Equal → a ≡ b) where
  -- what goes on after a list comes after it
  pub path_cmp-longer : (at p r : List ℕ) (a : ℕ) → path_cmp S at p (p ++ a ∷ r) ≡ Less
  path_cmp-longer at [] r a = refl
  path_cmp-longer at (c ∷ p) r a = ap (λ x. ordering_then x (path_cmp S (at ++ c ∷ []) p (p ++ a ∷ r))) (tied_itself (o at) c) ∙ path_cmp-longer (at ++ c ∷ []) p r a

  pub path_cmp-right : (at p q r : List ℕ) → path_cmp S at p q ≡ Less → path_cmp S at p (q ++ r) ≡ Less
  path_cmp-right at [] [] r h = cc
  path_cmp-right at [] (b ∷ q) r h = refl
  path_cmp-right at (a ∷ p) [] r h = cc
  path_cmp-right at (a ∷ p) (b ∷ q) r h =
      elim (S at a b) as (λ x. ordering_then x (path_cmp S (at ++ a ∷ []) p q) ≡ Less → ordering_then x (path_cmp S (at ++ a ∷ []) p (q ++ r)) ≡ Less) [
        | Less ↦ λ _. refl
        | Equal ↦ λ k. path_cmp-right (at ++ a ∷ []) p q r k
        | Greater ↦ λ k. k
      ] h

  -- siblings stand as their functions do
  pub path_cmp-siblings : (at u : List ℕ) (a b : ℕ) → S (at ++ u) a b ≡ Less → path_cmp S at (u ++ a ∷ []) (u ++ b ∷ []) ≡ Less
  path_cmp-siblings at [] a b h = ap (λ x. ordering_then x Equal) (ap (λ v. S v a b) (sym (append_nil at)) ∙ h)
    where
      append_nil : (v : List ℕ) → v ++ [] ≡ v
      append_nil [] = refl
      append_nil (c ∷ v) = ap (λ w. c ∷ w) (append_nil v)
  path_cmp-siblings at (c ∷ u) a b h =
      ap (λ x. ordering_then x (path_cmp S (at ++ c ∷ []) (u ++ a ∷ []) (u ++ b ∷ []))) (tied_itself (o at) c)
      ∙ path_cmp-siblings (at ++ c ∷ []) u a b (ap (λ v. S v a b) (append_assoc at (c ∷ []) u) ∙ h)

-- neither begins with the other
abbrev pub Apart : List ℕ → List ℕ → Type 0
Apart [] q = ⊥
Apart (a ∷ p) [] = ⊥
Apart (a ∷ p) (b ∷ q) = (a ≢ b) ⊎ Apart p q

pub Apart-left : (p q r : List ℕ) → Apart p q → Apart (p ++ r) q
Apart-left [] q r h = absurd h
Apart-left (a ∷ p) [] r h = absurd h
Apart-left (a ∷ p) (b ∷ q) r h = elim h [ inl n ↦ inl n | inr k ↦ inr (Apart-left p q r k) ]

pub Apart-siblings : (u : List ℕ) (a b : ℕ) → a ≢ b → Apart (u ++ a ∷ []) (u ++ b ∷ [])
Apart-siblings [] a b n = inl n
Apart-siblings (c ∷ u) a b n = inr (Apart-siblings u a b n)

module _ (S : List ℕ → ℕ → ℕ → Ordering) (apart : (at : List ℕ) (a b : ℕ) → S at a b ≡ Equal → a ≡ b) where
  pub path_cmp-left : (at p q r : List ℕ) → Apart p q → path_cmp S at p q ≡ Less → path_cmp S at (p ++ r) q ≡ Less
  path_cmp-left at [] q r n h = absurd n
  path_cmp-left at (a ∷ p) [] r n h = absurd n
  path_cmp-left at (a ∷ p) (b ∷ q) r n h =
      elim (S at a b) as (λ x. S at a b ≡ x → ordering_then x (path_cmp S (at ++ a ∷ []) p q) ≡ Less → ordering_then x (path_cmp S (at ++ a ∷ []) (p ++ r) q) ≡ Less) [
        | Less ↦ λ _ _. refl
        | Equal ↦ λ e k. elim n [ inl differ ↦ absurd (differ (apart at a b e)) | inr m ↦ path_cmp-left (at ++ a ∷ []) p q r m k ]
        | Greater ↦ λ _ k. k
      ] refl h

and-left : (a b : Bool) → (a && b) ≡ true → a ≡ true
and-left true b h = refl
and-left false b h = h

and-right : (a b : Bool) → (a && b) ≡ true → b ≡ true
and-right true b h = h
and-right false b h = cc

and-both : (a b : Bool) → a ≡ true → b ≡ true → (a && b) ≡ true
and-both a b h k = ap (λ x. x && b) h ∙ k

pub starts-shorter : (l p r : List ℕ) → starts_with nat_eq l (p ++ r) ≡ true → starts_with nat_eq l p ≡ true
starts-shorter l [] r h = refl
starts-shorter [] (a ∷ p) r h = cc
starts-shorter (b ∷ l) (a ∷ p) r h = and-both _ _ (and-left _ _ h) (starts-shorter l p r (and-right _ _ h))

pub HasPrefix-shorter : (xs : List Weighed) (p r : List ℕ) → HasPrefix xs (p ++ r) → HasPrefix xs p
HasPrefix-shorter [] p r h = h
HasPrefix-shorter (x ∷ xs) p r h = elim h [ inl e ↦ inl (starts-shorter (list_of x) p r e) | inr k ↦ inr (HasPrefix-shorter xs p r k) ]
