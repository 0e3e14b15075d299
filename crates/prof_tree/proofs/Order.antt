-- Lists of paths in an order, each path once
use Rattle.std.proofs.Common.{◌≡◌, ℕ, List, [], ◌∷◌, ◌++◌, ◌⊎◌, inl, inr, sym, ap, ◌∙◌, subst, refl}
use Rattle.std.specs.Cmp.{IsTotalOrder}
use Rattle.std.specs.Ordering.{ordering_reverse, ordering_then, match_ordering}
use Rattle.std.specs.declared.cmp.Ordering.{Ordering}
use Rattle.std.specs.declared.cmp.Ordering.TheVariants.{Less, Equal, Greater}
use Rattle.prof_tree.specs.Nodes.{path_cmp, insert_once, in_order}
pub use Rattle.prof_tree.specs.Forest.{Elem, EachOf}

-- an order for each place, that tells all apart, makes an order of paths
module _ (S : List ℕ → ℕ → ℕ → Ordering) (o : (at : List ℕ) → IsTotalOrder (S at)) (apart : (at : List ℕ) (a b : ℕ) → S at a b ≡ Equal → a ≡ b) where
  pub path_cmp-antisymm : (at p q : List ℕ) → path_cmp S at p q ≡ ordering_reverse (path_cmp S at q p)
  path_cmp-antisymm at [] [] = refl
  path_cmp-antisymm at [] (b ∷ q) = refl
  path_cmp-antisymm at (a ∷ p) [] = refl
  path_cmp-antisymm at (a ∷ p) (b ∷ q) =
      elim (S at b a) as (λ r. S at b a ≡ r → ordering_then (S at a b) (path_cmp S (at ++ a ∷ []) p q) ≡ ordering_reverse (ordering_then r (path_cmp S (at ++ b ∷ []) q p))) [
        | Less ↦ λ e. ap (λ r. ordering_then r (path_cmp S (at ++ a ∷ []) p q)) ((o at).antisymm a b ∙ ap ordering_reverse e)
        | Equal ↦ λ e. ap (λ r. ordering_then r (path_cmp S (at ++ a ∷ []) p q)) ((o at).antisymm a b ∙ ap ordering_reverse e)
            ∙ path_cmp-antisymm (at ++ a ∷ []) p q ∙ ap (λ c. ordering_reverse (path_cmp S (at ++ c ∷ []) q p)) (sym (apart at b a e))
        | Greater ↦ λ e. ap (λ r. ordering_then r (path_cmp S (at ++ a ∷ []) p q)) ((o at).antisymm a b ∙ ap ordering_reverse e)
      ] refl

  pub path_cmp-exact : (at p q : List ℕ) → path_cmp S at p q ≡ Equal → p ≡ q
  path_cmp-exact at [] [] h = refl
  path_cmp-exact at [] (b ∷ q) h = cc
  path_cmp-exact at (a ∷ p) [] h = cc
  path_cmp-exact at (a ∷ p) (b ∷ q) h =
      elim (S at a b) as (λ r. S at a b ≡ r → ordering_then r (path_cmp S (at ++ a ∷ []) p q) ≡ Equal → (a ∷ p) ≡ (b ∷ q)) [
        | Less ↦ λ e k. cc
        | Equal ↦ λ e k. let same = apart at a b e in let rest = path_cmp-exact (at ++ a ∷ []) p q k in cc
        | Greater ↦ λ e k. cc
      ] refl h

  pub path_cmp-trans : (at p q r : List ℕ) → path_cmp S at p q ≡ Less → path_cmp S at q r ≡ Less → path_cmp S at p r ≡ Less
  path_cmp-trans at [] [] r h k = cc
  path_cmp-trans at [] (b ∷ q) [] h k = cc
  path_cmp-trans at [] (b ∷ q) (c ∷ r) h k = refl
  path_cmp-trans at (a ∷ p) [] r h k = cc
  path_cmp-trans at (a ∷ p) (b ∷ q) [] h k = cc
  path_cmp-trans at (a ∷ p) (b ∷ q) (c ∷ r) h k =
      elim (S at a b) as (λ x. S at a b ≡ x → ordering_then x (path_cmp S (at ++ a ∷ []) p q) ≡ Less → ordering_then (S at a c) (path_cmp S (at ++ a ∷ []) p r) ≡ Less) [
        | Less ↦ λ e h. elim (S at b c) as (λ x. S at b c ≡ x → ordering_then x (path_cmp S (at ++ b ∷ []) q r) ≡ Less → ordering_then (S at a c) (path_cmp S (at ++ a ∷ []) p r) ≡ Less) [
          | Less ↦ λ f k. ap (λ x. ordering_then x (path_cmp S (at ++ a ∷ []) p r)) ((o at).trans a b c e f)
          | Equal ↦ λ f k. ap (λ x. ordering_then x (path_cmp S (at ++ a ∷ []) p r)) (ap (S at a) (sym (apart at b c f)) ∙ e)
          | Greater ↦ λ f k. cc
        ] refl k
        | Equal ↦ λ e h. elim (S at b c) as (λ x. S at b c ≡ x → ordering_then x (path_cmp S (at ++ b ∷ []) q r) ≡ Less → ordering_then (S at a c) (path_cmp S (at ++ a ∷ []) p r) ≡ Less) [
          | Less ↦ λ f k. ap (λ x. ordering_then x (path_cmp S (at ++ a ∷ []) p r)) (ap (λ y. S at y c) (apart at a b e) ∙ f)
          | Equal ↦ λ f k. ap (λ x. ordering_then x (path_cmp S (at ++ a ∷ []) p r)) (ap (λ y. S at y c) (apart at a b e) ∙ f)
              ∙ path_cmp-trans (at ++ a ∷ []) p q r h (ap (λ y. path_cmp S (at ++ y ∷ []) q r) (apart at a b e) ∙ k)
          | Greater ↦ λ f k. cc
        ] refl k
        | Greater ↦ λ e h. cc
      ] refl h

-- an order of keys that tells them apart
module _ {K : Type 0} where
  pub EachOf-at : (P : K → Type 0) (xs : List K) (x : K) → EachOf P xs → Elem x xs → P x
  EachOf-at P [] x h e = absurd e
  EachOf-at P (y ∷ ys) x h e = elim e [ inl s ↦ subst P s h.0 | inr f ↦ EachOf-at P ys x h.1 f ]

  pub EachOf-of : (P : K → Type 0) (xs : List K) → ((x : K) → Elem x xs → P x) → EachOf P xs
  EachOf-of P [] h = tt
  EachOf-of P (y ∷ ys) h = (h y (inl refl), EachOf-of P ys (λ x e. h x (inr e)))

  pub EachOf-append : (P : K → Type 0) (xs ys : List K) → EachOf P xs → EachOf P ys → EachOf P (xs ++ ys)
  EachOf-append P [] ys h k = k
  EachOf-append P (x ∷ xs) ys h k = (h.0, EachOf-append P xs ys h.1 k)

  pub Elem-left : (x : K) (xs ys : List K) → Elem x xs → Elem x (xs ++ ys)
  Elem-left x [] ys e = absurd e
  Elem-left x (y ∷ xs) ys e = elim e [ inl s ↦ inl s | inr f ↦ inr (Elem-left x xs ys f) ]

  pub Elem-right : (x : K) (xs ys : List K) → Elem x ys → Elem x (xs ++ ys)
  Elem-right x [] ys e = e
  Elem-right x (y ∷ xs) ys e = inr (Elem-right x xs ys e)

  pub Elem-cases : (x : K) (xs ys : List K) → Elem x (xs ++ ys) → Elem x xs ⊎ Elem x ys
  Elem-cases x [] ys e = inr e
  Elem-cases x (y ∷ xs) ys e = elim e [ inl s ↦ inl (inl s) | inr f ↦ elim (Elem-cases x xs ys f) [ inl g ↦ inl (inr g) | inr g ↦ inr g ] ]

module _ (cmp : List ℕ → List ℕ → Ordering) where
  abbrev pub Ordered : List (List ℕ) → Type 0
  Ordered [] = Unit {0}
  Ordered (x ∷ xs) = EachOf (λ y. cmp x y ≡ Less) xs × Ordered xs

module _ (cmp : List ℕ → List ℕ → Ordering) (antisymm : (p q : List ℕ) → cmp p q ≡ ordering_reverse (cmp q p))
    (exact : (p q : List ℕ) → cmp p q ≡ Equal → p ≡ q) (trans : (p q r : List ℕ) → cmp p q ≡ Less → cmp q r ≡ Less → cmp p r ≡ Less) where
  not_both : (p q : List ℕ) → cmp p q ≡ Less → cmp q p ≡ Less → ⊥
  not_both p q h k = let e = antisymm p q ∙ ap ordering_reverse k in let f : Less ≡ Greater = sym h ∙ e in cc

  -- two lists in order with the same elements are one
  pub same_ordered : (xs ys : List (List ℕ)) → Ordered cmp xs → Ordered cmp ys → ((p : List ℕ) → Elem p xs → Elem p ys) → ((p : List ℕ) → Elem p ys → Elem p xs) → xs ≡ ys
  same_ordered [] [] a b f g = refl
  same_ordered [] (y ∷ ys) a b f g = absurd (g y (inl refl))
  same_ordered (x ∷ xs) [] a b f g = absurd (f x (inl refl))
  same_ordered (x ∷ xs) (y ∷ ys) a b f g =
      let first : x ≡ y = elim (f x (inl refl)) [
        | inl e ↦ sym e
        | inr e ↦ elim (g y (inl refl)) [
          | inl s ↦ s
          | inr s ↦ absurd (not_both y x (EachOf-at (λ z. cmp y z ≡ Less) ys x b.0 e) (EachOf-at (λ z. cmp x z ≡ Less) xs y a.0 s))
        ]
      ] in
      let rest : xs ≡ ys = same_ordered xs ys a.1 b.1
      (λ p e. elim (f p (inr e)) [
        | inl s ↦ absurd (not_both x x (EachOf-at (λ z. cmp x z ≡ Less) xs x a.0 (subst (λ z. Elem z xs) (sym s ∙ sym first) e)) (EachOf-at (λ z. cmp x z ≡ Less) xs x a.0 (subst (λ z. Elem z xs) (sym s ∙ sym first) e)))
        | inr s ↦ s
      ])
      (λ p e. elim (g p (inr e)) [
        | inl s ↦ absurd (not_both y y (EachOf-at (λ z. cmp y z ≡ Less) ys y b.0 (subst (λ z. Elem z ys) (sym s ∙ first) e)) (EachOf-at (λ z. cmp y z ≡ Less) ys y b.0 (subst (λ z. Elem z ys) (sym s ∙ first) e)))
        | inr s ↦ s
      ]) in
      cc

  insert_once-elem : (p : List ℕ) (qs : List (List ℕ)) (r : List ℕ) → Elem r (insert_once cmp p qs) → (p ≡ r) ⊎ Elem r qs
  insert_once-elem p [] r e = elim e [ inl s ↦ inl s | inr f ↦ absurd f ]
  insert_once-elem p (q ∷ qs) r e =
      elim (cmp p q) as (λ o. Elem r (match_ordering o (p ∷ q ∷ qs) (q ∷ qs) (q ∷ insert_once cmp p qs)) → (p ≡ r) ⊎ Elem r (q ∷ qs)) [
        | Less ↦ λ e. e
        | Equal ↦ λ e. inr e
        | Greater ↦ λ e. elim e [ inl s ↦ inr (inl s) | inr f ↦ elim (insert_once-elem p qs r f) [ inl s ↦ inl s | inr g ↦ inr (inr g) ] ]
      ] e

  insert_once-has : (p : List ℕ) (qs : List (List ℕ)) (r : List ℕ) → (p ≡ r) ⊎ Elem r qs → Elem r (insert_once cmp p qs)
  insert_once-has p [] r e = e
  insert_once-has p (q ∷ qs) r e =
      elim (cmp p q) as (λ o. cmp p q ≡ o → Elem r (match_ordering o (p ∷ q ∷ qs) (q ∷ qs) (q ∷ insert_once cmp p qs))) [
        | Less ↦ λ _. e
        | Equal ↦ λ h. elim e [ inl s ↦ inl (sym (exact p q h) ∙ s) | inr f ↦ f ]
        | Greater ↦ λ _. elim e [ inl s ↦ inr (insert_once-has p qs r (inl s)) | inr f ↦ elim f [ inl s ↦ inl s | inr g ↦ inr (insert_once-has p qs r (inr g)) ] ]
      ] refl

  insert_once-ordered : (p : List ℕ) (qs : List (List ℕ)) → Ordered cmp qs → Ordered cmp (insert_once cmp p qs)
  insert_once-ordered p [] h = (tt, tt)
  insert_once-ordered p (q ∷ qs) h =
      elim (cmp p q) as (λ o. cmp p q ≡ o → Ordered cmp (match_ordering o (p ∷ q ∷ qs) (q ∷ qs) (q ∷ insert_once cmp p qs))) [
        | Less ↦ λ e. ((e, EachOf-of (λ y. cmp p y ≡ Less) qs (λ x m. trans p q x e (EachOf-at (λ z. cmp q z ≡ Less) qs x h.0 m))), h)
        | Equal ↦ λ _. h
        | Greater ↦ λ e. (
          EachOf-of (λ y. cmp q y ≡ Less) (insert_once cmp p qs) (λ x m. elim (insert_once-elem p qs x m) [
            | inl s ↦ subst (λ z. cmp q z ≡ Less) s (antisymm q p ∙ ap ordering_reverse e)
            | inr f ↦ EachOf-at (λ z. cmp q z ≡ Less) qs x h.0 f
          ]),
          insert_once-ordered p qs h.1,
        )
      ] refl

  pub in_order-ordered : (ps : List (List ℕ)) → Ordered cmp (in_order cmp ps)
  in_order-ordered [] = tt
  in_order-ordered (p ∷ ps) = insert_once-ordered p (in_order cmp ps) (in_order-ordered ps)

  pub in_order-elem : (ps : List (List ℕ)) (r : List ℕ) → Elem r (in_order cmp ps) → Elem r ps
  in_order-elem [] r e = e
  in_order-elem (p ∷ ps) r e = elim (insert_once-elem p (in_order cmp ps) r e) [ inl s ↦ inl s | inr f ↦ inr (in_order-elem ps r f) ]

  pub in_order-has : (ps : List (List ℕ)) (r : List ℕ) → Elem r ps → Elem r (in_order cmp ps)
  in_order-has [] r e = e
  in_order-has (p ∷ ps) r e = insert_once-has p (in_order cmp ps) r (elim e as (λ _. (p ≡ r) ⊎ Elem r (in_order cmp ps)) [ inl s ↦ inl s | inr f ↦ inr (in_order-has ps r f) ])
