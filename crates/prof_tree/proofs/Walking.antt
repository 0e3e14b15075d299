-- The rows while paths are walked
use Rattle.std.proofs.Common.{◌≡◌, ◌≢◌, ℕ, ◌+◌, ◌-◌, ◌<◌, Bool, true, false, cond, ◌&&◌, eqb, List, [], ◌∷◌, ◌++◌, length, Option, Some, None, ◌⊎◌, inl, inr, sym, ap, ◌∙◌, subst, refl, length-append, arith}
use Rattle.std.proofs.lemmas.List.{get_or_append_left}
use Rattle.std.proofs.Math.Seq.{get_or-append_seam}
use Rattle.std.proofs.lemmas.Bool.Decides.{nat_tests}
use Rattle.std.proofs.lemmas.Bool.{false≢true}
use Rattle.prof_tree.specs.declared.branch.Branch.{Branch}
use Rattle.prof_tree.specs.Forest.{key, key_above, branch, no_branch}
use Rattle.prof_tree.specs.Growing.{IsTable, pair_eq}
use Rattle.prof_tree.proofs.PathSteps.{same_number, number_same}

-- pairs are the same where both parts are
same_pair : (p q : Option ℕ × ℕ) → pair_eq p q ≡ true → p ≡ q
same_pair (None, f) (None, g) h = let root : ℕ → Option ℕ × ℕ = λ n. (None, n) in ap root (same_number f g h)
same_pair (None, f) (Some m, g) h = absurd (false≢true h)
same_pair (Some o, f) (None, g) h = absurd (false≢true h)
same_pair (Some o, f) (Some m, g) h = both (eqb o m) refl h
  where
    both : (e : Bool) → eqb o m ≡ e → (e && eqb f g) ≡ true → let one : Option ℕ × ℕ = (Some o, f) in let other : Option ℕ × ℕ = (Some m, g) in one ≡ other
    both true k h = (let pair : ℕ → ℕ → Option ℕ × ℕ = λ o f. (Some o, f) in ap (pair o) (same_number f g h) ∙ ap (λ n. pair n g) (same_number o m k))
    both false k h = absurd (false≢true h)

pair_itself : (q : Option ℕ × ℕ) → pair_eq q q ≡ true
pair_itself (None, f) = number_same f f refl
pair_itself (Some o, f) = ap (λ e. e && eqb f f) (number_same o o refl) ∙ number_same f f refl

pub snoc-not-nil : (u : List ℕ) (a : ℕ) → (u ++ a ∷ []) ≢ []
snoc-not-nil [] a h = cc
snoc-not-nil (b ∷ u) a h = cc

pub snoc-front : (u v : List ℕ) (a b : ℕ) → (u ++ a ∷ []) ≡ (v ++ b ∷ []) → (u ≡ v) × (a ≡ b)
snoc-front [] [] a b h = (refl, cc)
snoc-front [] (d ∷ v) a b h = let e : [] ≡ v ++ b ∷ [] = cc in absurd (snoc-not-nil v b (sym e))
snoc-front (c ∷ u) [] a b h = let e : u ++ a ∷ [] ≡ [] = cc in absurd (snoc-not-nil u a e)
snoc-front (c ∷ u) (d ∷ v) a b h = let e : u ++ a ∷ [] ≡ v ++ b ∷ [] = cc in let k = snoc-front u v a b e in let f : u ≡ v = k.0 in (cc, k.1)

pub long : (p : List ℕ) → p ≢ [] → 0 < length p
long [] n = absurd (n refl)
long (a ∷ p) n = omega arith

-- rows and keys with one more
pub at_left : (rows : List Branch) (b : Branch) (q : ℕ) → q < length rows → branch (rows ++ b ∷ []) q ≡ branch rows q
at_left rows b q h = get_or_append_left rows (b ∷ []) no_branch q h

pub at_last : (rows : List Branch) (b : Branch) → branch (rows ++ b ∷ []) (length rows) ≡ b
at_last rows b = get_or-append_seam rows b [] no_branch

pub key_left : (ks : List (List ℕ)) (k : List ℕ) (q : ℕ) → q < length ks → key (ks ++ k ∷ []) q ≡ key ks q
key_left ks k q h = get_or_append_left ks (k ∷ []) [] q h

pub key_last : (ks : List (List ℕ)) (k : List ℕ) → key (ks ++ k ∷ []) (length ks) ≡ k
key_last ks k = get_or-append_seam ks k [] []

above_left : (ks : List (List ℕ)) (k : List ℕ) (o : Option ℕ) → ((p : ℕ) → o ≡ Some p → p < length ks) → key_above (ks ++ k ∷ []) o ≡ key_above ks o
above_left ks k None f = refl
above_left ks k (Some p) f = key_left ks k p (f p refl)

pub in_or_last : (q n : ℕ) → q < n + 1 → (q < n) ⊎ (q ≡ n)
in_or_last q n h = elim (eqb q n) as (λ e. eqb q n ≡ e → (q < n) ⊎ (q ≡ n)) [ true ↦ λ e. inr (same_number q n e) | false ↦ λ e. (let d : q ≢ n = grind (arith, nat_tests) in inl (omega arith)) ] refl

pub length-snoc : {X : Type 0} (xs : List X) (x : X) → length (xs ++ x ∷ []) ≡ length xs + 1
length-snoc xs x = length-append xs (x ∷ [])

-- the rows with a child that is new
module _ (ks : List (List ℕ)) (rows : List Branch) (look look' : Option ℕ × ℕ → Option ℕ) (o : Option ℕ) (f : ℕ) (b : Branch) (t : IsTable ks rows look)
    (in_o : (p : ℕ) → o ≡ Some p → p < length rows) (absent : look (o, f) ≡ None) (at_o : b.parent ≡ o) (at_f : b.func ≡ f) (at_depth : b.depth ≡ length (key_above ks o))
    (more : (q : Option ℕ × ℕ) → look' q ≡ cond (pair_eq (o, f) q) (Some (length rows)) (look q)) where
  abbrev pub fresh : List ℕ
  fresh = key_above ks o ++ f ∷ []

  in_ks : (q : ℕ) → q < length rows → q < length ks
  in_ks q h = subst (λ n. q < n) (sym t.len) h

  o_in_ks : (p : ℕ) → o ≡ Some p → p < length ks
  o_in_ks p e = in_ks p (in_o p e)

  last_key : key (ks ++ fresh ∷ []) (length rows) ≡ fresh
  last_key = ap (key (ks ++ fresh ∷ [])) (sym t.len) ∙ key_last ks fresh

  -- a parent is told by its functions
  same_above : (m o : Option ℕ) → ((p : ℕ) → m ≡ Some p → p < length rows) → ((p : ℕ) → o ≡ Some p → p < length rows) → key_above ks m ≡ key_above ks o → m ≡ o
  same_above None None h k e = refl
  same_above None (Some p) h k e = absurd (snoc-not-nil _ _ (sym (t.keys p (k p refl)) ∙ sym e))
  same_above (Some p) None h k e = absurd (snoc-not-nil _ _ (sym (t.keys p (h p refl)) ∙ e))
  same_above (Some p) (Some q) h k e = let s = t.apart p q (h p refl) (k q refl) e in cc

  -- no row has the new key
  pub no_key : (q : ℕ) → q < length rows → key ks q ≢ fresh
  no_key q h e =
      let k = snoc-front (key_above ks (branch rows q).parent) (key_above ks o) (branch rows q).func f (sym (t.keys q h) ∙ e) in
      let m : (branch rows q).parent ≡ o = same_above (branch rows q).parent o (λ p. t.above q p h) in_o k.0 in
      let found : look (o, f) ≡ Some q = ap (λ n. look (n, f)) (sym m) ∙ ap (λ n. look ((branch rows q).parent, n)) (sym k.1) ∙ t.has q h in
      let no : None ≡ Some q = sym absent ∙ found in
      cc

  pub IsTable-more : IsTable (ks ++ fresh ∷ []) (rows ++ b ∷ []) look'
  IsTable-more = record {
    len = length-snoc ks fresh ∙ ap (λ n. n + 1) t.len ∙ sym (length-snoc rows b);
    keys = λ r h. elim (place r h) [
      | inl l ↦ key_left ks fresh r (in_ks r l) ∙ t.keys r l ∙ ap (λ z. z ++ (branch rows r).func ∷ []) (sym (above_left ks fresh (branch rows r).parent (λ p e. in_ks p (t.above r p l e))))
          ∙ ap (λ (b : Branch). key_above (ks ++ fresh ∷ []) b.parent ++ b.func ∷ []) (sym (at_left rows b r l))
      | inr e ↦ subst (λ r. key (ks ++ fresh ∷ []) r ≡ key_above (ks ++ fresh ∷ []) (branch (rows ++ b ∷ []) r).parent ++ (branch (rows ++ b ∷ []) r).func ∷ []) (sym e)
          (last_key ∙ ap (λ z. z ++ f ∷ []) (sym (above_left ks fresh o o_in_ks)) ∙ ap (λ z. key_above (ks ++ fresh ∷ []) z ++ f ∷ []) (sym at_o) ∙ ap (λ z. key_above (ks ++ fresh ∷ []) b.parent ++ z ∷ []) (sym at_f)
          ∙ ap (λ (b' : Branch). key_above (ks ++ fresh ∷ []) b'.parent ++ b'.func ∷ []) (sym (at_last rows b)))
    ];
    above = λ r p h e. elim (place r h) [
      | inl l ↦ wider p (t.above r p l (ap (λ (b : Branch). b.parent) (sym (at_left rows b r l)) ∙ e))
      | inr s ↦ wider p (in_o p (sym at_o ∙ ap (λ (b : Branch). b.parent) (sym (at_last rows b)) ∙ ap (λ r. (branch (rows ++ b ∷ []) r).parent) (sym s) ∙ e))
    ];
    apart = λ q r h k e. elim (place q h) [
      | inl l ↦ elim (place r k) [
        | inl m ↦ t.apart q r l m (sym (key_left ks fresh q (in_ks q l)) ∙ e ∙ key_left ks fresh r (in_ks r m))
        | inr s ↦ absurd (no_key q l (sym (key_left ks fresh q (in_ks q l)) ∙ e ∙ ap (key (ks ++ fresh ∷ [])) s ∙ last_key))
      ]
      | inr s ↦ elim (place r k) [
        | inl m ↦ absurd (no_key r m (sym (key_left ks fresh r (in_ks r m)) ∙ sym e ∙ ap (key (ks ++ fresh ∷ [])) s ∙ last_key))
        | inr u ↦ s ∙ sym u
      ]
    ];
    depths = λ r h. elim (place r h) [
      | inl l ↦ ap (λ (b : Branch). b.depth) (at_left rows b r l) ∙ t.depths r l ∙ ap (λ z. length z - 1) (sym (key_left ks fresh r (in_ks r l)))
      | inr s ↦ subst (λ r. (branch (rows ++ b ∷ []) r).depth ≡ length (key (ks ++ fresh ∷ []) r) - 1) (sym s)
          (ap (λ (b : Branch). b.depth) (at_last rows b) ∙ at_depth ∙ (let n = length-snoc (key_above ks o) f in omega arith) ∙ ap (λ z. length z - 1) (sym last_key))
    ];
    has = λ r h. elim (place r h) [
      | inl l ↦ ap (λ (b : Branch). look' (b.parent, b.func)) (at_left rows b r l) ∙ more ((branch rows r).parent, (branch rows r).func)
          ∙ ap (λ e. cond e (Some (length rows)) (look ((branch rows r).parent, (branch rows r).func))) (other r l) ∙ t.has r l
      | inr s ↦ subst (λ r. look' ((branch (rows ++ b ∷ []) r).parent, (branch (rows ++ b ∷ []) r).func) ≡ Some r) (sym s)
          (ap (λ (b : Branch). look' (b.parent, b.func)) (at_last rows b) ∙ ap (λ z. look' (z, b.func)) at_o ∙ ap (λ z. look' (o, z)) at_f ∙ more (o, f)
          ∙ ap (λ e. cond e (Some (length rows)) (look (o, f))) (pair_itself (o, f)))
    ];
    finds = λ m g r e. elim (pair_eq (o, f) (m, g)) as (λ b'. pair_eq (o, f) (m, g) ≡ b' → cond b' (Some (length rows)) (look (m, g)) ≡ Some r → (r < length (rows ++ b ∷ [])) × ((branch (rows ++ b ∷ []) r).parent ≡ m) × ((branch (rows ++ b ∷ []) r).func ≡ g)) [
      | true ↦ λ k e.
          let s : length rows ≡ r = cc in
          let pair = same_pair (o, f) (m, g) k in
          let lo : o ≡ m = ap (λ (z : Option ℕ × ℕ). z.0) pair in
          let lf : f ≡ g = ap (λ (z : Option ℕ × ℕ). z.1) pair in
          subst (λ r. (r < length (rows ++ b ∷ [])) × ((branch (rows ++ b ∷ []) r).parent ≡ m) × ((branch (rows ++ b ∷ []) r).func ≡ g)) s
          (omega (arith, length-snoc rows b), ap (λ (b : Branch). b.parent) (at_last rows b) ∙ at_o ∙ lo, ap (λ (b : Branch). b.func) (at_last rows b) ∙ at_f ∙ lf)
      | false ↦ λ k e. (let w = t.finds m g r e in (wider r w.0, ap (λ (b : Branch). b.parent) (at_left rows b r w.0) ∙ w.1, ap (λ (b : Branch). b.func) (at_left rows b r w.0) ∙ w.2))
    ] refl (sym (more (m, g)) ∙ e);
  }
    where
      place : (r : ℕ) → r < length (rows ++ b ∷ []) → (r < length rows) ⊎ (r ≡ length rows)
      place r h = in_or_last r (length rows) (subst (λ n. r < n) (length-snoc rows b) h)

      wider : (p : ℕ) → p < length rows → p < length (rows ++ b ∷ [])
      wider p h = omega (arith, length-snoc rows b)

      other : (r : ℕ) → r < length rows → pair_eq (o, f) ((branch rows r).parent, (branch rows r).func) ≡ false
      other r l = elim (pair_eq (o, f) ((branch rows r).parent, (branch rows r).func)) as (λ e. pair_eq (o, f) ((branch rows r).parent, (branch rows r).func) ≡ e → e ≡ false) [
        | true ↦ λ k. (let pair = same_pair (o, f) ((branch rows r).parent, (branch rows r).func) k in let no : None ≡ Some r = sym absent ∙ ap look pair ∙ t.has r l in cc)
        | false ↦ λ k. refl
      ] refl
