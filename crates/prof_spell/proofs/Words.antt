-- Fixed words, and one of several.
use Rattle.std.proofs.Common.{◌≡◌, ◌≢◌, ℕ, ◌+◌, ◌<◌, ◌≤◌, Bool, true, false, List, [], ◌∷◌, ◌++◌, length, length-append, take, drop, get_or, refl, sym, subst, ap, ◌∙◌, arith, inl, inr, append_assoc, zero, suc}
use Rattle.std.specs.Prelude.{Some, ◌⊎◌, ◌==◌, ◌&&◌, not, map}
use Rattle.std.proofs.lemmas.Bool.Decides.{nat_tests}
use Rattle.std.proofs.lemmas.List.{take-append-drop, append_cancel_left, take_all}
use Rattle.std.proofs.Math.Seq.{drop-cons}
use Rattle.prof_spell.specs.Spelling.{Language, first, Apart, IsStuck, Splits}
use Rattle.prof_spell.specs.Pieces.{literal, words, Among, clash, is_apart, are_apart}
use Rattle.prof_spell.proofs.Lists.{first_append, longer_front}

-- a word's text
abbrev pub Word : List ℕ → List ℕ → List ℕ → Type 0
Word word bytes left = IsStuck (literal word) bytes left

pub literal_stuck : (word : List ℕ) (i : ℕ) (bytes left : List ℕ) → i < length word → bytes ≡ take i word ++ left → first left ≢ Some (get_or word i 0) → Word word bytes left
literal_stuck word i bytes left l split other = record {
  front = take i word;
  split = split;
  begins = (tt, tt, (drop i word, sym (take-append-drop i word)));
  none = λ v behind seen fv av look e.
      let cut : take i word ++ (drop i word ++ behind) ≡ take i word ++ seen =
      sym (append_assoc (take i word) (drop i word) behind) ∙ ap (λ w. w ++ behind) (take-append-drop i word) ∙ e in
      let same : drop i word ++ behind ≡ seen = append_cancel_left (take i word) (drop i word ++ behind) seen cut in
      let cons : drop i word ≡ get_or word i 0 ∷ drop (suc i) word = drop-cons word i 0 l in
      let head : first seen ≡ Some (get_or word i 0) = ap first (sym same) ∙ ap (λ w. first (w ++ behind)) cons in
      other (sym look ∙ head);
}

abbrev pub some_of : {V : Type 0} → (V → List ℕ) → (V → Type 0) → (V → ℕ → Bool) → Language V
some_of text Fits goes = record { text = text; Fits = Fits; goes = goes }

-- where two readings are stuck, the one that came farther is stuck for both
pub stuck_either : {V : Type 0} (text : V → List ℕ) (goes : V → ℕ → Bool) (A B C : V → Type 0) (bytes l m : List ℕ) → ((v : V) → C v → A v ⊎ B v) → ((v : V) → B v → C v) → IsStuck (some_of text A goes) bytes l → IsStuck (some_of text B goes) bytes m → length m ≤ length l → IsStuck (some_of text C goes) bytes m
stuck_either text goes A B C bytes l m from into a b le =
    let r = longer_front a.front b.front l m (sym a.split ∙ b.split) le in
    record {
      front = b.front;
      split = b.split;
      begins = (b.begins.0, into b.begins.0 b.begins.1, b.begins.2);
      none = λ v behind seen fv av look e. refuted r.0 r.1 r.2 v behind seen (from v fv) av look e;
    }
  where
    refuted : (h : List ℕ) → b.front ≡ a.front ++ h → l ≡ h ++ m → (v : _) (behind seen : List ℕ) → A v ⊎ B v → Apart (goes v) behind → first seen ≡ first m → text v ++ behind ≡ b.front ++ seen → ⊥
    refuted h e f v behind seen (inr k) av look q = b.none v behind seen k av look q
    refuted h e f v behind seen (inl k) av look q =
        a.none v behind (h ++ seen) k av (first_append h seen m look ∙ ap first (sym f))
        (q ∙ ap (λ z. z ++ seen) e ∙ append_assoc a.front h seen)

pub among_last : {V : Type 0} (vs : List V) (w : V) → Among (vs ++ w ∷ []) w
among_last [] w = inl refl
among_last (v ∷ vs) w = inr (among_last vs w)

pub among_front : {V : Type 0} (vs : List V) (w v : V) → Among vs v → Among (vs ++ w ∷ []) v
among_front [] w v n = absurd n
among_front (x ∷ vs) w v (inl e) = inl e
among_front (x ∷ vs) w v (inr n) = inr (among_front vs w v n)

pub among_more : {V : Type 0} (vs : List V) (w v : V) → Among (vs ++ w ∷ []) v → Among vs v ⊎ (w ≡ v)
among_more [] w v (inl e) = inr e
among_more [] w v (inr n) = absurd n
among_more (x ∷ vs) w v (inl e) = inl (inl e)
among_more (x ∷ vs) w v (inr n) = elim (among_more vs w v n) [ inl a ↦ inl (inr a) | inr e ↦ inr e ]

pub among_get : {V : Type 0} (vs : List V) (i : ℕ) (d : V) → i < length vs → Among vs (get_or vs i d)
among_get [] i d l = absurd (omega arith)
among_get (v ∷ vs) zero d l = inl refl
among_get (v ∷ vs) (suc i) d l = inr (among_get vs i d (omega arith))

-- one word alone
pub word_stuck : {V : Type 0} (text : V → List ℕ) (w : V) (bytes left : List ℕ) → Word (text w) bytes left → IsStuck (words text (λ v. w ≡ v)) bytes left
word_stuck text w bytes left s = record {
  front = s.front;
  split = s.split;
  begins = (w, refl, s.begins.2);
  none = λ v behind seen fv av look e. s.none tt behind seen tt av look (ap (λ z. text z ++ behind) fv ∙ e);
}

same_left : (front start left : List ℕ) → start ≡ front ++ left → length start ≤ length left → start ≡ left
same_left [] start left e l = e
same_left (b ∷ front) start left e l =
    let k : length start ≡ length (b ∷ front ++ left) = ap length e in
    absurd (omega (arith, length-append front left))

-- what the words so far come to
abbrev pub WordsSoFar : {V : Type 0} → (V → List ℕ) → List V → ℕ → List ℕ → List ℕ → Type 0
WordsSoFar text list i start far = ((i ≡ 0) × (far ≡ start)) ⊎ IsStuck (words text (Among (take i list))) start far

only : {V : Type 0} (w v : V) → Among (w ∷ []) v → w ≡ v
only w v (inl e) = e
only w v (inr n) = absurd n

swap : {A B : Type 0} → A ⊎ B → B ⊎ A
swap (inl a) = inr a
swap (inr b) = inl b

pub one_more : {V : Type 0} (text : V → List ℕ) (list : List V) (i : ℕ) (w : V) (start far ahead next : List ℕ) → take (i + 1) list ≡ take i list ++ w ∷ [] → WordsSoFar text list i start far → Word (text w) start ahead → ((next ≡ ahead) × (length ahead < length far)) ⊎ ((next ≡ far) × (length far ≤ length ahead)) → IsStuck (words text (Among (take (i + 1) list))) start next
one_more {V} text list i w start far ahead next grown so stuck choice = subst (λ (vs : List V). IsStuck (words text (Among vs)) start next) (sym grown) (both so choice)
  where
    one : IsStuck (words text (λ v. w ≡ v)) start ahead
    one = word_stuck text w start ahead stuck

    alone : (left : List ℕ) → IsStuck (words text (λ v. w ≡ v)) start left → i ≡ 0 → IsStuck (words text (Among (take i list ++ w ∷ []))) start left
    alone left s z = record {
      front = s.front;
      split = s.split;
      begins = (w, among_last (take i list) w, subst (λ (v : V). (more : List ℕ) × (text v ≡ s.front ++ more)) (sym s.begins.1) s.begins.2);
      none = λ v behind seen fv av look e. s.none v behind seen (only w v (let e : take i list ++ w ∷ [] ≡ w ∷ [] = rw z refl in subst (λ (vs : List V). Among vs v) e fv)) av look e;
    }

    both : WordsSoFar text list i start far → ((next ≡ ahead) × (length ahead < length far)) ⊎ ((next ≡ far) × (length far ≤ length ahead)) → IsStuck (words text (Among (take i list ++ w ∷ []))) start next
    both (inl so) (inl k) = subst (λ t. IsStuck (words text (Among (take i list ++ w ∷ []))) start t) (sym k.0) (alone ahead one so.0)
    both (inl so) (inr k) =
        let same : start ≡ ahead = same_left stuck.front start ahead stuck.split (subst (λ t. length t ≤ length ahead) so.1 k.1) in
        subst (λ t. IsStuck (words text (Among (take i list ++ w ∷ []))) start t) (sym (k.0 ∙ so.1 ∙ same)) (alone ahead one so.0)
    both (inr so) (inl k) = subst (λ t. IsStuck (words text (Among (take i list ++ w ∷ []))) start t) (sym k.0)
        (stuck_either text (λ v b. false) (Among (take i list)) (λ v. w ≡ v) (Among (take i list ++ w ∷ [])) start far ahead
        (λ v a. among_more (take i list) w v a)
        (λ v e. subst (λ (u : V). Among (take i list ++ w ∷ []) u) e (among_last (take i list) w))
        so one (omega arith))
    both (inr so) (inr k) = subst (λ t. IsStuck (words text (Among (take i list ++ w ∷ []))) start t) (sym k.0)
        (stuck_either text (λ v b. false) (λ v. w ≡ v) (Among (take i list)) (Among (take i list ++ w ∷ [])) start ahead far
        (λ v a. swap (among_more (take i list) w v a))
        (λ v a. among_front (take i list) w v a)
        one so k.1)

pub apart_any : (s : List ℕ) → Apart (λ b. false) s
apart_any [] = tt
apart_any (b ∷ s) = refl

pub all_words : {V : Type 0} (text : V → List ℕ) (list : List V) (i : ℕ) (start far : List ℕ) → 0 < length list → length list ≤ i → WordsSoFar text list i start far → IsStuck (words text (Among list)) start far
all_words text list i start far some all (inl so) = absurd (omega arith)
all_words {V} text list i start far some all (inr so) = subst (λ (vs : List V). IsStuck (words text (Among vs)) start far) (take_all i list all) so

-- ---- words none of which begins another

and_true : (a b : Bool) → (a && b) ≡ true → (a ≡ true) × (b ≡ true)
and_true true b e = (refl, e)
and_true false b e = cc

same_byte : (b : ℕ) → (b == b) ≡ true
same_byte b = grind (arith, nat_tests)

clashes : (s t m n : List ℕ) → s ++ m ≡ t ++ n → clash s t ≡ true
clashes [] t m n e = refl
clashes (b ∷ s) [] m n e = refl
clashes (b ∷ s) (c ∷ t) m n e =
    let f : b ≡ c = cc in
    let g : s ++ m ≡ t ++ n = cc in
    let h : (b == c) ≡ true = subst (λ x. (b == x) ≡ true) f (same_byte b) in
    rw h (clashes s t m n g)

not_clash : (s t : List ℕ) → not (clash s t) ≡ true → clash s t ≡ true → ⊥
not_clash s t e f = let g : not (clash s t) ≡ false = ap not f in cc

apart_from : {V : Type 0} (text : V → List ℕ) (vs : List V) (s m n : List ℕ) (v : V) → is_apart s (map text vs) ≡ true → Among vs v → s ++ m ≡ text v ++ n → ⊥
apart_from text [] s m n v t a e = a
apart_from text (w ∷ vs) s m n v t (inl f) e =
    let h = and_true (not (clash s (text w))) (is_apart s (map text vs)) t in
    not_clash s (text w) h.0 (clashes s (text w) m n (e ∙ ap (λ u. text u ++ n) (sym f)))
apart_from text (w ∷ vs) s m n v t (inr a) e =
    apart_from text vs s m n v (and_true (not (clash s (text w))) (is_apart s (map text vs)) t).1 a e

one_word : {V : Type 0} (text : V → List ℕ) (vs : List V) (v w : V) (m n : List ℕ) → are_apart (map text vs) ≡ true → Among vs v → Among vs w → text v ++ m ≡ text w ++ n → v ≡ w
one_word text [] v w m n t a b e = absurd a
one_word text (x ∷ vs) v w m n t (inl f) (inl g) e = sym f ∙ g
one_word text (x ∷ vs) v w m n t (inl f) (inr b) e =
    absurd (apart_from text vs (text x) m n w (and_true (is_apart (text x) (map text vs)) (are_apart (map text vs)) t).0 b (ap (λ u. text u ++ m) f ∙ e))
one_word text (x ∷ vs) v w m n t (inr a) (inl g) e =
    absurd (apart_from text vs (text x) n m v (and_true (is_apart (text x) (map text vs)) (are_apart (map text vs)) t).0 a (ap (λ u. text u ++ n) g ∙ sym e))
one_word text (x ∷ vs) v w m n t (inr a) (inr b) e =
    one_word text vs v w m n (and_true (is_apart (text x) (map text vs)) (are_apart (map text vs)) t).1 a b e

pub splits_words : {V : Type 0} (text : V → List ℕ) (vs : List V) → are_apart (map text vs) ≡ true → Splits (words text (Among vs))
splits_words text vs t = record { same = λ v w m n fv fw am an e. one_word text vs v w m n t fv fw e }

unit_same : (u v : Unit {0}) → u ≡ v
unit_same u v = refl

pub splits_literal : (word : List ℕ) → Splits (literal word)
splits_literal word = record { same = λ v w m n fv fw am an e. unit_same v w }
