-- Each text is read to an end: a value is taken, or the reading is stuck.
use Rattle.std.proofs.Common.{◌≡◌, ◌≢◌, ℕ, ◌+◌, ◌-◌, ◌*◌, ◌^◌, ◌<◌, ◌≤◌, Bool, true, false, List, [], ◌∷◌, ◌++◌, length, length-append, take, drop, refl, sym, subst, ap, ◌∙◌, arith, inl, inr, append_assoc, zero, suc}
use Rattle.std.specs.Prelude.{Some, ◌⊎◌, ◌==◌, nat_lt, nat_le, pos, negsuc, Result, Ok, Err}
use Rattle.std.specs.Fmt.{decimal}
use Rattle.std.specs.Char.{is_ascii_digit}
use Rattle.std.proofs.lemmas.Fmt.{decimal_digit}
use Rattle.std.proofs.lemmas.Bool.Decides.{nat_tests}
use Rattle.std.proofs.lemmas.List.{take-append-drop}
use Rattle.prof_spell.specs.Spelling.{Language, first, Apart, Begins, IsStuck, IsTaken, IsFault, Splits}
use Rattle.prof_spell.specs.Readings.{Reading, taken, stuck, Readable, outcome, Tells}
use Rattle.prof_spell.specs.declared.cursor.Stop.TheVariants.{Fault}
use Rattle.prof_spell.specs.Chains.{Chain, chains}
use Rattle.prof_spell.specs.Pieces.{numbers, signed, literal, words, Among, joined, EachFits}
use Rattle.prof_spell.proofs.Numbers.{number_stuck, number_past, number_absent, decimal_more}
use Rattle.prof_spell.proofs.SignedLemmas.{greatest, pos_taken, pos_err, negative_taken, negative_err, zero_stuck}
use Rattle.prof_spell.proofs.Words.{stuck_either, word_stuck, apart_any}
use Rattle.prof_spell.proofs.Parts.{Leads, Built, rest, stuck_first, stuck_behind, taken_behind, stuck_built, taken_built, leading, stuck_joined, taken_joined, one_leading, each_more, EndsAtMark, stuck_fault, left_fault, spelled}
use Rattle.prof_spell.proofs.Chained.{Linked, Came, came_none, came_more, stuck_item, stuck_end, taken_chain}
use Rattle.prof_spell.proofs.Bytes.{eqb_is}

differs : (b c : ℕ) → (b == c) ≡ false → b ≡ c → ⊥
differs b c e f = let g : (c == c) ≡ false = subst (λ n. (n == c) ≡ false) f e in let h : (c == c) ≡ true = grind (arith, nat_tests) in cc

-- ---- words

-- how far a word comes
pub reading_literal : (word : List ℕ) → Readable (literal word)
reading_literal [] bytes = taken tt bytes (record { fits = tt; split = refl; apart = apart_any bytes })
reading_literal (c ∷ word) [] = stuck [] (record {
  front = [];
  split = refl;
  begins = (tt, tt, (c ∷ word, refl));
  none = λ u behind seen f a look e. let g : first seen ≡ Some c = ap first (sym e) in cc;
})
reading_literal (c ∷ word) (b ∷ bytes) = at (b == c) refl (reading_literal word bytes)
  where
    at : (t : Bool) → (b == c) ≡ t → Reading (literal word) bytes → Reading (literal (c ∷ word)) (b ∷ bytes)
    at false e r = stuck (b ∷ bytes) (record {
      front = [];
      split = refl;
      begins = (tt, tt, (c ∷ word, refl));
      none = λ u behind seen f a look q. let g : Some c ≡ Some b = ap first q ∙ look in let h : b ≡ c = cc in differs b c e h;
    })
    at true e (taken u left t) = taken tt left (record {
      fits = tt;
      split = ap (λ x. x ∷ bytes) (eqb_is b c e) ∙ ap (λ s. c ∷ s) t.split;
      apart = apart_any left;
    })
    at true e (stuck left s) = stuck left (record {
      front = c ∷ s.front;
      split = ap (λ x. x ∷ bytes) (eqb_is b c e) ∙ ap (λ q. c ∷ q) s.split;
      begins = (tt, tt, (s.begins.2.0, ap (λ q. c ∷ q) s.begins.2.1));
      none = λ u behind seen f a look q. let g : word ++ behind ≡ s.front ++ seen = cc in s.none tt behind seen tt (apart_any behind) look g;
    })

-- one of some words: the one that comes whole, or the one that comes farthest
pub reading_words : {V : Type 0} (text : V → List ℕ) (v : V) (vs : List V) → Readable (words text (Among (v ∷ vs)))
reading_words {V} text v [] bytes = alone (reading_literal (text v) bytes)
  where
    only : (u : V) → Among (v ∷ []) u → v ≡ u
    only u (inl e) = e
    only u (inr n) = absurd n

    widen : (left : List ℕ) → IsStuck (words text (λ u. v ≡ u)) bytes left → IsStuck (words text (Among (v ∷ []))) bytes left
    widen left s = record {
      front = s.front;
      split = s.split;
      begins = (s.begins.0, inl s.begins.1, s.begins.2);
      none = λ u behind seen f a look e. s.none u behind seen (only u f) a look e;
    }

    alone : Reading (literal (text v)) bytes → Reading (words text (Among (v ∷ []))) bytes
    alone (taken u left t) = taken v left (record { fits = inl refl; split = t.split; apart = apart_any left })
    alone (stuck left s) = stuck left (widen left (word_stuck text v bytes left s))
reading_words {V} text v (x ∷ xs) bytes = both (reading_literal (text v) bytes) (reading_words text x xs bytes)
  where
    from : (u : V) → Among (v ∷ x ∷ xs) u → (v ≡ u) ⊎ Among (x ∷ xs) u
    from u (inl e) = inl e
    from u (inr a) = inr a

    back : (u : V) → Among (v ∷ x ∷ xs) u → Among (x ∷ xs) u ⊎ (v ≡ u)
    back u (inl e) = inr e
    back u (inr a) = inl a

    farther : (l m : List ℕ) → IsStuck (words text (λ u. v ≡ u)) bytes l → IsStuck (words text (Among (x ∷ xs))) bytes m → (t : Bool) → nat_le (length m) (length l) ≡ t → Reading (words text (Among (v ∷ x ∷ xs))) bytes
    farther l m s r true e = stuck m (stuck_either text (λ u b. false) (λ u. v ≡ u) (Among (x ∷ xs)) (Among (v ∷ x ∷ xs)) bytes l m from (λ u a. inr a) s r (grind (arith, nat_tests)))
    farther l m s r false e = stuck l (stuck_either text (λ u b. false) (Among (x ∷ xs)) (λ u. v ≡ u) (Among (v ∷ x ∷ xs)) bytes m l back (λ u a. inl a) r s (grind (arith, nat_tests)))

    both : Reading (literal (text v)) bytes → Reading (words text (Among (x ∷ xs))) bytes → Reading (words text (Among (v ∷ x ∷ xs))) bytes
    both (taken u left t) r = taken v left (record { fits = inl refl; split = t.split; apart = apart_any left })
    both (stuck l s) (taken u left t) = taken u left (record { fits = inr t.fits; split = t.split; apart = apart_any left })
    both (stuck l s) (stuck m r) = farther l m (word_stuck text v bytes l s) r (nat_le (length m) (length l)) refl

-- ---- numbers

digit_split : (b : ℕ) → is_ascii_digit b ≡ true → (d : ℕ) × (d < 10) × (b ≡ 48 + d)
digit_split b h =
    let lo : 48 ≤ b = grind (arith, nat_tests) in
    let hi : b ≤ 57 = grind (arith, nat_tests) in
    (b - 48, omega arith, omega arith)

pub reading_number : (most : ℕ) → most < 2 ^ 64 → Readable (numbers most)
reading_number most small bytes = begin bytes refl
  where
    on : (left : List ℕ) (n : ℕ) → n ≤ most → bytes ≡ decimal n ++ left → Reading (numbers most) bytes
    on [] n fits split = taken n [] (record { fits = fits; split = split; apart = tt })
    on (b ∷ left) n fits split = at (is_ascii_digit b) refl (λ m f s. on left m f s)
      where
        more : (d : ℕ) → d < 10 → b ≡ 48 + d → ((m : ℕ) → m ≤ most → bytes ≡ decimal m ++ left → Reading (numbers most) bytes) → (t u : Bool) → (n == 0) ≡ t → nat_le (10 * n + d) most ≡ u → Reading (numbers most) bytes
        more d digit e so true u z v = stuck (b ∷ left) (number_stuck most n d bytes (b ∷ left) small fits digit split (ap Some e) (inl (eqb_is n 0 z)))
        more d digit e so false false z v = stuck (b ∷ left) (number_stuck most n d bytes (b ∷ left) small fits digit split (ap Some e) (inr (grind (arith, nat_tests))))
        more d digit e so false true z v =
            let some : 0 < n = grind (arith, nat_tests) in
            let fits2 : 10 * n + d ≤ most = grind (arith, nat_tests) in
            so (10 * n + d) fits2 (split ∙ ap (λ c. decimal n ++ c ∷ left) e ∙ sym (append_assoc (decimal n) ((48 + d) ∷ []) left) ∙ ap (λ t. t ++ left) (sym (decimal_more n d some digit (omega arith))))

        at : (t : Bool) → is_ascii_digit b ≡ t → ((m : ℕ) → m ≤ most → bytes ≡ decimal m ++ left → Reading (numbers most) bytes) → Reading (numbers most) bytes
        at false e so = taken n (b ∷ left) (record { fits = fits; split = split; apart = e })
        at true e so = let k = digit_split b e in more k.0 k.1 k.2 so (n == 0) (nat_le (10 * n + k.0) most) refl refl

    begin : (s : List ℕ) → bytes ≡ s → Reading (numbers most) bytes
    begin [] e = stuck bytes (number_absent most bytes small (subst (λ (t : List ℕ). Apart is_ascii_digit t) (sym e) tt))
    begin (b ∷ s) e = at (is_ascii_digit b) refl
      where
        fits : (d : ℕ) → d < 10 → b ≡ 48 + d → (u : Bool) → nat_le d most ≡ u → Reading (numbers most) bytes
        fits d digit f true u = on s d (grind (arith, nat_tests)) (e ∙ ap (λ c. c ∷ s) f ∙ ap (λ t. t ++ s) (sym (decimal_digit d digit)))
        fits d digit f false u = stuck bytes (number_past most d bytes small digit (ap first e ∙ ap Some f) (grind (arith, nat_tests)))

        at : (t : Bool) → is_ascii_digit b ≡ t → Reading (numbers most) bytes
        at false f = stuck bytes (number_absent most bytes small (subst (λ (t : List ℕ). Apart is_ascii_digit t) (sym e) f))
        at true f = let k = digit_split b f in fits k.0 k.1 k.2 (nat_le k.0 most) refl

pub reading_signed : Readable signed
reading_signed bytes = begin bytes refl
  where
    plain : first bytes ≢ Some 45 → Reading (numbers greatest) bytes → Reading signed bytes
    plain other (taken n left t) = taken (pos n) left (pos_taken bytes left n t)
    plain other (stuck left s) = stuck left (pos_err bytes left Fault other s)

    behind : (mid : List ℕ) → bytes ≡ 45 ∷ mid → first mid ≢ Some 48 → Reading (numbers (2 ^ 63)) mid → Reading signed bytes
    behind mid e other (taken n left t) = let k = negative_taken bytes mid left n e other t in taken (negsuc (n - 1)) left k.1
    behind mid e other (stuck left s) = stuck left (negative_err bytes mid left Fault e other s)

    sign : (mid : List ℕ) → bytes ≡ 45 ∷ mid → Reading signed bytes
    sign [] e = behind [] e (λ f. cc) (reading_number (2 ^ 63) (omega arith) [])
    sign (c ∷ mid) e = at (c == 48) refl
      where
        at : (t : Bool) → (c == 48) ≡ t → Reading signed bytes
        at true f = stuck (c ∷ mid) (zero_stuck bytes (c ∷ mid) e (ap Some (eqb_is c 48 f)))
        at false f = behind (c ∷ mid) e (λ g. let h : c ≡ 48 = cc in differs c 48 f h) (reading_number (2 ^ 63) (omega arith) (c ∷ mid))

    begin : (s : List ℕ) → bytes ≡ s → Reading signed bytes
    begin [] e = plain (λ f. let g : first [] ≡ Some 45 = ap first (sym e) ∙ f in cc) (reading_number greatest (omega arith) bytes)
    begin (b ∷ s) e = at (b == 45) refl
      where
        at : (t : Bool) → (b == 45) ≡ t → Reading signed bytes
        at true f = sign s (e ∙ ap (λ c. c ∷ s) (eqb_is b 45 f))
        at false f = plain (λ g. let k : Some b ≡ Some 45 = ap first (sym e) ∙ g in let h : b ≡ 45 = cc in differs b 45 f h) (reading_number greatest (omega arith) bytes)

-- ---- parts

pub reading_behind : {X V : Type 0} (L : Language X) (M : Language V) (part : X → V) (behind : X → List ℕ)
    → Leads L M part behind → Splits M → Readable M → ((v : V) → M.Fits v → Readable (rest L part behind v)) → Readable L
reading_behind {X} {V} L M part behind leads splits reads more bytes = at (reads bytes)
  where
    then : (v : V) (mid : List ℕ) → IsTaken M bytes v mid → Reading (rest L part behind v) mid → Reading L bytes
    then v mid t (taken x left u) = taken x left (taken_behind L M part behind bytes mid left v x leads t u)
    then v mid t (stuck left s) = stuck left (stuck_behind L M part behind bytes mid left v leads splits t s)

    at : Reading M bytes → Reading L bytes
    at (taken v mid t) = then v mid t (more v t.fits mid)
    at (stuck left s) = stuck left (stuck_first L M part behind bytes left leads s)

pub reading_built : {X Y : Type 0} (L : Language X) (M : Language Y) (build : Y → X)
    → Built L M build → ((y : Y) (left : List ℕ) → M.Fits y → Apart (M.goes y) left → Apart (L.goes (build y)) left) → Readable M → Readable L
reading_built {X} {Y} L M build built ends reads bytes = at (reads bytes)
  where
    at : Reading M bytes → Reading L bytes
    at (taken y left t) = taken (build y) left (taken_built L M build bytes left y built (ends y left t.fits) t)
    at (stuck left s) = stuck left (stuck_built L M build bytes left built s)

-- ---- lists

-- an item has a text
abbrev pub HasText : {V : Type 0} → Language V → Type 0
HasText {V} L = (v : V) → L.Fits v → 0 < length (L.text v)

shorter : {V : Type 0} (L : Language V) (mid left : List ℕ) (v : V) → HasText L → IsTaken L mid v left → length left < length mid
shorter L mid left v some t =
    let a = some v t.fits in
    let e : length mid ≡ length (L.text v) + length left = ap length t.split ∙ length-append (L.text v) left in
    omega arith

pub reading_joined : {V : Type 0} (L : Language V) (mark : ℕ)
    → Splits L → EndsAtMark L mark → HasText L → Readable L → Readable (joined L mark)
reading_joined {V} L mark splits ends some reads bytes = on (length bytes) [] bytes (omega arith) tt refl
  where
    on : (n : ℕ) (vs : List V) (mid : List ℕ) → length mid ≤ n → EachFits L.Fits vs → bytes ≡ leading L.text mark vs ++ mid → Reading (joined L mark) bytes
    on zero vs mid small fits split = at (reads mid)
      where
        at : Reading L mid → Reading (joined L mark) bytes
        at (taken v left t) = let l = shorter L mid left v some t in absurd (omega arith)
        at (stuck left s) = stuck left (stuck_joined L mark vs bytes mid left splits ends fits split s)
    on (suc n) vs mid small fits split = at (reads mid) (λ ws m l f s. on n ws m l f s)
      where
        next : (v : V) (left : List ℕ) → IsTaken L mid v left → (s : List ℕ) → left ≡ s → ((ws : List V) (m : List ℕ) → length m ≤ n → EachFits L.Fits ws → bytes ≡ leading L.text mark ws ++ m → Reading (joined L mark) bytes) → Reading (joined L mark) bytes
        next v left t [] e so = taken (vs ++ v ∷ []) left (taken_joined L mark vs v bytes mid left fits split t (λ f. let g : first [] ≡ Some mark = ap first (sym e) ∙ f in cc))
        next v left t (b ∷ s) e so = here (b == mark) refl
          where
            here : (u : Bool) → (b == mark) ≡ u → Reading (joined L mark) bytes
            here false f = taken (vs ++ v ∷ []) left (taken_joined L mark vs v bytes mid left fits split t (λ g. let k : Some b ≡ Some mark = ap first (sym e) ∙ g in let h : b ≡ mark = cc in differs b mark f h))
            here true f =
                let k : left ≡ mark ∷ s = e ∙ ap (λ c. c ∷ s) (eqb_is b mark f) in
                let l = shorter L mid left v some t in
                let size : length left ≡ suc (length s) = ap length k in
                so (vs ++ v ∷ []) s (omega arith) (each_more L.Fits vs v fits t.fits) (one_leading L mark vs v bytes mid s split (t.split ∙ ap (λ q. L.text v ++ q) k))

        at : Reading L mid → ((ws : List V) (m : List ℕ) → length m ≤ n → EachFits L.Fits ws → bytes ≡ leading L.text mark ws ++ m → Reading (joined L mark) bytes) → Reading (joined L mark) bytes
        at (taken v left t) so = next v left t left refl so
        at (stuck left s) so = stuck left (stuck_joined L mark vs bytes mid left splits ends fits split s)

-- What may come in a state is read, or no item begins with the first byte and the text may end there.
pub data Next {S A : Type 0} (C : Chain S A) (s : S) (mid : List ℕ) : Type 0 where
  item : Reading (C.items s) mid → Next C s mid
  none : C.ends s ≡ true → ((b : ℕ) → first mid ≡ Some b → (a : A) → (C.items s).Fits a → first ((C.items s).text a) ≢ Some b) → Next C s mid

-- the text is read on, from behind more items
abbrev OnBehind : {S A : Type 0} → Chain S A → S → List ℕ → List ℕ → Type 0
OnBehind {S} {A} C begin bytes mid = (ds : List A) (r : S) (left : List ℕ) → length left < length mid → Came C begin bytes ds r left → Reading (chains C begin) bytes

pub reading_chain : {S A : Type 0} (C : Chain S A) (begin : S) → Linked C → ((s : S) (mid : List ℕ) → Next C s mid) → Readable (chains C begin)
reading_chain {S} {A} C begin linked reads bytes = on (length bytes) [] begin bytes (omega arith) (came_none C begin bytes)
  where
    less : (s : S) (mid left : List ℕ) (a : A) → IsTaken (C.items s) mid a left → length left < length mid
    less s mid left a t =
        let k = linked.some s a t.fits in
        let e : length mid ≡ length ((k.0 ∷ k.1) ++ left) = ap length (t.split ∙ ap (λ q. q ++ left) k.2) in
        omega (arith, length-append k.1 left)

    -- the next item is wanted
    next : (done : List A) (s : S) (mid : List ℕ) → Came C begin bytes done s mid → (C.ends s ≡ false) ⊎ ((b : ℕ) × (first mid ≡ Some b) × (C.goes s b ≡ true)) → OnBehind C begin bytes mid → Next C s mid → Reading (chains C begin) bytes
    next done s mid came why so (item (taken a left t)) = so (done ++ a ∷ []) (C.next s a) left (less s mid left a t) (came_more C begin bytes done s mid left a came t)
    next done s mid came why so (item (stuck left k)) = stuck left (stuck_item C begin s bytes mid left done linked came k why)
    next done s mid came (inl no-end) so (none end f) = absurd cc
    next done s mid came (inr goes) so (none end f) = stuck mid (stuck_end C begin s bytes mid done goes.0 linked came end goes.1 goes.2 (f goes.0 goes.1))

    ended : (done : List A) (s : S) (mid m : List ℕ) → mid ≡ m → Came C begin bytes done s mid → C.ends s ≡ true → OnBehind C begin bytes mid → Reading (chains C begin) bytes
    ended done s mid [] e came end so = taken done mid (taken_chain C begin s bytes mid done came end (subst (λ (q : List ℕ). Apart (C.goes s) q) (sym e) tt))
    ended done s mid (b ∷ m) e came end so = at (C.goes s b) refl
      where
        at : (t : Bool) → C.goes s b ≡ t → Reading (chains C begin) bytes
        at false g = taken done mid (taken_chain C begin s bytes mid done came end (subst (λ (q : List ℕ). Apart (C.goes s) q) (sym e) g))
        at true g = next done s mid came (inr (b, ap first e, g)) so (reads s mid)

    here : (done : List A) (s : S) (mid : List ℕ) → Came C begin bytes done s mid → OnBehind C begin bytes mid → (t : Bool) → C.ends s ≡ t → Reading (chains C begin) bytes
    here done s mid came so true end = ended done s mid mid refl came end so
    here done s mid came so false no-end = next done s mid came (inl no-end) so (reads s mid)

    on : (n : ℕ) (done : List A) (s : S) (mid : List ℕ) → length mid ≤ n → Came C begin bytes done s mid → Reading (chains C begin) bytes
    on zero done s mid small came = here done s mid came (λ ds r left l k. absurd (omega arith)) (C.ends s) refl
    on (suc n) done s mid small came = here done s mid came (λ ds r left l k. on n ds r left (omega arith) k) (C.ends s) refl

-- ---- the whole text

pub tells : {V : Type 0} (L : Language V) (bytes : List ℕ) → Splits L → (r : Reading L bytes) → Tells L bytes (outcome L bytes r)
tells L bytes splits (taken v [] t) = spelled L bytes [] v splits t refl
tells L bytes splits (taken v (b ∷ left) t) = left_fault L bytes (b ∷ left) v splits t (omega arith)
tells L bytes splits (stuck left s) = stuck_fault L bytes left s

abbrev no_bytes : List ℕ
no_bytes = []

take_none : (k : ℕ) → take k no_bytes ≡ no_bytes
take_none zero = refl
take_none (suc k) = refl

take_take : (bytes : List ℕ) (n m : ℕ) → n ≤ m → take n (take m bytes) ≡ take n bytes
take_take [] n m l = ap (λ (t : List ℕ). take n t) (take_none m)
take_take (b ∷ bytes) zero m l = refl
take_take (b ∷ bytes) (suc n) zero l = absurd (omega arith)
take_take (b ∷ bytes) (suc n) (suc m) l = ap (λ t. b ∷ t) (take_take bytes n m (omega arith))

-- a text has one outcome
pub tells_one : {V : Type 0} (L : Language V) (bytes : List ℕ) (r q : Result V ℕ) → Tells L bytes r → Tells L bytes q → r ≡ q
tells_one L bytes (Ok v) (Ok w) s t = ap (λ u. Ok u) (t.only v s.fits s.same)
tells_one L bytes (Ok v) (Err place) s f = absurd (f.none v s.fits s.same)
tells_one L bytes (Err place) (Ok v) f s = absurd (f.none v s.fits s.same)
tells_one L bytes (Err m) (Err k) f g = ap (λ n. Err n) (one_place m k f g)
  where
    shorter_front : (n : ℕ) → (m : ℕ) → n ≤ m → Begins L (take m bytes) → Begins L (take n bytes)
    shorter_front n m l b = (
      b.0,
      b.1,
      (
        drop n (take m bytes) ++ b.2.0,
        b.2.1 ∙ ap (λ t. t ++ b.2.0) (sym (take-append-drop n (take m bytes)) ∙ ap (λ t. t ++ drop n (take m bytes)) (take_take bytes n m l))
            ∙ append_assoc (take n bytes) (drop n (take m bytes)) b.2.0,
      ),
    )

    less : (i j : ℕ) → IsFault L bytes i → IsFault L bytes j → i < j → ⊥
    less i j x y l = let within = y.within in x.longest (omega arith) (shorter_front (i + 1) j (omega arith) y.begins)

    one_place : (i j : ℕ) → IsFault L bytes i → IsFault L bytes j → i ≡ j
    one_place i j x y = cases (nat_lt i j) (nat_lt j i) refl refl
      where
        cases : (t u : Bool) → nat_lt i j ≡ t → nat_lt j i ≡ u → i ≡ j
        cases true u e h = absurd (less i j x y (grind (arith, nat_tests)))
        cases false true e h = absurd (less j i y x (grind (arith, nat_tests)))
        cases false false e h = grind (arith, nat_tests)
