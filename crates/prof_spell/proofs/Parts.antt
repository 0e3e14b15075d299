-- Texts made of parts, one behind another.
use Rattle.std.proofs.Common.{◌≡◌, ◌≢◌, ℕ, ◌+◌, ◌<◌, Bool, true, false, ◌-◌, List, [], ◌∷◌, ◌++◌, length, length-append, take, refl, sym, subst, ap, ◌∙◌, arith, append_assoc, append-nil}
use Rattle.std.specs.Prelude.{Some, None, Err, ◌==◌, ◌||◌}
use Rattle.std.proofs.lemmas.List.{append_cancel_left}
use Rattle.std.proofs.lemmas.Bool.Decides.{nat_tests}
use Rattle.std.proofs.Math.Seq.{take-append_seam}
use Rattle.prof_spell.specs.Spelling.{Language, first, Apart, Begins, IsStuck, IsTaken, IsFault, Spells, Reads, Splits}
use Rattle.prof_spell.specs.declared.cursor.Stop.{Stop}
use Rattle.prof_spell.specs.declared.cursor.Stop.TheVariants.{Fault, NoMemory}
use Rattle.prof_spell.specs.Pieces.{joined, joined_text, joined_goes, EachFits}
use Rattle.prof_spell.proofs.Lists.{first_append, apart_first, take_past}

-- The text of each `x` begins with a part of its own, which is the text of `part x`, and goes on with `behind x`.
pub record Leads {X V : Type 0} (L : Language X) (M : Language V) (part : X → V) (behind : X → List ℕ) : Type 0 where
  pub cut : (x : X) → L.Fits x → L.text x ≡ M.text (part x) ++ behind x
  pub fits : (x : X) → L.Fits x → M.Fits (part x)
  pub some : (v : V) → M.Fits v → (x : X) × L.Fits x × (part x ≡ v)
  pub apart : (x : X) (m : List ℕ) → L.Fits x → Apart (L.goes x) m → Apart (M.goes (part x)) (behind x ++ m)

-- what is behind the part, of the values with this part
abbrev pub rest : {X V : Type 0} → Language X → (X → V) → (X → List ℕ) → V → Language X
rest L part behind v = record { text = behind; Fits = λ x. L.Fits x × (part x ≡ v); goes = L.goes }

-- where the first part is stuck, so is the whole
pub stuck_first : {X V : Type 0} (L : Language X) (M : Language V) (part : X → V) (behind : X → List ℕ) (bytes left : List ℕ)
    → Leads L M part behind → IsStuck M bytes left → IsStuck L bytes left
stuck_first {X} {V} L M part behind bytes left leads s =
    let x = leads.some s.begins.0 s.begins.1 in
    record {
      front = s.front;
      split = s.split;
      begins = (
        x.0,
        x.1,
        (
          s.begins.2.0 ++ behind x.0,
          leads.cut x.0 x.1 ∙ ap (λ v. M.text v ++ behind x.0) x.2 ∙ ap (λ t. t ++ behind x.0) s.begins.2.1 ∙ append_assoc s.front s.begins.2.0 (behind x.0),
        ),
      );
      none = λ y m seen fy am look e.
          s.none (part y) (behind y ++ m) seen (leads.fits y fy) (leads.apart y m fy am) look
          (sym (append_assoc (M.text (part y)) (behind y) m) ∙ ap (λ t. t ++ m) (sym (leads.cut y fy)) ∙ e);
    }

-- where the first part was taken and what is behind it is stuck, so is the whole
pub stuck_behind : {X V : Type 0} (L : Language X) (M : Language V) (part : X → V) (behind : X → List ℕ) (bytes mid left : List ℕ) (v : V)
    → Leads L M part behind → Splits M → IsTaken M bytes v mid → IsStuck (rest L part behind v) mid left → IsStuck L bytes left
stuck_behind {X} {V} L M part behind bytes mid left v leads splits taken s = record {
  front = M.text v ++ s.front;
  split = taken.split ∙ ap (λ t. M.text v ++ t) s.split ∙ sym (append_assoc (M.text v) s.front left);
  begins = (
    s.begins.0,
    s.begins.1.0,
    (
      s.begins.2.0,
      leads.cut s.begins.0 s.begins.1.0 ∙ ap (λ w. M.text w ++ behind s.begins.0) s.begins.1.1 ∙ ap (λ t. M.text v ++ t) s.begins.2.1 ∙ sym (append_assoc (M.text v) s.front s.begins.2.0),
    ),
  );
  none = λ y m seen fy am look e.
      let f : M.text (part y) ++ (behind y ++ m) ≡ M.text v ++ (s.front ++ seen) =
      sym (append_assoc (M.text (part y)) (behind y) m) ∙ ap (λ t. t ++ m) (sym (leads.cut y fy)) ∙ e ∙ append_assoc (M.text v) s.front seen in
      let look2 : first (s.front ++ seen) ≡ first mid = first_append s.front seen left look ∙ ap first (sym s.split) in
      let same : part y ≡ v = splits.same (part y) v (behind y ++ m) (s.front ++ seen) (leads.fits y fy) taken.fits (leads.apart y m fy am) (apart_first (M.goes v) (s.front ++ seen) mid look2 taken.apart) f in
      let g : behind y ++ m ≡ s.front ++ seen = append_cancel_left (M.text v) (behind y ++ m) (s.front ++ seen) (ap (λ w. M.text w ++ (behind y ++ m)) (sym same) ∙ f) in
      s.none y m seen (fy, same) am look g;
}

-- two texts that begin alike are of one value, where what is behind each first part is so
pub splits_behind : {X V : Type 0} (L : Language X) (M : Language V) (part : X → V) (behind : X → List ℕ)
    → Leads L M part behind → Splits M → ((v : V) → Splits (rest L part behind v)) → Splits L
splits_behind {X} {V} L M part behind leads splits more = record {
  same = λ x y m n fx fy am an e.
      let f : M.text (part x) ++ (behind x ++ m) ≡ M.text (part y) ++ (behind y ++ n) =
      sym (append_assoc (M.text (part x)) (behind x) m) ∙ ap (λ t. t ++ m) (sym (leads.cut x fx)) ∙ e ∙ ap (λ t. t ++ n) (leads.cut y fy) ∙ append_assoc (M.text (part y)) (behind y) n in
      let same : part x ≡ part y = splits.same (part x) (part y) (behind x ++ m) (behind y ++ n) (leads.fits x fx) (leads.fits y fy) (leads.apart x m fx am) (leads.apart y n fy an) f in
      let g : behind x ++ m ≡ behind y ++ n = append_cancel_left (M.text (part y)) (behind x ++ m) (behind y ++ n) (ap (λ w. M.text w ++ (behind x ++ m)) (sym same) ∙ f) in
      (more (part y)).same x y m n (fx, same) (fy, refl) am an g;
}

-- ---- one kind of values as a part of another

-- each `x` is built of some `y`, with the same text
pub record Built {X Y : Type 0} (L : Language X) (M : Language Y) (build : Y → X) : Type 0 where
  pub into : (y : Y) → M.Fits y → L.Fits (build y) × (L.text (build y) ≡ M.text y)
  pub from : (x : X) → L.Fits x → (y : Y) × (x ≡ build y) × M.Fits y × ((m : List ℕ) → Apart (L.goes x) m → Apart (M.goes y) m)

pub stuck_built : {X Y : Type 0} (L : Language X) (M : Language Y) (build : Y → X) (bytes left : List ℕ)
    → Built L M build → IsStuck M bytes left → IsStuck L bytes left
stuck_built {X} {Y} L M build bytes left b s = record {
  front = s.front;
  split = s.split;
  begins = (build s.begins.0, (b.into s.begins.0 s.begins.1).0, (s.begins.2.0, (b.into s.begins.0 s.begins.1).1 ∙ s.begins.2.1));
  none = λ x m seen fx am look e.
      let r = b.from x fx in
      s.none r.0 m seen r.2 (r.3 m am) look (ap (λ t. t ++ m) (sym (ap L.text r.1 ∙ (b.into r.0 r.2).1)) ∙ e);
}

pub splits_built : {X Y : Type 0} (L : Language X) (M : Language Y) (build : Y → X) → Built L M build → Splits M → Splits L
splits_built {X} {Y} L M build b splits = record {
  same = λ x y m n fx fy am an e.
      let r = b.from x fx in
      let q = b.from y fy in
      r.1 ∙ ap build (splits.same r.0 q.0 m n r.2 q.2 (r.3 m am) (q.3 n an)
      (ap (λ t. t ++ m) (sym (ap L.text r.1 ∙ (b.into r.0 r.2).1)) ∙ e ∙ ap (λ t. t ++ n) (ap L.text q.1 ∙ (b.into q.0 q.2).1))) ∙ sym q.1;
}

pub taken_built : {X Y : Type 0} (L : Language X) (M : Language Y) (build : Y → X) (bytes left : List ℕ) (y : Y)
    → Built L M build → (Apart (M.goes y) left → Apart (L.goes (build y)) left) → IsTaken M bytes y left → IsTaken L bytes (build y) left
taken_built L M build bytes left y b ends t = record {
  fits = (b.into y t.fits).0;
  split = t.split ∙ ap (λ s. s ++ left) (sym (b.into y t.fits).1);
  apart = ends t.apart;
}

-- where the first part was taken and so was what is behind it, the whole was
pub taken_behind : {X V : Type 0} (L : Language X) (M : Language V) (part : X → V) (behind : X → List ℕ) (bytes mid left : List ℕ) (v : V) (x : X)
    → Leads L M part behind → IsTaken M bytes v mid → IsTaken (rest L part behind v) mid x left → IsTaken L bytes x left
taken_behind L M part behind bytes mid left v x leads t u = record {
  fits = u.fits.0;
  split = t.split ∙ ap (λ s. M.text v ++ s) u.split ∙ sym (append_assoc (M.text v) (behind x) left) ∙ ap (λ w. (M.text w ++ behind x) ++ left) (sym u.fits.1) ∙ ap (λ s. s ++ left) (sym (leads.cut x u.fits.0));
  apart = u.apart;
}

-- ---- the same of a reading that ended early

pub err_first : {X V : Type 0} (L : Language X) (M : Language V) (part : X → V) (behind : X → List ℕ) (bytes left : List ℕ) (stop : Stop)
    → Leads L M part behind → Reads M bytes (Err stop) left → Reads L bytes (Err stop) left
err_first L M part behind bytes left Fault leads s = stuck_first L M part behind bytes left leads s
err_first L M part behind bytes left NoMemory leads s = tt

pub err_behind : {X V : Type 0} (L : Language X) (M : Language V) (part : X → V) (behind : X → List ℕ) (bytes mid left : List ℕ) (v : V) (stop : Stop)
    → Leads L M part behind → Splits M → IsTaken M bytes v mid → Reads (rest L part behind v) mid (Err stop) left → Reads L bytes (Err stop) left
err_behind L M part behind bytes mid left v Fault leads splits taken s = stuck_behind L M part behind bytes mid left v leads splits taken s
err_behind L M part behind bytes mid left v NoMemory leads splits taken s = tt

pub err_built : {X Y : Type 0} (L : Language X) (M : Language Y) (build : Y → X) (bytes left : List ℕ) (stop : Stop)
    → Built L M build → Reads M bytes (Err stop) left → Reads L bytes (Err stop) left
err_built L M build bytes left Fault b s = stuck_built L M build bytes left b s
err_built L M build bytes left NoMemory b s = tt

-- ---- items with a byte between

-- the items that were read, each with the byte behind it
abbrev pub leading : {V : Type 0} → (V → List ℕ) → ℕ → List V → List ℕ
leading text mark [] = []
leading text mark (v ∷ vs) = text v ++ mark ∷ leading text mark vs

pub leading_more : {V : Type 0} (text : V → List ℕ) (mark : ℕ) (vs : List V) (v : V) → leading text mark (vs ++ v ∷ []) ≡ leading text mark vs ++ (text v ++ mark ∷ [])
leading_more text mark [] v = refl
leading_more text mark (w ∷ vs) v = ap (λ t. text w ++ mark ∷ t) (leading_more text mark vs v) ∙ sym (append_assoc (text w) (mark ∷ leading text mark vs) (text v ++ mark ∷ []))

pub joined_last : {V : Type 0} (text : V → List ℕ) (mark : ℕ) (vs : List V) (v : V) → joined_text text mark (vs ++ v ∷ []) ≡ leading text mark vs ++ text v
joined_last text mark [] v = refl
joined_last text mark (w ∷ []) v = sym (append_assoc (text w) (mark ∷ []) (text v))
joined_last text mark (w ∷ x ∷ vs) v = ap (λ t. text w ++ mark ∷ t) (joined_last text mark (x ∷ vs) v) ∙ sym (append_assoc (text w) (mark ∷ leading text mark (x ∷ vs)) (text v))

pub each_more : {V : Type 0} (Fits : V → Type 0) (vs : List V) (v : V) → EachFits Fits vs → Fits v → EachFits Fits (vs ++ v ∷ [])
each_more Fits [] v e f = (f, tt)
each_more Fits (w ∷ vs) v e f = (e.0, each_more Fits vs v e.1 f)

some_more : {V : Type 0} (vs : List V) (v : V) → vs ++ v ∷ [] ≢ []
some_more [] v = λ e. cc
some_more (w ∷ vs) v = λ e. cc

same_byte : (b : ℕ) → (b == b) ≡ true
same_byte b = grind (arith, nat_tests)

differs : (b c : ℕ) → b ≢ c → (b == c) ≡ false
differs b c n = grind (arith, nat_tests)

-- each item ends where the byte between comes
abbrev pub EndsAtMark : {V : Type 0} → Language V → ℕ → Type 0
EndsAtMark {V} L mark = (v : V) → L.Fits v → L.goes v mark ≡ false

or_false : (a b : Bool) → (a || b) ≡ false → (a ≡ false) × (b ≡ false)
or_false true b e = cc
or_false false b e = (refl, e)

apart_one : (p q : ℕ → Bool) (m : List ℕ) → Apart (λ b. p b || q b) m → Apart p m × Apart q m
apart_one p q [] a = (tt, tt)
apart_one p q (b ∷ m) a = or_false (p b) (q b) a

not_mark : (mark : ℕ) (m : List ℕ) → Apart (λ b. b == mark) m → first m ≢ Some mark
not_mark mark [] a e = cc
not_mark mark (b ∷ m) a e = let f : b ≡ mark = cc in let g : (mark == mark) ≡ false = rw f at a in cc (same_byte mark)

pub stuck_joined : {V : Type 0} (L : Language V) (mark : ℕ) (vs : List V) (bytes mid left : List ℕ)
    → Splits L → EndsAtMark L mark → EachFits L.Fits vs → bytes ≡ leading L.text mark vs ++ mid → IsStuck L mid left
    → IsStuck (joined L mark) bytes left
stuck_joined {V} L mark vs bytes mid left splits ends fits split s = record {
  front = leading L.text mark vs ++ s.front;
  split = split ∙ ap (λ t. leading L.text mark vs ++ t) s.split ∙ sym (append_assoc (leading L.text mark vs) s.front left);
  begins = (
    vs ++ s.begins.0 ∷ [],
    (some_more vs s.begins.0, each_more L.Fits vs s.begins.0 fits s.begins.1),
    (
      s.begins.2.0,
      joined_last L.text mark vs s.begins.0 ∙ ap (λ t. leading L.text mark vs ++ t) s.begins.2.1 ∙ sym (append_assoc (leading L.text mark vs) s.front s.begins.2.0),
    ),
  );
  none = λ ws m seen fw am look e. refuted vs ws m seen fits fw.0 fw.1 am look (e ∙ append_assoc (leading L.text mark vs) s.front seen);
}
  where
    refuted : (xs ws : List V) (m seen : List ℕ) → EachFits L.Fits xs → ws ≢ [] → EachFits L.Fits ws → Apart (joined_goes L.goes mark ws) m → first seen ≡ first left → joined_text L.text mark ws ++ m ≡ leading L.text mark xs ++ (s.front ++ seen) → ⊥
    refuted xs [] m seen fx some fw am look e = some refl
    refuted [] (w ∷ []) m seen fx some fw am look e = s.none w m seen fw.0 (apart_one (L.goes w) (λ b. b == mark) m am).0 look e
    refuted [] (w ∷ y ∷ ws) m seen fx some fw am look e =
        s.none w (mark ∷ joined_text L.text mark (y ∷ ws) ++ m) seen fw.0 (ends w fw.0) look (sym (append_assoc (L.text w) (mark ∷ joined_text L.text mark (y ∷ ws)) m) ∙ e)
    refuted (x ∷ xs) (w ∷ []) m seen fx some fw am look e =
        let a = apart_one (L.goes w) (λ b. b == mark) m am in
        let rest : List ℕ = leading L.text mark xs ++ (s.front ++ seen) in
        let f : L.text w ++ m ≡ L.text x ++ (mark ∷ rest) = e ∙ append_assoc (L.text x) (mark ∷ leading L.text mark xs) (s.front ++ seen) in
        let same : w ≡ x = splits.same w x m (mark ∷ rest) fw.0 fx.0 a.0 (ends x fx.0) f in
        let g : m ≡ mark ∷ rest = append_cancel_left (L.text x) m (mark ∷ rest) (ap (λ v. L.text v ++ m) (sym same) ∙ f) in
        not_mark mark m a.1 (ap first g)
    refuted (x ∷ xs) (w ∷ y ∷ ws) m seen fx some fw am look e =
        let rest : List ℕ = leading L.text mark xs ++ (s.front ++ seen) in
        let f : L.text w ++ (mark ∷ joined_text L.text mark (y ∷ ws) ++ m) ≡ L.text x ++ (mark ∷ rest) =
        sym (append_assoc (L.text w) (mark ∷ joined_text L.text mark (y ∷ ws)) m) ∙ e ∙ append_assoc (L.text x) (mark ∷ leading L.text mark xs) (s.front ++ seen) in
        let same : w ≡ x = splits.same w x (mark ∷ joined_text L.text mark (y ∷ ws) ++ m) (mark ∷ rest) fw.0 fx.0 (ends w fw.0) (ends x fx.0) f in
        let g : mark ∷ (joined_text L.text mark (y ∷ ws) ++ m) ≡ mark ∷ rest = append_cancel_left (L.text x) (mark ∷ joined_text L.text mark (y ∷ ws) ++ m) (mark ∷ rest) (ap (λ v. L.text v ++ (mark ∷ joined_text L.text mark (y ∷ ws) ++ m)) (sym same) ∙ f) in
        let h : joined_text L.text mark (y ∷ ws) ++ m ≡ rest = cc in
        refuted xs (y ∷ ws) m seen fx.1 (λ q. cc) fw.1 am look h

apart_both : (p : ℕ → Bool) (mark : ℕ) (m : List ℕ) → Apart p m → first m ≢ Some mark → Apart (λ b. p b || b == mark) m
apart_both p mark [] a n = tt
apart_both p mark (b ∷ m) a n = or_both (p b) (b == mark) a (differs b mark (λ e. n (ap Some e)))
  where
    or_both : (x y : Bool) → x ≡ false → y ≡ false → (x || y) ≡ false
    or_both true y e f = cc
    or_both false y e f = f

pub taken_joined : {V : Type 0} (L : Language V) (mark : ℕ) (vs : List V) (v : V) (bytes mid left : List ℕ)
    → EachFits L.Fits vs → bytes ≡ leading L.text mark vs ++ mid → IsTaken L mid v left → first left ≢ Some mark
    → IsTaken (joined L mark) bytes (vs ++ v ∷ []) left
taken_joined {V} L mark vs v bytes mid left fits split taken other = record {
  fits = (some_more vs v, each_more L.Fits vs v fits taken.fits);
  split = split ∙ ap (λ t. leading L.text mark vs ++ t) taken.split ∙ sym (append_assoc (leading L.text mark vs) (L.text v) left) ∙ ap (λ t. t ++ left) (sym (joined_last L.text mark vs v));
  apart = ends vs;
}
  where
    ends : (ws : List V) → Apart (joined_goes L.goes mark (ws ++ v ∷ [])) left
    ends [] = apart_both (L.goes v) mark left taken.apart other
    ends (w ∷ []) = apart_both (L.goes v) mark left taken.apart other
    ends (w ∷ x ∷ ws) = ends (x ∷ ws)

pub splits_joined : {V : Type 0} (L : Language V) (mark : ℕ)
    → Splits L → EndsAtMark L mark → Splits (joined L mark)
splits_joined {V} L mark splits ends = record {
  same = λ vs ws m n fv fw am an e. both vs ws m n fv.0 fw.0 fv.1 fw.1 am an e;
}
  where
    at_mark : (v w : V) (t m n : List ℕ) → L.Fits v → L.Fits w → Apart (joined_goes L.goes mark (v ∷ [])) m → L.text v ++ m ≡ (L.text w ++ mark ∷ t) ++ n → ⊥
    at_mark v w t m n fv fw am e =
        let a = apart_one (L.goes v) (λ b. b == mark) m am in
        let f : L.text v ++ m ≡ L.text w ++ (mark ∷ (t ++ n)) = e ∙ append_assoc (L.text w) (mark ∷ t) n in
        let same : v ≡ w = splits.same v w m (mark ∷ (t ++ n)) fv fw a.0 (ends w fw) f in
        let g : m ≡ mark ∷ (t ++ n) = append_cancel_left (L.text w) m (mark ∷ (t ++ n)) (ap (λ u. L.text u ++ m) (sym same) ∙ f) in
        not_mark mark m a.1 (ap first g)

    both : (vs ws : List V) (m n : List ℕ) → vs ≢ [] → ws ≢ [] → EachFits L.Fits vs → EachFits L.Fits ws → Apart (joined_goes L.goes mark vs) m → Apart (joined_goes L.goes mark ws) n → joined_text L.text mark vs ++ m ≡ joined_text L.text mark ws ++ n → vs ≡ ws
    both [] ws m n sv sw fv fw am an e = absurd (sv refl)
    both (v ∷ vs) [] m n sv sw fv fw am an e = absurd (sw refl)
    both (v ∷ []) (w ∷ []) m n sv sw fv fw am an e =
        ap (λ u. u ∷ []) (splits.same v w m n fv.0 fw.0 (apart_one (L.goes v) (λ b. b == mark) m am).0 (apart_one (L.goes w) (λ b. b == mark) n an).0 e)
    both (v ∷ []) (w ∷ y ∷ ws) m n sv sw fv fw am an e = absurd (at_mark v w (joined_text L.text mark (y ∷ ws)) m n fv.0 fw.0 am e)
    both (v ∷ x ∷ vs) (w ∷ []) m n sv sw fv fw am an e = absurd (at_mark w v (joined_text L.text mark (x ∷ vs)) n m fw.0 fv.0 an (sym e))
    both (v ∷ x ∷ vs) (w ∷ y ∷ ws) m n sv sw fv fw am an e =
        let p : List ℕ = joined_text L.text mark (x ∷ vs) ++ m in
        let q : List ℕ = joined_text L.text mark (y ∷ ws) ++ n in
        let f : L.text v ++ (mark ∷ p) ≡ L.text w ++ (mark ∷ q) =
        sym (append_assoc (L.text v) (mark ∷ joined_text L.text mark (x ∷ vs)) m) ∙ e ∙ append_assoc (L.text w) (mark ∷ joined_text L.text mark (y ∷ ws)) n in
        let same : v ≡ w = splits.same v w (mark ∷ p) (mark ∷ q) fv.0 fw.0 (ends v fv.0) (ends w fw.0) f in
        let g : mark ∷ p ≡ mark ∷ q = append_cancel_left (L.text w) (mark ∷ p) (mark ∷ q) (ap (λ u. L.text u ++ (mark ∷ p)) (sym same) ∙ f) in
        let h : p ≡ q = cc in
        let k : x ∷ vs ≡ y ∷ ws = both (x ∷ vs) (y ∷ ws) m n (λ r. cc) (λ r. cc) fv.1 fw.1 am an h in
        ap (λ u. u ∷ (x ∷ vs)) same ∙ ap (λ us. w ∷ us) k

pub err_joined : {V : Type 0} (L : Language V) (mark : ℕ) (vs : List V) (bytes mid left : List ℕ) (stop : Stop)
    → Splits L → EndsAtMark L mark → EachFits L.Fits vs → bytes ≡ leading L.text mark vs ++ mid → Reads L mid (Err stop) left
    → Reads (joined L mark) bytes (Err stop) left
err_joined L mark vs bytes mid left Fault splits ends fits split s = stuck_joined L mark vs bytes mid left splits ends fits split s
err_joined L mark vs bytes mid left NoMemory splits ends fits split s = tt

-- an item and the byte behind it were read
pub one_leading : {V : Type 0} (L : Language V) (mark : ℕ) (vs : List V) (v : V) (bytes mid left : List ℕ)
    → bytes ≡ leading L.text mark vs ++ mid → mid ≡ L.text v ++ mark ∷ left → bytes ≡ leading L.text mark (vs ++ v ∷ []) ++ left
one_leading L mark vs v bytes mid left split next =
    split ∙ ap (λ t. leading L.text mark vs ++ t) (next ∙ sym (append_assoc (L.text v) (mark ∷ []) left)) ∙ sym (append_assoc (leading L.text mark vs) (L.text v ++ mark ∷ []) left)
    ∙ ap (λ t. t ++ left) (sym (leading_more L.text mark vs v))

-- no value's text goes on as these bytes do behind the front with which some begins
pub fault_at : {V : Type 0} (L : Language V) (bytes front left : List ℕ) → bytes ≡ front ++ left → Begins L front
    → ((v : V) (seen : List ℕ) → L.Fits v → first seen ≡ first left → L.text v ≡ front ++ seen → ⊥) → IsFault L bytes (length bytes - length left)
fault_at {V} L bytes front left split begins none =
    let size : length bytes ≡ length front + length left = ap length split ∙ length-append front left in
    let at : length bytes - length left ≡ length front = omega arith in
    subst (λ (n : ℕ). IsFault L bytes n) (sym at) (record {
      within = omega arith;
      begins = subst (λ (t : List ℕ). Begins L t) (sym cut_front) begins;
      longest = λ l b. longer left refl l b;
      none = λ v fv e. none v left fv refl (e ∙ split);
    })
  where
    cut_front : take (length front) bytes ≡ front
    cut_front = ap (take (length front)) split ∙ take-append_seam front left

    longer : (more : List ℕ) → more ≡ left → length front < length bytes → Begins L (take (length front + 1) bytes) → ⊥
    longer [] e l b = let k : length bytes ≡ length (front ++ []) = ap length split ∙ ap (λ r. length (front ++ r)) (sym e) in absurd (omega (arith, length-append front []))
    longer (c ∷ more) e l b =
        let past : take (length front + 1) bytes ≡ front ++ c ∷ [] = ap (take (length front + 1)) (split ∙ ap (λ r. front ++ r) (sym e)) ∙ take_past front c more in
        none b.0 (c ∷ b.2.0) b.1 (ap first e) (b.2.1 ∙ ap (λ t. t ++ b.2.0) past ∙ append_assoc front (c ∷ []) b.2.0)

-- a reading of the whole text that is stuck says where its fault is
pub stuck_fault : {V : Type 0} (L : Language V) (bytes left : List ℕ) → IsStuck L bytes left → IsFault L bytes (length bytes - length left)
stuck_fault L bytes left s = fault_at L bytes s.front left s.split s.begins (λ v seen fv look e. s.none v [] seen fv tt look (append-nil (L.text v) ∙ e))

-- and so does one that leaves bytes behind a value's text
pub left_fault : {V : Type 0} (L : Language V) (bytes left : List ℕ) (v : V) → Splits L → IsTaken L bytes v left → 0 < length left → IsFault L bytes (length bytes - length left)
left_fault L bytes left v splits taken some = fault_at L bytes (L.text v) left taken.split (v, taken.fits, ([], sym (append-nil (L.text v))))
    (λ w seen fw look e.
    let f : L.text w ++ [] ≡ L.text v ++ seen = append-nil (L.text w) ∙ e in
    let same : w ≡ v = splits.same w v [] seen fw taken.fits tt (apart_first (L.goes v) seen left look taken.apart) f in
    let g : [] ≡ seen = append_cancel_left (L.text v) [] seen (append-nil (L.text v) ∙ ap L.text (sym same) ∙ e) in
    none_left left some (sym look ∙ ap first (sym g)))
  where
    none_left : (s : List ℕ) → 0 < length s → first s ≡ None → ⊥
    none_left [] h e = omega arith
    none_left (b ∷ s) h e = cc

-- and one that leaves none gives the value
pub spelled : {V : Type 0} (L : Language V) (bytes left : List ℕ) (v : V) → Splits L → IsTaken L bytes v left → length left ≡ 0 → Spells L bytes v
spelled L bytes [] v splits taken h = record {
  fits = taken.fits;
  same = sym (append-nil (L.text v)) ∙ sym taken.split;
  only = λ w fw e. splits.same w v [] [] fw taken.fits tt tt (append-nil (L.text w) ∙ e ∙ taken.split);
}
spelled L bytes (b ∷ left) v splits taken h = absurd (omega arith)
