-- The texts of numbers with a sign.
use Rattle.std.proofs.Common.{◌≡◌, ℕ, ◌+◌, ◌-◌, ◌^◌, ◌<◌, ◌≤◌, true, false, List, [], ◌∷◌, ◌++◌, length, get_or, refl, sym, subst, ap, ◌∙◌, arith, zero, suc}
use Rattle.std.specs.Prelude.{ℤ, pos, negsuc, Some, ◌≢◌, Err}
use Rattle.std.specs.Char.{is_ascii_digit}
use Rattle.std.specs.Fmt.{decimal, signed_decimal}
use Rattle.std.proofs.lemmas.Fmt.{decimal_digit, first_decimal, decimal_nonempty}
use Rattle.prof_spell.specs.Spelling.{first, Apart, Begins, IsStuck, IsTaken, Reads, Splits}
use Rattle.prof_spell.specs.declared.cursor.Stop.{Stop}
use Rattle.prof_spell.specs.declared.cursor.Stop.TheVariants.{Fault, NoMemory}
use Rattle.prof_spell.specs.Pieces.{numbers, signed}
use Rattle.prof_spell.proofs.Lists.{Passes}
use Rattle.prof_spell.proofs.Numbers.{passes_decimal, splits_number}

abbrev pub greatest : ℕ
greatest = 9223372036854775807

-- a number's text begins with a digit
first_digit : (n : ℕ) → n < 2 ^ 64 → (b : ℕ) × (t : List ℕ) × (decimal n ≡ b ∷ t) × (is_ascii_digit b ≡ true)
first_digit n h = at (decimal n) refl (decimal_nonempty n h) (passes_decimal n h)
  where
    at : (s : List ℕ) → decimal n ≡ s → 0 < length s → Passes is_ascii_digit s → (b : ℕ) × (t : List ℕ) × (decimal n ≡ b ∷ t) × (is_ascii_digit b ≡ true)
    at [] e l p = absurd (omega arith)
    at (b ∷ t) e l p = (b, t, e, p.0)

-- a number's text doesn't begin with this
no_digit : (n : ℕ) (m s : List ℕ) (c : ℕ) → n < 2 ^ 64 → is_ascii_digit c ≡ false → first s ≡ Some c → decimal n ++ m ≡ s → ⊥
no_digit n m s c h d look e =
    let k = first_digit n h in
    let f : Some k.0 ≡ Some c = ap (λ t. first (t ++ m)) (sym k.2) ∙ ap first e ∙ look in
    let g : k.0 ≡ c = cc in
    let i : is_ascii_digit c ≡ true = subst (λ b. is_ascii_digit b ≡ true) g k.3 in
    cc

not_zero : (n : ℕ) (m s : List ℕ) → 0 < n → n < 2 ^ 64 → first s ≡ Some 48 → decimal n ++ m ≡ s → ⊥
not_zero n m s some h look e =
    let k = first_digit n h in
    let f : Some k.0 ≡ Some 48 = ap (λ t. first (t ++ m)) (sym k.2) ∙ ap first e ∙ look in
    let g : k.0 ≡ 48 = cc in
    let i = first_decimal n some h in
    let j : get_or (decimal n) 0 0 ≡ 48 = ap (λ t. get_or t 0 0) k.2 ∙ g in
    omega arith

first_same : (front s t : List ℕ) → first s ≡ first t → first (front ++ s) ≡ first (front ++ t)
first_same [] s t e = e
first_same (b ∷ front) s t e = refl

-- ---- without a sign

pub pos_taken : (bytes left : List ℕ) (n : ℕ) → IsTaken (numbers greatest) bytes n left → IsTaken signed bytes (pos n) left
pos_taken bytes left n t = record { fits = t.fits; split = t.split; apart = t.apart }

pub pos_err : (bytes left : List ℕ) (stop : Stop) → first bytes ≢ Some 45 → Reads (numbers greatest) bytes (Err stop) left → Reads signed bytes (Err stop) left
pos_err bytes left NoMemory plain s = tt
pos_err bytes left Fault plain s = record {
  front = s.front;
  split = s.split;
  begins = (pos s.begins.0, s.begins.1, s.begins.2);
  none = refuted;
}
  where
    refuted : (z : ℤ) (behind seen : List ℕ) → signed.Fits z → Apart (signed.goes z) behind → first seen ≡ first left → signed_decimal z ++ behind ≡ s.front ++ seen → ⊥
    refuted (pos n) behind seen f a look e = s.none n behind seen f a look e
    refuted (negsuc n) behind seen f a look e =
        plain (ap first s.split ∙ first_same s.front left seen (sym look) ∙ ap first (sym e))

-- ---- with a sign

nonzero : (mid left : List ℕ) (n : ℕ) → first mid ≢ Some 48 → mid ≡ decimal n ++ left → 0 < n
nonzero mid left zero other e = absurd (other (ap first e ∙ ap (λ t. first (t ++ left)) (decimal_digit 0 (omega arith))))
nonzero mid left (suc n) other e = omega arith

pub negative_taken : (bytes mid left : List ℕ) (n : ℕ) → bytes ≡ 45 ∷ mid → first mid ≢ Some 48 → IsTaken (numbers (2 ^ 63)) mid n left → (0 < n) × IsTaken signed bytes (negsuc (n - 1)) left
negative_taken bytes mid left n sign other t =
    let some = nonzero mid left n other t.split in
    let fits : n ≤ 2 ^ 63 = t.fits in
    let same : suc (n - 1) ≡ n = omega arith in
    (some, record { fits = omega arith; split = sign ∙ ap (λ s. 45 ∷ s) (t.split ∙ ap (λ m. decimal m ++ left) (sym same)); apart = t.apart })

pub negative_err : (bytes mid left : List ℕ) (stop : Stop) → bytes ≡ 45 ∷ mid → first mid ≢ Some 48 → Reads (numbers (2 ^ 63)) mid (Err stop) left → Reads signed bytes (Err stop) left
negative_err bytes mid left NoMemory sign other s = tt
negative_err bytes mid left Fault sign other s = record {
  front = 45 ∷ s.front;
  split = sign ∙ ap (λ t. 45 ∷ t) s.split;
  begins = begun s.front s.split s.begins.0 s.begins.1 s.begins.2.0 s.begins.2.1;
  none = refuted;
}
  where
    begun : (front : List ℕ) → mid ≡ front ++ left → (v : ℕ) → v ≤ 2 ^ 63 → (more : List ℕ) → decimal v ≡ front ++ more → Begins signed (45 ∷ front)
    begun [] split v f more e = (negsuc 0, omega arith, (decimal 1, refl))
    begun (b ∷ front) split zero f more e =
        let g : b ∷ (front ++ more) ≡ 48 ∷ [] = sym e ∙ decimal_digit 0 (omega arith) in
        let h : b ≡ 48 = cc in
        absurd (other (ap first split ∙ ap Some h))
    begun (b ∷ front) split (suc v) f more e = (negsuc v, omega arith, (more, ap (λ t. 45 ∷ t) e))

    refuted : (z : ℤ) (behind seen : List ℕ) → signed.Fits z → Apart (signed.goes z) behind → first seen ≡ first left → signed_decimal z ++ behind ≡ (45 ∷ s.front) ++ seen → ⊥
    refuted (pos n) behind seen f a look e = no_digit n behind (45 ∷ (s.front ++ seen)) 45 (omega arith) refl refl e
    refuted (negsuc n) behind seen f a look e =
        let g : decimal (suc n) ++ behind ≡ s.front ++ seen = cc in
        s.none (suc n) behind seen (omega arith) a look g

-- a zero comes behind the sign
pub zero_stuck : (bytes mid : List ℕ) → bytes ≡ 45 ∷ mid → first mid ≡ Some 48 → IsStuck signed bytes mid
zero_stuck bytes mid sign zero-first = record {
  front = 45 ∷ [];
  split = sign;
  begins = (negsuc 0, omega arith, (decimal 1, refl));
  none = refuted;
}
  where
    refuted : (z : ℤ) (behind seen : List ℕ) → signed.Fits z → Apart (signed.goes z) behind → first seen ≡ first mid → signed_decimal z ++ behind ≡ 45 ∷ seen → ⊥
    refuted (pos n) behind seen f a look e = no_digit n behind (45 ∷ seen) 45 (omega arith) refl refl e
    refuted (negsuc n) behind seen f a look e =
        let g : decimal (suc n) ++ behind ≡ seen = cc in
        not_zero (suc n) behind seen (omega arith) (omega arith) (look ∙ zero-first) g

pub splits_signed : Splits signed
splits_signed = record { same = same }
  where
    same : (y z : ℤ) (m n : List ℕ) → signed.Fits y → signed.Fits z → Apart (signed.goes y) m → Apart (signed.goes z) n → signed_decimal y ++ m ≡ signed_decimal z ++ n → y ≡ z
    same (pos k) (pos l) m n fk fl am an e = ap (λ i. pos i) ((splits_number greatest (omega arith)).same k l m n fk fl am an e)
    same (pos k) (negsuc l) m n fk fl am an e = absurd (no_digit k m (45 ∷ (decimal (suc l) ++ n)) 45 (omega arith) refl refl e)
    same (negsuc k) (pos l) m n fk fl am an e = absurd (no_digit l n (45 ∷ (decimal (suc k) ++ m)) 45 (omega arith) refl refl (sym e))
    same (negsuc k) (negsuc l) m n fk fl am an e =
        let f : decimal (suc k) ++ m ≡ decimal (suc l) ++ n = cc in
        let g : suc k ≡ suc l = (splits_number (2 ^ 63) (omega arith)).same (suc k) (suc l) m n (omega arith) (omega arith) am an f in
        let h : k ≡ l = omega arith in
        ap (λ i. negsuc i) h
