-- The texts of numbers.
use Rattle.std.proofs.Common.{◌≡◌, ℕ, ◌+◌, ◌*◌, ◌/◌, ◌%◌, ◌^◌, ◌<◌, ◌≤◌, true, false, List, [], ◌∷◌, ◌++◌, length, get_or, refl, sym, ap, ◌∙◌, arith, inl, inr, append-nil, zero, suc}
use Rattle.std.specs.Prelude.{Some, ◌⊎◌}
use Rattle.std.specs.Fmt.{decimal}
use Rattle.std.specs.Char.{is_ascii_digit, digit_value}
use Rattle.std.specs.Str.Parse.{digits_value, digits_value_after}
use Rattle.std.proofs.lemmas.Fmt.{decimal_is_IsNumeral, decimal_step, decimal_digit, decimal_by_steps, decimal_injective, first_decimal, decimal_nonempty}
use Rattle.std.proofs.lemmas.Bool.Decides.{nat_tests}
use Rattle.prof_spell.specs.Spelling.{first, Apart, Begins, IsStuck, Splits}
use Rattle.prof_spell.specs.Pieces.{numbers}
use Rattle.prof_spell.proofs.Lists.{Passes, passes_append, reaches, one_front}

pub is_digit_at : (d : ℕ) → d < 10 → is_ascii_digit (48 + d) ≡ true
is_digit_at d h = grind (arith, nat_tests)

pub passes_decimal : (n : ℕ) → n < 2 ^ 64 → Passes is_ascii_digit (decimal n)
passes_decimal n h = decimal_by_steps (λ m ds. Passes is_ascii_digit ds)
    (λ m small. (is_digit_at m small, tt))
    (λ m ds big so. passes_append is_ascii_digit ds _ so (is_digit_at (m % 10) (omega arith), tt))
    n h

pub decimal_more : (n d : ℕ) → 0 < n → d < 10 → 10 * n + d < 2 ^ 64 → decimal (10 * n + d) ≡ decimal n ++ (48 + d) ∷ []
decimal_more n d h k l =
    let a : (10 * n + d) / 10 ≡ n = omega arith in
    let b : (10 * n + d) % 10 ≡ d = omega arith in
    decimal_step (10 * n + d) (omega arith) l ∙ ap (λ m. decimal m ++ (48 + (10 * n + d) % 10) ∷ []) a ∙ ap (λ m. decimal n ++ (48 + m) ∷ []) b

pub splits_number : (most : ℕ) → most < 2 ^ 64 → Splits (numbers most)
splits_number most small = record {
  same = λ v w m n fv fw av aw e. decimal_injective v w (omega arith) (omega arith) (one_front is_ascii_digit (decimal v) (decimal w) m n (passes_decimal v (omega arith)) (passes_decimal w (omega arith)) av aw e);
}

-- ---- what digits are worth

worth_more : (n : ℕ) (ds : List ℕ) → n ≤ digits_value_after 10 n ds
worth_more n [] = omega arith
worth_more n (c ∷ cs) = let h = worth_more (n * 10 + digit_value c) cs in omega arith

worth_append : (n : ℕ) (zs ds : List ℕ) → digits_value_after 10 n (zs ++ ds) ≡ digits_value_after 10 (digits_value_after 10 n zs) ds
worth_append n [] ds = refl
worth_append n (c ∷ cs) ds = worth_append (n * 10 + digit_value c) cs ds

digit_worth : (d : ℕ) → d < 10 → digit_value (48 + d) ≡ d
digit_worth d h = grind (arith, nat_tests)

worth : (n : ℕ) → n < 2 ^ 64 → digits_value 10 (decimal n) ≡ n
worth n h = (decimal_is_IsNumeral n h).1

-- a number whose text begins with these digits isn't smaller
at_least : (v d : ℕ) (zs u : List ℕ) → v < 2 ^ 64 → d < 10 → decimal v ≡ zs ++ (48 + d) ∷ u → 10 * digits_value 10 zs + d ≤ v
at_least v d zs u h l e =
    let a : digits_value 10 (zs ++ (48 + d) ∷ u) ≡ v = ap (digits_value 10) (sym e) ∙ worth v h in
    let b = worth_append 0 zs ((48 + d) ∷ u) in
    let k = worth_more (digits_value_after 10 0 zs * 10 + digit_value (48 + d)) u in
    let m = digit_worth d l in
    omega arith

-- a zero that stands first stands alone
zero_alone : (v : ℕ) (b : ℕ) (u : List ℕ) → v < 2 ^ 64 → decimal v ≡ 48 ∷ b ∷ u → ⊥
zero_alone zero b u h e = let f : decimal 0 ≡ 48 ∷ [] = decimal_digit 0 (omega arith) in cc
zero_alone (suc v) b u h e =
    let f = first_decimal (suc v) (omega arith) h in
    let g : get_or (decimal (suc v)) 0 0 ≡ 48 = ap (λ s. get_or s 0 0) e in
    omega arith

-- ---- a number can't go on

begins_empty : (most : ℕ) → Begins (numbers most) []
begins_empty most = (0, omega arith, (decimal 0, refl))

first_is : (b : ℕ) (s : List ℕ) → first s ≡ Some b → (t : List ℕ) × (s ≡ b ∷ t)
first_is b [] e = cc
first_is b (c ∷ cs) e = let f : c ≡ b = cc in (cs, ap (λ d. d ∷ cs) f)

pub number_stuck : (most n d : ℕ) (bytes left : List ℕ) → most < 2 ^ 64 → n ≤ most → d < 10 → bytes ≡ decimal n ++ left → first left ≡ Some (48 + d) → (n ≡ 0) ⊎ (most < 10 * n + d) → IsStuck (numbers most) bytes left
number_stuck most n d bytes left small fits digit split next why = record {
  front = decimal n;
  split = split;
  begins = (n, fits, ([], sym (append-nil (decimal n))));
  none = λ v behind seen fv av look e.
      let s = first_is (48 + d) seen (look ∙ next) in
      let e2 : decimal v ++ behind ≡ decimal n ++ (48 + d) ∷ s.0 = e ∙ ap (λ q. decimal n ++ q) s.1 in
      let r = reaches is_ascii_digit (decimal v) (decimal n) behind (48 + d) s.0 (passes_decimal n (omega arith)) (is_digit_at d digit) av e2 in
      refuted v r.0 r.1 fv why;
}
  where
    refuted : (v : ℕ) (u : List ℕ) → decimal v ≡ decimal n ++ (48 + d) ∷ u → v ≤ most → (n ≡ 0) ⊎ (most < 10 * n + d) → ⊥
    refuted v u e fv (inl z) =
        let f : decimal n ≡ 48 ∷ [] = ap decimal z ∙ decimal_digit 0 (omega arith) in
        zero_alone v (48 + d) u (omega arith) (e ∙ ap (λ q. q ++ (48 + d) ∷ u) f)
    refuted v u e fv (inr k) =
        let a = at_least v d (decimal n) u (omega arith) digit e in
        let b = worth n (omega arith) in
        omega arith

pub number_past : (most d : ℕ) (bytes : List ℕ) → most < 2 ^ 64 → d < 10 → first bytes ≡ Some (48 + d) → most < d → IsStuck (numbers most) bytes bytes
number_past most d bytes small digit next past = record {
  front = [];
  split = refl;
  begins = begins_empty most;
  none = λ v behind seen fv av look e.
      let s = first_is (48 + d) seen (look ∙ next) in
      let r = reaches is_ascii_digit (decimal v) [] behind (48 + d) s.0 tt (is_digit_at d digit) av (e ∙ s.1) in
      let a = at_least v d [] r.0 (omega arith) digit r.1 in
      omega arith;
}

pub number_absent : (most : ℕ) (bytes : List ℕ) → most < 2 ^ 64 → Apart is_ascii_digit bytes → IsStuck (numbers most) bytes bytes
number_absent most bytes small off = record {
  front = [];
  split = refl;
  begins = begins_empty most;
  none = λ v behind seen fv av look e. refuted (decimal v) behind seen bytes (passes_decimal v (omega arith)) (decimal_nonempty v (omega arith)) look e off;
}
  where
    refuted : (t behind seen bs : List ℕ) → Passes is_ascii_digit t → 0 < length t → first seen ≡ first bs → t ++ behind ≡ seen → Apart is_ascii_digit bs → ⊥
    refuted [] behind seen bs p l look e o = omega arith
    refuted (c ∷ t) behind seen [] p l look e o = let f : first seen ≡ Some c = ap first (sym e) in cc
    refuted (c ∷ t) behind seen (b ∷ bs) p l look e o =
        let f : first seen ≡ Some c = ap first (sym e) in
        let g : b ≡ c = cc in
        let h : is_ascii_digit c ≡ false = rw g at o in
        let k : is_ascii_digit c ≡ true = p.0 in
        cc
