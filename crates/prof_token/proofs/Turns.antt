-- Steps of the machine.
use Rattle.std.proofs.Common.{◌≡◌, ◌≢◌, inl, inr, ℕ, zero, suc, ◌+◌, ◌*◌, ◌<◌, ◌≤◌, Bool, true, false, cond, List, [], ◌∷◌, ◌++◌, drop, length, append_assoc, refl, ap, ◌∙◌, arith}
use Rattle.std.specs.Prelude.{◌⊎◌, Option, Some, None, IfSome, nat_lt, nat_le, ◌&&◌, ◌||◌, ◌==◌}
use Rattle.std.proofs.lemmas.Bool.Decides.{nat_tests}
use Rattle.std.specs.Char.{is_ascii_hexdigit, digit_value, encode_utf8}
use Rattle.prof_grammar.specs.Event.{Event}
use Rattle.prof_grammar.specs.Grammar.{Symbol}
use Rattle.prof_grammar.specs.Lexical as x
use Rattle.prof_grammar.specs.Machine as m
use Rattle.prof_grammar.specs.Machine.{Part, Class, Next, Stage, Role, TextByte, class, step, finish, blank, mark, symbol, word, digits, chars, nothing, text_byte, next_stage, may_end, in_whole, in_fraction, in_exponent, after_zero, after_minus, after_point, after_e, after_sign, settled}
use Rattle.prof_grammar.specs.Told.{depth}
use Rattle.prof_grammar.specs.Reading.{max_depth}
use Rattle.prof_grammar.proofs.Language as l
use Rattle.prof_grammar.proofs.Language.{Fits, class_fits, eqb_is}
use Rattle.prof_token.specs.Stages as g
use Rattle.prof_token.specs.Goes.{behind_word, told_behind}
use Rattle.prof_token.specs.Stages.{IsRunning, Wants, MayEnd, TakesFraction, TakesExponent, goes_further, no_byte, whole_stage, behind_fraction, behind_exponent}
use Rattle.prof_token.specs.Bytes.{is_space, is_digit, is_plain, is_e, second_low, second_high}

-- ---- blanks

space_class : (b : ℕ) → is_space b ≡ true → class b ≡ m.space
space_class b = go (b == 32) (b == 9) (b == 10) (b == 13) refl refl refl refl
  where
    go : (q u v w : Bool) → (b == 32) ≡ q → (b == 9) ≡ u → (b == 10) ≡ v → (b == 13) ≡ w → (q || u || v || w) ≡ true → class b ≡ m.space
    go true u v w e _ _ _ h = ap class (eqb_is b 32 e)
    go false true v w _ e _ _ h = ap class (eqb_is b 9 e)
    go false false true w _ _ e _ h = ap class (eqb_is b 10 e)
    go false false false true _ _ _ e h = ap class (eqb_is b 13 e)
    go false false false false _ _ _ _ h = cc

pub blank_on : (ps : List Part) (b : ℕ) → is_space b ≡ true → step (blank ∷ ps) (class b) b ≡ Some ([], blank ∷ ps)
unfolding step
blank_on ps b h = let e = space_class b h in rw e

pub blank_over : (ps : List Part) (b : ℕ) → is_space b ≡ false → step (blank ∷ ps) (class b) b ≡ step ps (class b) b
unfolding step
blank_over ps b h = go b (class b) (class_fits b) h
  where
    go : (b : ℕ) (c : Class) → Fits b c → is_space b ≡ false → step (blank ∷ ps) c b ≡ step ps c b
    go b c (l.space x.space) h = cc
    go b c (l.space x.tab) h = cc
    go b c (l.space x.line_feed) h = cc
    go b c (l.space x.return) h = cc
    go b c f h = refl

pub blank_end : (ps : List Part) → finish (blank ∷ ps) ≡ finish ps
unfolding finish
blank_end ps = refl

-- ---- digits

digit_is : (b : ℕ) → is_digit b ≡ true → (class b ≡ m.zero_digit) ⊎ (class b ≡ m.digit)
digit_is b h = go (b == 48) refl
  where
    go : (z : Bool) → (b == 48) ≡ z → (class b ≡ m.zero_digit) ⊎ (class b ≡ m.digit)
    go true z = let e : nat_lt b 48 ≡ false = grind (arith, nat_tests) in inl (rw (e, z))
    go false z =
        let e : nat_lt b 48 ≡ false = grind (arith, nat_tests) in
        let f : nat_lt b 58 ≡ true = grind (arith, nat_tests) in
        inr (rw (e, z, f))

running_on : {n : Stage} → IsRunning n → (c : Class) → ((c ≡ m.zero_digit) ⊎ (c ≡ m.digit)) → next_stage n c ≡ Some n
running_on g.whole c (inl e) = rw e refl
running_on g.whole c (inr e) = rw e refl
running_on g.fraction c (inl e) = rw e refl
running_on g.fraction c (inr e) = rw e refl
running_on g.exponent c (inl e) = rw e refl
running_on g.exponent c (inr e) = rw e refl

pub number_on : (n n' : Stage) (s : List ℕ) (ps : List Part) (b : ℕ) → next_stage n (class b) ≡ Some n' → step (digits n s ∷ ps) (class b) b ≡ Some ([], digits n' (s ++ b ∷ []) ∷ ps)
unfolding step
number_on n n' s ps b e = rw e

pub digits_on : {n : Stage} → IsRunning n → (ps : List Part) (s : List ℕ) (b : ℕ) → is_digit b ≡ true → step (digits n s ∷ ps) (class b) b ≡ Some ([], digits n (s ++ b ∷ []) ∷ ps)
digits_on {n} r ps s b h = number_on n n s ps b (running_on r (class b) (digit_is b h))

pub number_wrong : (n : Stage) (s : List ℕ) (ps : List Part) (b : ℕ) → next_stage n (class b) ≡ None → may_end n ≡ false → step (digits n s ∷ ps) (class b) b ≡ None
unfolding step
number_wrong n s ps b e f = rw (e, f)

pub number_cut : (n : Stage) (s : List ℕ) (ps : List Part) → may_end n ≡ false → finish (digits n s ∷ ps) ≡ None
unfolding finish
number_cut n s ps f = rw f

-- the number is over before this byte
pub over_exponent : (b : ℕ) → is_digit b ≡ false → next_stage in_exponent (class b) ≡ None
over_exponent b h = go b (class b) (class_fits b) h
  where
    go : (b : ℕ) (c : Class) → Fits b c → is_digit b ≡ false → next_stage in_exponent c ≡ None
    go b c l.zero_digit h = cc
    go b c (l.digit lo hi) h = absurd (let q : ⊥ = grind (arith, nat_tests) in q)
    go b c f h = refl

pub over_fraction : (b : ℕ) → is_digit b ≡ false → is_e b ≡ false → next_stage in_fraction (class b) ≡ None
over_fraction b h k = go b (class b) (class_fits b) h k
  where
    go : (b : ℕ) (c : Class) → Fits b c → is_digit b ≡ false → is_e b ≡ false → next_stage in_fraction c ≡ None
    go b c l.zero_digit h k = cc
    go b c (l.digit lo hi) h k = absurd (let q : ⊥ = grind (arith, nat_tests) in q)
    go b c l.small_e h k = cc
    go b c l.capital_e h k = cc
    go b c f h k = refl

pub over_whole : (b : ℕ) → is_digit b ≡ false → is_e b ≡ false → b ≢ 46 → next_stage in_whole (class b) ≡ None
over_whole b h k p = go b (class b) (class_fits b) h k p
  where
    go : (b : ℕ) (c : Class) → Fits b c → is_digit b ≡ false → is_e b ≡ false → b ≢ 46 → next_stage in_whole c ≡ None
    go b c l.zero_digit h k p = cc
    go b c (l.digit lo hi) h k p = absurd (let q : ⊥ = grind (arith, nat_tests) in q)
    go b c l.small_e h k p = cc
    go b c l.capital_e h k p = cc
    go b c l.point h k p = absurd (p refl)
    go b c f h k p = refl

pub over_zero : (b : ℕ) → is_e b ≡ false → b ≢ 46 → next_stage after_zero (class b) ≡ None
over_zero b k p = go b (class b) (class_fits b) k p
  where
    go : (b : ℕ) (c : Class) → Fits b c → is_e b ≡ false → b ≢ 46 → next_stage after_zero c ≡ None
    go b c l.small_e k p = cc
    go b c l.capital_e k p = cc
    go b c l.point k p = absurd (p refl)
    go b c f k p = refl

-- no digit stands where one is wanted
pub no_digit_minus : (b : ℕ) → is_digit b ≡ false → next_stage after_minus (class b) ≡ None
no_digit_minus b h = go b (class b) (class_fits b) h
  where
    go : (b : ℕ) (c : Class) → Fits b c → is_digit b ≡ false → next_stage after_minus c ≡ None
    go b c l.zero_digit h = cc
    go b c (l.digit lo hi) h = absurd (let q : ⊥ = grind (arith, nat_tests) in q)
    go b c f h = refl

-- ---- parts of numbers

pub wants_point : (b : ℕ) → Wants after_point b in_fraction
wants_point b = record { on = λ h. on (class b) (digit_is b h); off = off b (class b) (class_fits b); more = refl }
  where
    on : (c : Class) → ((c ≡ m.zero_digit) ⊎ (c ≡ m.digit)) → next_stage after_point c ≡ Some in_fraction
    on c (inl e) = rw e refl
    on c (inr e) = rw e refl

    off : (b : ℕ) (c : Class) → Fits b c → is_digit b ≡ false → next_stage after_point c ≡ None
    off b c l.zero_digit h = cc
    off b c (l.digit lo hi) h = absurd (let q : ⊥ = grind (arith, nat_tests) in q)
    off b c f h = refl

pub wants_sign : (b : ℕ) → Wants after_sign b in_exponent
wants_sign b = record { on = λ h. on (class b) (digit_is b h); off = off b (class b) (class_fits b); more = refl }
  where
    on : (c : Class) → ((c ≡ m.zero_digit) ⊎ (c ≡ m.digit)) → next_stage after_sign c ≡ Some in_exponent
    on c (inl e) = rw e refl
    on c (inr e) = rw e refl

    off : (b : ℕ) (c : Class) → Fits b c → is_digit b ≡ false → next_stage after_sign c ≡ None
    off b c l.zero_digit h = cc
    off b c (l.digit lo hi) h = absurd (let q : ⊥ = grind (arith, nat_tests) in q)
    off b c f h = refl

-- no sign comes
pub wants_e : (b : ℕ) → b ≢ 43 → b ≢ 45 → Wants after_e b in_exponent
wants_e b p q = record { on = λ h. on (class b) (digit_is b h); off = off b (class b) (class_fits b) p q; more = refl }
  where
    on : (c : Class) → ((c ≡ m.zero_digit) ⊎ (c ≡ m.digit)) → next_stage after_e c ≡ Some in_exponent
    on c (inl e) = rw e refl
    on c (inr e) = rw e refl

    off : (b : ℕ) (c : Class) → Fits b c → b ≢ 43 → b ≢ 45 → is_digit b ≡ false → next_stage after_e c ≡ None
    off b c l.zero_digit p q h = cc
    off b c (l.digit lo hi) p q h = absurd (let q : ⊥ = grind (arith, nat_tests) in q)
    off b c l.plus p q h = absurd (p refl)
    off b c l.minus p q h = absurd (q refl)
    off b c f p q h = refl

pub minus_on : (b : ℕ) → is_digit b ≡ true → next_stage after_minus (class b) ≡ Some (whole_stage b)
minus_on b h = go (b == 48) refl
  where
    go : (z : Bool) → (b == 48) ≡ z → next_stage after_minus (class b) ≡ Some (whole_stage b)
    go true z = let e : nat_lt b 48 ≡ false = grind (arith, nat_tests) in rw (e, z) refl
    go false z =
        let e : nat_lt b 48 ≡ false = grind (arith, nat_tests) in
        let f : nat_lt b 58 ≡ true = grind (arith, nat_tests) in
        rw (e, z, f) refl

pub begins_digit : (b : ℕ) (ps : List Part) → is_digit b ≡ true → m.begin_value (class b) b ps ≡ Some ([], digits (whole_stage b) (b ∷ []) ∷ ps)
begins_digit b ps h = go (b == 48) refl
  where
    go : (z : Bool) → (b == 48) ≡ z → m.begin_value (class b) b ps ≡ Some ([], digits (whole_stage b) (b ∷ []) ∷ ps)
    go true z = let e : nat_lt b 48 ≡ false = grind (arith, nat_tests) in rw (e, z) refl
    go false z =
        let e : nat_lt b 48 ≡ false = grind (arith, nat_tests) in
        let f : nat_lt b 58 ≡ true = grind (arith, nat_tests) in
        rw (e, z, f) refl

pub sign_on : (b : ℕ) → ((b ≡ 43) ⊎ (b ≡ 45)) → next_stage after_e (class b) ≡ Some after_sign
sign_on b (inl e) = rw e refl
sign_on b (inr e) = rw e refl

pub begins_minus : (b : ℕ) (ps : List Part) → b ≡ 45 → m.begin_value (class b) b ps ≡ Some ([], digits after_minus (b ∷ []) ∷ ps)
begins_minus b ps e = rw e refl

pub not_minus : (b : ℕ) → ((b ≡ 45) ⊎ (is_digit b ≡ true)) → b ≢ 45 → is_digit b ≡ true
not_minus b (inl e) n = absurd (n e)
not_minus b (inr d) n = d

pub takes_fraction : (b : ℕ) → TakesFraction (whole_stage b)
takes_fraction b = go (b == 48) refl
  where
    go : (z : Bool) → (b == 48) ≡ z → TakesFraction (whole_stage b)
    go true z = rw z g.zero
    go false z = rw z g.whole

pub takes_exponent : (o : Option ℕ) (b : ℕ) → TakesExponent (behind_fraction o (whole_stage b))
takes_exponent o b = go o (whole_stage b) (takes_fraction b)
  where
    plain : (n : Stage) → TakesFraction n → TakesExponent n
    plain n g.zero = g.zero
    plain n g.whole = g.whole

    some : (x : ℕ) (n : Stage) (t : Bool) → TakesFraction n → (x == 46) ≡ t → TakesExponent (behind_fraction (Some x) n)
    some x n true f e = rw e g.fraction
    some x n false f e = rw e (plain n f)

    go : (o : Option ℕ) (n : Stage) → TakesFraction n → TakesExponent (behind_fraction o n)
    go None n f = plain n f
    go (Some x) n f = some x n (x == 46) f refl

pub point_on : {n : Stage} → TakesFraction n → next_stage n (class 46) ≡ Some after_point
point_on g.zero = refl
point_on g.whole = refl

pub e_class : (b : ℕ) → is_e b ≡ true → class b ≡ m.letter_e
e_class b h = go (b == 101) (b == 69) refl refl h
  where
    go : (t u : Bool) → (b == 101) ≡ t → (b == 69) ≡ u → (t || u) ≡ true → class b ≡ m.letter_e
    go true u e _ h = ap class (eqb_is b 101 e)
    go false true _ e h = ap class (eqb_is b 69 e)
    go false false _ _ h = cc

pub e_on : {n : Stage} (b : ℕ) → TakesExponent n → is_e b ≡ true → next_stage n (class b) ≡ Some after_e
e_on {n} b t h = let e = e_class b h in rw e (go n t)
  where
    go : (n : Stage) → TakesExponent n → next_stage n m.letter_e ≡ Some after_e
    go n g.zero = refl
    go n g.whole = refl
    go n g.fraction = refl

pub whole_runs : (b : ℕ) → b ≢ 48 → IsRunning (whole_stage b)
whole_runs b n = let e : (b == 48) ≡ false = grind (arith, nat_tests) in rw e g.whole

-- ---- the ends of numbers

pub ends_zero : (b : ℕ) (o : Option ℕ) → b ≡ 48 → MayEnd (whole_stage b) goes_further o
ends_zero b o e = rw e (record { ends = refl; over = go o })
  where
    go : (o : Option ℕ) → IfSome o (λ x. goes_further x ≡ false → next_stage after_zero (class x) ≡ None)
    go None = tt
    go (Some x) = λ h. let p : is_e x ≡ false = grind (arith, nat_tests) in let q : x ≢ 46 = grind (arith, nat_tests) in over_zero x p q

pub ends_whole : (b : ℕ) (o : Option ℕ) → b ≢ 48 → IfSome o (λ x. is_digit x ≡ false) → MayEnd (whole_stage b) goes_further o
ends_whole b o n d = let e : (b == 48) ≡ false = grind (arith, nat_tests) in rw e (record { ends = refl; over = go o d })
  where
    go : (o : Option ℕ) → IfSome o (λ x. is_digit x ≡ false) → IfSome o (λ x. goes_further x ≡ false → next_stage in_whole (class x) ≡ None)
    go None d = tt
    go (Some x) d = λ h. let p : is_e x ≡ false = grind (arith, nat_tests) in let q : x ≢ 46 = grind (arith, nat_tests) in over_whole x d p q

pub ends_fraction : (o : Option ℕ) → IfSome o (λ x. is_digit x ≡ false) → MayEnd in_fraction is_e o
ends_fraction None d = record { ends = refl; over = tt }
ends_fraction (Some x) d = record { ends = refl; over = λ h. over_fraction x d h }

pub ends_exponent : (o : Option ℕ) → IfSome o (λ x. is_digit x ≡ false) → MayEnd in_exponent no_byte o
ends_exponent None d = record { ends = refl; over = tt }
ends_exponent (Some x) d = record { ends = refl; over = λ h. over_exponent x d }

-- ---- words

pub word_on : (b d : ℕ) (cs : List ℕ) (w : m.Literal) (ps : List Part) → step (word (b ∷ d ∷ cs) w ∷ ps) (class b) b ≡ Some ([], word (d ∷ cs) w ∷ ps)
unfolding step
word_on b d cs w ps = let e : (b == b) ≡ true = grind (arith, nat_tests) in rw e

pub word_last : (b : ℕ) (w : m.Literal) (ps : List Part) → step (word (b ∷ []) w ∷ ps) (class b) b ≡ Some (m.meant w, ps)
unfolding step
word_last b w ps = let e : (b == b) ≡ true = grind (arith, nat_tests) in rw e

pub word_wrong : (b c : ℕ) (cs : List ℕ) (w : m.Literal) (ps : List Part) → b ≢ c → step (word (c ∷ cs) w ∷ ps) (class b) b ≡ None
unfolding step
word_wrong b c [] w ps n = let e : (b == c) ≡ false = grind (arith, nat_tests) in rw e
word_wrong b c (d ∷ cs) w ps n = let e : (b == c) ≡ false = grind (arith, nat_tests) in rw e

pub word_cut : (cs : List ℕ) (w : m.Literal) (ps : List Part) → finish (word cs w ∷ ps) ≡ None
unfolding finish
word_cut cs w ps = refl

-- ---- the byte order mark

pub mark_on : (ps : List Part) → step (mark ∷ ps) (class 0xEF) 0xEF ≡ Some ([], word (0xBB ∷ 0xBF ∷ []) m.a_mark ∷ ps)
unfolding step
mark_on ps = refl

pub mark_over : (ps : List Part) (b : ℕ) → b ≢ 0xEF → step (mark ∷ ps) (class b) b ≡ step ps (class b) b
unfolding step
mark_over ps b n = go b (class b) (class_fits b) n
  where
    go : (b : ℕ) (c : Class) → Fits b c → b ≢ 0xEF → step (mark ∷ ps) c b ≡ step ps c b
    go b c l.mark_byte n = absurd (n refl)
    go b c f n = refl

pub mark_end : (ps : List Part) → finish (mark ∷ ps) ≡ finish ps
unfolding finish
mark_end ps = refl

-- ---- strings

plain_byte : (b : ℕ) → is_plain b ≡ true → text_byte b ≡ m.plain
plain_byte b h =
    let e : nat_lt b 32 ≡ false = grind (arith, nat_tests) in
    let f : (b == 34) ≡ false = grind (arith, nat_tests) in
    let i : (b == 92) ≡ false = grind (arith, nat_tests) in
    let j : nat_lt b 0x80 ≡ true = grind (arith, nat_tests) in
    rw (e, f, i, j)

pub plain_on : (k : Role) (p : Option ℕ) (ps : List Part) (s : List ℕ) (b : ℕ) → is_plain b ≡ true → step (chars k s p nothing ∷ ps) (class b) b ≡ Some ([], chars k (settled s p ++ b ∷ []) None nothing ∷ ps)
unfolding step
plain_on k p ps s b h = let e = plain_byte b h in rw e

pub quote_on : (k : Role) (s : List ℕ) (p : Option ℕ) (ps : List Part) → step (chars k s p nothing ∷ ps) (class 34) 34 ≡ Some (m.told k (settled s p) ∷ [], ps)
unfolding step
quote_on k s p ps = refl

pub escape_on : (k : Role) (s : List ℕ) (p : Option ℕ) (ps : List Part) → step (chars k s p nothing ∷ ps) (class 92) 92 ≡ Some ([], chars k s p m.escape ∷ ps)
unfolding step
escape_on k s p ps = refl

pub lead_on : (k : Role) (s : List ℕ) (p : Option ℕ) (ps : List Part) (b : ℕ) (t : m.Tail) → text_byte b ≡ m.leads t → step (chars k s p nothing ∷ ps) (class b) b ≡ Some ([], chars k s p (m.lead t (b ∷ [])) ∷ ps)
unfolding step
lead_on k s p ps b t e = rw e

pub text_wrong : (k : Role) (s : List ℕ) (p : Option ℕ) (ps : List Part) (b : ℕ) → text_byte b ≡ m.bad → step (chars k s p nothing ∷ ps) (class b) b ≡ None
unfolding step
text_wrong k s p ps b e = rw e

pub tail_on : (k : Role) (s : List ℕ) (p : Option ℕ) (ps : List Part) (t : m.Tail) (bytes : List ℕ) (b : ℕ) → m.tail_low t ≤ b → b ≤ m.tail_high t →
    step (chars k s p (m.lead t bytes) ∷ ps) (class b) b ≡ Some ([], m.with_byte k s p (m.tail_next t) (bytes ++ b ∷ []) ∷ ps)
unfolding step
tail_on k s p ps t bytes b lo hi =
    let e : (nat_le (m.tail_low t) b && nat_le b (m.tail_high t)) ≡ true = grind (arith, nat_tests) in rw e

pub tail_wrong : (k : Role) (s : List ℕ) (p : Option ℕ) (ps : List Part) (t : m.Tail) (bytes : List ℕ) (b : ℕ) → ((b < m.tail_low t) ⊎ (m.tail_high t < b)) →
    step (chars k s p (m.lead t bytes) ∷ ps) (class b) b ≡ None
unfolding step
tail_wrong k s p ps t bytes b (inl lo) = let e : (nat_le (m.tail_low t) b && nat_le b (m.tail_high t)) ≡ false = grind (arith, nat_tests) in rw e
tail_wrong k s p ps t bytes b (inr hi) = let e : (nat_le (m.tail_low t) b && nat_le b (m.tail_high t)) ≡ false = grind (arith, nat_tests) in rw e

-- a byte that stands for itself, where the test of a run passes
pub plain_from : Role → List ℕ → Option ℕ → List Part → List ℕ → List Part
plain_from k s p ps [] = chars k s p nothing ∷ ps
plain_from k s p ps (x ∷ xs) = chars k (settled s p ++ x ∷ xs) None nothing ∷ ps

pub plain_from_on : (k : Role) (s : List ℕ) (p : Option ℕ) (ps : List Part) (xs : List ℕ) (b : ℕ) → is_plain b ≡ true → step (plain_from k s p ps xs) (class b) b ≡ Some ([], plain_from k s p ps (xs ++ b ∷ []))
unfolding plain_from
plain_from_on k s p ps [] b h = plain_on k p ps s b h
plain_from_on k s p ps (x ∷ xs) b h =
    plain_on k None ps (settled s p ++ x ∷ xs) b h ∙ ap (λ t. Some ([], chars k t None nothing ∷ ps)) (append_assoc (settled s p) (x ∷ xs) (b ∷ []))

pub plain_from_some : (k : Role) (s : List ℕ) (p : Option ℕ) (ps : List Part) (xs : List ℕ) → 0 < length xs → plain_from k s p ps xs ≡ chars k (settled s p ++ xs) None nothing ∷ ps
unfolding plain_from
plain_from_some k s p ps [] h = absurd (omega arith)
plain_from_some k s p ps (x ∷ xs) h = refl

pub plain_from_none : (k : Role) (s : List ℕ) (p : Option ℕ) (ps : List Part) → chars k s p nothing ∷ ps ≡ plain_from k s p ps []
unfolding plain_from
plain_from_none k s p ps = refl

pub plain_from_depth : (k : Role) (s : List ℕ) (p : Option ℕ) (ps : List Part) (xs : List ℕ) → depth ps ≤ max_depth → depth (plain_from k s p ps xs) ≤ max_depth
unfolding plain_from
plain_from_depth k s p ps [] d = d
plain_from_depth k s p ps (x ∷ xs) d = d

pub not_plain : (b n : ℕ) → (is_plain b ≡ true → 0 < n) → n ≡ 0 → is_plain b ≡ false
not_plain b n h e = go (is_plain b) refl
  where
    go : (t : Bool) → is_plain b ≡ t → is_plain b ≡ false
    go true t = let some = h t in absurd (omega arith)
    go false t = t

pub bad_ascii : (b : ℕ) → is_plain b ≡ false → b < 128 → b ≢ 34 → b ≢ 92 → text_byte b ≡ m.bad
bad_ascii b h s q r = let e : nat_lt b 32 ≡ true = grind (arith, nat_tests) in rw e

pub bad_middle : (b : ℕ) → 128 ≤ b → b < 194 → text_byte b ≡ m.bad
bad_middle b lo hi =
    let a : nat_lt b 32 ≡ false = grind (arith, nat_tests) in
    let c : (b == 34) ≡ false = grind (arith, nat_tests) in
    let d : (b == 92) ≡ false = grind (arith, nat_tests) in
    let e : nat_lt b 128 ≡ false = grind (arith, nat_tests) in
    let f : nat_lt b 194 ≡ true = grind (arith, nat_tests) in
    rw (a, c, d, e, f)

-- the tests of a byte beyond ASCII, in their order
beyond : (b : ℕ) → 194 ≤ b → text_byte b ≡ cond (nat_lt b 0xE0) (m.leads m.one_more) (cond (b == 0xE0) (m.leads m.behind_e0) (cond (b == 0xED) (m.leads m.behind_ed) (cond (nat_lt b 0xF0) (m.leads m.two_more)
    (cond (b == 0xF0) (m.leads m.behind_f0) (cond (nat_lt b 0xF4) (m.leads m.three_more) (cond (b == 0xF4) (m.leads m.behind_f4) m.bad))))))
beyond b lo =
    let a : nat_lt b 32 ≡ false = grind (arith, nat_tests) in
    let c : (b == 34) ≡ false = grind (arith, nat_tests) in
    let d : (b == 92) ≡ false = grind (arith, nat_tests) in
    let e : nat_lt b 128 ≡ false = grind (arith, nat_tests) in
    let f : nat_lt b 194 ≡ false = grind (arith, nat_tests) in
    rw (a, c, d, e, f) refl

pub leads_two : (b : ℕ) → 194 ≤ b → b ≤ 223 → text_byte b ≡ m.leads m.one_more
leads_two b lo hi = let e : nat_lt b 0xE0 ≡ true = grind (arith, nat_tests) in beyond b lo ∙ rw e refl

-- the bytes that follow one that begins a character of three bytes, or of four
abbrev pub three_tail : ℕ → m.Tail
three_tail b = cond (b == 0xE0) m.behind_e0 (cond (b == 0xED) m.behind_ed m.two_more)

abbrev pub four_tail : ℕ → m.Tail
four_tail b = cond (b == 0xF0) m.behind_f0 (cond (b == 0xF4) m.behind_f4 m.three_more)

pub record Follows (b : ℕ) (t : m.Tail) (u : m.Tail) : Type 0 where
  pub leads : text_byte b ≡ m.leads t
  pub low : m.tail_low t ≡ second_low b
  pub high : m.tail_high t ≡ second_high b
  pub next : m.tail_next t ≡ Some u

pub follows_three : (b : ℕ) → 224 ≤ b → b ≤ 239 → Follows b (three_tail b) m.one_more
follows_three b lo hi = go (b == 0xE0) (b == 0xED) refl refl
  where
    go : (q u : Bool) → (b == 0xE0) ≡ q → (b == 0xED) ≡ u → Follows b (three_tail b) m.one_more
    go true u e f = let x = eqb_is b 0xE0 e in rw x (record { leads = refl; low = refl; high = refl; next = refl })
    go false true e f = let x = eqb_is b 0xED f in rw x (record { leads = refl; low = refl; high = refl; next = refl })
    go false false e f =
        let c : nat_lt b 0xE0 ≡ false = grind (arith, nat_tests) in
        let d : nat_lt b 0xF0 ≡ true = grind (arith, nat_tests) in
        let i : (b == 0xF0) ≡ false = grind (arith, nat_tests) in
        let j : (b == 0xF4) ≡ false = grind (arith, nat_tests) in
        let more : 194 ≤ b = omega arith in
        let leads : text_byte b ≡ m.leads m.two_more = beyond b more ∙ rw (c, e, f, d) refl in
        let low : 0x80 ≡ second_low b = rw (e, i) refl in
        let high : 0xBF ≡ second_high b = rw (f, j) refl in
        rw (e, f) (record { leads = leads; low = low; high = high; next = refl })

pub follows_four : (b : ℕ) → 240 ≤ b → b ≤ 244 → Follows b (four_tail b) m.two_more
follows_four b lo hi = go (b == 0xF0) (b == 0xF4) refl refl
  where
    go : (q u : Bool) → (b == 0xF0) ≡ q → (b == 0xF4) ≡ u → Follows b (four_tail b) m.two_more
    go true u e f = let x = eqb_is b 0xF0 e in rw x (record { leads = refl; low = refl; high = refl; next = refl })
    go false true e f = let x = eqb_is b 0xF4 f in rw x (record { leads = refl; low = refl; high = refl; next = refl })
    go false false e f =
        let c : nat_lt b 0xE0 ≡ false = grind (arith, nat_tests) in
        let d : nat_lt b 0xF0 ≡ false = grind (arith, nat_tests) in
        let i : (b == 0xE0) ≡ false = grind (arith, nat_tests) in
        let j : (b == 0xED) ≡ false = grind (arith, nat_tests) in
        let k : nat_lt b 0xF4 ≡ true = grind (arith, nat_tests) in
        let more : 194 ≤ b = omega arith in
        let leads : text_byte b ≡ m.leads m.three_more = beyond b more ∙ rw (c, i, j, d, e, k) refl in
        let low : 0x80 ≡ second_low b = rw (i, e) refl in
        let high : 0xBF ≡ second_high b = rw (j, f) refl in
        rw (e, f) (record { leads = leads; low = low; high = high; next = refl })

pub bad_high : (b : ℕ) → 245 ≤ b → text_byte b ≡ m.bad
bad_high b lo =
    let c : nat_lt b 0xE0 ≡ false = grind (arith, nat_tests) in
    let d : nat_lt b 0xF0 ≡ false = grind (arith, nat_tests) in
    let i : (b == 0xE0) ≡ false = grind (arith, nat_tests) in
    let j : (b == 0xED) ≡ false = grind (arith, nat_tests) in
    let e : (b == 0xF0) ≡ false = grind (arith, nat_tests) in
    let f : (b == 0xF4) ≡ false = grind (arith, nat_tests) in
    let k : nat_lt b 0xF4 ≡ false = grind (arith, nat_tests) in
    let more : 194 ≤ b = omega arith in
    beyond b more ∙ rw (c, i, j, d, e, k, f) refl

-- ---- escapes

pub u_on : (k : Role) (s : List ℕ) (p : Option ℕ) (ps : List Part) → step (chars k s p m.escape ∷ ps) (class 117) 117 ≡ Some ([], chars k s p (m.hex 3 0) ∷ ps)
unfolding step
u_on k s p ps = refl

pub short_on : (k : Role) (s : List ℕ) (p : Option ℕ) (ps : List Part) (b c : ℕ) → b ≢ 117 → m.escaped b ≡ Some c → step (chars k s p m.escape ∷ ps) (class b) b ≡ Some ([], m.with_char k s p (c ∷ []) ∷ ps)
unfolding step
short_on k s p ps b c n e = let f : (b == 117) ≡ false = grind (arith, nat_tests) in rw (f, e)

pub escape_wrong : (k : Role) (s : List ℕ) (p : Option ℕ) (ps : List Part) (b : ℕ) → b ≢ 117 → m.escaped b ≡ None → step (chars k s p m.escape ∷ ps) (class b) b ≡ None
unfolding step
escape_wrong k s p ps b n e = let f : (b == 117) ≡ false = grind (arith, nat_tests) in rw (f, e)

pub hex_on : (k : Role) (s : List ℕ) (p : Option ℕ) (n v : ℕ) (ps : List Part) (b : ℕ) → is_ascii_hexdigit b ≡ true →
    step (chars k s p (m.hex n v) ∷ ps) (class b) b ≡ Some ([], m.with_hex k s p n (v * 16 + digit_value b) ∷ ps)
unfolding step
hex_on k s p n v ps b e = rw e refl

pub hex_wrong : (k : Role) (s : List ℕ) (p : Option ℕ) (n v : ℕ) (ps : List Part) (b : ℕ) → is_ascii_hexdigit b ≡ false → step (chars k s p (m.hex n v) ∷ ps) (class b) b ≡ None
unfolding step
hex_wrong k s p n v ps b e = rw e refl

pub hex_depth : (k : Role) (s : List ℕ) (p : Option ℕ) (n v : ℕ) (ps : List Part) → depth ps ≤ max_depth → depth (m.with_hex k s p n v ∷ ps) ≤ max_depth
hex_depth k s p zero v ps d = d
hex_depth k s p (suc n) v ps d = d

pub byte_depth : (k : Role) (s : List ℕ) (p : Option ℕ) (o : Option m.Tail) (bytes : List ℕ) (ps : List Part) → depth ps ≤ max_depth → depth (m.with_byte k s p o bytes ∷ ps) ≤ max_depth
byte_depth k s p None bytes ps d = d
byte_depth k s p (Some t) bytes ps d = d

ascii_utf8 : (c : ℕ) → c < 128 → encode_utf8 c ≡ c ∷ []
unfolding encode_utf8
ascii_utf8 c h = let f : nat_lt c 128 ≡ true = grind (arith, nat_tests) in rw f

-- the character of an escape is its own byte
pub escaped_utf8 : (b c : ℕ) → m.escaped b ≡ Some c → encode_utf8 c ≡ c ∷ []
escaped_utf8 b c e = ascii_utf8 c (short_small b c e)
  where
    short_small : (b c : ℕ) → m.escaped b ≡ Some c → c < 128
    short_small b c e = grind (arith, nat_tests)

-- ---- the ends of strings

pub chars_cut : (k : Role) (s : List ℕ) (p : Option ℕ) (g : m.Begun) (ps : List Part) → finish (chars k s p g ∷ ps) ≡ None
unfolding finish
chars_cut k s p g ps = refl

-- ---- values

pub value_cut : (s : Symbol) (ps : List Part) → finish (symbol s ∷ ps) ≡ None
unfolding finish
value_cut s ps = refl

-- ---- words, a letter at a time

-- what is told when these bytes of the word are still to come
abbrev pub told_up : List ℕ → List ℕ → m.Literal → List Event
told_up full [] w = told_behind full w
told_up full (c ∷ cs) w = []

pub told_up_all : (full : List ℕ) (w : m.Literal) → told_up full full w ≡ []
told_up_all [] w = refl
told_up_all (c ∷ cs) w = refl

-- the last letter, or another
abbrev pub told_by_letter : List ℕ → m.Literal → List Event
told_by_letter [] w = m.meant w
told_by_letter (c ∷ cs) w = []

pub letter_on : (x : ℕ) (cs : List ℕ) (w : m.Literal) (ps : List Part) → step (word (x ∷ cs) w ∷ ps) (class x) x ≡ Some (told_by_letter cs w, behind_word cs w ps)
letter_on x [] w ps = word_last x w ps
letter_on x (d ∷ cs) w ps = word_on x d cs w ps

pub letter_depth : (cs : List ℕ) (w : m.Literal) (ps : List Part) → depth ps ≤ max_depth → depth (behind_word cs w ps) ≤ max_depth
letter_depth [] w ps d = d
letter_depth (c ∷ cs) w ps d = d

pub told_up_next : (full : List ℕ) (i x : ℕ) (cs : List ℕ) (w : m.Literal) → drop i full ≡ x ∷ cs → told_by_letter cs w ≡ told_up full cs w
told_up_next [] i x cs w e = absurd (nothing_left i e)
  where
    nothing_left : (i : ℕ) → drop i [] ≡ x ∷ cs → ⊥
    nothing_left zero e = cc
    nothing_left (suc i) e = cc
told_up_next (y ∷ ys) i x [] w e = refl
told_up_next (y ∷ ys) i x (d ∷ cs) w e = refl
