-- Plain numbers, as the machine reads them.
use Rattle.std.proofs.Common.{◌≡◌, ◌≢◌, ℕ, zero, suc, ◌+◌, ◌-◌, ◌<◌, ◌≤◌, Bool, true, false, List, [], ◌∷◌, ◌++◌, length, take, drop, get_or, refl, sym, ap, ◌∙◌, subst, arith}
use Rattle.std.specs.Prelude.{Option, Some, None, ◌==◌, ◌||◌}
use Rattle.std.proofs.Common.{add-zero}
use Rattle.std.proofs.lemmas.Bool.Decides.{nat_tests}
use Rattle.std.proofs.lemmas.List.{append_assoc, append-nil, take-append-drop, length-append, length-take, length-drop}
use Rattle.prof_grammar.specs.Event.{number}
use Rattle.prof_grammar.specs.Grammar.{value, more_items}
use Rattle.prof_grammar.specs.Machine.{Part, Role, Stage, blank, symbol, word, a_colon, digits, chars, nothing, as_value, told, class, step, after_zero, after_point, in_fraction}
use Rattle.prof_grammar.specs.Reading.{max_depth}
use Rattle.prof_grammar.specs.Told.{reading, tell, depth}
use Rattle.prof_time.specs.Numeral as n
use Rattle.prof_time.specs.Numeral.{AreDigits, IsInt, IsFraction}
use Rattle.std.specs.Char.{IsAsciiDigit}
use Rattle.std.specs.Str.{IsUtf8}
use Rattle.std.proofs.lemmas.Str.{IsUtf8-from_ascii}
use Rattle.prof_token.specs.Ahead.{Ahead, IsNext, Passes}
use Rattle.prof_token.specs.Bytes.{Each, none, more, is_digit, is_e, is_space}
use Rattle.prof_token.specs.Goes.{Goes, Answers, rest_of}
use Rattle.prof_token.specs.Kept.{Kept, Adds, Gains}
use Rattle.prof_token.specs.Numbers.{IsFractionText, IsNumeral, IsPlain}
use Rattle.prof_token.specs.Stages as g
use Rattle.prof_token.specs.Stages.{IsRunning, MayEnd, TakesFraction, TakesExponent, no_byte, whole_stage, may_come}
use Rattle.prof_token.proofs.Machines.{goes_trans, reading_step}
use Rattle.prof_json.specs.Step.{ReadsNumber}
use Rattle.prof_token.specs.Writes.{ReadsString}
use Rattle.prof_token.proofs.Strings.{reading_string, slice_from, take_plus}
use Rattle.prof_token.proofs.Runs.{run_is}
use Rattle.prof_json.proofs.Standing.{IsBehind, top, in_items, in_members, value_step, more_items_comma, begins_string, come_top, come_items, come_members}
use Rattle.prof_token.proofs.Texts.{is_ascii_digit_of, each_digits}
use Rattle.prof_token.proofs.Turns.{blank_over, word_last, digits_on, number_on, point_on, wants_point, begins_digit, whole_runs, takes_fraction, over_zero, over_whole, over_fraction}
use Rattle.prof_token.proofs.Utf8.{each_ascii}
use Rattle.prof_json.proofs.Closing.{number_told}

-- ---- bytes over which the machine tells nothing

pub data Turns : List ℕ → List Part → List Part → Type 0 where
  still : {ps : List Part} → Turns [] ps ps
  on : {b : ℕ} {bs : List ℕ} {ps qs rs : List Part} → step ps (class b) b ≡ Some ([], qs) → depth qs ≤ max_depth → Turns bs qs rs → Turns (b ∷ bs) ps rs

turns_trans : {xs ys : List ℕ} {ps qs rs : List Part} → Turns xs ps qs → Turns ys qs rs → Turns (xs ++ ys) ps rs
turns_trans still u = u
turns_trans (on s d t) u = on s d (turns_trans t u)

reading_turns : {xs : List ℕ} {ps qs : List Part} → Turns xs ps qs → (limit at : ℕ) (r : List ℕ) → at + length xs ≤ limit → reading limit at ps (xs ++ r) ≡ reading limit (at + length xs) qs r
reading_turns still limit at r h = rw add-zero
reading_turns (on {b} {bs} {ps} {qs} {rs} s d t) limit at r h =
    let room : at < limit = omega arith in
    let rest : at + 1 + length bs ≤ limit = omega arith in
    let place : at + 1 + length bs ≡ at + suc (length bs) = omega arith in
    reading_step limit at ps qs [] b (bs ++ r) room s d
    ∙ reading_turns t limit (at + 1) r rest
    ∙ ap (λ k. reading limit k rs r) place

-- they were passed
pub goes_front : {a b : Ahead} {l : Option (List ℕ)} {ps qs : List Part} {xs : List ℕ} → Turns xs ps qs → a.bytes ≡ xs ++ b.bytes → b.place ≡ a.place + length xs → b.limit ≡ a.limit → a.place + length xs ≤ a.limit → Goes None a l ps [] b l qs
goes_front {a} {b} {l} {ps} {qs} {xs} t bytes place limit room = record { is = go l }
  where
    go : (l : Option (List ℕ)) → Answers None a l ps [] b l qs
    go None = tt
    go (Some l) =
        let same : reading a.limit (a.place + length xs) qs (b.bytes ++ l) ≡ rest_of b qs l = cc in
        ap (λ x. reading a.limit a.place ps (x ++ l)) bytes ∙ ap (reading a.limit a.place ps) (append_assoc xs b.bytes l) ∙ reading_turns t a.limit a.place (b.bytes ++ l) room ∙ same

-- ---- the parts of a number

is_digit_of : (b : ℕ) → IsAsciiDigit b → is_digit b ≡ true
is_digit_of b h = let lo = h.0 in let hi = h.1 in grind (arith, nat_tests)

turns_digits : {m : Stage} (ds s : List ℕ) (ps : List Part) → IsRunning m → AreDigits ds → depth ps ≤ max_depth → Turns ds (digits m s ∷ ps) (digits m (s ++ ds) ∷ ps)
turns_digits {m} [] s ps r a d = subst (λ t. Turns [] (digits m s ∷ ps) (digits m t ∷ ps)) (sym (append-nil s)) still
turns_digits {m} (b ∷ ds) s ps r a d =
    subst (λ t. Turns (b ∷ ds) (digits m s ∷ ps) (digits m t ∷ ps)) (append_assoc s (b ∷ []) ds)
    (on (digits_on r ps s b (is_digit_of b a.0)) d (turns_digits ds (s ++ b ∷ []) ps r a.1 d))

no_space : (b : ℕ) → is_digit b ≡ true → is_space b ≡ false
no_space b h = grind (arith, nat_tests)

first_digit : (b : ℕ) (ps : List Part) → is_digit b ≡ true → step (blank ∷ symbol value ∷ ps) (class b) b ≡ Some ([], digits (whole_stage b) (b ∷ []) ∷ ps)
first_digit b ps h = blank_over (symbol value ∷ ps) b (no_space b h) ∙ value_step ps b ∙ begins_digit b ps h

-- so far the number has come, and these parts are to come behind it
record Comes (xs : List ℕ) (ps : List Part) (text : List ℕ) (qs : List Part) : Type 0 where
  stage : Stage
  takes : TakesExponent stage
  turns : Turns xs ps (digits stage text ∷ qs)

record Begins (xs : List ℕ) (ps : List Part) (text : List ℕ) (qs : List Part) : Type 0 where
  stage : Stage
  takes : TakesFraction stage
  turns : Turns xs ps (digits stage text ∷ qs)

turns_whole : {w : List ℕ} (ps : List Part) → IsInt w → depth ps ≤ max_depth → Begins w (blank ∷ symbol value ∷ ps) w ps
turns_whole ps n.zero_int d = record { stage = after_zero; takes = g.zero; turns = on (first_digit 48 ps refl) d still }
turns_whole ps (n.int {d = b} {ds} h z a) d =
    let p = is_digit_of b h in
    record { stage = whole_stage b; takes = takes_fraction b; turns = on (first_digit b ps p) d (turns_digits ds (b ∷ []) ps (whole_runs b z) a d) }

plain_takes : (m : Stage) → TakesFraction m → TakesExponent m
plain_takes m g.zero = g.zero
plain_takes m g.whole = g.whole

turns_fraction : {f fs : List ℕ} {m : Stage} (s : List ℕ) (ps : List Part) → TakesFraction m → IsFraction f fs → depth ps ≤ max_depth → Comes f (digits m s ∷ ps) (s ++ f) ps
turns_fraction {m = m} s ps t n.no_fraction d = record { stage = m; takes = plain_takes m t; turns = subst (λ x. Turns [] (digits m s ∷ ps) (digits m x ∷ ps)) (sym (append-nil s)) still }
turns_fraction {m = m} s ps t (n.fraction (n.digits {d = b} {ds} h a)) d =
    let w = wants_point b in
    let point = number_on m after_point s ps 46 (point_on t) in
    let first = number_on after_point in_fraction (s ++ 46 ∷ []) ps b (w.on (is_digit_of b h)) in
    let rest = turns_digits ds ((s ++ 46 ∷ []) ++ b ∷ []) ps g.fraction a d in
    let same : ((s ++ 46 ∷ []) ++ b ∷ []) ++ ds ≡ s ++ (46 ∷ b ∷ ds) = append_assoc (s ++ 46 ∷ []) (b ∷ []) ds ∙ append_assoc s (46 ∷ []) (b ∷ ds) in
    record { stage = in_fraction; takes = g.fraction; turns = subst (λ x. Turns (46 ∷ b ∷ ds) (digits m s ∷ ps) (digits in_fraction x ∷ ps)) same (on point d (on first d rest)) }

turns_plain : {text : List ℕ} (ps : List Part) → IsPlain text → depth ps ≤ max_depth → Comes text (blank ∷ symbol value ∷ ps) text ps
turns_plain {text} ps h d =
    let w = turns_whole ps h.begins d in
    let f = turns_fraction h.whole ps w.takes h.goes_on.reads d in
    subst (λ x. Comes x (blank ∷ symbol value ∷ ps) x ps) (sym h.is) (record { stage = f.stage; takes = f.takes; turns = turns_trans w.turns f.turns })

-- ---- the byte behind it

abbrev ends_number : ℕ → Bool
ends_number b = is_space b || (b == 44) || (b == 93) || (b == 125)

ends_at : {ps : List Part} (b : ℕ) → IsBehind ps → may_come ps (Some b) ≡ true → ends_number b ≡ true
ends_at b top h = let e : is_space b ≡ true = come_top b ∙ h in rw e
ends_at b (in_items {ps} d) h = let e : (is_space b || (b == 44) || (b == 93)) ≡ true = come_items ps b ∙ h in grind (arith, nat_tests)
ends_at b (in_members {ps} d) h = let e : (is_space b || (b == 44) || (b == 125)) ≡ true = come_members ps b ∙ h in grind (arith, nat_tests)

ends_before : {m : Stage} (b : ℕ) → TakesExponent m → ends_number b ≡ true → MayEnd m no_byte (Some b)
ends_before {m} b t h = go m t
  where
    not_e : is_e b ≡ false
    not_e = grind (arith, nat_tests)

    not_digit : is_digit b ≡ false
    not_digit = grind (arith, nat_tests)

    not_point : b ≢ 46
    not_point = grind (arith, nat_tests)

    go : (m : Stage) → TakesExponent m → MayEnd m no_byte (Some b)
    go m g.zero = record { ends = refl; over = λ _. over_zero b not_e not_point }
    go m g.whole = record { ends = refl; over = λ _. over_whole b not_digit not_e not_point }
    go m g.fraction = record { ends = refl; over = λ _. over_fraction b not_digit not_e }

long_as : (before : ℕ) (bytes : List ℕ) {lead : List ℕ} → take before bytes ≡ lead → before ≤ length bytes → length lead ≡ before
long_as before bytes {lead} e within = let all : length (take before bytes) ≡ length lead = ap length e in omega (arith, length-take before bytes)

-- a number that was read at once, behind bytes that bring it about
pub goes_number : {old new : Ahead} {l : Option (List ℕ)} {k m : Kept} {before : ℕ} {ps qs : List Part} {lead : List ℕ} → Turns lead qs (blank ∷ symbol value ∷ ps) → take before old.bytes ≡ lead → IsBehind ps → depth ps ≤ max_depth → (r : ReadsNumber before ps old k new m) →
    Goes None old l qs (number r.text ∷ []) new l ps
goes_number {old} {new} {l} {before = before} {ps} {qs} {lead} t e behind d r =
    let here = r.passed.here in
    let within = r.passed.within in
    let at = r.passed.place in
    let long : length lead ≡ before = long_as before old.bytes e (omega arith) in
    let n = turns_plain ps r.plain d in
    let bytes : old.bytes ≡ (lead ++ r.text) ++ new.bytes = r.ahead ∙ ap (λ x. x ++ (r.text ++ new.bytes)) e ∙ sym (append_assoc lead r.text new.bytes) in
    let place : new.place ≡ old.place + length (lead ++ r.text) = omega (arith, length-append lead r.text) in
    let room : old.place + length (lead ++ r.text) ≤ old.limit = omega (arith, length-append lead r.text) in
    goes_trans (goes_front (turns_trans t n.turns) bytes place r.passed.limit room)
    (number_told n.stage r.text (Some r.shown) behind (ends_before r.shown n.takes (ends_at r.shown behind r.comes)) r.next r.comes)

-- a string that was read at once, behind bytes that bring it about
pub goes_quoted : {old new : Ahead} {l : Option (List ℕ)} {k m : Kept} {before : ℕ} {ps qs : List Part} {lead : List ℕ} (role : Role) → Turns lead qs (chars role [] None nothing ∷ ps) → take before old.bytes ≡ lead → depth ps ≤ max_depth → (r : ReadsString before old k new m) →
    Goes None old l qs (told role r.text ∷ []) new l ps
goes_quoted {old} {new} {l} {before = before} {ps} {qs} {lead} role t e d r = record { is = go l }
  where
    go : (l : Option (List ℕ)) → Answers None old l qs (told role r.text ∷ []) new l ps
    go None = tt
    go (Some l) =
        let here = r.passed.here in
        let within = r.passed.within in
        let at = r.passed.place in
        let limit = r.passed.limit in
        let long : length lead ≡ before = long_as before old.bytes e (omega arith) in
        let string : List ℕ = r.text ++ 34 ∷ new.bytes in
        let bytes : old.bytes ≡ lead ++ string = r.ahead ∙ ap (λ x. x ++ string) e in
        let room : old.place + length lead ≤ old.limit = omega arith in
        let more : old.place + length lead + length r.text + 1 ≤ old.limit = omega arith in
        let place : old.place + length lead + length r.text + 1 ≡ new.place = omega arith in
        let same : reading old.limit (old.place + length lead + length r.text + 1) ps (new.bytes ++ l) ≡ rest_of new ps l = cc in
        ap (λ x. reading old.limit old.place qs (x ++ l)) bytes
        ∙ ap (reading old.limit old.place qs) (append_assoc lead string l)
        ∙ reading_turns t old.limit old.place (string ++ l) room
        ∙ ap (reading old.limit (old.place + length lead) (chars role [] None nothing ∷ ps)) (append_assoc r.text (34 ∷ new.bytes) l)
        ∙ reading_string r.plain old.limit (old.place + length lead) role [] ps (new.bytes ++ l) more d
        ∙ ap (tell (told role r.text ∷ [])) same

-- ---- the bytes before it

pub comma_turns : {ps : List Part} (rest : List Part) → ps ≡ blank ∷ symbol more_items ∷ rest → depth ps ≤ max_depth → Turns (44 ∷ []) ps (blank ∷ symbol value ∷ ps)
comma_turns {ps} rest is d = on (rw is (blank_over (symbol more_items ∷ rest) 44 refl ∙ more_items_comma rest)) d still

pub colon_turns : (ps : List Part) → depth ps ≤ max_depth → Turns (58 ∷ []) (blank ∷ word (58 ∷ []) a_colon ∷ blank ∷ symbol value ∷ ps) (blank ∷ symbol value ∷ ps)
colon_turns ps d = on (blank_over (word (58 ∷ []) a_colon ∷ blank ∷ symbol value ∷ ps) 58 refl ∙ word_last 58 a_colon (blank ∷ symbol value ∷ ps)) d still

pub quote_turns : {mark : ℕ} {ps qs : List Part} → Turns (mark ∷ []) qs (blank ∷ symbol value ∷ ps) → depth ps ≤ max_depth → Turns (mark ∷ 34 ∷ []) qs (chars as_value [] None nothing ∷ ps)
quote_turns {ps = ps} t d = turns_trans t (on (blank_over (symbol value ∷ ps) 34 refl ∙ value_step ps 34 ∙ begins_string 34 ps refl) d still)

-- ---- the bytes of a plain number at the front

pub whole_zero : (xs : List ℕ) → get_or xs 0 0 ≡ 48 → IsInt (take 1 xs)
whole_zero [] e = cc
whole_zero (x ∷ xs) e = let f : x ≡ 48 = e in rw f n.zero_int

pub whole_run : (xs : List ℕ) (k : ℕ) → get_or xs 0 0 ≢ 48 → k ≤ length xs → Each is_digit (take k xs) → 0 < k → IsInt (take k xs)
whole_run xs zero z h a some = absurd (omega arith)
whole_run [] (suc k) z h a some = absurd (omega arith)
whole_run (x ∷ xs) (suc k) z h (more p a) some = n.int (is_ascii_digit_of x p) z (each_digits a)

pub no_fraction_text : IsFractionText []
no_fraction_text = record { digits = []; reads = n.no_fraction }

some_digits : (xs : List ℕ) (k : ℕ) → k ≤ length xs → Each is_digit (take k xs) → k ≢ 0 → n.IsDigits (take k xs)
some_digits xs zero h a some = absurd (some refl)
some_digits [] (suc k) h a some = absurd (omega arith)
some_digits (x ∷ xs) (suc k) h (more p a) some = n.digits (is_ascii_digit_of x p) (each_digits a)

fraction_of : (xs : List ℕ) (k : ℕ) → get_or xs 0 0 ≡ 46 → k ≤ length (drop 1 xs) → Each is_digit (take k (drop 1 xs)) → k ≢ 0 → IsFractionText (take (k + 1) xs)
fraction_of [] k e w a some = cc
fraction_of (x ∷ xs) k e w a some =
    let f : x ≡ 46 = e in
    let one : k + 1 ≡ suc k = omega arith in
    rw (one, f) (record { digits = take k xs; reads = n.fraction (some_digits xs k w a some) })

pub fraction_run : (xs : List ℕ) (k : ℕ) → get_or xs 0 0 ≡ 46 → k ≤ length (take (length xs - 1) (drop 1 xs)) → Each is_digit (take k (take (length xs - 1) (drop 1 xs))) → k ≢ 0 → IsFractionText (take (k + 1) xs)
fraction_run xs k e w a some = let s = slice_from 1 xs in fraction_of xs k e (rw s at w) (rw s at a) some

pub plain_front : (xs : List ℕ) (i j : ℕ) → IsInt (take i xs) → IsFractionText (take j (take (length xs - i) (drop i xs))) → IsPlain (take (i + j) xs)
plain_front xs i j w f = let s = slice_from i xs in record { whole = take i xs; fraction = take j (drop i xs); is = take_plus i j xs; begins = w; goes_on = rw s at f }

-- ---- a plain number behind other bytes

drop_get : (n : ℕ) (xs : List ℕ) → n < length xs → drop n xs ≡ get_or xs n 0 ∷ drop (suc n) xs
drop_get zero [] h = absurd (omega arith)
drop_get zero (x ∷ xs) h = refl
drop_get (suc n) [] h = absurd (omega arith)
drop_get (suc n) (x ∷ xs) h = drop_get n xs (omega arith)

get_take : (i n : ℕ) (xs : List ℕ) → i < length (take n xs) → get_or (take n xs) i 0 ≡ get_or xs i 0
get_take i zero xs h = absurd (omega arith)
get_take i (suc n) [] h = absurd (omega arith)
get_take zero (suc n) (x ∷ xs) h = refl
get_take (suc i) (suc n) (x ∷ xs) h = get_take i n xs (omega arith)

get_drop : (i n : ℕ) (xs : List ℕ) → n + i < length xs → get_or (drop n xs) i 0 ≡ get_or xs (n + i) 0
get_drop i zero xs h = ap (λ k. get_or xs k 0) (let e : i ≡ 0 + i = omega arith in e)
get_drop i (suc n) [] h = absurd (omega arith)
get_drop i (suc n) (x ∷ xs) h = get_drop i n xs (omega arith) ∙ ap (λ k. get_or (x ∷ xs) k 0) (let e : suc (n + i) ≡ suc n + i = omega arith in e)

number_shown : (a b : Ahead) (before len : ℕ) (xs : List ℕ) → xs ≡ take (a.limit - a.place) a.bytes → before + len < length xs → Passes (before + len) a b → IsNext (get_or (drop before xs) len 0) b
number_shown a b before len xs e here p =
    let at = p.place in
    let limit = p.limit in
    let n = before + len in
    let few : n < length (take (a.limit - a.place) a.bytes) = rw e at here in
    let there : n < length a.bytes = omega (arith, length-take (a.limit - a.place) a.bytes) in
    let below : n < a.limit - a.place = omega (arith, length-take (a.limit - a.place) a.bytes) in
    let same : get_or (drop before xs) len 0 ≡ get_or a.bytes n 0 = get_drop len before xs here ∙ ap (λ ys. get_or ys n 0) e ∙ get_take n (a.limit - a.place) a.bytes few in
    record { rest = drop (suc n) a.bytes; bytes = p.bytes ∙ drop_get n a.bytes there ∙ ap (λ x. x ∷ drop (suc n) a.bytes) (sym same); room = omega arith }

pub number_read : (a b : Ahead) (k m : Kept) (before len : ℕ) (ps : List Part) (xs : List ℕ) → xs ≡ take (a.limit - a.place) a.bytes → before ≤ length xs → len < length (take (length xs - before) (drop before xs)) → IsPlain (take len (take (length xs - before) (drop before xs))) →
    Gains k (take len (take (length xs - before) (drop before xs))) m → Passes (before + len) a b → may_come ps (Some (get_or (take (length xs - before) (drop before xs)) len 0)) ≡ true → ReadsNumber before ps a k b m
number_read a b k m before len ps xs e few here plain kept p comes =
    let s = slice_from before xs in
    let there : len < length (drop before xs) = rw s at here in
    let all : before + len < length xs = omega (arith, length-drop before xs) in
    let long : length (take len (drop before xs)) ≡ len = omega (arith, length-take len (drop before xs)) in
    let front : take (before + len) a.bytes ≡ take before a.bytes ++ take len (drop before xs) =
    sym (run_is a (before + len) xs e (omega arith)) ∙ take_plus before len xs ∙ ap (λ x. x ++ take len (drop before xs)) (run_is a before xs e few) in
    record {
      text = take len (drop before xs);
      plain = rw s at plain;
      ahead = sym (take-append-drop (before + len) a.bytes) ∙ ap (λ x. x ++ drop (before + len) a.bytes) front ∙ append_assoc (take before a.bytes) (take len (drop before xs)) (drop (before + len) a.bytes)
          ∙ ap (λ x. take before a.bytes ++ (take len (drop before xs) ++ x)) (sym p.bytes);
      passed = rw long p;
      kept = rw s at kept;
      shown = get_or (drop before xs) len 0;
      next = number_shown a b before len xs e all p;
      comes = rw s at comes;
    }

-- ---- its bytes are ASCII

abbrev is_number_byte : ℕ → Bool
is_number_byte b = is_digit b || (b == 46)

each_append : (test : ℕ → Bool) {xs ys : List ℕ} → Each test xs → Each test ys → Each test (xs ++ ys)
each_append test none h = h
each_append test (more p a) h = more p (each_append test a h)

number_digit : (b : ℕ) → IsAsciiDigit b → is_number_byte b ≡ true
number_digit b h = let p = is_digit_of b h in rw p

number_digits : (ds : List ℕ) → AreDigits ds → Each is_number_byte ds
number_digits [] a = none
number_digits (d ∷ ds) a = more (number_digit d a.0) (number_digits ds a.1)

number_whole : {w : List ℕ} → IsInt w → Each is_number_byte w
number_whole n.zero_int = more refl none
number_whole (n.int {d = b} {ds} h z a) = more (number_digit b h) (number_digits ds a)

number_fraction : {f fs : List ℕ} → IsFraction f fs → Each is_number_byte f
number_fraction n.no_fraction = none
number_fraction (n.fraction (n.digits {d = b} {ds} h a)) = more refl (more (number_digit b h) (number_digits ds a))

number_small : (b : ℕ) → is_number_byte b ≡ true → b < 128
number_small b h = grind (arith, nat_tests)

pub plain_utf8 : {text : List ℕ} → IsPlain text → IsUtf8 text
plain_utf8 {text} h = IsUtf8-from_ascii text (each_ascii number_small (subst (Each is_number_byte) (sym h.is) (each_append is_number_byte (number_whole h.begins) (number_fraction h.goes_on.reads))))

pub adds_plain : {k l : Kept} {text : List ℕ} → IsPlain text → Gains k text l → Adds IsNumeral k l
adds_plain {text = text} h e = record {
  piece = text;
  is = record {
    numeral = record { negative = false; whole = h.whole; fraction = h.goes_on.digits; down = false; exponent = [] };
    reads = rw (h.is, sym (append-nil h.fraction)) (n.number {s = []} n.no_sign h.begins h.goes_on.reads n.no_exponent);
  };
  text = e;
}
