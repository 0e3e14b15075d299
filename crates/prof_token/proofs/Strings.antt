-- Plain strings that lie whole within a window.
use Rattle.std.proofs.Common.{◌≡◌, ℕ, zero, suc, ◌+◌, ◌-◌, ◌<◌, ◌≤◌, List, [], ◌∷◌, ◌++◌, length, take, drop, get_or, refl, sym, ap, ◌∙◌, arith}
use Rattle.std.specs.Prelude.{Option, Some, None}
use Rattle.std.proofs.lemmas.List.{append_assoc, take-append-drop, take_more, take_all, length-take, length-drop}
use Rattle.prof_grammar.specs.Machine.{Part, Role, chars, nothing, told}
use Rattle.prof_grammar.specs.Reading.{max_depth}
use Rattle.prof_grammar.specs.Told.{reading, tell, depth}
use Rattle.prof_token.specs.Ahead.{Ahead, Passes}
use Rattle.prof_token.specs.Bytes.{Each, is_plain}
use Rattle.prof_token.specs.Goes.{Goes, Answers, rest_of}
use Rattle.prof_token.specs.Kept.{Kept, Gains}
use Rattle.prof_token.specs.Own.{Owns}
use Rattle.prof_token.specs.Writes.{ReadsString}
use Rattle.prof_token.proofs.Machines.{reading_run, reading_step}
use Rattle.prof_token.proofs.Runs.{run_is, run_here, run_fits}
use Rattle.prof_token.proofs.Turns.{plain_on, quote_on}

-- what the machine makes of a plain text and its closing quote
pub reading_string : {text : List ℕ} → Each is_plain text → (limit at : ℕ) (k : Role) (s : List ℕ) (ps : List Part) (r : List ℕ) → at + length text + 1 ≤ limit → depth ps ≤ max_depth →
    reading limit at (chars k s None nothing ∷ ps) (text ++ 34 ∷ r) ≡ tell (told k (s ++ text) ∷ []) (reading limit (at + length text + 1) ps r)
reading_string {text} each limit at k s ps r room d =
    let within : at + length text ≤ limit = omega arith in
    let last : at + length text < limit = omega arith in
    reading_run each (λ t. chars k t None nothing ∷ ps) (λ t b h. plain_on k None ps t b h) (λ t. d) limit at s (34 ∷ r) within
    ∙ reading_step limit (at + length text) (chars k (s ++ text) None nothing ∷ ps) ps (told k (s ++ text) ∷ []) 34 r last (quote_on k (s ++ text) None ps) d

-- a string whose first quote was passed
pub goes_string : {a b : Ahead} {l : Option (List ℕ)} {k m : Kept} (role : Role) (s : List ℕ) (ps : List Part) → (r : ReadsString 0 a k b m) → depth ps ≤ max_depth → Goes None a l (chars role s None nothing ∷ ps) (told role (s ++ r.text) ∷ []) b l ps
goes_string {a} {b} {l} role s ps r d = record { is = go l }
  where
    go : (l : Option (List ℕ)) → Answers None a l (chars role s None nothing ∷ ps) (told role (s ++ r.text) ∷ []) b l ps
    go None = tt
    go (Some l) =
        let within = r.passed.within in
        let at = r.passed.place in
        let limit = r.passed.limit in
        let bytes : a.bytes ≡ r.text ++ 34 ∷ b.bytes = r.ahead in
        let room : a.place + length r.text + 1 ≤ a.limit = omega arith in
        let place : a.place + length r.text + 1 ≡ b.place = omega arith in
        let same : reading a.limit (a.place + length r.text + 1) ps (b.bytes ++ l) ≡ rest_of b ps l = cc in
        ap (λ x. reading a.limit a.place (chars role s None nothing ∷ ps) (x ++ l)) bytes
        ∙ ap (reading a.limit a.place (chars role s None nothing ∷ ps)) (append_assoc r.text (34 ∷ b.bytes) l)
        ∙ reading_string r.plain a.limit a.place role s ps (b.bytes ++ l) room d
        ∙ ap (tell (told role (s ++ r.text) ∷ [])) same

-- ---- where it stands

abbrev no_bytes : List ℕ
no_bytes = []

take_nothing : (j : ℕ) → take j no_bytes ≡ no_bytes
take_nothing zero = refl
take_nothing (suc j) = refl

pub take_plus : (i j : ℕ) (xs : List ℕ) → take (i + j) xs ≡ take i xs ++ take j (drop i xs)
take_plus zero j xs = ap (λ m. take m xs) (let e : 0 + j ≡ j = omega arith in e)
take_plus (suc i) j [] = ap (λ m. take m []) (let e : suc i + j ≡ suc (i + j) = omega arith in e) ∙ sym (take_nothing j)
take_plus (suc i) j (x ∷ xs) = ap (λ m. take m (x ∷ xs)) (let e : suc i + j ≡ suc (i + j) = omega arith in e) ∙ ap (λ r. x ∷ r) (take_plus i j xs)

pub slice_from : (k : ℕ) (xs : List ℕ) → take (length xs - k) (drop k xs) ≡ drop k xs
slice_from k xs = let len : length xs - k ≡ length (drop k xs) = omega (arith, length-drop k xs) in take_all (length xs - k) (drop k xs) (omega arith)

-- the text and the quote behind it
string_at : (a b : Ahead) (before run : ℕ) (xs : List ℕ) → xs ≡ take (a.limit - a.place) a.bytes → before ≤ length xs → run < length (drop before xs) → get_or (drop before xs) run 0 ≡ 34 → Passes (before + run + 1) a b →
    a.bytes ≡ take before a.bytes ++ (take run (drop before xs) ++ 34 ∷ b.bytes)
string_at a b before run xs e few here quote p =
    let ys = drop before xs in
    let more : take (run + 1) ys ≡ take run ys ++ 34 ∷ [] = take_more ys run 0 here ∙ ap (λ x. take run ys ++ x ∷ []) quote in
    let n : before + (run + 1) ≡ before + run + 1 = omega arith in
    let all : before + run + 1 ≤ length xs = omega (arith, length-drop before xs) in
    let front : take (before + run + 1) a.bytes ≡ take before a.bytes ++ (take run ys ++ 34 ∷ []) =
    sym (run_is a (before + run + 1) xs e all) ∙ ap (λ m. take m xs) (sym n) ∙ take_plus before (run + 1) xs
    ∙ ap (λ x. x ++ take (run + 1) ys) (run_is a before xs e few) ∙ ap (λ x. take before a.bytes ++ x) more in
    sym (take-append-drop (before + run + 1) a.bytes) ∙ ap (λ x. x ++ drop (before + run + 1) a.bytes) front
    ∙ append_assoc (take before a.bytes) (take run ys ++ 34 ∷ []) (drop (before + run + 1) a.bytes)
    ∙ ap (λ x. take before a.bytes ++ x) (append_assoc (take run ys) (34 ∷ []) (drop (before + run + 1) a.bytes) ∙ ap (λ x. take run ys ++ 34 ∷ x) (sym p.bytes))

pub string_fits : (a : Ahead) (before run : ℕ) (xs : List ℕ) → xs ≡ take (a.limit - a.place) a.bytes → before ≤ length xs → run < length (take (length xs - before) (drop before xs)) → (before + run + 1 ≤ length a.bytes) × (a.place + (before + run + 1) ≤ a.limit)
string_fits a before run xs e few here =
    let s = slice_from before xs in
    let there : run < length (drop before xs) = rw s at here in
    let all : before + run + 1 ≤ length xs = omega (arith, length-drop before xs) in
    let some : 0 < before + run + 1 = omega arith in
    (run_here a (before + run + 1) xs e all, run_fits a (before + run + 1) xs e all some)

pub string_read : (a b : Ahead) (k m : Kept) (before run : ℕ) (xs : List ℕ) → xs ≡ take (a.limit - a.place) a.bytes → before ≤ length xs → run < length (take (length xs - before) (drop before xs)) → get_or (take (length xs - before) (drop before xs)) run 0 ≡ 34 →
    Each is_plain (take run (take (length xs - before) (drop before xs))) → Gains k (take run (take (length xs - before) (drop before xs))) m → Passes (before + run + 1) a b → ReadsString before a k b m
string_read a b k m before run xs e few here quote plain kept p =
    let s = slice_from before xs in
    let there : run < length (drop before xs) = rw s at here in
    let len : length (take run (drop before xs)) ≡ run = omega (arith, length-take run (drop before xs)) in
    record {
      text = take run (drop before xs);
      plain = rw s at plain;
      ahead = string_at a b before run xs e few there (rw s at quote) p;
      passed = rw len p;
      kept = rw s at kept;
    }

-- its last byte is the quote
pub owns_string : {a b : Ahead} {k m : Kept} {before : ℕ} (l : Option (List ℕ)) → ReadsString before a k b m → Owns a.bytes l b.bytes l
owns_string None r = record { is = tt }
owns_string {a} {b} {before = before} (Some l) r =
    let front = take before a.bytes in
    record {
      is = record {
        others = front ++ r.text;
        last = 34;
        split = ap (λ x. x ++ l) r.ahead ∙ append_assoc front (r.text ++ 34 ∷ b.bytes) l ∙ ap (λ x. front ++ x) (append_assoc r.text (34 ∷ b.bytes) l) ∙ sym (append_assoc front r.text (34 ∷ (b.bytes ++ l)));
        own = refl;
      };
    }
