-- Runs of digits, of which the first is shown.
use Rattle.std.proofs.Common.{◌≡◌, ℕ, zero, suc, ◌+◌, ◌-◌, ◌<◌, ◌≤◌, Bool, List, [], ◌∷◌, ◌++◌, length, take, drop, refl, sym, ap, ◌∙◌, subst, arith}
use Rattle.std.specs.Prelude.{Option, Some, None}
use Rattle.std.proofs.lemmas.List.{append_assoc}
use Rattle.prof_grammar.specs.Machine.{Part, Stage, digits, class, step}
use Rattle.prof_grammar.specs.Reading.{max_depth}
use Rattle.prof_grammar.specs.Told.{depth}
use Rattle.prof_token.specs.Ahead.{Ahead, IsNext, Passes}
use Rattle.prof_token.specs.Bytes.{Each, more, is_digit}
use Rattle.prof_token.specs.Goes.{Goes}
use Rattle.prof_token.specs.Stages.{IsRunning}
use Rattle.prof_token.proofs.Machines.{goes_trans, goes_byte, goes_run}
use Rattle.prof_token.proofs.Runs.{run_is}
use Rattle.prof_token.proofs.Turns.{digits_on}

-- a run that isn't empty begins with the byte that is shown
pub run_begins : (a : Ahead) (b n : ℕ) (xs : List ℕ) → IsNext b a → xs ≡ take (a.limit - a.place) a.bytes → n ≤ length xs → 0 < n
    → (rest : List ℕ) × (take n xs ≡ b ∷ rest) × (rest ≡ take (n - 1) (drop 1 a.bytes))
run_begins a b zero xs h e within some = absurd (omega arith)
run_begins a b (suc n) xs h e within some =
    let same : take (suc n) xs ≡ take (suc n) a.bytes = run_is a (suc n) xs e within in
    let one : suc n - 1 ≡ n = omega arith in (
      take n h.rest,
      same ∙ ap (take (suc n)) h.bytes,
      ap (λ k. take k h.rest) (sym one) ∙ ap (λ l. take (suc n - 1) (drop 1 l)) (sym h.bytes),
    )

-- all but the first of a run
pub each_rest : (test : ℕ → Bool) (xs rest : List ℕ) (b : ℕ) → xs ≡ b ∷ rest → Each test xs → Each test rest
each_rest test [] rest b e a = absurd (let q : ⊥ = cc in q)
each_rest test (x ∷ xs) rest b e (more p a) = let same : xs ≡ rest = cc in subst (Each test) same a

abbrev no_bytes : List ℕ
no_bytes = []

drop-nothing : (j : ℕ) → drop j no_bytes ≡ no_bytes
drop-nothing zero = refl
drop-nothing (suc j) = refl

-- the machine goes on over the whole run
pub goes_digits : (a c : Ahead) (l : Option (List ℕ)) (b k : ℕ) (rest : List ℕ) (n : Stage) (s : List ℕ) (qs ps : List Part) → IsNext b a → Passes k a c → 0 < k → rest ≡ take (k - 1) (drop 1 a.bytes) → Each is_digit rest
    → step qs (class b) b ≡ Some ([], digits n (s ++ b ∷ []) ∷ ps) → IsRunning n → depth ps ≤ max_depth → Goes None a l qs [] c l (digits n (s ++ (b ∷ rest)) ∷ ps)
goes_digits a c l b k rest n s qs ps next p some is each first runs d =
    let mid : Ahead = record { bytes = drop 1 a.bytes; place = a.place + 1; limit = a.limit } in
    let here = p.here in
    let within = p.within in
    let place = p.place in
    let one : Passes 1 a mid = record { bytes = refl; place = refl; limit = refl; here = omega arith; within = omega arith } in
    let others : Passes (k - 1) mid c = record {
      bytes = p.bytes ∙ ap (λ m. drop m a.bytes) (let e : k ≡ 1 + (k - 1) = omega arith in e) ∙ drop-two 1 (k - 1) a.bytes;
      place = omega arith;
      limit = p.limit;
      here = omega (arith, length-rest a.bytes);
      within = omega arith;
    } in
    let went = goes_run {a = mid} {b = c} {l = l} (λ t. digits n t ∷ ps) (s ++ b ∷ []) rest (k - 1) (λ t x h. digits_on runs ps t x h) (λ t. d) each is others in
    subst (λ t. Goes None a l qs [] c l (digits n t ∷ ps)) (append_assoc s (b ∷ []) rest) (goes_trans (goes_byte b next one first d) went)
  where
    drop-two : (i j : ℕ) (xs : List ℕ) → drop (i + j) xs ≡ drop j (drop i xs)
    drop-two zero j xs = ap (λ m. drop m xs) (let e : 0 + j ≡ j = omega arith in e)
    drop-two (suc i) j [] = ap (λ m. drop m []) (let e : suc i + j ≡ suc (i + j) = omega arith in e) ∙ sym (drop-nothing j)
    drop-two (suc i) j (x ∷ xs) = ap (λ m. drop m (x ∷ xs)) (let e : suc i + j ≡ suc (i + j) = omega arith in e) ∙ drop-two i j xs

    length-rest : (xs : List ℕ) → length xs ≤ length (drop 1 xs) + 1
    length-rest [] = omega arith
    length-rest (x ∷ xs) = omega arith
