-- Runs of bytes that pass a test.
use Rattle.std.proofs.Common.{◌≡◌, ℕ, zero, suc, ◌+◌, ◌-◌, ◌<◌, ◌≤◌, Bool, true, false, List, [], ◌∷◌, ◌++◌, length, take, get_or, ap, ◌∙◌, refl, arith}
use Rattle.std.proofs.lemmas.List.{take_more, length-take}
use Rattle.prof_token.specs.Ahead.{Ahead, IsNext}
use Rattle.prof_token.specs.Bytes.{Each, none, more}

each_behind : (test : ℕ → Bool) (xs : List ℕ) (b : ℕ) → Each test xs → test b ≡ true → Each test (xs ++ b ∷ [])
each_behind test [] b none p = more p none
each_behind test (x ∷ xs) b (more q a) p = more q (each_behind test xs b a p)

pub each_take : (test : ℕ → Bool) (xs : List ℕ) (i : ℕ) → i < length xs → test (get_or xs i 0) ≡ true → Each test (take i xs) → Each test (take (i + 1) xs)
each_take test xs i h p a = rw (take_more xs i 0 h) (each_behind test (take i xs) (get_or xs i 0) a p)

-- ---- runs within a window

pub run_some : (test : ℕ → Bool) (a : Ahead) (b n : ℕ) (xs : List ℕ) → IsNext b a → xs ≡ take (a.limit - a.place) a.bytes → (n < length xs → test (get_or xs n 0) ≡ false) → test b ≡ true → 0 < n
run_some test a b zero xs h e stop p =
    let room = h.room in
    let more : a.limit - a.place ≡ suc (a.limit - suc a.place) = omega arith in
    let shown : xs ≡ b ∷ take (a.limit - suc a.place) h.rest = e ∙ ap (λ ys. take (a.limit - a.place) ys) h.bytes ∙ ap (λ k. take k (b ∷ h.rest)) more in
    let here : 0 < length xs = rw shown (omega arith) in
    let no : test (get_or xs 0 0) ≡ false = stop here in
    let no_b : test b ≡ false = rw shown at no in
    cc
run_some test a b (suc n) xs h e stop p = omega arith

pub run_here : (a : Ahead) (n : ℕ) (xs : List ℕ) → xs ≡ take (a.limit - a.place) a.bytes → n ≤ length xs → n ≤ length a.bytes
run_here a n xs e h = let k : n ≤ length (take (a.limit - a.place) a.bytes) = rw e at h in omega (arith, length-take (a.limit - a.place) a.bytes)

pub run_within : (a : Ahead) (b n : ℕ) (xs : List ℕ) → IsNext b a → xs ≡ take (a.limit - a.place) a.bytes → n ≤ length xs → a.place + n ≤ a.limit
run_within a b n xs s e h =
    let room = s.room in
    let k : n ≤ length (take (a.limit - a.place) a.bytes) = rw e at h in omega (arith, length-take (a.limit - a.place) a.bytes)

pub run_fits : (a : Ahead) (n : ℕ) (xs : List ℕ) → xs ≡ take (a.limit - a.place) a.bytes → n ≤ length xs → 0 < n → a.place + n ≤ a.limit
run_fits a n xs e h some = let k : n ≤ length (take (a.limit - a.place) a.bytes) = rw e at h in omega (arith, length-take (a.limit - a.place) a.bytes)

take_take : (n k : ℕ) (xs : List ℕ) → n ≤ k → take n (take k xs) ≡ take n xs
take_take zero k xs h = refl
take_take (suc n) zero xs h = absurd (omega arith)
take_take (suc n) (suc k) [] h = refl
take_take (suc n) (suc k) (x ∷ xs) h = ap (λ r. x ∷ r) (take_take n k xs (omega arith))

-- a run within what is ahead below the limit
pub run_is : (a : Ahead) (n : ℕ) (xs : List ℕ) → xs ≡ take (a.limit - a.place) a.bytes → n ≤ length xs → take n xs ≡ take n a.bytes
run_is a n xs e h =
    let k : n ≤ length (take (a.limit - a.place) a.bytes) = rw e at h in
    let few : n ≤ a.limit - a.place = omega (arith, length-take (a.limit - a.place) a.bytes) in
    rw e (take_take n (a.limit - a.place) a.bytes few)
