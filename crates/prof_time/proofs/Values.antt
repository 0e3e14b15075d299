-- The numbers that digits write.
use Rattle.std.proofs.Common.{◌≡◌, ℕ, suc, zero, ◌+◌, ◌-◌, ◌*◌, ◌^◌, ◌<◌, ◌≤◌, min, fold, List, [], ◌∷◌, ◌++◌, length, take, drop, get_or, refl, sym, ap, ◌∙◌, arith, inl, inr, lit≤}
use Rattle.std.proofs.Math.Nat.{mul-le-mul_left, mul-le-mul_right, pow-suc, add-mul, mul_assoc, mul_comm, one-le-pow, pow-le-pow_right, zero-mul}
use Rattle.std.proofs.lemmas.Bool.{cases_lt}
use Rattle.std.proofs.lemmas.List.Sums.{fold-append, fold_more}
use Rattle.std.proofs.lemmas.List.{take-append-drop}
use Rattle.std.specs.List.{All}
use Rattle.prof_time.specs.Numeral.{AreDigits}

step_min : (M v d : ℕ) → min (min (min v M * 10) M + d) M ≡ min (10 * v + d) M
step_min M v d = omega arith

abbrev pub read_behind : ℕ → List ℕ → ℕ
read_behind n ds = fold (λ n d. 10 * n + (d - 48)) n ds

-- a number that was cut to M on the way is cut to M all the same
pub read_min : (M v : ℕ) (ds : List ℕ) → min (read_behind (min v M) ds) M ≡ min (read_behind v ds) M
read_min M v [] = omega arith
read_min M v (d ∷ ds) =
    let e : min (10 * min v M + (d - 48)) M ≡ min (10 * v + (d - 48)) M = omega arith in
    sym (read_min M (10 * min v M + (d - 48)) ds) ∙ ap (λ n. min (read_behind n ds) M) e ∙ read_min M (10 * v + (d - 48)) ds

pub read_more_min : (M v i value : ℕ) (ds : List ℕ) → i < length ds → value ≡ min (read_behind v (take i ds)) M → min (min (value * 10) M + (get_or ds i 0 - 48)) M ≡ min (read_behind v (take (i + 1) ds)) M
read_more_min M v i value ds h e =
    let f = fold_more (λ (n d : ℕ). 10 * n + (d - 48)) v ds i 0 h in
    ap (λ x. min (min (x * 10) M + (get_or ds i 0 - 48)) M) e ∙ step_min M (read_behind v (take i ds)) (get_or ds i 0 - 48) ∙ ap (λ x. min x M) (sym f)

min_mul : (n x M : ℕ) → min (n * min x M) M ≡ min (n * x) M
min_mul n x M =
    elim (cases_lt M x) [
      | inl h ↦ elim n as (λ n. min (n * min x M) M ≡ min (n * x) M) [
        | zero ↦ ap (λ y. min y M) (zero-mul (min x M) ∙ sym (zero-mul x))
        | suc k ↦
            let a : min x M ≡ M = omega arith in
            let b : M ≤ suc k * min x M = omega (arith, mul-le-mul_right {m = 1} {n = suc k} (min x M) (omega arith)) in
            let c : M ≤ suc k * x = omega (arith, mul-le-mul_right {m = 1} {n = suc k} x (omega arith)) in
            omega arith
      ]
      | inr h ↦ let e : min x M ≡ x = omega arith in ap (λ y. min (n * y) M) e
    ]

power_min : (n p : ℕ) → min (n * 10 ^ min p 39) (2 ^ 128 - 1) ≡ min (n * 10 ^ p) (2 ^ 128 - 1)
power_min zero p = ap (λ y. min y (2 ^ 128 - 1)) (zero-mul (10 ^ min p 39) ∙ sym (zero-mul (10 ^ p)))
power_min (suc k) p =
    elim (cases_lt 39 p) [
      | inl h ↦
          let a : 10 ^ 39 ≤ 10 ^ p = pow-le-pow_right {n = 10} (omega arith) {i = 39} {j = p} (omega arith) in
          let e : min p 39 ≡ 39 = omega arith in
          let b : 10 ^ 39 ≤ suc k * 10 ^ min p 39 = rw e (omega (arith, mul-le-mul_right {m = 1} {n = suc k} (10 ^ 39) (omega arith))) in
          let c : 10 ^ 39 ≤ suc k * 10 ^ p = omega (arith, mul-le-mul_right {m = 1} {n = suc k} (10 ^ p) (omega arith)) in
          let d : 2 ^ 128 - 1 ≤ 10 ^ 39 = lit≤ tt in
          omega arith
      | inr h ↦ let e : min p 39 ≡ p = omega arith in ap (λ y. min (suc k * 10 ^ y) (2 ^ 128 - 1)) e
    ]

pub times_min : (n p : ℕ) → min (n * min (10 ^ min p 39) (2 ^ 128 - 1)) (2 ^ 128 - 1) ≡ min (n * 10 ^ p) (2 ^ 128 - 1)
times_min n p = min_mul n (10 ^ min p 39) (2 ^ 128 - 1) ∙ power_min n p

-- to cut the number first changes nothing
pub min_mul_left : (n x M : ℕ) → min (min n M * x) M ≡ min (n * x) M
min_mul_left n x M = ap (λ y. min y M) (mul_comm (min n M) x) ∙ min_mul x n M ∙ ap (λ y. min y M) (mul_comm x n)

pub ten_pos : (k : ℕ) → 0 < 10 ^ k
ten_pos k = one-le-pow k 10 (omega arith)

pub ten_suc : (k : ℕ) → 10 ^ suc k ≡ 10 * 10 ^ k
ten_suc k = pow-suc 10 k ∙ mul_comm (10 ^ k) 10

-- the number before the digits moves up by a place for each of them
pub read_behind_is : (a : ℕ) (ds : List ℕ) → read_behind a ds ≡ a * 10 ^ length ds + read_behind 0 ds
read_behind_is a [] = omega arith
read_behind_is a (d ∷ ds) =
    let x = d - 48 in
    let P = 10 ^ length ds in
    let one : read_behind (10 * a + x) ds ≡ (10 * a + x) * P + read_behind 0 ds = read_behind_is (10 * a + x) ds in
    let two : read_behind (10 * 0 + x) ds ≡ (10 * 0 + x) * P + read_behind 0 ds = read_behind_is (10 * 0 + x) ds in
    let e : (10 * a + x) * P ≡ 10 * (a * P) + x * P = add-mul (10 * a) x P ∙ ap (λ y. y + x * P) (mul_assoc 10 a P) in
    let f : (10 * 0 + x) * P ≡ x * P = ap (λ y. y * P) (omega arith) in
    let g : a * 10 ^ suc (length ds) ≡ 10 * (a * P) = ap (λ y. a * y) (pow-suc 10 (length ds)) ∙ sym (mul_assoc a P 10) ∙ mul_comm (a * P) 10 in
    one ∙ omega arith

pub read_lt : (ds : List ℕ) → AreDigits ds → read_behind 0 ds < 10 ^ length ds
read_lt [] h = omega arith
read_lt (d ∷ ds) (p, ps) =
    let x = d - 48 in
    let P = 10 ^ length ds in
    let rest : read_behind 0 ds < P = read_lt ds ps in
    let is : read_behind (10 * 0 + x) ds ≡ (10 * 0 + x) * P + read_behind 0 ds = read_behind_is (10 * 0 + x) ds in
    let up : (10 * 0 + x) * P ≤ 9 * P = mul-le-mul_right {m = 10 * 0 + x} {n = 9} P (omega arith) in
    let e : 10 ^ suc (length ds) ≡ 10 * P = ten_suc (length ds) in
    omega arith

-- the digits at the front, moved up, and the rest
pub read_split : (k : ℕ) (ds : List ℕ) → read_behind 0 ds ≡ read_behind 0 (take k ds) * 10 ^ length (drop k ds) + read_behind 0 (drop k ds)
read_split k ds = ap (read_behind 0) (sym (take-append-drop k ds)) ∙ fold-append (λ (n d : ℕ). 10 * n + (d - 48)) 0 (take k ds) (drop k ds) ∙ read_behind_is (read_behind 0 (take k ds)) (drop k ds)

pub AreDigits-drop : (k : ℕ) (ds : List ℕ) → AreDigits ds → AreDigits (drop k ds)
AreDigits-drop zero ds h = h
AreDigits-drop (suc k) [] h = tt
AreDigits-drop (suc k) (d ∷ ds) h = AreDigits-drop k ds h.1

pub AreDigits-append : (ds es : List ℕ) → AreDigits ds → AreDigits es → AreDigits (ds ++ es)
AreDigits-append [] es h k = k
AreDigits-append (d ∷ ds) es h k = (h.0, AreDigits-append ds es h.1 k)

pub zeros_read : (ds : List ℕ) → All (λ d. d ≡ 48) ds → read_behind 0 ds ≡ 0
zeros_read [] h = refl
zeros_read (d ∷ ds) h =
    let e : 10 * 0 + (d - 48) ≡ 0 = omega (arith, h 0 d (omega arith)) in
    ap (λ n. read_behind n ds) e ∙ zeros_read ds (λ k x lt. h (suc k) x (omega arith))

pub read_zeros : (ds : List ℕ) → AreDigits ds → read_behind 0 ds ≡ 0 → All (λ d. d ≡ 48) ds
read_zeros [] h e k x lt = absurd (omega arith)
read_zeros (d ∷ ds) (p, ps) e k x lt =
    let P = 10 ^ length ds in
    let is : read_behind (10 * 0 + (d - 48)) ds ≡ (10 * 0 + (d - 48)) * P + read_behind 0 ds = read_behind_is (10 * 0 + (d - 48)) ds in
    let e' : read_behind (10 * 0 + (d - 48)) ds ≡ 0 = e in
    let up : (10 * 0 + (d - 48)) * 1 ≤ (10 * 0 + (d - 48)) * P = mul-le-mul_left {m = 1} {n = P} (10 * 0 + (d - 48)) (ten_pos (length ds)) in
    let first : d ≡ 48 = omega (arith, p) in
    elim k as (λ k. k < length (d ∷ ds) → get_or (d ∷ ds) k x ≡ 48) [
      | zero ↦ λ _. first
      | suc j ↦ λ lt. read_zeros ds ps (omega arith) j x (omega arith)
    ] lt
