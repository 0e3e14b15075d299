-- Powers of ten in 64 bits.
use Rattle.std.proofs.Common.{◌≡◌, ℕ, suc, zero, ◌+◌, ◌*◌, ◌^◌, ◌<◌, ◌≤◌, List, [], ◌∷◌, get_or, sym, ap, ◌∙◌, arith}
use Rattle.std.proofs.Math.Nat.{mul-le-mul_left, mul-le-mul_right, mul_assoc, mul_comm}
use Rattle.prof_time.proofs.Values.{ten_pos, ten_suc}

-- x, and then always ten times as much
abbrev pub tens_from : ℕ → ℕ → List ℕ
tens_from x zero = []
tens_from x (suc n) = x ∷ tens_from (10 * x) n

up_by_ten : (x k : ℕ) → x * 10 ^ suc k ≡ 10 * x * 10 ^ k
up_by_ten x k = ap (λ y. x * y) (ten_suc k) ∙ sym (mul_assoc x 10 (10 ^ k)) ∙ ap (λ y. y * 10 ^ k) (mul_comm x 10)

pub tens_at : (x n k : ℕ) → k < n → get_or (tens_from x n) k 0 ≡ x * 10 ^ k
tens_at x zero k h = absurd (omega arith)
tens_at x (suc n) zero h = omega arith
tens_at x (suc n) (suc k) h = tens_at (10 * x) n k (omega arith) ∙ sym (up_by_ten x k)

-- one more digit takes one of the places that are left
pub one_more : (v d k j most : ℕ) → k ≡ suc j → d ≤ 9 → (v + 1) * 10 ^ k ≤ most → (10 * v + d + 1) * 10 ^ j ≤ most
one_more v d k j most e nine h =
    let up : (10 * v + d + 1) * 10 ^ j ≤ 10 * (v + 1) * 10 ^ j = mul-le-mul_right {m = 10 * v + d + 1} {n = 10 * (v + 1)} (10 ^ j) (omega arith) in
    let same : (v + 1) * 10 ^ k ≡ 10 * (v + 1) * 10 ^ j = ap (λ y. (v + 1) * 10 ^ y) e ∙ up_by_ten (v + 1) j in
    omega arith

pub with_places : (x j most : ℕ) → x * 10 ^ j ≤ most → x ≤ most
with_places x j most h =
    let up : x * 1 ≤ x * 10 ^ j = mul-le-mul_left {m = 1} {n = 10 ^ j} x (ten_pos j) in
    omega arith
