-- The nearest whole number, from the digits.
use Rattle.std.proofs.Common.{◌≡◌, ℕ, suc, ◌+◌, ◌-◌, ◌*◌, ◌/◌, ◌%◌, ◌^◌, ◌<◌, ◌≤◌, true, false, cond, List, ◌∷◌, length, take, drop, get_or, sym, ap, ◌∙◌, arith, inl, inr, nat_le}
use Rattle.std.proofs.Math.Nat.{mul-le-mul_right, mul-lt-mul_of_pos_right, add-mul, mul_assoc, mul_comm, mul-add, pow-le-pow_right, one-mul}
use Rattle.std.proofs.lemmas.Bool.{cases_lt}
use Rattle.std.proofs.lemmas.Bool.Decides.{nat_tests}
use Rattle.std.proofs.lemmas.Nat.{pow-add, div-add-mod', mod_below}
use Rattle.std.proofs.lemmas.List.{drop_more, length-drop}
use Rattle.prof_time.specs.Numeral.{AreDigits}
use Rattle.prof_time.specs.Scaled.{digits_value, IsNearest}
use Rattle.prof_time.specs.Parts.{rounded_front}
use Rattle.prof_time.proofs.Values.{read_behind, read_behind_is, read_lt, read_split, AreDigits-drop, ten_pos, ten_suc}

nearest_down : (a q b r : ℕ) → a ≡ q * b + r → 2 * r < b → IsNearest a b q
nearest_down a q b r e h =
    let p : 2 * q * b ≡ 2 * (q * b) = mul_assoc 2 q b in
    let s : 2 * (q + 1) * b ≡ 2 * (q * b) + 2 * b = ap (λ y. y * b) (mul-add 2 q 1) ∙ add-mul (2 * q) (2 * 1) b ∙ ap (λ y. y + 2 * b) p in
    record { low = omega arith; high = omega arith }

nearest_up : (a q b r : ℕ) → a ≡ q * b + r → r < b → b ≤ 2 * r → IsNearest a b (q + 1)
nearest_up a q b r e lt h =
    let p : 2 * q * b ≡ 2 * (q * b) = mul_assoc 2 q b in
    let s : 2 * (q + 1) * b ≡ 2 * (q * b) + 2 * b = ap (λ y. y * b) (mul-add 2 q 1) ∙ add-mul (2 * q) (2 * 1) b ∙ ap (λ y. y + 2 * b) p in
    let t : 2 * (q + 1 + 1) * b ≡ 2 * (q + 1) * b + 2 * b = ap (λ y. y * b) (mul-add 2 (q + 1) 1) ∙ add-mul (2 * (q + 1)) (2 * 1) b in
    record { low = omega arith; high = omega arith }

pub nearest_whole : (n b : ℕ) → 0 < b → IsNearest (n * b) b n
nearest_whole n b h = nearest_down (n * b) n b 0 (omega arith) (omega arith)

-- half of the divisor more, and then the quotient
pub nearest_quotient : (a b : ℕ) → 0 < b → IsNearest a b ((2 * a + b) / (2 * b))
nearest_quotient a b h =
    let n = (2 * a + b) / (2 * b) in
    let r = (2 * a + b) % (2 * b) in
    let parts : n * (2 * b) + r ≡ 2 * a + b = div-add-mod' (2 * a + b) (2 * b) in
    let below : r < 2 * b = mod_below (2 * a + b) (2 * b) (omega arith) in
    let low : 2 * n * b ≡ n * (2 * b) = ap (λ x. x * b) (mul_comm 2 n) ∙ mul_assoc n 2 b in
    let high : 2 * (n + 1) * b ≡ 2 * n * b + 2 * b = ap (λ x. x * b) (mul-add 2 n 1) ∙ add-mul (2 * n) (2 * 1) b in
    record { low = omega arith; high = omega arith }

pub nearest_times : (a b n c : ℕ) → 0 < c → IsNearest a b n → IsNearest (a * c) (b * c) n
nearest_times a b n c pos h =
    let sum : (2 * a + b) * c ≡ 2 * (a * c) + b * c = add-mul (2 * a) b c ∙ ap (λ y. y + b * c) (mul_assoc 2 a c) in
    let low : 2 * n * b * c ≤ (2 * a + b) * c = mul-le-mul_right {m = 2 * n * b} {n = 2 * a + b} c h.low in
    let high : (2 * a + b) * c < 2 * (n + 1) * b * c = mul-lt-mul_of_pos_right {m = 2 * a + b} {n = 2 * (n + 1) * b} {k = c} h.high pos in
    let e : 2 * n * b * c ≡ 2 * n * (b * c) = mul_assoc (2 * n) b c in
    let f : 2 * (n + 1) * b * c ≡ 2 * (n + 1) * (b * c) = mul_assoc (2 * (n + 1)) b c in
    record { low = omega arith; high = omega arith }

-- the first digit decides whether the digits are a half or more
half : (x : ℕ) (xs : List ℕ) → AreDigits (x ∷ xs) → 53 ≤ x → 10 ^ length (x ∷ xs) ≤ 2 * read_behind 0 (x ∷ xs)
half x xs h five =
    let P = 10 ^ length xs in
    let is : read_behind (10 * 0 + (x - 48)) xs ≡ (10 * 0 + (x - 48)) * P + read_behind 0 xs = read_behind_is (10 * 0 + (x - 48)) xs in
    let up : 5 * P ≤ (10 * 0 + (x - 48)) * P = mul-le-mul_right {m = 5} {n = 10 * 0 + (x - 48)} P (omega arith) in
    let e : 10 ^ suc (length xs) ≡ 10 * P = ten_suc (length xs) in
    omega arith

less_than_half : (x : ℕ) (xs : List ℕ) → AreDigits (x ∷ xs) → x < 53 → 2 * read_behind 0 (x ∷ xs) < 10 ^ length (x ∷ xs)
less_than_half x xs (p, ps) five =
    let P = 10 ^ length xs in
    let is : read_behind (10 * 0 + (x - 48)) xs ≡ (10 * 0 + (x - 48)) * P + read_behind 0 xs = read_behind_is (10 * 0 + (x - 48)) xs in
    let up : (10 * 0 + (x - 48)) * P ≤ 4 * P = mul-le-mul_right {m = 10 * 0 + (x - 48)} {n = 4} P (omega arith) in
    let e : 10 ^ suc (length xs) ≡ 10 * P = ten_suc (length xs) in
    let rest : read_behind 0 xs < P = read_lt xs ps in
    omega arith

pub nearest_front : (ds : List ℕ) (kept cut : ℕ) → AreDigits ds → kept + cut ≡ length ds → 0 < cut → IsNearest (digits_value ds) (10 ^ cut) (rounded_front ds kept)
nearest_front ds kept cut h e pos =
    let x = get_or ds kept 0 in
    let xs = drop (kept + 1) ds in
    let is : drop kept ds ≡ x ∷ xs = drop_more ds kept 0 (omega arith) in
    let len : length (x ∷ xs) ≡ cut = ap length (sym is) ∙ length-drop kept ds ∙ omega arith in
    let digits : AreDigits (x ∷ xs) = rw is at (AreDigits-drop kept ds h) in
    let value : digits_value ds ≡ digits_value (take kept ds) * 10 ^ cut + read_behind 0 (x ∷ xs) =
    read_split kept ds ∙ ap (λ ys. digits_value (take kept ds) * 10 ^ length ys + read_behind 0 ys) is ∙ ap (λ k. digits_value (take kept ds) * 10 ^ k + read_behind 0 (x ∷ xs)) len in
    let below : read_behind 0 (x ∷ xs) < 10 ^ cut = rw len at (read_lt (x ∷ xs) digits) in
    elim (cases_lt x 53) [
      | inl lt ↦
          let test : nat_le 53 x ≡ false = grind (arith, nat_tests) in
          let small : 2 * read_behind 0 (x ∷ xs) < 10 ^ cut = rw len at (less_than_half x xs digits lt) in
          let near = nearest_down (digits_value ds) (digits_value (take kept ds)) (10 ^ cut) (read_behind 0 (x ∷ xs)) value small in
          let eq : rounded_front ds kept ≡ digits_value (take kept ds) = ap (λ b. digits_value (take kept ds) + cond b 1 0) test ∙ omega arith in
          rw eq near
      | inr ge ↦
          let test : nat_le 53 x ≡ true = grind (arith, nat_tests) in
          let big : 10 ^ cut ≤ 2 * read_behind 0 (x ∷ xs) = rw len at (half x xs digits ge) in
          let near = nearest_up (digits_value ds) (digits_value (take kept ds)) (10 ^ cut) (read_behind 0 (x ∷ xs)) value below big in
          let eq : rounded_front ds kept ≡ digits_value (take kept ds) + 1 = ap (λ b. digits_value (take kept ds) + cond b 1 0) test in
          rw eq near
    ]

-- fewer digits than are cut off are less than a half
pub nearest_none : (ds : List ℕ) (cut : ℕ) → AreDigits ds → length ds < cut → IsNearest (digits_value ds) (10 ^ cut) 0
nearest_none ds cut h lt =
    let below : digits_value ds < 10 ^ length ds = read_lt ds h in
    let up : 10 ^ suc (length ds) ≤ 10 ^ cut = pow-le-pow_right {n = 10} (omega arith) {i = suc (length ds)} {j = cut} (omega arith) in
    let e : 10 ^ suc (length ds) ≡ 10 * 10 ^ length ds = ten_suc (length ds) in
    nearest_down (digits_value ds) 0 (10 ^ cut) (digits_value ds) (omega arith) (omega arith)

pub ten_split : (big small : ℕ) → small ≤ big → 10 ^ big ≡ 10 ^ (big - small) * 10 ^ small
ten_split big small h = ap (λ k. 10 ^ k) (omega arith) ∙ pow-add 10 (big - small) small

-- a number times a power of ten that isn't below the divisor
pub up_whole : (D up down : ℕ) → down ≤ up → D * 10 ^ up ≡ D * 10 ^ (up - down) * 10 ^ down
up_whole D up down h = ap (λ y. D * y) (ten_split up down h) ∙ sym (mul_assoc D (10 ^ (up - down)) (10 ^ down))

pub nearest_up_power : (D up down : ℕ) → down ≤ up → IsNearest (D * 10 ^ up) (10 ^ down) (D * 10 ^ (up - down))
nearest_up_power D up down h = rw (up_whole D up down h) (nearest_whole (D * 10 ^ (up - down)) (10 ^ down) (ten_pos down))

pub nearest_down_power : (D up down n : ℕ) → up ≤ down → IsNearest D (10 ^ (down - up)) n → IsNearest (D * 10 ^ up) (10 ^ down) n
nearest_down_power D up down n h near = rw (ten_split down up h) (nearest_times D (10 ^ (down - up)) n (10 ^ up) (ten_pos up) near)

-- what is left of a multiple of b below b is nothing
pub rest_zero : (n q b r : ℕ) → n * b ≡ q * b + r → r < b → r ≡ 0
rest_zero n q b r e lt =
    elim (cases_lt q n) [
      | inl h ↦ absurd (omega (arith, mul-le-mul_right {m = q + 1} {n = n} b (omega arith), add-mul q 1 b, one-mul b))
      | inr h ↦ omega (arith, mul-le-mul_right {m = n} {n = q} b h)
    ]
