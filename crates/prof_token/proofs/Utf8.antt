-- The bytes of a character, row by row (Unicode, table 3-7).
use Rattle.std.proofs.Common.{◌≡◌, ℕ, ◌+◌, ◌-◌, ◌*◌, ◌/◌, ◌%◌, ◌<◌, ◌≤◌, Bool, true, false, List, [], ◌∷◌, refl, subst, ap, ◌∙◌, arith, suc, zero}
use Rattle.std.specs.Prelude.{nat_lt, nat_le}
use Rattle.std.specs.Char.{IsScalar, encode_utf8}
use Rattle.std.specs.Str.{IsUtf8, IsAscii}
use Rattle.std.proofs.lemmas.Bool.Decides.{nat_tests}
use Rattle.std.proofs.lemmas.Str.{IsUtf8-encode, IsUtf8-from_ascii}
use Rattle.prof_token.specs.Bytes.{Each, none, more, is_digit, is_plain, second_low, second_high}

pub each_ascii : {test : ℕ → Bool} {xs : List ℕ} → ((b : ℕ) → test b ≡ true → b < 128) → Each test xs → IsAscii xs
each_ascii h none = λ i. omega arith
each_ascii h (more {b} {bs} p a) = at (each_ascii h a)
  where
    at : IsAscii bs → IsAscii (b ∷ bs)
    at rest zero = h b p
    at rest (suc i) = rest i

pub digit_small : (b : ℕ) → is_digit b ≡ true → b < 128
digit_small b h = grind (arith, nat_tests)

pub plain_small : (b : ℕ) → is_plain b ≡ true → b < 128
plain_small b h = grind (arith, nat_tests)

pub digits_utf8 : {xs : List ℕ} → Each is_digit xs → IsUtf8 xs
digits_utf8 {xs} a = IsUtf8-from_ascii xs (each_ascii digit_small a)

pub plain_utf8 : {xs : List ℕ} → Each is_plain xs → IsUtf8 xs
plain_utf8 {xs} a = IsUtf8-from_ascii xs (each_ascii plain_small a)

pub one_utf8 : (b : ℕ) → b < 128 → IsUtf8 (b ∷ [])
one_utf8 b h = IsUtf8-from_ascii (b ∷ []) at
  where
    at : IsAscii (b ∷ [])
    at zero = h
    at (suc i) = omega arith

encode_two : (c : ℕ) → 128 ≤ c → c < 2048 → encode_utf8 c ≡ (192 + c / 64) ∷ (128 + c % 64) ∷ []
unfolding encode_utf8
encode_two c l h =
    let e : nat_lt c 128 ≡ false = grind (arith, nat_tests) in
    let f : nat_lt c 2048 ≡ true = grind (arith, nat_tests) in rw (e, f)

encode_three : (c : ℕ) → 2048 ≤ c → c < 65536 → encode_utf8 c ≡ (224 + c / 4096) ∷ (128 + (c / 64) % 64) ∷ (128 + c % 64) ∷ []
unfolding encode_utf8
encode_three c l h =
    let e : nat_lt c 128 ≡ false = grind (arith, nat_tests) in
    let f : nat_lt c 2048 ≡ false = grind (arith, nat_tests) in
    let k : nat_lt c 65536 ≡ true = grind (arith, nat_tests) in rw (e, f, k)

encode_four : (c : ℕ) → 65536 ≤ c → encode_utf8 c ≡ (240 + c / 262144) ∷ (128 + (c / 4096) % 64) ∷ (128 + (c / 64) % 64) ∷ (128 + c % 64) ∷ []
unfolding encode_utf8
encode_four c l =
    let e : nat_lt c 128 ≡ false = grind (arith, nat_tests) in
    let f : nat_lt c 2048 ≡ false = grind (arith, nat_tests) in
    let k : nat_lt c 65536 ≡ false = grind (arith, nat_tests) in rw (e, f, k)

scalar_low : (c : ℕ) → c < 55296 → IsScalar c
scalar_low c h = let e : nat_lt c 55296 ≡ true = grind (arith, nat_tests) in rw e

scalar_high : (c : ℕ) → 57344 ≤ c → c < 1114112 → IsScalar c
scalar_high c l h =
    let e : nat_lt c 55296 ≡ false = grind (arith, nat_tests) in
    let f : nat_le 57344 c ≡ true = grind (arith, nat_tests) in
    let k : nat_lt c 1114112 ≡ true = grind (arith, nat_tests) in rw (e, f, k)

as_encoded : (c : ℕ) (bytes : List ℕ) → IsScalar c → encode_utf8 c ≡ bytes → IsUtf8 bytes
as_encoded c bytes s e = subst (λ (b : List ℕ). IsUtf8 b) e (IsUtf8-encode c s)

pub two_utf8 : (x y : ℕ) → 194 ≤ x → x ≤ 223 → 128 ≤ y → y ≤ 191 → IsUtf8 (x ∷ y ∷ [])
two_utf8 x y l h yl yh =
    let c : ℕ = (x - 192) * 64 + (y - 128) in
    let d : 192 + c / 64 ≡ x = omega arith in
    let m : 128 + c % 64 ≡ y = omega arith in
    as_encoded c (x ∷ y ∷ []) (scalar_low c (omega arith)) (encode_two c (omega arith) (omega arith) ∙ ap (λ a. a ∷ (128 + c % 64) ∷ []) d ∙ ap (λ a. x ∷ a ∷ []) m)

three_is : (x y z : ℕ) → 224 ≤ x → x ≤ 239 → 128 ≤ y → y ≤ 191 → 128 ≤ z → z ≤ 191 → 2048 ≤ (x - 224) * 4096 + (y - 128) * 64 + (z - 128) →
    encode_utf8 ((x - 224) * 4096 + (y - 128) * 64 + (z - 128)) ≡ x ∷ y ∷ z ∷ []
three_is x y z l h yl yh zl zh big =
    let c : ℕ = (x - 224) * 4096 + (y - 128) * 64 + (z - 128) in
    let d : 224 + c / 4096 ≡ x = omega arith in
    let m : 128 + (c / 64) % 64 ≡ y = omega arith in
    let k : 128 + c % 64 ≡ z = omega arith in
    encode_three c big (omega arith) ∙ ap (λ v. v ∷ (128 + (c / 64) % 64) ∷ (128 + c % 64) ∷ []) d ∙ ap (λ v. x ∷ v ∷ (128 + c % 64) ∷ []) m ∙ ap (λ v. x ∷ y ∷ v ∷ []) k

three_low : (x y z : ℕ) → 224 ≤ x → x ≤ 237 → y ≤ 191 → z ≤ 191 → (x ≡ 237 → y ≤ 159) → (x - 224) * 4096 + (y - 128) * 64 + (z - 128) < 55296
three_low x y z l h yh zh b = grind arith

three_high : (x y z : ℕ) → 238 ≤ x → 57344 ≤ (x - 224) * 4096 + (y - 128) * 64 + (z - 128)
three_high x y z l = omega arith

three_scalar : (x y z : ℕ) → 224 ≤ x → x ≤ 239 → 128 ≤ y → y ≤ 191 → 128 ≤ z → z ≤ 191 → (x ≡ 237 → y ≤ 159) → (t : Bool) → nat_lt x 238 ≡ t → IsScalar ((x - 224) * 4096 + (y - 128) * 64 + (z - 128))
three_scalar x y z l h yl yh zl zh b true e =
    let f : x ≤ 237 = grind (arith, nat_tests) in
    scalar_low ((x - 224) * 4096 + (y - 128) * 64 + (z - 128)) (three_low x y z l f yh zh b)
three_scalar x y z l h yl yh zl zh b false e =
    let f : 238 ≤ x = grind (arith, nat_tests) in
    scalar_high ((x - 224) * 4096 + (y - 128) * 64 + (z - 128)) (three_high x y z f) (omega arith)

pub three_utf8 : (x y z : ℕ) → 224 ≤ x → x ≤ 239 → 128 ≤ y → y ≤ 191 → 128 ≤ z → z ≤ 191 → (x ≡ 224 → 160 ≤ y) → (x ≡ 237 → y ≤ 159) → IsUtf8 (x ∷ y ∷ z ∷ [])
three_utf8 x y z l h yl yh zl zh a b =
    let big : 2048 ≤ (x - 224) * 4096 + (y - 128) * 64 + (z - 128) = grind arith in
    as_encoded ((x - 224) * 4096 + (y - 128) * 64 + (z - 128)) (x ∷ y ∷ z ∷ []) (three_scalar x y z l h yl yh zl zh b (nat_lt x 238) refl) (three_is x y z l h yl yh zl zh big)

pub four_utf8 : (x y z w : ℕ) → 240 ≤ x → x ≤ 244 → 128 ≤ y → y ≤ 191 → 128 ≤ z → z ≤ 191 → 128 ≤ w → w ≤ 191 → (x ≡ 240 → 144 ≤ y) → (x ≡ 244 → y ≤ 143) → IsUtf8 (x ∷ y ∷ z ∷ w ∷ [])
four_utf8 x y z w l h yl yh zl zh wl wh a b =
    let c : ℕ = (x - 240) * 262144 + (y - 128) * 4096 + (z - 128) * 64 + (w - 128) in
    let big : 65536 ≤ (x - 240) * 262144 + (y - 128) * 4096 + (z - 128) * 64 + (w - 128) = grind arith in
    let small : (x - 240) * 262144 + (y - 128) * 4096 + (z - 128) * 64 + (w - 128) < 1114112 = grind arith in
    let d : 240 + c / 262144 ≡ x = omega arith in
    let m : 128 + (c / 4096) % 64 ≡ y = omega arith in
    let k : 128 + (c / 64) % 64 ≡ z = omega arith in
    let n : 128 + c % 64 ≡ w = omega arith in
    as_encoded c (x ∷ y ∷ z ∷ w ∷ []) (scalar_high c (omega (arith, big)) small)
    (encode_four c big ∙ ap (λ v. v ∷ (128 + (c / 4096) % 64) ∷ (128 + (c / 64) % 64) ∷ (128 + c % 64) ∷ []) d ∙ ap (λ v. x ∷ v ∷ (128 + (c / 64) % 64) ∷ (128 + c % 64) ∷ []) m ∙ ap (λ v. x ∷ y ∷ v ∷ (128 + c % 64) ∷ []) k ∙ ap (λ v. x ∷ y ∷ z ∷ v ∷ []) n)

pub three_by_second : (x y z : ℕ) → 224 ≤ x → x ≤ 239 → second_low x ≤ y → y ≤ second_high x → 128 ≤ z → z ≤ 191 → IsUtf8 (x ∷ y ∷ z ∷ [])
three_by_second x y z l h yl yh zl zh =
    let a : 128 ≤ y = grind (arith, nat_tests) in
    let b : y ≤ 191 = grind (arith, nat_tests) in
    three_utf8 x y z l h a b zl zh (λ e. grind (arith, nat_tests)) (λ e. grind (arith, nat_tests))

pub four_by_second : (x y z w : ℕ) → 240 ≤ x → x ≤ 244 → second_low x ≤ y → y ≤ second_high x → 128 ≤ z → z ≤ 191 → 128 ≤ w → w ≤ 191 → IsUtf8 (x ∷ y ∷ z ∷ w ∷ [])
four_by_second x y z w l h yl yh zl zh wl wh =
    let a : 128 ≤ y = grind (arith, nat_tests) in
    let b : y ≤ 191 = grind (arith, nat_tests) in
    four_utf8 x y z w l h a b zl zh wl wh (λ e. grind (arith, nat_tests)) (λ e. grind (arith, nat_tests))
