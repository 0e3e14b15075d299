-- Fronts and rests of two lists in a row.
use Rattle.std.proofs.Common.{◌≡◌, ℕ, suc, zero, ◌+◌, ◌-◌, min, List, [], ◌∷◌, ◌++◌, length, take, drop, sym, ap, ◌∙◌, arith, inl, inr}
use Rattle.std.specs.List.{All}
use Rattle.std.proofs.Math.Seq.{take-append-add, drop-append-add, take-length, drop-length}
use Rattle.std.proofs.lemmas.List.{take-append-le, drop-append-le, append-nil}
use Rattle.std.proofs.lemmas.Bool.{cases_lt}

pub take_both : (n : ℕ) (xs ys : List ℕ) → take n (xs ++ ys) ≡ take (min n (length xs)) xs ++ take (n - min n (length xs)) ys
take_both n xs ys =
    elim (cases_lt (length xs) n) [
      | inl h ↦
          let e : n ≡ length xs + (n - length xs) = omega arith in
          let m : min n (length xs) ≡ length xs = omega arith in
          let t : take n (xs ++ ys) ≡ xs ++ take (n - length xs) ys = ap (λ k. take k (xs ++ ys)) e ∙ take-append-add xs ys (n - length xs) in
          rw m (rw (take-length xs) t)
      | inr h ↦
          let m : min n (length xs) ≡ n = omega arith in
          let z : n - n ≡ 0 = omega arith in
          rw (m, z) (take-append-le n xs ys h ∙ sym (append-nil (take n xs)))
    ]

pub drop_both : (n : ℕ) (xs ys : List ℕ) → drop n (xs ++ ys) ≡ drop (min n (length xs)) xs ++ drop (n - min n (length xs)) ys
drop_both n xs ys =
    elim (cases_lt (length xs) n) [
      | inl h ↦
          let e : n ≡ length xs + (n - length xs) = omega arith in
          let m : min n (length xs) ≡ length xs = omega arith in
          let t : drop n (xs ++ ys) ≡ drop (n - length xs) ys = ap (λ k. drop k (xs ++ ys)) e ∙ drop-append-add xs ys (n - length xs) in
          rw m (rw (drop-length xs) t)
      | inr h ↦
          let m : min n (length xs) ≡ n = omega arith in
          let z : n - n ≡ 0 = omega arith in
          rw (m, z) (drop-append-le n xs ys h)
    ]

pub All-front : (P : ℕ → Type 0) (xs ys : List ℕ) → All P (xs ++ ys) → All P xs
All-front P [] ys h k d lt = absurd (omega arith)
All-front P (x ∷ xs) ys h zero d lt = h 0 d (omega arith)
All-front P (x ∷ xs) ys h (suc k) d lt = All-front P xs ys (λ k d lt. h (suc k) d (omega arith)) k d (omega arith)

pub All-back : (P : ℕ → Type 0) (xs ys : List ℕ) → All P (xs ++ ys) → All P ys
All-back P [] ys h = h
All-back P (x ∷ xs) ys h = All-back P xs ys (λ k d lt. h (suc k) d (omega arith))
