-- The text that a number makes is accepted as its value, and stands for a profile.
use Rattle.std.proofs.Common.{◌≡◌, ℕ, zero, suc, ◌+◌, ◌-◌, ◌*◌, ◌/◌, ◌%◌, ◌^◌, ◌<◌, ◌≤◌, Bool, true, false, List, [], ◌∷◌, ◌++◌, codes, Option, None, Some, refl, ap, subst, arith, length, length-append}
use Rattle.std.specs.Prelude.{◌==◌, if◌then◌else◌, map, slice_get, IfSome}
use Rattle.std.specs.Fmt.{decimal}
use Rattle.std.specs.List.{join_with_byte}
use Rattle.std.proofs.lemmas.Fmt.{length-decimal-le}
use Rattle.prof_grammar.specs.Accepted.{IsAccepted}
use Rattle.prof_grammar.specs.Value.{Value}
use Rattle.prof_grammar.specs.declared.TheConstants.{LONGEST}
use Rattle.prof_time.specs.Spelling.{fraction_digits, scaled_text, with_point}
use Rattle.prof_demo.specs.Generated.{below, frame_text, frames, generated, prefix_text, prefixes, stack_text, stacks, time_text, times}
use Rattle.prof_layout.specs.Profile.{Stands, profile_of}
use Rattle.prof_write.specs.Cells.{index, maybe_index, time}
use Rattle.prof_write.specs.Compact.{compact, compact_items, values_of}
use Rattle.prof_back.specs.Made.{eight, frame_of, made, moment_of, prefix_of, stack_of, stacks_made, samples_made, thread_made}
use Rattle.prof_back.specs.Writable.{IsWritable}
use Rattle.prof_back.proofs.Below.{at_below, length_below}
use Rattle.prof_back.proofs.MadeChecks.{eight_small, frame_small, made_passes, moment_in, stack_small}
use Rattle.prof_back.proofs.MadeText.{joined, made_text, prefix_is}
use Rattle.prof_back.proofs.Told.{value_told}
use Rattle.prof_back.proofs.Written.{column_writable, index_writable, maybe_writable, time_writable, utf8, zero_writable}

-- ---- how long the text is

more_short : (cell : ℕ → Value) (rows : List ℕ) → ((i r : ℕ) → slice_get rows i ≡ Some r → length (compact (cell r)) ≤ 60) →
    length (compact_items true (values_of (map cell rows))) ≤ 61 * length rows + 1
more_short cell [] h = omega arith
more_short cell (r ∷ rows) h =
    let first = h 0 r refl in
    let rest = more_short cell rows (λ i s e. h (suc i) s e) in
    let both = length-append (compact (cell r)) (compact_items true (values_of (map cell rows))) in
    omega (arith, first, rest, both)

items_short : (cell : ℕ → Value) (rows : List ℕ) → ((i r : ℕ) → slice_get rows i ≡ Some r → length (compact (cell r)) ≤ 60) →
    length (compact_items false (values_of (map cell rows))) ≤ 61 * length rows + 1
items_short cell [] h = omega arith
items_short cell (r ∷ rows) h =
    let first = h 0 r refl in
    let rest = more_short cell rows (λ i s e. h (suc i) s e) in
    let both = length-append (compact (cell r)) (compact_items true (values_of (map cell rows))) in
    omega (arith, first, rest, both)

column_short : (cell : ℕ → Value) (text : ℕ → List ℕ) (k : ℕ) → ((r : ℕ) → compact (cell r) ≡ text r) → ((r : ℕ) → r < k → length (compact (cell r)) ≤ 60) →
    length (join_with_byte 44 (map text (below k))) ≤ 61 * k
column_short cell text k is h =
    let all = ap length (joined cell text k is) in
    let parts = length-append (join_with_byte 44 (map text (below k))) (codes "]") in
    let short = items_short cell (below k) (λ i r e. let at = at_below k i r e in h r (omega (arith, at.0, at.1))) in
    let many = length_below k in
    omega (arith, all, parts, short, many)

number_short : (n : ℕ) → n < 1000000 → length (compact (index n)) ≤ 60
number_short n h = let short = length-decimal-le 20 n (omega arith) (omega arith) (omega arith) in omega (arith, short)

prefix_short : (r : ℕ) → r < 60000 → (t : Bool) → length (compact (maybe_index (let o : Option ℕ = if t then None else Some (r - 1) in o))) ≤ 60
prefix_short r h true = omega arith
prefix_short r h false = number_short (r - 1) (omega arith)

fraction_short : (d r : ℕ) → length (fraction_digits d r) ≤ d
fraction_short zero r = omega arith
fraction_short (suc d) r = by_test (fraction_short d (r % 10 ^ d)) (r == 0)
  where
    by_test : length (fraction_digits d (r % 10 ^ d)) ≤ d → (t : Bool) → length (if t then [] else ((48 + r / 10 ^ d) ∷ fraction_digits d (r % 10 ^ d))) ≤ suc d
    by_test rest true = omega arith
    by_test rest false = omega (arith, rest)

point_short : (digits : List ℕ) → length (with_point digits) ≤ length digits + 1
point_short [] = omega arith
point_short (d ∷ ds) = omega arith

time_short : (r : ℕ) → r < 200000 → length (compact (time (moment_of r))) ≤ 60
unfolding scaled_text
time_short r h =
    let ms = 1000 * r / 10 ^ 6 in
    let rest = fraction_digits 6 (1000 * r % 10 ^ 6) in
    let whole = length-decimal-le 20 ms (omega arith) (omega arith) (omega arith) in
    let behind = fraction_short 6 (1000 * r % 10 ^ 6) in
    let point = point_short rest in
    let both = length-append (decimal ms) (with_point rest) in
    omega (arith, whole, behind, point, both)

frames_short : length (join_with_byte 44 frames) ≤ 61 * 60000
frames_short = column_short (λ row. index (frame_of row)) frame_text 60000 (λ r. refl) (λ r h. let small = frame_small r in number_short (frame_of r) (omega arith))

prefixes_short : length (join_with_byte 44 prefixes) ≤ 61 * 60000
prefixes_short = column_short (λ row. maybe_index (prefix_of row)) prefix_text 60000 prefix_is (λ r h. prefix_short r h (r == 0))

stacks_short : (n : ℕ) → length (join_with_byte 44 (stacks n)) ≤ 61 * 200000
stacks_short n = column_short (λ sample. index (stack_of n sample)) (stack_text n) 200000 (λ r. refl) (λ r h. let small = stack_small n r in number_short (stack_of n r) (omega arith))

times_short : length (join_with_byte 44 times) ≤ 61 * 200000
times_short = column_short (λ sample. time (moment_of sample)) time_text 200000 (λ r. refl) time_short

parts_length : (a p b q c x d y e : List ℕ) → length ((a ++ (p ++ (b ++ q))) ++ (c ++ (x ++ (d ++ (y ++ e)))))
    ≡ length a + length p + length b + length q + length c + length x + length d + length y + length e
parts_length a p b q c x d y e =
    omega (
      arith,
      length-append (a ++ (p ++ (b ++ q))) (c ++ (x ++ (d ++ (y ++ e)))),
      length-append a (p ++ (b ++ q)),
      length-append p (b ++ q),
      length-append b q,
      length-append c (x ++ (d ++ (y ++ e))),
      length-append x (d ++ (y ++ e)),
      length-append d (y ++ e),
      length-append y e,
    )

abbrev head : List ℕ
head = codes "{\"meta\":{\"preprocessedProfileVersion\":0},\"libs\":[],\"threads\":[{\"name\":\"gen\",\"stringArray\":[\"f0\",\"f1\",\"f2\",\"f3\",\"f4\",\"f5\",\"f6\",\"f7\"],\"funcTable\":{\"name\":[0,1,2,3,4,5,6,7]},\"frameTable\":{\"func\":[0,1,2,3,4,5,6,7]},\"stackTable\":{\"frame\":["

generated_short : (n : ℕ) → length (generated n) ≤ LONGEST
generated_short n =
    let all : length (generated n) ≡ length head + length (join_with_byte 44 frames) + length (codes "],\"prefix\":[") + length (join_with_byte 44 prefixes)
    + length (codes "]},\"samples\":{\"stack\":[") + length (join_with_byte 44 (stacks n)) + length (codes "],\"time\":[") + length (join_with_byte 44 times) + length (codes "]}}]}")
    = parts_length head (join_with_byte 44 frames) (codes "],\"prefix\":[") (join_with_byte 44 prefixes) (codes "]},\"samples\":{\"stack\":[") (join_with_byte 44 (stacks n)) (codes "],\"time\":[") (join_with_byte 44 times) (codes "]}}]}") in
    omega (arith, all, frames_short, prefixes_short, stacks_short n, times_short)

-- ---- what is written can be read

functions_writable : (most : ℕ) → (i r : ℕ) → slice_get eight i ≡ Some r → IsWritable (index r) most
functions_writable most i r e = let small = eight_small i r e in index_writable r most (omega arith)

stacks_writable : (most : ℕ) → IsWritable stacks_made (suc (suc most))
stacks_writable most = (
  utf8 (codes "frame") refl,
  column_writable (λ row. index (frame_of row)) (below 60000) most (λ i r e. let small = frame_small r in index_writable (frame_of r) most (omega arith)),
  (
    utf8 (codes "prefix") refl,
    column_writable (λ row. maybe_index (prefix_of row)) (below 60000) most (λ i r e. let at = at_below 60000 i r e in maybe_writable (prefix_of r) most (before_writable r (omega (arith, at.0, at.1)) (r == 0))),
    tt,
  ),
)
  where
    before_writable : (r : ℕ) → r < 60000 → (t : Bool) → (let o : Option ℕ = if t then None else Some (r - 1) in IfSome o (λ k. k < 2 ^ 64))
    before_writable r h true = tt
    before_writable r h false = omega arith

samples_writable : (n most : ℕ) → IsWritable (samples_made n) (suc (suc most))
samples_writable n most = (
  utf8 (codes "stack") refl,
  column_writable (λ sample. index (stack_of n sample)) (below 200000) most (λ i r e. let small = stack_small n r in index_writable (stack_of n r) most (omega arith)),
  (
    utf8 (codes "time") refl,
    column_writable (λ sample. time (moment_of sample)) (below 200000) most (λ i r e. let at = at_below 200000 i r e in time_writable (moment_of r) most (moment_in r (omega (arith, at.0, at.1)))),
    tt,
  ),
)

thread_writable : (n most : ℕ) → IsWritable (thread_made n) (suc (suc (suc most)))
thread_writable n most = (
  utf8 (codes "name") refl,
  utf8 (codes "gen") refl,
  (
    utf8 (codes "stringArray") refl,
    (utf8 (codes "f0") refl, (utf8 (codes "f1") refl, (utf8 (codes "f2") refl, (utf8 (codes "f3") refl, (utf8 (codes "f4") refl, (utf8 (codes "f5") refl, (utf8 (codes "f6") refl, (utf8 (codes "f7") refl, tt)))))))),
    (
      utf8 (codes "funcTable") refl,
      (utf8 (codes "name") refl, column_writable index eight most (functions_writable most), tt),
      (
        utf8 (codes "frameTable") refl,
        (utf8 (codes "func") refl, column_writable index eight most (functions_writable most), tt),
        (
          utf8 (codes "stackTable") refl,
          stacks_writable most,
          (
            utf8 (codes "samples") refl,
            samples_writable n most,
            tt,
          ),
        ),
      ),
    ),
  ),
)

made_writable : (n : ℕ) → IsWritable (made n) 256
made_writable n = (
  utf8 (codes "meta") refl,
  (utf8 (codes "preprocessedProfileVersion") refl, zero_writable 254, tt),
  (
    utf8 (codes "libs") refl,
    tt,
    (
      utf8 (codes "threads") refl,
      (thread_writable n 251, tt),
      tt,
    ),
  ),
)

-- ---- the profile

made_accepted : (n : ℕ) → IsAccepted (generated n) (made n)
made_accepted n =
    let is = made_text n in
    let P : List ℕ → Type 0 = λ l. length l ≤ LONGEST → IsAccepted l (made n) in
    subst P is (λ short. value_told (made n) (made_writable n) short) (generated_short n)

pub made_stands : (n : ℕ) → Stands (generated n) (profile_of (made n))
made_stands n = record { value = made n; reads = made_accepted n; whole = made_passes n; is = refl }
