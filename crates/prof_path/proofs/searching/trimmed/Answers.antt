use Rattle.std.proofs.Common.{◌≡◌, ◌+◌, ◌-◌, ◌<◌, ◌≤◌, ℕ, true, length, slice_index, subst, arith}
use Rattle.std.proofs.lemmas.Bool.Decides.{nat_tests}
use Rattle.std.proofs.lemmas.List.Sums.{prefix_len-le-length}
use Rattle.std.proofs.lemmas.Str.{IsCharBoundary-after_ascii}
use Rattle.std.specs.List.{prefix_len}
use Rattle.std.specs.Str.{IsCharBoundary}
use Rattle.prof_path.specs.Terms.{is_blank}
use Rattle.prof_path.proofs.searching.trimmed.Goals as goal

ascii : (b : ℕ) → is_blank b ≡ true → b < 128
ascii b h = grind (arith, nat_tests)

pub range_from-rest-requires : goal.range_from-rest-requires
range_from-rest-requires c = λ pos.
    let text = c.args.text.now in
    let r = c.leading_blanks.result in
    let v : c.as_bytes.result.now ≡ text = c.as_bytes.ensures.value in
    let blank : is_blank (slice_index text (r - 1)) ≡ true = subst (λ s. is_blank (slice_index s (r - 1)) ≡ true) v (c.leading_blanks.ensures.blank pos) in
    let count : r ≡ prefix_len is_blank text = subst (λ s. r ≡ prefix_len is_blank s) v c.leading_blanks.ensures.count in
    let most : prefix_len is_blank text ≤ length text = prefix_len-le-length is_blank text in
    let e : r - 1 + 1 ≡ r = omega arith in
    subst (IsCharBoundary text) e (IsCharBoundary-after_ascii text (r - 1) c.utf8.text (omega arith) (ascii (slice_index text (r - 1)) blank))
