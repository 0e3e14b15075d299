use Rattle.std.proofs.Common.{◌≡◌, ◌/◌, ◌%◌, ◌^◌, ◌<◌, ◌++◌, sym, ap, ◌∙◌, arith}
use Rattle.std.specs.Prelude.{unsigned_abs, decimal, codes}
use lib.Signed.{lt_z}
use Rattle.std.specs.Prelude.{pos}
use Rattle.std.proofs.lemmas.Int.{to_z-of_z}
use Rattle.std.proofs.lemmas.List.{append_assoc}
use Rattle.std.proofs.lemmas.Nat.{mod_below}
use Rattle.prof_time.specs.Spelling.{scaled_text, sign_text, is_below_zero, with_point, fraction_digits}
use Rattle.prof_time.proofs.Values.{ten_pos}
use Rattle.prof_time.proofs.Spellings.{below_zero, scaled_is_spelling, spelling_is_scaled}
use Rattle.prof_time.proofs.writing.write_scaled.Goals as goal
use Rattle.prof_time.proofs.writing.write_scaled.Goals.{then-n-lt0, else-n-lt0}

pub nonzero_div-size : goal.nonzero_div-size
nonzero_div-size c = omega (arith, ten_pos c.args.decimals)

pub nonzero_rem-size : goal.nonzero_rem-size
nonzero_rem-size c = omega (arith, ten_pos c.args.decimals)

pub push_fraction-requires-clause-fraction : goal.push_fraction-requires-clause-fraction
push_fraction-requires-clause-fraction c = rw c.pow-unit.ensures (mod_below c.unsigned_abs-size.result (10 ^ c.args.decimals) (ten_pos c.args.decimals))

pub returns-clause-text : goal.returns-clause-text
unfolding scaled_text
returns-clause-text c =
    let d = c.args.decimals in
    let size : c.unsigned_abs-size.result ≡ unsigned_abs c.args.n = c.unsigned_abs-size.ensures.value ∙ ap unsigned_abs (to_z-of_z _ c.args.n c.ranges.n) in
    let unit = c.pow-unit.ensures in
    let same : c.args.n ≡ _ = sym (to_z-of_z _ c.args.n c.ranges.n) in
    let negative = below_zero c.args.n ∙ ap (λ z. lt_z z (pos 0)) same in
    let sign : c.if-n-lt0.out.bytes ≡ sign_text (is_below_zero c.args.n) =
    elim c.if-n-lt0.branch [
      | then-n-lt0 w ↦ let h = w.if-n-lt0.true in rw (negative ∙ h) (ap (λ o. o.bytes) w.out-is ∙ w.push_str.ensures.bytes ∙ ap (λ x. x ++ codes "-") c.requires.empty)
      | else-n-lt0 w ↦ rw (negative ∙ w.if-n-lt0.false) (ap (λ o. o.bytes) w.out-is ∙ c.requires.empty)
    ] in
    let whole = c.format.ensures.text ∙ ap (λ x. decimal (x / c.pow-unit.result)) size ∙ ap (λ x. decimal (unsigned_abs c.args.n / x)) unit in
    let rest = ap (λ x. with_point (fraction_digits d (x % c.pow-unit.result))) size ∙ ap (λ x. with_point (fraction_digits d (unsigned_abs c.args.n % x))) unit in
    c.push_fraction.ensures.text ∙ ap (λ x. x ++ with_point (fraction_digits d (c.unsigned_abs-size.result % c.pow-unit.result))) (c.push_str-2.ensures.bytes ∙ ap (λ x. x ++ c.format.result.now) sign ∙ ap (λ x. sign_text (is_below_zero c.args.n) ++ x) whole)
    ∙ ap (λ x. (sign_text (is_below_zero c.args.n) ++ decimal (unsigned_abs c.args.n / 10 ^ d)) ++ x) rest
    ∙ append_assoc (sign_text (is_below_zero c.args.n)) (decimal (unsigned_abs c.args.n / 10 ^ d)) (with_point (fraction_digits d (unsigned_abs c.args.n % 10 ^ d)))

pub returns-clause-shortest : goal.returns-clause-shortest
returns-clause-shortest c =
    let size : c.unsigned_abs-size.result ≡ unsigned_abs c.args.n = c.unsigned_abs-size.ensures.value ∙ ap unsigned_abs (to_z-of_z _ c.args.n c.ranges.n) in
    let fits : unsigned_abs c.args.n < 2 ^ 64 = omega (arith, c.unsigned_abs-size.ensures.bound) in
    let text : c.push_fraction.new.out.bytes ≡ scaled_text c.args.decimals c.args.n = returns-clause-text c in
    rw text (scaled_is_spelling c.args.decimals c.args.n fits)

pub returns-clause-reads_back : goal.returns-clause-reads_back
returns-clause-reads_back c = spelling_is_scaled c.args.decimals c.args.n c.push_fraction.new.out.bytes (returns-clause-shortest c)
