use Rattle.std.proofs.Common.{◌≡◌, ◌-◌, ◌*◌, ◌^◌, min, take, ap, sym, ◌∙◌, arith}
use Rattle.std.proofs.lemmas.List.{take_all}
use Rattle.std.proofs.lemmas.Bool.{false≢true}
use Rattle.prof_time.specs.Scaled.{digits_value}
use Rattle.prof_time.specs.Parts.{digits_of}
use Rattle.prof_time.proofs.Values.{min_mul_left}
use Rattle.prof_time.proofs.Nearest.{up_whole}
use Rattle.prof_time.proofs.Wholes.{zeros_whole, whole_zeros}
use Rattle.prof_time.proofs.decimal.Decimal.whole_size.Goals as goal

pub returns-then-self-clause-some : goal.returns-then-self-clause-some
returns-then-self-clause-some c =
    let d = c.args.self.now in
    let D = digits_value (digits_of d) in
    let all : take c.len-len.result (digits_of d) ≡ digits_of d = take_all c.len-len.result (digits_of d) (omega arith) in
    let front : c.front.result ≡ min D (2 ^ 128 - 1) = c.front.ensures ∙ ap (λ ds. min (digits_value ds) (2 ^ 128 - 1)) all in (
      D * 10 ^ (d.up - d.down),
      up_whole D d.up d.down (omega arith),
      c.times_ten_to.ensures ∙ ap (λ v. min (v * 10 ^ (d.up - d.down)) (2 ^ 128 - 1)) front ∙ min_mul_left D (10 ^ (d.up - d.down)) (2 ^ 128 - 1),
    )

pub returns-then-is_zero_from-clause-some : goal.returns-then-is_zero_from-clause-some
returns-then-is_zero_from-clause-some c =
    let d = c.args.self.now in
    let kept = c.len-len.result - c.min-cut.result in (
      digits_value (take kept (digits_of d)),
      zeros_whole (digits_of d) d.up d.down c.min-cut.result kept (omega arith) (omega arith) (omega arith) (c.is_zero_from.ensures.0 c.if-is_zero_from.true),
      c.front-then-is_zero_from.ensures,
    )

pub returns-else-is_zero_from-clause-none : goal.returns-else-is_zero_from-clause-none
returns-else-is_zero_from-clause-none c n e =
    let d = c.args.self.now in
    let kept = c.len-len.result - c.min-cut.result in
    let zeros = whole_zeros (digits_of d) d.up d.down c.min-cut.result kept n c.requires.digits (omega arith) (omega arith) (omega arith) e in
    false≢true (sym c.if-is_zero_from.false ∙ c.is_zero_from.ensures.1 zeros)
