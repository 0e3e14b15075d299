use Rattle.std.proofs.Common.{◌≡◌, ◌+◌, ◌-◌, ◌*◌, ◌^◌, min, take, refl, ap, ◌∙◌, arith}
use Rattle.std.proofs.lemmas.List.{take_all}
use Rattle.prof_time.specs.Scaled.{digits_value}
use Rattle.prof_time.specs.Parts.{digits_of, rounded_front}
use Rattle.prof_time.proofs.Values.{min_mul_left}
use Rattle.prof_time.proofs.Nearest.{nearest_up_power, nearest_down_power, nearest_front, nearest_none}
use Rattle.prof_time.proofs.decimal.Decimal.nearest.Goals as goal

pub returns-then-self-up : goal.returns-then-self-up
returns-then-self-up c =
    let d = c.args.self.now in
    let D = digits_value (digits_of d) in
    let up = c.args.decimals + d.up in
    let all : take c.len-len.result (digits_of d) ≡ digits_of d = take_all c.len-len.result (digits_of d) (omega arith) in
    let front : c.front.result ≡ min D (2 ^ 128 - 1) = c.front.ensures ∙ ap (λ ds. min (digits_value ds) (2 ^ 128 - 1)) all in
    let n = D * 10 ^ (up - d.down) in (
      n,
      nearest_up_power D up d.down (omega arith),
      c.times_ten_to.ensures ∙ ap (λ k. min (c.front.result * 10 ^ (k + d.up - d.down)) (2 ^ 128 - 1)) c.from.ensures ∙ ap (λ v. min (v * 10 ^ (up - d.down)) (2 ^ 128 - 1)) front ∙ min_mul_left D (10 ^ (up - d.down)) (2 ^ 128 - 1),
    )

pub returns-then-len-cut : goal.returns-then-len-cut
returns-then-len-cut c =
    let d = c.args.self.now in
    let up = c.args.decimals + d.up in (
      0,
      nearest_down_power (digits_value (digits_of d)) up d.down 0 (omega arith) (nearest_none (digits_of d) (d.down - up) c.requires.digits (omega arith)),
      refl,
    )

pub returns : goal.returns
returns c =
    let d = c.args.self.now in
    let up = c.args.decimals + d.up in
    let cut = d.down - up in
    let kept = c.len-len.result - cut in (
      rounded_front (digits_of d) kept,
      nearest_down_power (digits_value (digits_of d)) up d.down (rounded_front (digits_of d) kept) (omega arith) (nearest_front (digits_of d) kept cut c.requires.digits (omega arith) (omega arith)),
      c.rounded.ensures ∙ ap (λ k. min (rounded_front (digits_of d) (c.len-len.result - (d.down - (k + d.up)))) (2 ^ 128 - 1)) c.from.ensures,
    )
