use Rattle.std.proofs.Common.{◌*◌, ◌-◌, ◌^◌, min, ap, ◌∙◌}
use Rattle.prof_time.proofs.Values.{times_min}
use Rattle.prof_time.proofs.digits.times_great_power.Goals as goal

pub returns : goal.returns
returns c =
    let e = c.min-power.ensures in
    let f = c.saturating_pow.ensures in
    c.saturating_mul.ensures
    ∙ ap (λ p. min (c.args.number * p) (2 ^ 128 - 1)) (f ∙ ap (λ k. min (10 ^ k) (2 ^ 128 - 1)) e)
    ∙ times_min c.args.number c.args.power
