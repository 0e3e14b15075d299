use Rattle.std.proofs.Common.{◌≡◌, ◌+◌, ◌-◌, ◌*◌, ◌/◌, ◌^◌, ◌≤◌, ap, ◌∙◌, arith}
use Rattle.std.proofs.Math.Nat.{pow-le-pow_right}
use Rattle.prof_time.proofs.Values.{ten_pos}
use Rattle.prof_time.proofs.Nearest.{nearest_up_power, nearest_down_power, nearest_quotient}
use Rattle.prof_time.proofs.short.Short.nearest.Goals as goal

pub returns-then-self-decimals : goal.returns-then-self-decimals
returns-then-self-decimals c =
    let s = c.args.self.now in
    let unit : c.from-then-self-decimals.result ≡ 10 ^ (c.args.decimals - s.places) = c.from-then-self-decimals.ensures ∙ c.ten_to-unit.ensures in
    rw unit (rw c.from.ensures (nearest_up_power s.value c.args.decimals s.places (omega arith)))

pub overflow_mul-unit : goal.overflow_mul-unit
overflow_mul-unit c =
    let down = c.args.self.now.places - c.args.decimals in
    let unit : 10 ^ down ≤ 10 ^ 18 = pow-le-pow_right {n = 10} (omega arith) {i = down} {j = 18} (omega arith) in
    omega arith

pub nonzero_div-self : goal.nonzero_div-self
nonzero_div-self c = omega (arith, ten_pos (c.args.self.now.places - c.args.decimals))

pub returns : goal.returns
returns c =
    let s = c.args.self.now in
    let down = s.places - c.args.decimals in
    let near = nearest_quotient s.value (10 ^ down) (ten_pos down) in
    let is : c.from-2.result ≡ (2 * s.value + 10 ^ down) / (2 * 10 ^ down) =
    c.from-2.ensures ∙ ap (λ u. (2 * s.value + u) / (2 * u)) c.ten_to-unit-2.ensures in
    rw is (nearest_down_power s.value c.args.decimals s.places ((2 * s.value + 10 ^ down) / (2 * 10 ^ down)) (omega arith) near)
