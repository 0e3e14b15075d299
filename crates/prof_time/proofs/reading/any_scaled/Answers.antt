use Rattle.std.proofs.Common.{◌≡◌, ◌*◌, ◌^◌, ◌<◌, refl, sym, ap, ◌∙◌, arith}
use Rattle.std.proofs.lemmas.Result.{IfOk-weaker, on_err_weaker}
use Rattle.prof_time.specs.Scaled.{signed}
use Rattle.prof_time.proofs.Bridges.{taken_digits, nearest_size, scaled_from, signed_size}
use Rattle.prof_time.proofs.reading.any_scaled.Goals as goal

pub nearest-requires-clause-digits : goal.nearest-requires-clause-digits
nearest-requires-clause-digits c =
    taken_digits c.args.text.now c.requires.number.0 c.of-number.result c.requires.number.1 c.of-number.ensures

pub returns-clause-nearest : goal.returns-clause-nearest
returns-clause-nearest c =
    let text = c.args.text.now in
    let m = c.requires.number.0 in
    let d = c.of-number.result in
    let size = c.nearest.result in
    let near = nearest_size text m d c.args.decimals size c.requires.number.1 c.of-number.ensures (omega arith) c.requires.few c.nearest.ensures in
    IfOk-weaker c.in_range.result _ _ (λ z h.
    let same : near.0 ≡ size = omega (arith, near.2, h.1) in
    scaled_from text m d c.args.decimals near.0 z c.requires.number.1 c.of-number.ensures near.1 (h.0 ∙ ap (signed d.negative) (sym same))) c.in_range.ensures.ok

pub returns-clause-range : goal.returns-clause-range
returns-clause-range c =
    let text = c.args.text.now in
    let m = c.requires.number.0 in
    let d = c.of-number.result in
    let near = nearest_size text m d c.args.decimals c.nearest.result c.requires.number.1 c.of-number.ensures (omega arith) c.requires.few c.nearest.ensures in
    let z = signed d.negative near.0 in
    on_err_weaker c.in_range.result (λ (big : 9 * 10 ^ 18 < c.nearest.result).
    (z, scaled_from text m d c.args.decimals near.0 z c.requires.number.1 c.of-number.ensures near.1 refl, omega (arith, near.2, big, signed_size d.negative near.0))) c.in_range.ensures.range
