use Rattle.std.proofs.Common.{◌*◌, ◌^◌, refl, ◌<◌}
use Rattle.std.specs.Prelude.{pos}
use Rattle.std.proofs.lemmas.Result.{IfOk-weaker, on_err_weaker}
use Rattle.prof_time.proofs.Shorts.{plain_scaled}
use Rattle.prof_time.proofs.reading.read_scaled.Goals as goal

pub returns-in-Some-clause-nearest : goal.returns-in-Some-clause-nearest
returns-in-Some-clause-nearest c =
    IfOk-weaker c.in_range.result _ _ (λ z h. plain_scaled c.args.text.now c.requires.number.0 c.in-Some.short c.args.decimals c.nearest.result z c.requires.number.1 c.in-Some.ensures c.nearest.ensures h.0) c.in_range.ensures.ok

pub returns-in-Some-clause-range : goal.returns-in-Some-clause-range
returns-in-Some-clause-range c =
    let size = c.nearest.result in
    on_err_weaker c.in_range.result (λ (big : 9 * 10 ^ 18 < c.nearest.result).
    (pos size, plain_scaled c.args.text.now c.requires.number.0 c.in-Some.short c.args.decimals size (pos size) c.requires.number.1 c.in-Some.ensures c.nearest.ensures refl, big)) c.in_range.ensures.range
