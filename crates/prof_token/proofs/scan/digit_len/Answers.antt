use Rattle.std.proofs.Common.{◌≡◌, ◌<◌, length, get_or, true, arith}
use Rattle.std.proofs.lemmas.Grind.{common_steps}
use Rattle.prof_token.specs.Bytes.{none, is_digit}
use Rattle.prof_token.proofs.Runs.{each_take}
use Rattle.prof_token.proofs.scan.digit_len.Goals as goal

pub loop-i-init : goal.loop-i-init
loop-i-init c = none

pub loop-i-preserved : goal.loop-i-preserved
loop-i-preserved c =
    let here : c.loop-i.i < length c.args.bytes.now = omega arith in
    let passes : is_digit (get_or c.args.bytes.now c.loop-i.i 0) ≡ true = grind (arith, common_steps, c.is_digit.ensures) in
    each_take is_digit c.args.bytes.now c.loop-i.i here passes c.loop-i.invariant
