use Rattle.std.proofs.Common.{◌≡◌, [], drop, get_or, suc, arith, drop-cons}
use Rattle.std.specs.Char.{digit_value}
use Rattle.std.proofs.lemmas.List.{drop_all}
use Rattle.prof_location.specs.Locations.{hex_behind}
use Rattle.prof_location.proofs.Hex.{fits, stays_over}
use Rattle.prof_location.proofs.address.hex_value.Goals as goal

pub returns-in_default : goal.returns-in_default
returns-in_default c =
    let at = drop-cons c.args.digits.now c.loop-c.c-index 0 (omega arith) in
    let same : c.from-digit.result ≡ digit_value (get_or c.args.digits.now c.loop-c.c-index 0) = cc in
    let rest = rw at at c.loop-c.invariant.rest in
    stays_over _ (hex_behind 0 c.args.digits.now) (drop (suc c.loop-c.c-index) c.args.digits.now) (rw (← same) c.in_default.ensures) rest

pub returns : goal.returns
returns c =
    let none : drop c.loop-c.c-index c.args.digits.now ≡ [] = drop_all c.loop-c.c-index c.args.digits.now (omega arith) in
    fits c.loop-c.value (hex_behind 0 c.args.digits.now) c.loop-c.invariant.small (rw none at c.loop-c.invariant.rest)
