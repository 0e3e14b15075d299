use Rattle.std.proofs.Common.{◌≡◌, ◌+◌, ◌-◌, suc, drop, get_or, sym, ap, ◌∙◌, arith}
use Rattle.std.proofs.lemmas.List.Quantifiers.{position-Some}
use Rattle.prof_path.specs.Rewriting.{is_func}
use Rattle.prof_path.proofs.Places.{after_at}
use Rattle.prof_path.proofs.functions.end_of_function.Goals as goal

pub loop-place-init : goal.loop-place-init
loop-place-init c =
    let w = position-Some (is_func c.args.func) c.args.path.now c.args.first (record { func = 0; category = 0 }) c.requires in
    let n : c.args.first + 1 - 1 ≡ c.args.first = omega arith in
    record {
      low = omega arith;
      high = omega (arith, w.0);
      hit = λ d. ap (λ k. is_func c.args.func (get_or c.args.path.now k d)) n ∙ (position-Some (is_func c.args.func) c.args.path.now c.args.first d c.requires).1;
      none = λ k d h lt. absurd (omega arith);
    }

pub returns-clause-after : goal.returns-clause-after
returns-clause-after c =
    let last = c.loop-place.end - 1 in
    let n : c.loop-place.end ≡ suc last = omega (arith, c.loop-place.invariant.low) in
    ap (λ k. drop k c.args.path.now) n
    ∙ sym (after_at c.args.func c.args.path.now last (record { func = 0; category = 0 }) (omega (arith, c.loop-place.invariant.low, c.loop-place.invariant.high)) (c.loop-place.invariant.hit _) (λ k d h lt. c.loop-place.invariant.none k d (omega (arith, c.loop-place.invariant.low)) (omega arith)))
