use Rattle.std.proofs.Common.{◌%◌, ◌^◌, ap, ◌∙◌, arith}
use Rattle.prof_time.proofs.Values.{ten_pos}
use Rattle.prof_time.proofs.Shorts.{not_multiple}
use Rattle.prof_time.proofs.short.Short.whole.Goals as goal

pub nonzero_rem-self : goal.nonzero_rem-self
nonzero_rem-self c = omega (arith, ten_pos c.args.self.now.places)

pub nonzero_div-result : goal.nonzero_div-result
nonzero_div-result c = omega (arith, ten_pos c.args.self.now.places)

pub returns-else-self-unit-eq0-clause-none : goal.returns-else-self-unit-eq0-clause-none
returns-else-self-unit-eq0-clause-none c n e =
    let s = c.args.self.now in
    c.if-self-unit-eq0.false (ap (λ u. s.value % u) c.ten_to-unit.ensures ∙ not_multiple s.value (10 ^ s.places) n e)
