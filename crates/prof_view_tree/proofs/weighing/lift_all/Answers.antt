use Rattle.std.proofs.Common.{◌≡◌, ◌-◌, ◌<◌, suc, length, subst, arith}
use Rattle.prof_view_tree.proofs.Lifting.{AreLifted, lifted_next}
use Rattle.prof_view_tree.proofs.weighing.lift_all.Goals as goal

pub loop-row-preserved : goal.loop-row-preserved
loop-row-preserved c =
    let stacks = c.args.stacks.now in
    let row = c.loop-row.row - 1 in
    let ws = c.loop-row.weights in
    let next : c.loop-row.row ≡ suc row = omega (arith, c.loop-row-test.true) in
    let inside : row < length stacks = omega (arith, c.loop-row-test.true, c.loop-row.auto.row) in
    lifted_next stacks c.requires.below c.args.weights.now row inside ws (subst (λ n. AreLifted stacks c.args.weights.now n ws) next c.loop-row.invariant)
    c.lift.new.weights c.lift.ensures.root c.lift.ensures.prefix
