use Rattle.std.proofs.Common.{arith, subst}
use Rattle.prof_io.specs.Outside.{seen}
use Rattle.prof_desk.specs.Playing.{Leaves, status_of}
use Rattle.prof_desk.proofs.FirstReplies.{readings_tree, replies_tree}
use Rattle.prof_desk.proofs.opened.write_tree.Goals as goal

pub returns : goal.returns
returns g c = λ p digest bare.
    let both = c.play_opened.ensures p digest bare in
    let few = readings_tree p digest in
    (subst (λ text. Leaves (seen g.S.Counted c.args.out.now) (seen g.S.Counted c.play_opened.new.out) (status_of c.play_opened.result) text) (replies_tree p digest) both.0, omega (arith, both.1, few))
