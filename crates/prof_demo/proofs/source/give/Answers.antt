use Rattle.std.proofs.Common.{◌≡◌, ◌∙◌, length, arith, length-take}
use Rattle.std.proofs.lemmas.List.{take_at, take_rest}
use Rattle.prof_demo.proofs.Given.{left_split}
use Rattle.prof_demo.proofs.source.give.Goals as goal

pub returns-clause-given : goal.returns-clause-given
returns-clause-given c =
    let got = c.copy_from_slice.new.self in
    let n = c.min-count.result in
    let len : length got ≡ n = omega (arith, length-take n c.args.buf.now) in
    left_split _ _ c.args.at n (take_at got _ n len ∙ (simp take_rest at c.copy_from_slice.ensures.after))
