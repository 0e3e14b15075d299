use Rattle.std.proofs.Common.{◌≡◌, ◌+◌, ◌-◌, ◌<◌, true, false, length, drop, take, get_or, sym, ◌∙◌, ap, arith}
use Rattle.prof_tables.specs.declared.rows.Step.{Step}
use Rattle.prof_path.specs.Shown.{shown}
use Rattle.prof_path.specs.Rewriting.{meets, up_to_end}
use Rattle.prof_path.proofs.EndPlaces.{upto-hidden, upto-missed, upto-last, upto-next}
use Rattle.prof_path.proofs.call_nodes.length_up_to_end.Goals as goal

abbrev none : Step
none = record { func = 0; category = 0 }

pub returns-then-not-meets-clause-steps : goal.returns-then-not-meets-clause-steps
returns-then-not-meets-clause-steps c =
    let t = c.args.thread.now.shared in
    let x = c.args.path.now in
    let n = c.loop-place.place - 1 in
    let q = c.args.funcs.now in
    let e : c.loop-place.place ≡ n + 1 = omega arith in
    let h : shown t c.args.filter (get_or x n none).func ≡ true = cc in
    let m : meets q c.loop-place.met (get_or x n none).func ≡ false = cc in
    sym (upto-missed t c.args.filter x n none (omega arith) q c.loop-place.met h m) ∙ ap (λ k. up_to_end t c.args.filter (drop c.loop-place.met q) (take k x)) (sym e) ∙ c.loop-place.invariant

pub overflow_add-met : goal.overflow_add-met
overflow_add-met c =
    let w : c.loop-place.met < length c.args.funcs.now = c.meets.ensures.within cc in
    omega arith

pub returns-then-met-funcs-clause-steps : goal.returns-then-met-funcs-clause-steps
returns-then-met-funcs-clause-steps c =
    let t = c.args.thread.now.shared in
    let x = c.args.path.now in
    let n = c.loop-place.place - 1 in
    let q = c.args.funcs.now in
    let e : c.loop-place.place ≡ n + 1 = omega arith in
    let h : shown t c.args.filter (get_or x n none).func ≡ true = cc in
    let m : meets q c.loop-place.met (get_or x n none).func ≡ true = cc in
    sym (upto-last t c.args.filter x n none (omega arith) q c.loop-place.met h m c.if-met-funcs.true) ∙ ap (λ k. up_to_end t c.args.filter (drop c.loop-place.met q) (take k x)) (sym e) ∙ c.loop-place.invariant

pub loop-place-preserved-else-met-funcs : goal.loop-place-preserved-else-met-funcs
loop-place-preserved-else-met-funcs c =
    let t = c.args.thread.now.shared in
    let x = c.args.path.now in
    let n = c.loop-place.place - 1 in
    let q = c.args.funcs.now in
    let e : c.loop-place.place ≡ n + 1 = omega arith in
    let h : shown t c.args.filter (get_or x n none).func ≡ true = cc in
    let m : meets q c.loop-place.met (get_or x n none).func ≡ true = cc in
    let lt : c.loop-place.met < length q = c.meets.ensures.within cc in
    let more : c.loop-place.met + 1 < length q = omega arith in
    upto-next t c.args.filter x n none (omega arith) q c.loop-place.met h m more ∙ ap (λ k. up_to_end t c.args.filter (drop c.loop-place.met q) (take k x)) (sym e) ∙ c.loop-place.invariant

pub loop-place-preserved : goal.loop-place-preserved
loop-place-preserved c =
    let t = c.args.thread.now.shared in
    let x = c.args.path.now in
    let n = c.loop-place.place - 1 in
    let q = drop c.loop-place.met c.args.funcs.now in
    let e : c.loop-place.place ≡ n + 1 = omega arith in
    let h : shown t c.args.filter (get_or x n none).func ≡ false = cc in
    sym (upto-hidden t c.args.filter x n none (omega arith) q h) ∙ ap (λ k. up_to_end t c.args.filter q (take k x)) (sym e) ∙ c.loop-place.invariant
