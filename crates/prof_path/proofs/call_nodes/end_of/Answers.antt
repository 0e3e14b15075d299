use Rattle.std.proofs.Common.{◌≡◌, ◌+◌, ◌<◌, true, false, length, drop, get_or, sym, ◌∙◌, arith}
use Rattle.prof_tables.specs.declared.rows.Step.{Step}
use Rattle.prof_path.specs.Shown.{shown}
use Rattle.prof_path.specs.Rewriting.{meets}
use Rattle.prof_path.proofs.EndPlaces.{from-hidden, from-missed, from-last, from-next}
use Rattle.prof_path.proofs.call_nodes.end_of.Goals as goal
use Rattle.prof_path.proofs.call_nodes.end_of.Goals.{then-visible+else-not-meets+else-met-funcs, else-visible}

abbrev none : Step
none = record { func = 0; category = 0 }

pub returns-then-not-meets-clause-place : goal.returns-then-not-meets-clause-place
returns-then-not-meets-clause-place c =
    let t = c.args.thread.now.shared in
    let x = c.args.path.now in
    let n = c.loop-place.place in
    let h : shown t c.args.filter (get_or x n none).func ≡ true = cc in
    let m : meets c.args.funcs.now c.loop-place.met (get_or x n none).func ≡ false = cc in
    sym (from-missed t c.args.filter x n none (omega arith) c.args.funcs.now c.loop-place.met h m) ∙ c.loop-place.invariant

pub overflow_add-met : goal.overflow_add-met
overflow_add-met c =
    let w : c.loop-place.met < length c.args.funcs.now = c.meets.ensures.within cc in
    omega arith

pub returns-then-met-funcs-clause-place : goal.returns-then-met-funcs-clause-place
returns-then-met-funcs-clause-place c =
    let t = c.args.thread.now.shared in
    let x = c.args.path.now in
    let n = c.loop-place.place in
    let h : shown t c.args.filter (get_or x n none).func ≡ true = cc in
    let m : meets c.args.funcs.now c.loop-place.met (get_or x n none).func ≡ true = cc in
    sym (from-last t c.args.filter x n none (omega arith) c.args.funcs.now c.loop-place.met h m c.if-met-funcs.true) ∙ c.loop-place.invariant

pub loop-place-preserved : goal.loop-place-preserved
loop-place-preserved c =
    let t = c.args.thread.now.shared in
    let x = c.args.path.now in
    let n = c.loop-place.place in
    let q = c.args.funcs.now in
    elim c.if-visible.branch [
      | then-visible+else-not-meets+else-met-funcs w ↦
          let h : shown t c.args.filter (get_or x n none).func ≡ true = cc in
          let m : meets q c.loop-place.met (get_or x n none).func ≡ true = cc in
          let lt : c.loop-place.met < length q = w.meets.ensures.within cc in
          let more : c.loop-place.met + 1 < length q = omega arith in
          rw w.met-is (from-next t c.args.filter x n none (omega arith) q c.loop-place.met h m more ∙ c.loop-place.invariant)
      | else-visible w ↦
          let h : shown t c.args.filter (get_or x n none).func ≡ false = cc in
          rw w.met-is (from-hidden t c.args.filter x n none (omega arith) (drop c.loop-place.met q) h ∙ c.loop-place.invariant)
    ]
