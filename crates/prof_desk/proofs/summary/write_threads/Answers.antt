use Rattle.std.proofs.Common.{◌∙◌, ◌<◌, ◌≤◌, ◌+◌, ◌++◌, length, take, drop, ap, sym, arith}
use Rattle.std.specs.List.{flat_map}
use Rattle.std.proofs.lemmas.List.{take_all}
use Rattle.prof_desk.specs.Summary.{thread_line}
use Rattle.prof_desk.proofs.Held.{length-numbered, numbered, numbered_at}
use Rattle.prof_page.proofs.Pages.{gathers_on, gathers_ok, gathers_same, gathers_end, gathers_failed}
use Rattle.prof_reply.proofs.Pieces.{flat_more, flat_rest}
use Rattle.prof_writer.proofs.Outputs.{writes_as}
use Rattle.prof_desk.proofs.summary.write_threads.Goals as goal

pub returns-in_err-add_thread : goal.returns-in_err-add_thread
returns-in_err-add_thread g c =
    let threads = c.args.threads.now in
    let i = c.loop-number.number in
    let t = c.deref.result.now in
    let all = numbered threads in
    let many = length-numbered threads in
    let here : i < length threads = omega arith in
    let below : i < length all = omega arith in
    let at = numbered_at threads i c.index-threads-number.result t here c.index-threads-number.is c.deref.ensures in
    gathers_failed _ _ _ tt _ _ _ _ _ _ _ _ c.from_residual.ensures.0 c.loop-number.invariant c.in_err-add_thread.ensures
    (flat_rest thread_line all i (i, t) below ∙ ap (λ l. flat_map thread_line (take i all) ++ (l ++ flat_map thread_line (drop (i + 1) all))) (ap thread_line at))

pub loop-number-preserved : goal.loop-number-preserved
loop-number-preserved g c =
    let threads = c.args.threads.now in
    let i = c.loop-number.number in
    let t = c.deref.result.now in
    let all = numbered threads in
    let many = length-numbered threads in
    let here : i < length threads = omega arith in
    let below : i < length all = omega arith in
    let at = numbered_at threads i c.index-threads-number.result t here c.index-threads-number.is c.deref.ensures in
    gathers_same _ _ _ _ _ _ _
    (gathers_on _ _ _ tt _ _ _ _ _ _ c.loop-number.invariant (gathers_ok _ _ _ _ _ _ _ c.in_ok-add_thread.ensures))
    (sym (flat_more thread_line all i (i, t) below ∙ ap (λ l. flat_map thread_line (take i all) ++ l) (ap thread_line at)))

pub returns : goal.returns
returns g c =
    let threads = c.args.threads.now in
    let all = numbered threads in
    let many = length-numbered threads in
    let over : length threads ≤ c.loop-number.number = omega arith in
    let past : length all ≤ c.loop-number.number = omega arith in
    writes_as (ap (flat_map thread_line) (take_all c.loop-number.number all past)) (gathers_end _ _ _ tt _ _ _ c.loop-number.invariant c.write_page.ensures.written)
