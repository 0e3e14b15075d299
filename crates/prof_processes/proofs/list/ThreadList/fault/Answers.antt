use Rattle.std.proofs.Common.{◌<◌, ◌≤◌, ◌∙◌, ap, arith, rules, Some, length}
use Rattle.prof_raw.specs.declared.limits.TheConstants.{MOST_THREADS}
use Rattle.prof_processes.proofs.ThreadLists.{fault_of, threads_over, threads_within}
use Rattle.prof_processes.proofs.list.ThreadList.fault.Goals as goal

pub returns-in-Array : goal.returns-in-Array
returns-in-Array c member h =
    let many : MOST_THREADS < length c.args.self.now.threads.items = let l = c.len.ensures in let t = c.if-len.true in omega arith in
    ap Some c.whole-in-Array.ensures ∙ threads_over member c.args.self.now h c.in-Array.is many

pub returns-in-Array-2 : goal.returns-in-Array-2
returns-in-Array-2 c member h =
    let few : length c.args.self.now.threads.items ≤ MOST_THREADS = let l = c.len.ensures in let t = c.if-len.false in omega arith in
    fault_of c.args.self.now.bad c.map.result _ (λ n l q. search rules) c.map.ensures.cases ∙ threads_within member c.args.self.now h c.in-Array-2.is few
