use Rattle.std.proofs.Common.{◌<◌, ◌≤◌, ◌∙◌, sym, ap, arith, rules, ℕ, Option, Some, length}
use Rattle.prof_raw.specs.declared.limits.TheConstants.{MOST_THREADS}
use Rattle.std.specs.Option.{option_map}
use Rattle.prof_layout.specs.Lists.{is_object, wrong_kind}
use Rattle.prof_column.specs.Kept.{kept_items}
use Rattle.prof_members.proofs.WholeLists.{fault_of, needed_over, needed_within, threads-count}
use Rattle.prof_members.proofs.lists.ThreadList.fault.Goals as goal

pub returns-in-Array-clause-is : goal.returns-in-Array-clause-is
returns-in-Array-clause-is c member h =
    let count = threads-count (kept_items MOST_THREADS member) c.args.self.now.threads.items h.threads in
    let many : MOST_THREADS < length (kept_items MOST_THREADS member) = let l = c.len.ensures in let t = c.if-len.true in omega arith in
    ap Some c.whole-in-Array.ensures ∙ sym (needed_over is_object MOST_THREADS member (sym h.state ∙ c.in-Array.is) many)

pub returns-in-Array-2-clause-is : goal.returns-in-Array-2-clause-is
returns-in-Array-2-clause-is c member h =
    let count = threads-count (kept_items MOST_THREADS member) c.args.self.now.threads.items h.threads in
    let few : length (kept_items MOST_THREADS member) ≤ MOST_THREADS = let l = c.len.ensures in let t = c.if-len.false in omega arith in
    let within = needed_within is_object MOST_THREADS member (sym h.state ∙ c.in-Array-2.is) few in
    fault_of c.args.self.now.bad c.map.result _ (λ n l q. search rules) c.map.ensures.cases ∙ ap (λ (o : Option ℕ). option_map wrong_kind o) h.bad ∙ sym within
