use Rattle.std.proofs.Common.{◌≡◌, ◌≤◌, ◌∙◌, sym, ap, arith, Option, Some, None, Bool, ℕ, length}
use Rattle.std.specs.Prelude.{if◌then◌else◌}
use Rattle.std.specs.Option.{option_or}
use Rattle.prof_raw.specs.declared.limits.TheConstants.{MOST_THREADS}
use Rattle.prof_grammar.specs.Value.{no_members}
use Rattle.prof_processes.proofs.ThreadLists.{thread_added, other_cells}
use Rattle.prof_processes.proofs.list.ThreadList.add_other.Goals as goal

pub returns : goal.returns
returns c v other first vs h =
    let few : length c.args.self.now.threads.items ≤ MOST_THREADS = let r = c.requires in omega arith in
    let row : c.len-row.result ≡ length c.args.self.now.threads.items = let l = c.len-row.ensures in omega arith in
    let bad =
    c.or-self.ensures
    ∙ ap (λ (n : ℕ). option_or c.args.self.now.bad (Some n)) row
    ∙ ap (λ (b : Bool). option_or c.args.self.now.bad (let o : Option ℕ = if b then None else Some (length c.args.self.now.threads.items) in o)) (sym other) in
    thread_added c.args.self.now _ v c.in_ok-thread.thread few c.in_ok-push.ensures.items (c.in_ok-thread.ensures no_members c.in_ok-none.ensures ∙ other_cells v other) bad first vs h
