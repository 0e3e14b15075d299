use Rattle.std.proofs.Common.{◌++◌, sym, ◌∙◌, ap}
use Rattle.prof_gecko.specs.Gathered.{fault_entries}
use Rattle.prof_gecko.specs.Work.{entries_left}
use Rattle.prof_gecko.proofs.Walking.{fault_moves}
use Rattle.prof_gecko.proofs.profile.add_fault.Goals as goal

pub returns-in_ok-push-in-Some : goal.returns-in_ok-push-in-Some
returns-in_ok-push-in-Some c = fault_moves c.args.work.now.items _ c.in-Some.fault c.in_ok-push-in-Some.ensures.items
    ∙ ap (λ f. fault_entries f ++ entries_left c.args.work.now.items) (sym c.in-Some.is)
