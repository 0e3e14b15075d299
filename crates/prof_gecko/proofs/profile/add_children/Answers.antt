use Rattle.std.proofs.Common.{◌++◌, sym, ◌∙◌, ap}
use Rattle.prof_gecko.specs.Gathered.{joined}
use Rattle.prof_gecko.specs.Work.{entries_left}
use Rattle.prof_gecko.proofs.Walking.{child_moves, no_items}
use Rattle.prof_gecko.proofs.profile.add_children.Goals as goal

pub loop-child-preserved : goal.loop-child-preserved
loop-child-preserved c = child_moves c.loop-child.children.items c.pop.new.self.items c.in-Some.child c.loop-child.work.items c.push.new.self.items c.in-Some.ensures.items c.in_ok-push.ensures.items
    ∙ c.loop-child.invariant

pub returns : goal.returns
returns c =
    let none = no_items c.loop-child.children.items (sym c.loop-child.children.ok.0 ∙ c.in_default.ensures.cases.0) in
    ap (λ es. joined es ++ entries_left c.loop-child.work.items) (sym none) ∙ c.loop-child.invariant
