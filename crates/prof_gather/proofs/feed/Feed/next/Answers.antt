use Rattle.std.proofs.Common.{ap, subst, Ok}
use Rattle.prof_gather.specs.Feeding.{Told, told_of, Gives}
use Rattle.prof_gather.proofs.Kept.{next_keeps, fault_keeps, next_gives}
use Rattle.prof_gather.proofs.SoFar.{comes_of, ends_of, fails_here}
use Rattle.prof_gather.proofs.feed.Feed.next.Goals as goal

pub invariant_of-self-2 : goal.invariant_of-self-2
invariant_of-self-2 g c =
    let said = c.in_ok-event.ensures in
    next_keeps c.self.inside.reader c.next.new.self c.in_ok-event.event _ _ _ _ _ _ _ _ _ _ _ _ _ _ _ _ c.self.invariant said.nest said.last said.limit said.told said.sound.0 said.sound.1 said.within said.written said.place (said.steady (λ e. cc)) (λ s w. (said.sure (s w)).0)

pub returns-clause-ok : goal.returns-clause-ok
returns-clause-ok g c =
    let said = c.in_ok-event.ensures in
    let P : Told → Type 0 = λ t. Gives t c.in_ok-event.event (told_of c.next.new.self (g.R.Counted.left c.next.new.src.src)) in
    subst P c.self.view_is (next_gives c.self.inside.reader c.next.new.self (g.R.Counted.left c.self.inside.src.src) _ c.in_ok-event.event c.self.invariant.nest said.sound.0 said.nest said.last said.further said.limit said.within (λ e. said.end (ap Ok e)) said.sound.1 (comes_of c.self.inside.reader c.next.new.self _ _ _ said.told) (λ e. ends_of c.self.inside.reader _ (said.finished (ap Ok e))))
