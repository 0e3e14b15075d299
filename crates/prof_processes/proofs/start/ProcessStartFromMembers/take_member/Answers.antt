use Rattle.std.proofs.Common.{refl, inl, inr}
use Rattle.std.specs.Prelude.{codes}
use Rattle.prof_schema.proofs.Slots.{takes, differs, slot_after}
use Rattle.prof_processes.specs.Libs.{IsStart}
use Rattle.prof_processes.proofs.start.ProcessStartFromMembers.take_member.Goals as goal

pub returns-in_ok-self-in-startTime-clause-member : goal.returns-in_ok-self-in-startTime-clause-member
returns-in_ok-self-in-startTime-clause-member g c =
    let read = c.in_ok-self-in-startTime.ensures.start in
    takes _ _ _ _ _ c.name.result.now (codes "startTime") c.name.ensures c.in-startTime.is read.0 read.1
    (slot_after IsStart (codes "startTime") (codes "startTime") read.0 c.args.self.now _ (inl (refl, read.2)))

pub returns-in_ok-skip_member-in_default-clause-member : goal.returns-in_ok-skip_member-in_default-clause-member
returns-in_ok-skip_member-in_default-clause-member g c =
    let read = c.in_ok-skip_member-in_default.ensures.value in
    takes _ _ _ _ _ c.name.result.now c.name.result.now c.name.ensures refl read.0 read.1
    (slot_after IsStart (codes "startTime") c.name.result.now read.0 c.args.self.now c.args.self.now (inr (differs c.name.result.now (codes "startTime") c.in_default.not-startTime, refl)))
