use Rattle.std.proofs.Common.{refl}
use Rattle.prof_schema.proofs.Slots.{takes}
use Rattle.prof_members.proofs.TableSlots.{shared_stay}
use Rattle.prof_members.proofs.shared.SharedTablesFromMembers.take_member.Goals as goal

pub returns-in_ok-skip_member-in-None-clause-member : goal.returns-in_ok-skip_member-in-None-clause-member
returns-in_ok-skip_member-in-None-clause-member g c =
    let read = c.in_ok-skip_member-in-None.ensures.value in
    takes _ _ _ _ _ c.name.result.now c.name.result.now c.name.ensures refl read.0 read.1 (shared_stay c.name.result.now read.0 c.args.self.now c.in-None.ensures.none)
