use Rattle.std.proofs.Common.{refl, inl, inr}
use Rattle.std.specs.Prelude.{codes}
use Rattle.prof_schema.proofs.Slots.{takes, differs}
use Rattle.prof_processes.proofs.LibSlots.{lib_more}
use Rattle.prof_processes.proofs.libs.LibMembersFromMembers.take_member.Goals as goal

pub returns-in_ok-self-in-name-clause-member : goal.returns-in_ok-self-in-name-clause-member
returns-in_ok-self-in-name-clause-member g c =
    let read = c.in_ok-self-in-name.ensures.text in
    takes _ _ _ _ _ c.name.result.now (codes "name") c.name.ensures c.in-name.is read.0 read.1
    (lib_more (codes "name") read.0 _ _ (inl (refl, read.2)) (inr (refl, refl)) (inr (refl, refl)))

pub returns-in_ok-self-in-start-clause-member : goal.returns-in_ok-self-in-start-clause-member
returns-in_ok-self-in-start-clause-member g c =
    let read = c.in_ok-self-in-start.ensures.bound in
    takes _ _ _ _ _ c.name.result.now (codes "start") c.name.ensures c.in-start.is read.0 read.1
    (lib_more (codes "start") read.0 _ _ (inr (refl, refl)) (inl (refl, read.2)) (inr (refl, refl)))

pub returns-in_ok-self-in-end-clause-member : goal.returns-in_ok-self-in-end-clause-member
returns-in_ok-self-in-end-clause-member g c =
    let read = c.in_ok-self-in-end.ensures.bound in
    takes _ _ _ _ _ c.name.result.now (codes "end") c.name.ensures c.in-end.is read.0 read.1
    (lib_more (codes "end") read.0 _ _ (inr (refl, refl)) (inr (refl, refl)) (inl (refl, read.2)))

pub returns-in_ok-skip_member-in_default-clause-member : goal.returns-in_ok-skip_member-in_default-clause-member
returns-in_ok-skip_member-in_default-clause-member g c =
    let read = c.in_ok-skip_member-in_default.ensures.value in
    let name = c.name.result.now in
    takes _ _ _ _ _ name name c.name.ensures refl read.0 read.1
    (lib_more name read.0 c.args.self.now c.args.self.now (inr (differs name (codes "name") c.in_default.not-name, refl)) (inr (differs name (codes "start") c.in_default.not-start, refl)) (inr (differs name (codes "end") c.in_default.not-end, refl)))
