use Rattle.std.proofs.Common.{refl, ap, ◌∙◌, inl, inr}
use Rattle.std.specs.Prelude.{codes}
use Rattle.prof_members.specs.declared.shared.ResourceMember.TheVariants as member
use Rattle.prof_members.specs.Named.{resource_member_name}
use Rattle.prof_schema.proofs.Slots.{takes}
use Rattle.prof_members.proofs.SharedSlots.{resources_more}
use Rattle.prof_members.proofs.shared.ResourceTableFromMembers.take_member.Goals as goal

pub returns-in_ok-self-in-Some-Name-clause-member : goal.returns-in_ok-self-in-Some-Name-clause-member
returns-in_ok-self-in-Some-Name-clause-member g c =
    let read = c.in_ok-self-in-Some-Name.ensures.column in
    takes _ _ _ _ _ c.name.result.now (codes "name") c.name.ensures (c.in-Some-Name.ensures.some ∙ ap resource_member_name c.in-Some-Name.field-0-is) read.0 read.1
    (resources_more (codes "name") read.0 _ _ (inl (refl, read.2)) (inr (refl, refl)))

pub returns-in_ok-self-in-Some-Length-clause-member : goal.returns-in_ok-self-in-Some-Length-clause-member
returns-in_ok-self-in-Some-Length-clause-member g c =
    let read = c.in_ok-self-in-Some-Length.ensures.length in
    takes _ _ _ _ _ c.name.result.now (codes "length") c.name.ensures (c.in-Some-Length.ensures.some ∙ ap resource_member_name c.in-Some-Length.field-0-is) read.0 read.1
    (resources_more (codes "length") read.0 _ _ (inr (refl, refl)) (inl (refl, read.2)))

pub returns-in_ok-skip_member-in-None-clause-member : goal.returns-in_ok-skip_member-in-None-clause-member
returns-in_ok-skip_member-in-None-clause-member g c =
    let read = c.in_ok-skip_member-in-None.ensures.value in
    let other = c.in-None.ensures.none in
    takes _ _ _ _ _ c.name.result.now c.name.result.now c.name.ensures refl read.0 read.1
    (resources_more c.name.result.now read.0 _ _ (inr (other member.Name, refl)) (inr (other member.Length, refl)))
