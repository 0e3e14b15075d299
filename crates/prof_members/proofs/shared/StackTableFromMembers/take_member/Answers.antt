use Rattle.std.proofs.Common.{refl, ap, ◌∙◌, inl, inr}
use Rattle.std.specs.Prelude.{codes}
use Rattle.prof_members.specs.declared.shared.StackMember.TheVariants as member
use Rattle.prof_members.specs.Named.{stack_member_name}
use Rattle.prof_schema.proofs.Slots.{takes}
use Rattle.prof_members.proofs.SharedSlots.{stacks_more}
use Rattle.prof_members.proofs.shared.StackTableFromMembers.take_member.Goals as goal

pub returns-in_ok-self-in-Some-Frame-clause-member : goal.returns-in_ok-self-in-Some-Frame-clause-member
returns-in_ok-self-in-Some-Frame-clause-member g c =
    let read = c.in_ok-self-in-Some-Frame.ensures.column in
    takes _ _ _ _ _ c.name.result.now (codes "frame") c.name.ensures (c.in-Some-Frame.ensures.some ∙ ap stack_member_name c.in-Some-Frame.field-0-is) read.0 read.1
    (stacks_more (codes "frame") read.0 _ _ (inl (refl, read.2)) (inr (refl, refl)) (inr (refl, refl)))

pub returns-in_ok-self-in-Some-Prefix-clause-member : goal.returns-in_ok-self-in-Some-Prefix-clause-member
returns-in_ok-self-in-Some-Prefix-clause-member g c =
    let read = c.in_ok-self-in-Some-Prefix.ensures.column in
    takes _ _ _ _ _ c.name.result.now (codes "prefix") c.name.ensures (c.in-Some-Prefix.ensures.some ∙ ap stack_member_name c.in-Some-Prefix.field-0-is) read.0 read.1
    (stacks_more (codes "prefix") read.0 _ _ (inr (refl, refl)) (inl (refl, read.2)) (inr (refl, refl)))

pub returns-in_ok-self-in-Some-Length-clause-member : goal.returns-in_ok-self-in-Some-Length-clause-member
returns-in_ok-self-in-Some-Length-clause-member g c =
    let read = c.in_ok-self-in-Some-Length.ensures.length in
    takes _ _ _ _ _ c.name.result.now (codes "length") c.name.ensures (c.in-Some-Length.ensures.some ∙ ap stack_member_name c.in-Some-Length.field-0-is) read.0 read.1
    (stacks_more (codes "length") read.0 _ _ (inr (refl, refl)) (inr (refl, refl)) (inl (refl, read.2)))

pub returns-in_ok-skip_member-in-None-clause-member : goal.returns-in_ok-skip_member-in-None-clause-member
returns-in_ok-skip_member-in-None-clause-member g c =
    let read = c.in_ok-skip_member-in-None.ensures.value in
    let other = c.in-None.ensures.none in
    takes _ _ _ _ _ c.name.result.now c.name.result.now c.name.ensures refl read.0 read.1
    (stacks_more c.name.result.now read.0 _ _ (inr (other member.Frame, refl)) (inr (other member.Prefix, refl)) (inr (other member.Length, refl)))
