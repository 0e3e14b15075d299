use Rattle.std.proofs.Common.{refl, ap, ◌∙◌, inl, inr}
use Rattle.std.specs.Prelude.{codes}
use Rattle.prof_members.specs.declared.parts.ProfileMember.TheVariants as member
use Rattle.prof_members.specs.Named.{profile_name}
use Rattle.prof_schema.proofs.Slots.{takes}
use Rattle.prof_members.proofs.TableSlots.{parts_more}
use Rattle.prof_members.proofs.parts.ProfilePartsFromMembers.take_member.Goals as goal

pub returns-in_ok-self-in-Some-Meta-clause-member : goal.returns-in_ok-self-in-Some-Meta-clause-member
returns-in_ok-self-in-Some-Meta-clause-member g c =
    let read = c.in_ok-self-in-Some-Meta.ensures.value in
    takes _ _ _ _ _ c.name.result.now (codes "meta") c.name.ensures (c.in-Some-Meta.ensures.some ∙ ap profile_name c.in-Some-Meta.field-0-is) read.0 read.1
    (parts_more (codes "meta") read.0 _ _ (inl (refl, read.2)) (inr (refl, refl)) (inr (refl, refl)))

pub returns-in_ok-self-in-Some-Shared-clause-member : goal.returns-in_ok-self-in-Some-Shared-clause-member
returns-in_ok-self-in-Some-Shared-clause-member g c =
    let read = c.in_ok-self-in-Some-Shared.ensures.value in
    takes _ _ _ _ _ c.name.result.now (codes "shared") c.name.ensures (c.in-Some-Shared.ensures.some ∙ ap profile_name c.in-Some-Shared.field-0-is) read.0 read.1
    (parts_more (codes "shared") read.0 _ _ (inr (refl, refl)) (inl (refl, read.2)) (inr (refl, refl)))

pub returns-in_ok-self-in-Some-Threads-clause-member : goal.returns-in_ok-self-in-Some-Threads-clause-member
returns-in_ok-self-in-Some-Threads-clause-member g c =
    let read = c.in_ok-self-in-Some-Threads.ensures.list in
    takes _ _ _ _ _ c.name.result.now (codes "threads") c.name.ensures (c.in-Some-Threads.ensures.some ∙ ap profile_name c.in-Some-Threads.field-0-is) read.0 read.1
    (parts_more (codes "threads") read.0 _ _ (inr (refl, refl)) (inr (refl, refl)) (inl (refl, read.2)))

pub returns-in_ok-skip_member-in-None-clause-member : goal.returns-in_ok-skip_member-in-None-clause-member
returns-in_ok-skip_member-in-None-clause-member g c =
    let read = c.in_ok-skip_member-in-None.ensures.value in
    let other = c.in-None.ensures.none in
    takes _ _ _ _ _ c.name.result.now c.name.result.now c.name.ensures refl read.0 read.1
    (parts_more c.name.result.now read.0 _ _ (inr (other member.Meta, refl)) (inr (other member.Shared, refl)) (inr (other member.Threads, refl)))
