use Rattle.std.proofs.Common.{refl, ap, ◌∙◌, inl, inr}
use Rattle.std.specs.Prelude.{codes}
use Rattle.prof_members.specs.declared.shared.FrameMember.TheVariants as member
use Rattle.prof_members.specs.Named.{frame_member_name}
use Rattle.prof_schema.proofs.Slots.{takes}
use Rattle.prof_members.proofs.SharedSlots.{frames_more}
use Rattle.prof_members.proofs.shared.FrameTableFromMembers.take_member.Goals as goal

pub returns-in_ok-self-in-Some-Func-clause-member : goal.returns-in_ok-self-in-Some-Func-clause-member
returns-in_ok-self-in-Some-Func-clause-member g c =
    let read = c.in_ok-self-in-Some-Func.ensures.column in
    takes _ _ _ _ _ c.name.result.now (codes "func") c.name.ensures (c.in-Some-Func.ensures.some ∙ ap frame_member_name c.in-Some-Func.field-0-is) read.0 read.1
    (frames_more (codes "func") read.0 _ _ (inl (refl, read.2)) (inr (refl, refl)) (inr (refl, refl)))

pub returns-in_ok-self-in-Some-Category-clause-member : goal.returns-in_ok-self-in-Some-Category-clause-member
returns-in_ok-self-in-Some-Category-clause-member g c =
    let read = c.in_ok-self-in-Some-Category.ensures.column in
    takes _ _ _ _ _ c.name.result.now (codes "category") c.name.ensures (c.in-Some-Category.ensures.some ∙ ap frame_member_name c.in-Some-Category.field-0-is) read.0 read.1
    (frames_more (codes "category") read.0 _ _ (inr (refl, refl)) (inl (refl, read.2)) (inr (refl, refl)))

pub returns-in_ok-self-in-Some-Length-clause-member : goal.returns-in_ok-self-in-Some-Length-clause-member
returns-in_ok-self-in-Some-Length-clause-member g c =
    let read = c.in_ok-self-in-Some-Length.ensures.length in
    takes _ _ _ _ _ c.name.result.now (codes "length") c.name.ensures (c.in-Some-Length.ensures.some ∙ ap frame_member_name c.in-Some-Length.field-0-is) read.0 read.1
    (frames_more (codes "length") read.0 _ _ (inr (refl, refl)) (inr (refl, refl)) (inl (refl, read.2)))

pub returns-in_ok-skip_member-in-None-clause-member : goal.returns-in_ok-skip_member-in-None-clause-member
returns-in_ok-skip_member-in-None-clause-member g c =
    let read = c.in_ok-skip_member-in-None.ensures.value in
    let other = c.in-None.ensures.none in
    takes _ _ _ _ _ c.name.result.now c.name.result.now c.name.ensures refl read.0 read.1
    (frames_more c.name.result.now read.0 _ _ (inr (other member.Func, refl)) (inr (other member.Category, refl)) (inr (other member.Length, refl)))
