use Rattle.std.proofs.Common.{refl, ap, ◌∙◌, inl, inr}
use Rattle.std.specs.Prelude.{codes}
use Rattle.prof_members.specs.declared.shared.FuncMember.TheVariants as member
use Rattle.prof_members.specs.Named.{func_member_name}
use Rattle.prof_schema.proofs.Slots.{takes}
use Rattle.prof_members.proofs.SharedSlots.{funcs_more}
use Rattle.prof_members.proofs.shared.FuncTableFromMembers.take_member.Goals as goal

pub returns-in_ok-self-in-Some-Name-clause-member : goal.returns-in_ok-self-in-Some-Name-clause-member
returns-in_ok-self-in-Some-Name-clause-member g c =
    let read = c.in_ok-self-in-Some-Name.ensures.column in
    takes _ _ _ _ _ c.name.result.now (codes "name") c.name.ensures (c.in-Some-Name.ensures.some ∙ ap func_member_name c.in-Some-Name.field-0-is) read.0 read.1
    (funcs_more (codes "name") read.0 _ _ (inl (refl, read.2)) (inr (refl, refl)) (inr (refl, refl)) (inr (refl, refl)) (inr (refl, refl)) (inr (refl, refl)))

pub returns-in_ok-self-in-Some-IsJs-clause-member : goal.returns-in_ok-self-in-Some-IsJs-clause-member
returns-in_ok-self-in-Some-IsJs-clause-member g c =
    let read = c.in_ok-self-in-Some-IsJs.ensures.column in
    takes _ _ _ _ _ c.name.result.now (codes "isJS") c.name.ensures (c.in-Some-IsJs.ensures.some ∙ ap func_member_name c.in-Some-IsJs.field-0-is) read.0 read.1
    (funcs_more (codes "isJS") read.0 _ _ (inr (refl, refl)) (inl (refl, read.2)) (inr (refl, refl)) (inr (refl, refl)) (inr (refl, refl)) (inr (refl, refl)))

pub returns-in_ok-self-in-Some-RelevantForJs-clause-member : goal.returns-in_ok-self-in-Some-RelevantForJs-clause-member
returns-in_ok-self-in-Some-RelevantForJs-clause-member g c =
    let read = c.in_ok-self-in-Some-RelevantForJs.ensures.column in
    takes _ _ _ _ _ c.name.result.now (codes "relevantForJS") c.name.ensures (c.in-Some-RelevantForJs.ensures.some ∙ ap func_member_name c.in-Some-RelevantForJs.field-0-is) read.0 read.1
    (funcs_more (codes "relevantForJS") read.0 _ _ (inr (refl, refl)) (inr (refl, refl)) (inl (refl, read.2)) (inr (refl, refl)) (inr (refl, refl)) (inr (refl, refl)))

pub returns-in_ok-self-in-Some-Resource-clause-member : goal.returns-in_ok-self-in-Some-Resource-clause-member
returns-in_ok-self-in-Some-Resource-clause-member g c =
    let read = c.in_ok-self-in-Some-Resource.ensures.column in
    takes _ _ _ _ _ c.name.result.now (codes "resource") c.name.ensures (c.in-Some-Resource.ensures.some ∙ ap func_member_name c.in-Some-Resource.field-0-is) read.0 read.1
    (funcs_more (codes "resource") read.0 _ _ (inr (refl, refl)) (inr (refl, refl)) (inr (refl, refl)) (inl (refl, read.2)) (inr (refl, refl)) (inr (refl, refl)))

pub returns-in_ok-self-in-Some-FileName-clause-member : goal.returns-in_ok-self-in-Some-FileName-clause-member
returns-in_ok-self-in-Some-FileName-clause-member g c =
    let read = c.in_ok-self-in-Some-FileName.ensures.column in
    takes _ _ _ _ _ c.name.result.now (codes "fileName") c.name.ensures (c.in-Some-FileName.ensures.some ∙ ap func_member_name c.in-Some-FileName.field-0-is) read.0 read.1
    (funcs_more (codes "fileName") read.0 _ _ (inr (refl, refl)) (inr (refl, refl)) (inr (refl, refl)) (inr (refl, refl)) (inl (refl, read.2)) (inr (refl, refl)))

pub returns-in_ok-self-in-Some-Length-clause-member : goal.returns-in_ok-self-in-Some-Length-clause-member
returns-in_ok-self-in-Some-Length-clause-member g c =
    let read = c.in_ok-self-in-Some-Length.ensures.length in
    takes _ _ _ _ _ c.name.result.now (codes "length") c.name.ensures (c.in-Some-Length.ensures.some ∙ ap func_member_name c.in-Some-Length.field-0-is) read.0 read.1
    (funcs_more (codes "length") read.0 _ _ (inr (refl, refl)) (inr (refl, refl)) (inr (refl, refl)) (inr (refl, refl)) (inr (refl, refl)) (inl (refl, read.2)))

pub returns-in_ok-skip_member-in-None-clause-member : goal.returns-in_ok-skip_member-in-None-clause-member
returns-in_ok-skip_member-in-None-clause-member g c =
    let read = c.in_ok-skip_member-in-None.ensures.value in
    let other = c.in-None.ensures.none in
    takes _ _ _ _ _ c.name.result.now c.name.result.now c.name.ensures refl read.0 read.1
    (funcs_more c.name.result.now read.0 _ _ (inr (other member.Name, refl)) (inr (other member.IsJs, refl)) (inr (other member.RelevantForJs, refl)) (inr (other member.Resource, refl)) (inr (other member.FileName, refl)) (inr (other member.Length, refl)))
