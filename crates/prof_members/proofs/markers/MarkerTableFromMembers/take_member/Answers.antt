use Rattle.std.proofs.Common.{refl, ap, ◌∙◌, inl, inr}
use Rattle.std.specs.Prelude.{codes}
use Rattle.prof_members.specs.declared.markers.MarkerMember.TheVariants as member
use Rattle.prof_members.specs.Named.{marker_name}
use Rattle.prof_schema.proofs.Slots.{takes}
use Rattle.prof_members.proofs.TableSlots.{markers_more}
use Rattle.prof_members.proofs.markers.MarkerTableFromMembers.take_member.Goals as goal

pub returns-in_ok-self-in-Some-Phase-clause-member : goal.returns-in_ok-self-in-Some-Phase-clause-member
returns-in_ok-self-in-Some-Phase-clause-member g c =
    let read = c.in_ok-self-in-Some-Phase.ensures.column in
    takes _ _ _ _ _ c.name.result.now (codes "phase") c.name.ensures (c.in-Some-Phase.ensures.some ∙ ap marker_name c.in-Some-Phase.field-0-is) read.0 read.1
    (markers_more (codes "phase") read.0 _ _ (inl (refl, read.2)) (inr (refl, refl)) (inr (refl, refl)) (inr (refl, refl)) (inr (refl, refl)) (inr (refl, refl)))

pub returns-in_ok-self-in-Some-Name-clause-member : goal.returns-in_ok-self-in-Some-Name-clause-member
returns-in_ok-self-in-Some-Name-clause-member g c =
    let read = c.in_ok-self-in-Some-Name.ensures.column in
    takes _ _ _ _ _ c.name.result.now (codes "name") c.name.ensures (c.in-Some-Name.ensures.some ∙ ap marker_name c.in-Some-Name.field-0-is) read.0 read.1
    (markers_more (codes "name") read.0 _ _ (inr (refl, refl)) (inl (refl, read.2)) (inr (refl, refl)) (inr (refl, refl)) (inr (refl, refl)) (inr (refl, refl)))

pub returns-in_ok-self-in-Some-StartTime-clause-member : goal.returns-in_ok-self-in-Some-StartTime-clause-member
returns-in_ok-self-in-Some-StartTime-clause-member g c =
    let read = c.in_ok-self-in-Some-StartTime.ensures.column in
    takes _ _ _ _ _ c.name.result.now (codes "startTime") c.name.ensures (c.in-Some-StartTime.ensures.some ∙ ap marker_name c.in-Some-StartTime.field-0-is) read.0 read.1
    (markers_more (codes "startTime") read.0 _ _ (inr (refl, refl)) (inr (refl, refl)) (inl (refl, read.2)) (inr (refl, refl)) (inr (refl, refl)) (inr (refl, refl)))

pub returns-in_ok-self-in-Some-EndTime-clause-member : goal.returns-in_ok-self-in-Some-EndTime-clause-member
returns-in_ok-self-in-Some-EndTime-clause-member g c =
    let read = c.in_ok-self-in-Some-EndTime.ensures.column in
    takes _ _ _ _ _ c.name.result.now (codes "endTime") c.name.ensures (c.in-Some-EndTime.ensures.some ∙ ap marker_name c.in-Some-EndTime.field-0-is) read.0 read.1
    (markers_more (codes "endTime") read.0 _ _ (inr (refl, refl)) (inr (refl, refl)) (inr (refl, refl)) (inl (refl, read.2)) (inr (refl, refl)) (inr (refl, refl)))

pub returns-in_ok-self-in-Some-Data-clause-member : goal.returns-in_ok-self-in-Some-Data-clause-member
returns-in_ok-self-in-Some-Data-clause-member g c =
    let read = c.in_ok-self-in-Some-Data.ensures.data in
    takes _ _ _ _ _ c.name.result.now (codes "data") c.name.ensures (c.in-Some-Data.ensures.some ∙ ap marker_name c.in-Some-Data.field-0-is) read.0 read.1
    (markers_more (codes "data") read.0 _ _ (inr (refl, refl)) (inr (refl, refl)) (inr (refl, refl)) (inr (refl, refl)) (inl (refl, read.2)) (inr (refl, refl)))

pub returns-in_ok-self-in-Some-Length-clause-member : goal.returns-in_ok-self-in-Some-Length-clause-member
returns-in_ok-self-in-Some-Length-clause-member g c =
    let read = c.in_ok-self-in-Some-Length.ensures.length in
    takes _ _ _ _ _ c.name.result.now (codes "length") c.name.ensures (c.in-Some-Length.ensures.some ∙ ap marker_name c.in-Some-Length.field-0-is) read.0 read.1
    (markers_more (codes "length") read.0 _ _ (inr (refl, refl)) (inr (refl, refl)) (inr (refl, refl)) (inr (refl, refl)) (inr (refl, refl)) (inl (refl, read.2)))

pub returns-in_ok-skip_member-in-None-clause-member : goal.returns-in_ok-skip_member-in-None-clause-member
returns-in_ok-skip_member-in-None-clause-member g c =
    let read = c.in_ok-skip_member-in-None.ensures.value in
    let other = c.in-None.ensures.none in
    takes _ _ _ _ _ c.name.result.now c.name.result.now c.name.ensures refl read.0 read.1
    (markers_more c.name.result.now read.0 _ _ (inr (other member.Phase, refl)) (inr (other member.Name, refl)) (inr (other member.StartTime, refl)) (inr (other member.EndTime, refl)) (inr (other member.Data, refl)) (inr (other member.Length, refl)))
