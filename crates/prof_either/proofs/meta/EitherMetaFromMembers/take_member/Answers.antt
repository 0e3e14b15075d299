use Rattle.std.proofs.Common.{refl, ap, ◌∙◌, inl, inr}
use Rattle.std.specs.Prelude.{codes}
use Rattle.prof_schema.proofs.Slots.{takes}
use Rattle.prof_either.specs.Named.{meta_name}
use Rattle.prof_either.specs.declared.meta.MetaMember.TheVariants as member
use Rattle.prof_either.proofs.PartSlots.{meta_more}
use Rattle.prof_either.proofs.meta.EitherMetaFromMembers.take_member.Goals as goal

pub returns-in_ok-skip_member-in-Some-ProcessedVersion-clause-member : goal.returns-in_ok-skip_member-in-Some-ProcessedVersion-clause-member
returns-in_ok-skip_member-in-Some-ProcessedVersion-clause-member g c =
    let read = c.in_ok-skip_member-in-Some-ProcessedVersion.ensures.value in
    takes _ _ _ _ _ c.name.result.now (codes "preprocessedProfileVersion") c.name.ensures (c.in-Some-ProcessedVersion.ensures.some ∙ ap meta_name c.in-Some-ProcessedVersion.field-0-is) read.0 read.1
    (meta_more (codes "preprocessedProfileVersion") read.0 _ _ (inl (refl, refl)) (inr (refl, refl)) (inr (refl, refl)) (inr (refl, refl)))

pub returns-in_ok-skip_member-in-Some-Version-clause-member : goal.returns-in_ok-skip_member-in-Some-Version-clause-member
returns-in_ok-skip_member-in-Some-Version-clause-member g c =
    let read = c.in_ok-skip_member-in-Some-Version.ensures.value in
    takes _ _ _ _ _ c.name.result.now (codes "version") c.name.ensures (c.in-Some-Version.ensures.some ∙ ap meta_name c.in-Some-Version.field-0-is) read.0 read.1
    (meta_more (codes "version") read.0 _ _ (inr (refl, refl)) (inl (refl, refl)) (inr (refl, refl)) (inr (refl, refl)))

pub returns-in_ok-self-in-Some-Categories-clause-member : goal.returns-in_ok-self-in-Some-Categories-clause-member
returns-in_ok-self-in-Some-Categories-clause-member g c =
    let read = c.in_ok-self-in-Some-Categories.ensures.list in
    takes _ _ _ _ _ c.name.result.now (codes "categories") c.name.ensures (c.in-Some-Categories.ensures.some ∙ ap meta_name c.in-Some-Categories.field-0-is) read.0 read.1
    (meta_more (codes "categories") read.0 _ _ (inr (refl, refl)) (inr (refl, refl)) (inl (refl, read.2)) (inr (refl, refl)))

pub returns-in_ok-self-in-Some-StartTime-clause-member : goal.returns-in_ok-self-in-Some-StartTime-clause-member
returns-in_ok-self-in-Some-StartTime-clause-member g c =
    let read = c.in_ok-self-in-Some-StartTime.ensures.start in
    takes _ _ _ _ _ c.name.result.now (codes "startTime") c.name.ensures (c.in-Some-StartTime.ensures.some ∙ ap meta_name c.in-Some-StartTime.field-0-is) read.0 read.1
    (meta_more (codes "startTime") read.0 _ _ (inr (refl, refl)) (inr (refl, refl)) (inr (refl, refl)) (inl (refl, read.2)))

pub returns-in_ok-skip_member-in-None-clause-member : goal.returns-in_ok-skip_member-in-None-clause-member
returns-in_ok-skip_member-in-None-clause-member g c =
    let read = c.in_ok-skip_member-in-None.ensures.value in
    let other = c.in-None.ensures.none in
    takes _ _ _ _ _ c.name.result.now c.name.result.now c.name.ensures refl read.0 read.1
    (meta_more c.name.result.now read.0 _ _ (inr (other member.ProcessedVersion, refl)) (inr (other member.Version, refl)) (inr (other member.Categories, refl)) (inr (other member.StartTime, refl)))
