use Rattle.std.proofs.Common.{refl, ap, ◌∙◌, inl, inr}
use Rattle.std.specs.Prelude.{codes}
use Rattle.prof_members.specs.declared.categories.CategoryMember.TheVariants as member
use Rattle.prof_members.specs.Named.{category_member_name}
use Rattle.prof_schema.proofs.Slots.{takes}
use Rattle.prof_members.proofs.TableSlots.{category_more}
use Rattle.prof_members.proofs.categories.CategoryFromMembers.take_member.Goals as goal

pub returns-in_ok-self-in-Some-Name-clause-member : goal.returns-in_ok-self-in-Some-Name-clause-member
returns-in_ok-self-in-Some-Name-clause-member g c =
    let read = c.in_ok-self-in-Some-Name.ensures.text in
    takes _ _ _ _ _ c.name.result.now (codes "name") c.name.ensures (c.in-Some-Name.ensures.some ∙ ap category_member_name c.in-Some-Name.field-0-is) read.0 read.1
    (category_more (codes "name") read.0 _ _ (inl (refl, read.2)) (inr (refl, refl)))

pub returns-in_ok-self-in-Some-Color-clause-member : goal.returns-in_ok-self-in-Some-Color-clause-member
returns-in_ok-self-in-Some-Color-clause-member g c =
    let read = c.in_ok-self-in-Some-Color.ensures.grey in
    takes _ _ _ _ _ c.name.result.now (codes "color") c.name.ensures (c.in-Some-Color.ensures.some ∙ ap category_member_name c.in-Some-Color.field-0-is) read.0 read.1
    (category_more (codes "color") read.0 _ _ (inr (refl, refl)) (inl (refl, read.2)))

pub returns-in_ok-skip_member-in-None-clause-member : goal.returns-in_ok-skip_member-in-None-clause-member
returns-in_ok-skip_member-in-None-clause-member g c =
    let read = c.in_ok-skip_member-in-None.ensures.value in
    let other = c.in-None.ensures.none in
    takes _ _ _ _ _ c.name.result.now c.name.result.now c.name.ensures refl read.0 read.1
    (category_more c.name.result.now read.0 _ _ (inr (other member.Name, refl)) (inr (other member.Color, refl)))
