use Rattle.std.proofs.Common.{refl, ap, ◌∙◌, inl, inr}
use Rattle.std.specs.Prelude.{codes}
use Rattle.prof_members.specs.declared.threads.ThreadMember.TheVariants as member
use Rattle.prof_members.specs.Named.{thread_member_name}
use Rattle.prof_schema.proofs.Slots.{takes}
use Rattle.prof_members.proofs.TableSlots.{thread_more, shared_stay, name-own, samples-own, markers-own, shared-own}
use Rattle.prof_members.specs.Names.{member_name}
use Rattle.prof_members.proofs.threads.ThreadPartsFromMembers.take_member.Goals as goal

pub returns-in_ok-self-in-Some-Name-clause-member : goal.returns-in_ok-self-in-Some-Name-clause-member
returns-in_ok-self-in-Some-Name-clause-member g c =
    let read = c.in_ok-self-in-Some-Name.ensures.text in
    takes _ _ _ _ _ c.name.result.now (codes "name") c.name.ensures (c.in-Some-Name.ensures.some ∙ ap thread_member_name c.in-Some-Name.field-0-is) read.0 read.1
    (thread_more (codes "name") read.0 _ _ (inl (refl, read.2)) (shared_stay (codes "name") read.0 c.args.self.now.shared name-own) (inr (refl, refl)) (inr (refl, refl)))

pub returns-in_ok-self-in-Some-Samples-clause-member : goal.returns-in_ok-self-in-Some-Samples-clause-member
returns-in_ok-self-in-Some-Samples-clause-member g c =
    let read = c.in_ok-self-in-Some-Samples.ensures.value in
    takes _ _ _ _ _ c.name.result.now (codes "samples") c.name.ensures (c.in-Some-Samples.ensures.some ∙ ap thread_member_name c.in-Some-Samples.field-0-is) read.0 read.1
    (thread_more (codes "samples") read.0 _ _ (inr (refl, refl)) (shared_stay (codes "samples") read.0 c.args.self.now.shared samples-own) (inl (refl, read.2)) (inr (refl, refl)))

pub returns-in_ok-self-in-Some-Markers-clause-member : goal.returns-in_ok-self-in-Some-Markers-clause-member
returns-in_ok-self-in-Some-Markers-clause-member g c =
    let read = c.in_ok-self-in-Some-Markers.ensures.value in
    takes _ _ _ _ _ c.name.result.now (codes "markers") c.name.ensures (c.in-Some-Markers.ensures.some ∙ ap thread_member_name c.in-Some-Markers.field-0-is) read.0 read.1
    (thread_more (codes "markers") read.0 _ _ (inr (refl, refl)) (shared_stay (codes "markers") read.0 c.args.self.now.shared markers-own) (inr (refl, refl)) (inl (refl, read.2)))

pub returns-in_ok-take-in-Some-Shared-clause-member : goal.returns-in_ok-take-in-Some-Shared-clause-member
returns-in_ok-take-in-Some-Shared-clause-member g c =
    let read = c.in_ok-take-in-Some-Shared.ensures.member in
    let own = shared-own c.in-Some-Shared.member in
    takes _ _ _ _ _ c.name.result.now (member_name c.in-Some-Shared.member) c.name.ensures (c.in-Some-Shared.ensures.some ∙ ap thread_member_name c.in-Some-Shared.field-0-is) read.0 read.1
    (thread_more (member_name c.in-Some-Shared.member) read.0 _ _ (inr (own.0, refl)) read.2 (inr (own.1, refl)) (inr (own.2, refl)))

pub returns-in_ok-skip_member-in-None-clause-member : goal.returns-in_ok-skip_member-in-None-clause-member
returns-in_ok-skip_member-in-None-clause-member g c =
    let read = c.in_ok-skip_member-in-None.ensures.value in
    let other = c.in-None.ensures.none in
    takes _ _ _ _ _ c.name.result.now c.name.result.now c.name.ensures refl read.0 read.1
    (thread_more c.name.result.now read.0 _ _ (inr (other member.Name, refl)) (shared_stay c.name.result.now read.0 c.args.self.now.shared (λ m. other (member.Shared m)))
    (inr (other member.Samples, refl)) (inr (other member.Markers, refl)))
