use Rattle.std.proofs.Common.{refl, ap, ◌∙◌, inl, inr}
use Rattle.std.specs.Prelude.{codes}
use Rattle.prof_gecko_layout.specs.GeckoProfile.{listed}
use Rattle.prof_processes.specs.Processes.{child_entries}
use Rattle.prof_processes.proofs.Ranges.{entries_ranges}
use Rattle.prof_schema.proofs.Slots.{takes}
use Rattle.prof_either.specs.Named.{part_name}
use Rattle.prof_either.specs.declared.parts.PartMember.TheVariants as member
use Rattle.prof_either.proofs.PartSlots.{parts_more}
use Rattle.prof_either.proofs.parts.EitherPartsFromMembers.take_member.Goals as goal

pub returns-in_ok-self-in-Some-Meta-clause-member : goal.returns-in_ok-self-in-Some-Meta-clause-member
returns-in_ok-self-in-Some-Meta-clause-member g c =
    let read = c.in_ok-self-in-Some-Meta.ensures.value in
    takes _ _ _ _ _ c.name.result.now (codes "meta") c.name.ensures (c.in-Some-Meta.ensures.some ∙ ap part_name c.in-Some-Meta.field-0-is) read.0 read.1
    (parts_more (codes "meta") read.0 _ _ (inl (refl, read.2)) (inr (refl, refl)) (inr (refl, refl)) (inr (refl, refl)) (inr (refl, refl)))

pub returns-in_ok-self-in-Some-Shared-clause-member : goal.returns-in_ok-self-in-Some-Shared-clause-member
returns-in_ok-self-in-Some-Shared-clause-member g c =
    let read = c.in_ok-self-in-Some-Shared.ensures.value in
    takes _ _ _ _ _ c.name.result.now (codes "shared") c.name.ensures (c.in-Some-Shared.ensures.some ∙ ap part_name c.in-Some-Shared.field-0-is) read.0 read.1
    (parts_more (codes "shared") read.0 _ _ (inr (refl, refl)) (inl (refl, read.2)) (inr (refl, refl)) (inr (refl, refl)) (inr (refl, refl)))

pub returns-in_ok-self-in-Some-Libs-clause-member : goal.returns-in_ok-self-in-Some-Libs-clause-member
returns-in_ok-self-in-Some-Libs-clause-member g c =
    let read = c.in_ok-self-in-Some-Libs.ensures.list in
    takes _ _ _ _ _ c.name.result.now (codes "libs") c.name.ensures (c.in-Some-Libs.ensures.some ∙ ap part_name c.in-Some-Libs.field-0-is) read.0 read.1
    (parts_more (codes "libs") read.0 _ _ (inr (refl, refl)) (inr (refl, refl)) (inl (refl, read.2)) (inr (refl, refl)) (inr (refl, refl)))

pub returns-in_ok-self-in-Some-Threads-clause-member : goal.returns-in_ok-self-in-Some-Threads-clause-member
returns-in_ok-self-in-Some-Threads-clause-member g c =
    let read = c.in_ok-self-in-Some-Threads.ensures.lists in
    takes _ _ _ _ _ c.name.result.now (codes "threads") c.name.ensures (c.in-Some-Threads.ensures.some ∙ ap part_name c.in-Some-Threads.field-0-is) read.0 read.1
    (parts_more (codes "threads") read.0 _ _ (inr (refl, refl)) (inr (refl, refl)) (inr (refl, refl)) (inl (refl, read.2)) (inr (refl, refl)))

pub returns-in_ok-self-in-Some-Processes-clause-member : goal.returns-in_ok-self-in-Some-Processes-clause-member
returns-in_ok-self-in-Some-Processes-clause-member g c =
    let read = c.in_ok-self-in-Some-Processes.ensures.children in
    takes _ _ _ _ _ c.name.result.now (codes "processes") c.name.ensures (c.in-Some-Processes.ensures.some ∙ ap part_name c.in-Some-Processes.field-0-is) read.0 read.1
    (parts_more (codes "processes") read.0 _ _ (inr (refl, refl)) (inr (refl, refl)) (inr (refl, refl)) (inr (refl, refl)) (inl (refl, read.2)))

pub returns-in_ok-skip_member-in-None-clause-member : goal.returns-in_ok-skip_member-in-None-clause-member
returns-in_ok-skip_member-in-None-clause-member g c =
    let read = c.in_ok-skip_member-in-None.ensures.value in
    let other = c.in-None.ensures.none in
    takes _ _ _ _ _ c.name.result.now c.name.result.now c.name.ensures refl read.0 read.1
    (parts_more c.name.result.now read.0 _ _ (inr (other member.Meta, refl)) (inr (other member.Shared, refl)) (inr (other member.Libs, refl)) (inr (other member.Threads, refl)) (inr (other member.Processes, refl)))

pub invariant_of-self-in-Some-Processes : goal.invariant_of-self-in-Some-Processes
invariant_of-self-in-Some-Processes g c =
    let read = c.in_ok-self-in-Some-Processes.ensures.children in
    record { ranges = entries_ranges (listed read.0) (child_entries c.in_ok-self-in-Some-Processes.field-0) read.2 }
