use Rattle.std.proofs.Common.{Some, refl, ap, ◌∙◌, inl, inr}
use Rattle.std.specs.Prelude.{codes}
use Rattle.prof_raw.specs.declared.limits.TheConstants.{MOST_ROWS, MOST_SAMPLES}
use Rattle.prof_schema.proofs.Slots.{takes}
use Rattle.prof_processes.specs.Named.{thread_name}
use Rattle.prof_processes.specs.declared.thread.ThreadMember.TheVariants as member
use Rattle.prof_processes.proofs.ThreadSlots.{thread_more}
use Rattle.prof_processes.proofs.thread.ThreadMembersFromMembers.take_member.Goals as goal

pub returns-in_ok-self-in-Some-Name-clause-member : goal.returns-in_ok-self-in-Some-Name-clause-member
returns-in_ok-self-in-Some-Name-clause-member g c =
    let read = c.in_ok-self-in-Some-Name.ensures.text in
    takes _ _ _ _ _ c.name.result.now (codes "name") c.name.ensures (c.in-Some-Name.ensures.some ∙ ap thread_name c.in-Some-Name.field-0-is) read.0 read.1
    (thread_more (codes "name") read.0 _ _ (inl (refl, read.2)) (inr (refl, refl)) (inr (refl, refl)) (inr (refl, refl)) (inr (refl, refl)) (inr (refl, refl)))

pub returns-in_ok-self-in-Some-Strings-clause-member : goal.returns-in_ok-self-in-Some-Strings-clause-member
returns-in_ok-self-in-Some-Strings-clause-member g c =
    let read = c.in_ok-self-in-Some-Strings.ensures.list in
    takes _ _ _ _ _ c.name.result.now (codes "stringTable") c.name.ensures (c.in-Some-Strings.ensures.some ∙ ap thread_name c.in-Some-Strings.field-0-is) read.0 read.1
    (thread_more (codes "stringTable") read.0 _ _ (inr (refl, refl)) (inl (refl, read.2)) (inr (refl, refl)) (inr (refl, refl)) (inr (refl, refl)) (inr (refl, refl)))

pub returns-in_ok-self-in-Some-Frames-clause-member : goal.returns-in_ok-self-in-Some-Frames-clause-member
returns-in_ok-self-in-Some-Frames-clause-member g c =
    let read = c.in_ok-held-in-Some-Frames.ensures.table in
    takes _ _ _ _ _ c.name.result.now (codes "frameTable") c.name.ensures (c.in-Some-Frames.ensures.some ∙ ap thread_name c.in-Some-Frames.field-0-is) read.0 read.1
    (thread_more (codes "frameTable") read.0 _ _ (inr (refl, refl)) (inr (refl, refl)) (inl (refl, c.in_ok-self-in-Some-Frames.ensures MOST_ROWS (Some read.0) read.2)) (inr (refl, refl)) (inr (refl, refl)) (inr (refl, refl)))

pub returns-in_ok-self-in-Some-Stacks-clause-member : goal.returns-in_ok-self-in-Some-Stacks-clause-member
returns-in_ok-self-in-Some-Stacks-clause-member g c =
    let read = c.in_ok-held-in-Some-Stacks.ensures.table in
    takes _ _ _ _ _ c.name.result.now (codes "stackTable") c.name.ensures (c.in-Some-Stacks.ensures.some ∙ ap thread_name c.in-Some-Stacks.field-0-is) read.0 read.1
    (thread_more (codes "stackTable") read.0 _ _ (inr (refl, refl)) (inr (refl, refl)) (inr (refl, refl)) (inl (refl, c.in_ok-self-in-Some-Stacks.ensures MOST_ROWS (Some read.0) read.2)) (inr (refl, refl)) (inr (refl, refl)))

pub returns-in_ok-self-in-Some-Samples-clause-member : goal.returns-in_ok-self-in-Some-Samples-clause-member
returns-in_ok-self-in-Some-Samples-clause-member g c =
    let read = c.in_ok-held-in-Some-Samples.ensures.table in
    takes _ _ _ _ _ c.name.result.now (codes "samples") c.name.ensures (c.in-Some-Samples.ensures.some ∙ ap thread_name c.in-Some-Samples.field-0-is) read.0 read.1
    (thread_more (codes "samples") read.0 _ _ (inr (refl, refl)) (inr (refl, refl)) (inr (refl, refl)) (inr (refl, refl)) (inl (refl, c.in_ok-self-in-Some-Samples.ensures MOST_SAMPLES (Some read.0) read.2)) (inr (refl, refl)))

pub returns-in_ok-self-in-Some-Markers-clause-member : goal.returns-in_ok-self-in-Some-Markers-clause-member
returns-in_ok-self-in-Some-Markers-clause-member g c =
    let read = c.in_ok-held-in-Some-Markers.ensures.table in
    takes _ _ _ _ _ c.name.result.now (codes "markers") c.name.ensures (c.in-Some-Markers.ensures.some ∙ ap thread_name c.in-Some-Markers.field-0-is) read.0 read.1
    (thread_more (codes "markers") read.0 _ _ (inr (refl, refl)) (inr (refl, refl)) (inr (refl, refl)) (inr (refl, refl)) (inr (refl, refl)) (inl (refl, c.in_ok-self-in-Some-Markers.ensures (Some read.0) read.2)))

pub returns-in_ok-skip_member-in-None-clause-member : goal.returns-in_ok-skip_member-in-None-clause-member
returns-in_ok-skip_member-in-None-clause-member g c =
    let read = c.in_ok-skip_member-in-None.ensures.value in
    let other = c.in-None.ensures.none in
    takes _ _ _ _ _ c.name.result.now c.name.result.now c.name.ensures refl read.0 read.1
    (thread_more c.name.result.now read.0 _ _ (inr (other member.Name, refl)) (inr (other member.Strings, refl)) (inr (other member.Frames, refl)) (inr (other member.Stacks, refl)) (inr (other member.Samples, refl)) (inr (other member.Markers, refl)))
