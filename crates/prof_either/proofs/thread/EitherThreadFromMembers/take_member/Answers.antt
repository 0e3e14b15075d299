use Rattle.std.proofs.Common.{refl, ap, ◌∙◌}
use Rattle.std.specs.Prelude.{codes}
use Rattle.prof_schema.proofs.Slots.{takes}
use Rattle.prof_either.specs.Named.{either_name}
use Rattle.prof_either.proofs.Taking.{takes_part, told_by}
use Rattle.prof_either.proofs.Threading.{strings_taken, other_taken}
use Rattle.prof_either.proofs.thread.EitherThreadFromMembers.take_member.Goals as goal

pub returns-in_ok-take_name-in-Some-Name-clause-member : goal.returns-in_ok-take_name-in-Some-Name-clause-member
returns-in_ok-take_name-in-Some-Name-clause-member g c =
    let read = c.in_ok-take_name-in-Some-Name.ensures.member in
    takes _ _ _ _ _ c.name.result.now (codes "name") c.name.ensures (c.in-Some-Name.ensures.some ∙ ap either_name c.in-Some-Name.field-0-is) read.0 read.1 read.2

pub returns-in_ok-take_frames-in-Some-Frames-clause-member : goal.returns-in_ok-take_frames-in-Some-Frames-clause-member
returns-in_ok-take_frames-in-Some-Frames-clause-member g c =
    let read = c.in_ok-take_frames-in-Some-Frames.ensures.member in
    takes _ _ _ _ _ c.name.result.now (codes "frameTable") c.name.ensures (c.in-Some-Frames.ensures.some ∙ ap either_name c.in-Some-Frames.field-0-is) read.0 read.1 read.2

pub returns-in_ok-take_stacks-in-Some-Stacks-clause-member : goal.returns-in_ok-take_stacks-in-Some-Stacks-clause-member
returns-in_ok-take_stacks-in-Some-Stacks-clause-member g c =
    let read = c.in_ok-take_stacks-in-Some-Stacks.ensures.member in
    takes _ _ _ _ _ c.name.result.now (codes "stackTable") c.name.ensures (c.in-Some-Stacks.ensures.some ∙ ap either_name c.in-Some-Stacks.field-0-is) read.0 read.1 read.2

pub returns-in_ok-take_samples-in-Some-Samples-clause-member : goal.returns-in_ok-take_samples-in-Some-Samples-clause-member
returns-in_ok-take_samples-in-Some-Samples-clause-member g c =
    let read = c.in_ok-take_samples-in-Some-Samples.ensures.member in
    takes _ _ _ _ _ c.name.result.now (codes "samples") c.name.ensures (c.in-Some-Samples.ensures.some ∙ ap either_name c.in-Some-Samples.field-0-is) read.0 read.1 read.2

pub returns-in_ok-take_markers-in-Some-Markers-clause-member : goal.returns-in_ok-take_markers-in-Some-Markers-clause-member
returns-in_ok-take_markers-in-Some-Markers-clause-member g c =
    let read = c.in_ok-take_markers-in-Some-Markers.ensures.member in
    takes _ _ _ _ _ c.name.result.now (codes "markers") c.name.ensures (c.in-Some-Markers.ensures.some ∙ ap either_name c.in-Some-Markers.field-0-is) read.0 read.1 read.2

pub returns-in_ok-take_member-in-Some-Strings-clause-member : goal.returns-in_ok-take_member-in-Some-Strings-clause-member
returns-in_ok-take_member-in-Some-Strings-clause-member g c =
    takes_part _ _ c.args.feed.now _ _ _ c.args.self.now.rows _ (codes "stringTable")
    (told_by c.args.feed.now.last c.name.result.now (codes "stringTable") c.name.ensures (c.in-Some-Strings.ensures.some ∙ ap either_name c.in-Some-Strings.field-0-is))
    c.in_ok-take_member-in-Some-Strings.ensures.member
    (λ v taken. strings_taken v c.args.self.now _ refl taken)

pub returns-in_ok-take_member-in-None-clause-member : goal.returns-in_ok-take_member-in-None-clause-member
returns-in_ok-take_member-in-None-clause-member g c =
    takes_part _ _ c.args.feed.now _ _ _ c.args.self.now.named _ c.name.result.now c.name.ensures c.in_ok-take_member-in-None.ensures.member
    (λ v taken. other_taken c.name.result.now v c.args.self.now _ refl c.in-None.ensures.none taken)
