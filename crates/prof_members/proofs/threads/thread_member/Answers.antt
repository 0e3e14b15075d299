use Rattle.std.specs.Prelude.{codes}
use Rattle.prof_members.specs.declared.threads.ThreadMember.TheVariants as member
use Rattle.prof_schema.proofs.Slots.{differs}
use Rattle.prof_members.proofs.threads.thread_member.Goals as goal

pub returns-in-None-clause-none : goal.returns-in-None-clause-none
returns-in-None-clause-none c member.Name = differs c.args.name.now (codes "name") c.in_default.not-name
returns-in-None-clause-none c member.Samples = differs c.args.name.now (codes "samples") c.in_default.not-samples
returns-in-None-clause-none c member.Markers = differs c.args.name.now (codes "markers") c.in_default.not-markers
returns-in-None-clause-none c (member.Shared m) = c.in-None.ensures.none m
