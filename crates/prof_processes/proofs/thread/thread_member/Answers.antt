use Rattle.std.specs.Prelude.{codes}
use Rattle.prof_processes.specs.declared.thread.ThreadMember.TheVariants as member
use Rattle.prof_schema.proofs.Slots.{differs}
use Rattle.prof_processes.proofs.thread.thread_member.Goals as goal

pub returns-in_default-clause-none : goal.returns-in_default-clause-none
returns-in_default-clause-none c member.Name = differs c.args.name.now (codes "name") c.in_default.not-name
returns-in_default-clause-none c member.Strings = differs c.args.name.now (codes "stringTable") c.in_default.not-stringTable
returns-in_default-clause-none c member.Frames = differs c.args.name.now (codes "frameTable") c.in_default.not-frameTable
returns-in_default-clause-none c member.Stacks = differs c.args.name.now (codes "stackTable") c.in_default.not-stackTable
returns-in_default-clause-none c member.Samples = differs c.args.name.now (codes "samples") c.in_default.not-samples
returns-in_default-clause-none c member.Markers = differs c.args.name.now (codes "markers") c.in_default.not-markers
