use Rattle.std.specs.Prelude.{codes}
use Rattle.prof_processes.specs.declared.process.ProcessMember.TheVariants as member
use Rattle.prof_schema.proofs.Slots.{differs}
use Rattle.prof_processes.proofs.process.process_member.Goals as goal

pub returns-in_default-clause-none : goal.returns-in_default-clause-none
returns-in_default-clause-none c member.Meta = differs c.args.name.now (codes "meta") c.in_default.not-meta
returns-in_default-clause-none c member.Libs = differs c.args.name.now (codes "libs") c.in_default.not-libs
returns-in_default-clause-none c member.Threads = differs c.args.name.now (codes "threads") c.in_default.not-threads
returns-in_default-clause-none c member.Processes = differs c.args.name.now (codes "processes") c.in_default.not-processes
