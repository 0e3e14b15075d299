use Rattle.std.specs.Prelude.{codes}
use Rattle.prof_members.specs.declared.parts.ProfileMember.TheVariants as member
use Rattle.prof_schema.proofs.Slots.{differs}
use Rattle.prof_members.proofs.parts.profile_member.Goals as goal

pub returns-in_default-clause-none : goal.returns-in_default-clause-none
returns-in_default-clause-none c member.Meta = differs c.args.name.now (codes "meta") c.in_default.not-meta
returns-in_default-clause-none c member.Shared = differs c.args.name.now (codes "shared") c.in_default.not-shared
returns-in_default-clause-none c member.Threads = differs c.args.name.now (codes "threads") c.in_default.not-threads
