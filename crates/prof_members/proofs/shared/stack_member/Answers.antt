use Rattle.std.specs.Prelude.{codes}
use Rattle.prof_members.specs.declared.shared.StackMember.TheVariants as member
use Rattle.prof_schema.proofs.Slots.{differs}
use Rattle.prof_members.proofs.shared.stack_member.Goals as goal

pub returns-in_default-clause-none : goal.returns-in_default-clause-none
returns-in_default-clause-none c member.Frame = differs c.args.name.now (codes "frame") c.in_default.not-frame
returns-in_default-clause-none c member.Prefix = differs c.args.name.now (codes "prefix") c.in_default.not-prefix
returns-in_default-clause-none c member.Length = differs c.args.name.now (codes "length") c.in_default.not-length
