use Rattle.std.specs.Prelude.{codes}
use Rattle.prof_members.specs.declared.shared.SharedMember.TheVariants as member
use Rattle.prof_schema.proofs.Slots.{differs}
use Rattle.prof_members.proofs.shared.shared_member.Goals as goal

pub returns-in_default-clause-none : goal.returns-in_default-clause-none
returns-in_default-clause-none c member.Strings = differs c.args.name.now (codes "stringArray") c.in_default.not-stringArray
returns-in_default-clause-none c member.Resources = differs c.args.name.now (codes "resourceTable") c.in_default.not-resourceTable
returns-in_default-clause-none c member.Funcs = differs c.args.name.now (codes "funcTable") c.in_default.not-funcTable
returns-in_default-clause-none c member.Frames = differs c.args.name.now (codes "frameTable") c.in_default.not-frameTable
returns-in_default-clause-none c member.Stacks = differs c.args.name.now (codes "stackTable") c.in_default.not-stackTable
