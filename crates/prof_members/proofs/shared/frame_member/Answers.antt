use Rattle.std.specs.Prelude.{codes}
use Rattle.prof_members.specs.declared.shared.FrameMember.TheVariants as member
use Rattle.prof_schema.proofs.Slots.{differs}
use Rattle.prof_members.proofs.shared.frame_member.Goals as goal

pub returns-in_default-clause-none : goal.returns-in_default-clause-none
returns-in_default-clause-none c member.Func = differs c.args.name.now (codes "func") c.in_default.not-func
returns-in_default-clause-none c member.Category = differs c.args.name.now (codes "category") c.in_default.not-category
returns-in_default-clause-none c member.Length = differs c.args.name.now (codes "length") c.in_default.not-length
