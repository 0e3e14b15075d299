use Rattle.std.specs.Prelude.{codes}
use Rattle.prof_members.specs.declared.categories.CategoryMember.TheVariants as member
use Rattle.prof_schema.proofs.Slots.{differs}
use Rattle.prof_members.proofs.categories.category_member.Goals as goal

pub returns-in_default-clause-none : goal.returns-in_default-clause-none
returns-in_default-clause-none c member.Name = differs c.args.name.now (codes "name") c.in_default.not-name
returns-in_default-clause-none c member.Color = differs c.args.name.now (codes "color") c.in_default.not-color
