use Rattle.std.specs.Prelude.{codes}
use Rattle.prof_members.specs.declared.parts.MetaMember.TheVariants as member
use Rattle.prof_schema.proofs.Slots.{differs}
use Rattle.prof_members.proofs.parts.meta_member.Goals as goal

pub returns-in_default-clause-none : goal.returns-in_default-clause-none
returns-in_default-clause-none c member.ProcessedVersion = differs c.args.name.now (codes "preprocessedProfileVersion") c.in_default.not-preprocessedProfileVersion
returns-in_default-clause-none c member.Categories = differs c.args.name.now (codes "categories") c.in_default.not-categories
