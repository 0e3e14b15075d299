use Rattle.std.specs.Prelude.{codes}
use Rattle.prof_schema.proofs.Slots.{differs}
use Rattle.prof_either.specs.declared.meta.MetaMember.TheVariants as member
use Rattle.prof_either.proofs.meta.meta_member.Goals as goal

pub returns-in_default-clause-none : goal.returns-in_default-clause-none
returns-in_default-clause-none c member.ProcessedVersion = differs c.args.name.now (codes "preprocessedProfileVersion") c.in_default.not-preprocessedProfileVersion
returns-in_default-clause-none c member.Version = differs c.args.name.now (codes "version") c.in_default.not-version
returns-in_default-clause-none c member.Categories = differs c.args.name.now (codes "categories") c.in_default.not-categories
returns-in_default-clause-none c member.StartTime = differs c.args.name.now (codes "startTime") c.in_default.not-startTime
