use Rattle.std.specs.Prelude.{codes}
use Rattle.prof_schema.specs.declared.table.PlacedMember.TheVariants as member
use Rattle.prof_schema.proofs.Slots.{differs}
use Rattle.prof_schema.proofs.table.placed_member.Goals as goal

pub returns-in_default-clause-none : goal.returns-in_default-clause-none
returns-in_default-clause-none c member.Schema = differs c.args.name.now (codes "schema") c.in_default.not-schema
returns-in_default-clause-none c member.Data = differs c.args.name.now (codes "data") c.in_default.not-data
