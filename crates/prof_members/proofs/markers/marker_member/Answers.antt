use Rattle.std.specs.Prelude.{codes}
use Rattle.prof_members.specs.declared.markers.MarkerMember.TheVariants as member
use Rattle.prof_schema.proofs.Slots.{differs}
use Rattle.prof_members.proofs.markers.marker_member.Goals as goal

pub returns-in_default-clause-none : goal.returns-in_default-clause-none
returns-in_default-clause-none c member.Phase = differs c.args.name.now (codes "phase") c.in_default.not-phase
returns-in_default-clause-none c member.Name = differs c.args.name.now (codes "name") c.in_default.not-name
returns-in_default-clause-none c member.StartTime = differs c.args.name.now (codes "startTime") c.in_default.not-startTime
returns-in_default-clause-none c member.EndTime = differs c.args.name.now (codes "endTime") c.in_default.not-endTime
returns-in_default-clause-none c member.Data = differs c.args.name.now (codes "data") c.in_default.not-data
returns-in_default-clause-none c member.Length = differs c.args.name.now (codes "length") c.in_default.not-length
