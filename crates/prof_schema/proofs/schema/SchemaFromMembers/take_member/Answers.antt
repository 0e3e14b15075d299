use Rattle.std.proofs.Common.{sym}
use Rattle.std.specs.Prelude.{string_bytes}
use Rattle.prof_schema.proofs.Slots.{takes}
use Rattle.prof_schema.proofs.Schemas.{schema_more}
use Rattle.prof_schema.proofs.schema.SchemaFromMembers.take_member.Goals as goal

pub returns-clause-member : goal.returns-clause-member
returns-clause-member g c =
    let read = c.in_ok-place.ensures.place in
    takes _ _ _ _ _ c.name.result.now (string_bytes c.in_ok-name.name) c.name.ensures (sym c.in_ok-name.ensures.ok) read.0 read.1
    (schema_more c.args.self.now (record { places = c.insert.new.self }) c.in_ok-name.name c.in_ok-place.place read.0 c.in_ok-_earlier.ensures.entries read.2)
