use Rattle.std.proofs.Common.{sym}
use Rattle.std.specs.Prelude.{string_bytes}
use Rattle.prof_schema.proofs.Slots.{takes}
use Rattle.prof_schema.proofs.FieldTexts.{fields_more}
use Rattle.prof_schema.proofs.fields.MarkerFieldsFromMembers.take_member.Goals as goal

pub returns-clause-member : goal.returns-clause-member
returns-clause-member g c =
    let read = c.in_ok-value.ensures.text in
    takes _ _ _ _ _ c.name.result.now (string_bytes c.in_ok-name.name) c.name.ensures (sym c.in_ok-name.ensures.ok) read.0 read.1
    (fields_more c.args.self.now (record { fields = c.insert.new.self }) c.in_ok-name.name c.in_ok-value.value read.0 c.in_ok-_earlier.ensures.entries read.2)
