use Rattle.std.proofs.Common.{refl, ap, ◌∙◌}
use Rattle.std.specs.Prelude.{codes}
use Rattle.prof_schema.specs.Named.{placed_name}
use Rattle.prof_schema.proofs.Slots.{takes}
use Rattle.prof_either.proofs.Taking.{takes_part}
use Rattle.prof_either.proofs.MarkerSlots.{schema_taken, data_taken, column_taken}
use Rattle.prof_either.proofs.markers.BothMarkersFromMembers.take_member.Goals as goal

pub returns-in_ok-take-in-Some-Schema-clause-member : goal.returns-in_ok-take-in-Some-Schema-clause-member
returns-in_ok-take-in-Some-Schema-clause-member g c =
    let read = c.in_ok-take-in-Some-Schema.ensures.member in
    takes _ _ _ _ _ c.name.result.now (codes "schema") c.name.ensures (c.in-Some-Schema.ensures.some ∙ ap placed_name c.in-Some-Schema.field-0-is) read.0 read.1
    (schema_taken read.0 c.args.self.now _ refl read.2)

pub returns-in_ok-details-in-Some-Data-clause-member : goal.returns-in_ok-details-in-Some-Data-clause-member
returns-in_ok-details-in-Some-Data-clause-member g c =
    let read = c.in_ok-details-in-Some-Data.ensures.details in
    takes _ _ _ _ _ c.name.result.now (codes "data") c.name.ensures (c.in-Some-Data.ensures.some ∙ ap placed_name c.in-Some-Data.field-0-is) read.0 read.1
    (data_taken read.0 c.args.self.now _ _ read.2 read.3)

pub returns-in_ok-take_member-in-None-clause-member : goal.returns-in_ok-take_member-in-None-clause-member
returns-in_ok-take_member-in-None-clause-member g c =
    takes_part _ _ c.args.feed.now c.take_member.new.feed _ _ c.args.self.now.named c.take_member.new.self c.name.result.now c.name.ensures c.in_ok-take_member-in-None.ensures.member
    (λ v taken. column_taken c.name.result.now v c.args.self.now _ refl c.in-None.ensures.none taken)
