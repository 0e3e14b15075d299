use Rattle.std.proofs.Common.{subst, refl}
use Rattle.prof_grammar.specs.Value.{Value}
use Rattle.prof_json.specs.declared.answer.Event.{Event}
use Rattle.prof_gather.specs.Feeding.{Gives}
use Rattle.prof_column.proofs.ValuesRead.{reads-string, reads-null}
use Rattle.prof_members.proofs.samples.weight_unit.Goals as goal

pub returns-in-Str-clause-unit : goal.returns-in-Str-clause-unit
returns-in-Str-clause-unit g c =
    let gives = subst (λ (e : Event). Gives c.args.feed.now e c.next.new.self) c.in-Str.is c.in_ok-first.ensures.ok in
    (Value.string c.string.result.now, reads-string c.args.feed.now c.next.new.self c.string.result.now gives c.string.ensures, c.unit_named.ensures)

pub returns-in-Null-clause-unit : goal.returns-in-Null-clause-unit
returns-in-Null-clause-unit g c =
    let gives = subst (λ (e : Event). Gives c.args.feed.now e c.next.new.self) c.in-Null.is c.in_ok-first.ensures.ok in
    (Value.null, reads-null c.args.feed.now c.next.new.self gives, refl)
