use Rattle.std.proofs.Common.{◌∙◌, ap, sym}
use Rattle.std.specs.Prelude.{is_some}
use Rattle.std.specs.List.{list_all}
use Rattle.prof_schema.proofs.Schemas.{schema_all, none_first}
use Rattle.prof_schema.proofs.schema.Schema.are_places.Goals as goal

pub returns-then-is_none : goal.returns-then-is_none
returns-then-is_none c = λ ms h. sym (none_first c.loop-place.place-iterator _ c.in-Some.place.now c.in-Some.ensures.steps c.if-is_none.ensures) ∙ sym c.loop-place.invariant ∙ schema_all ms c.args.self.now h

pub returns : goal.returns
returns c = λ ms h. sym (ap (list_all (λ p. is_some p)) c.in-None.ensures.steps.0) ∙ sym c.loop-place.invariant ∙ schema_all ms c.args.self.now h
