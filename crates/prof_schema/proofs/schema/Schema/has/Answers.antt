use Rattle.std.proofs.Common.{◌∙◌}
use Rattle.prof_grammar.specs.Value.{last_named}
use Rattle.prof_schema.proofs.Schemas.{schema_found, place-some, place-none}
use Rattle.prof_schema.proofs.schema.Schema.has.Goals as goal

pub returns-in-Some : goal.returns-in-Some
returns-in-Some c = λ ms h. (place-some (last_named c.args.name.now ms) _ (c.in-Some.ensures.value ∙ schema_found ms c.args.self.now c.args.name.now h)).1

pub returns-in-None : goal.returns-in-None
returns-in-None c = λ ms h. (place-none (last_named c.args.name.now ms) (c.in-None.ensures.value ∙ schema_found ms c.args.self.now c.args.name.now h)).1
