use Rattle.std.proofs.Common.{sym, ◌∙◌}
use Rattle.prof_wire.proofs.Fields.{size_none, size_said, size_unsaid}
use Rattle.prof_wire.proofs.heads.declared_size.Goals as goal

pub returns-in_default : goal.returns-in_default
returns-in_default c = size_none _ c.in_default.ensures

pub returns-then-not-all_say : goal.returns-then-not-all_say
returns-then-not-all_say c = size_unsaid _ _ c.in-Some.ensures (sym c.all_say.ensures ∙ c.if-not-all_say.true)

pub returns : goal.returns
returns c = c.read_size.ensures ∙ size_said _ _ c.in-Some.ensures (sym c.all_say.ensures ∙ c.if-not-all_say.false)
