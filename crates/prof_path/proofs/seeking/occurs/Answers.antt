use Rattle.std.proofs.Common.{◌∙◌}
use Rattle.prof_path.proofs.Occurring.{occurs_is}
use Rattle.prof_path.proofs.seeking.occurs.Goals as goal

pub returns : goal.returns
returns c = c.is_some.ensures ∙ occurs_is c.args.term.now c.args.text.now c.find.result c.find.ensures
