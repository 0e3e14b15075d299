use Rattle.std.specs.Prelude.{codes}
use Rattle.prof_members.specs.declared.shared.FuncMember.TheVariants as member
use Rattle.prof_schema.proofs.Slots.{differs}
use Rattle.prof_members.proofs.shared.func_member.Goals as goal

pub returns-in_default-clause-none : goal.returns-in_default-clause-none
returns-in_default-clause-none c member.Name = differs c.args.name.now (codes "name") c.in_default.not-name
returns-in_default-clause-none c member.IsJs = differs c.args.name.now (codes "isJS") c.in_default.not-isJS
returns-in_default-clause-none c member.RelevantForJs = differs c.args.name.now (codes "relevantForJS") c.in_default.not-relevantForJS
returns-in_default-clause-none c member.Resource = differs c.args.name.now (codes "resource") c.in_default.not-resource
returns-in_default-clause-none c member.FileName = differs c.args.name.now (codes "fileName") c.in_default.not-fileName
returns-in_default-clause-none c member.Length = differs c.args.name.now (codes "length") c.in_default.not-length
