use Rattle.std.proofs.Common.{sym}
use Rattle.prof_demo.specs.Generated.{stack_text}
use Rattle.prof_demo.proofs.Below.{length-cells}
use Rattle.prof_demo.proofs.columns.SampleStacksColumn.count.Goals as goal

pub returns : goal.returns
returns c = sym (length-cells (stack_text c.args.self.now.number) 200000)
