use Rattle.std.proofs.Common.{sym}
use Rattle.prof_demo.specs.Generated.{prefix_text}
use Rattle.prof_demo.proofs.Below.{length-cells}
use Rattle.prof_demo.proofs.columns.PrefixesColumn.count.Goals as goal

pub returns : goal.returns
returns c = sym (length-cells prefix_text 60000)
