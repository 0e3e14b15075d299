use Rattle.std.proofs.Common.{sym}
use Rattle.prof_demo.specs.Generated.{time_text}
use Rattle.prof_demo.proofs.Below.{length-cells}
use Rattle.prof_demo.proofs.columns.TimesColumn.count.Goals as goal

pub returns : goal.returns
returns c = sym (length-cells time_text 200000)
