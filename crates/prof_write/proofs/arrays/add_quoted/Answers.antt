use Rattle.std.proofs.Common.{ap}
use Rattle.prof_page.proofs.Pages.{gathers_same}
use Rattle.prof_writer.specs.Writing.{quoted}
use Rattle.prof_write.proofs.arrays.add_quoted.Goals as goal

pub returns : goal.returns
returns g c = gathers_same _ _ _ _ _ _ _ c.add_string.ensures (ap quoted c.as_str.ensures)
