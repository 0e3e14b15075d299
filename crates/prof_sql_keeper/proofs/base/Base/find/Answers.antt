use Rattle.std.proofs.Common.{refl}
use Rattle.prof_sql_keeper.proofs.base.Base.find.Goals as goal

pub returns-in-Stored : goal.returns-in-Stored
returns-in-Stored c = rw c.in-Stored.is (refl, c.text_of-in-Stored.ensures)
