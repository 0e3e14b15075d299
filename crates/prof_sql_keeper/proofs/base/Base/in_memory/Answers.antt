use Rattle.std.proofs.Common.{refl}
use Rattle.prof_sql_keeper.proofs.base.Base.in_memory.Goals as goal

pub returns : goal.returns
returns c = (refl, λ clean. (c.in_ok-conn.conn, c.in_ok-conn.ensures.empty, c.in_ok-make_table.ensures.made clean))
