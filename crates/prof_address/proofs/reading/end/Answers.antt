use Rattle.std.proofs.Common.{refl}
use Rattle.prof_address.proofs.Filters.{end_err}
use Rattle.prof_address.proofs.reading.end.Goals as goal

pub returns-in-Err : goal.returns-in-Err
returns-in-Err c = end_err c.args.cursor.now c.takes.new.self c.literal.new.self c.in-Err.stop (c.if-not-takes.ensures.yes refl) c.in-Err.ensures
