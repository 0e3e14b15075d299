use Rattle.std.proofs.Common.{refl, ap, Some, arith}
use Rattle.prof_memory.proofs.Shelves.{goes_on}
use Rattle.prof_memory.proofs.steady.SteadyHallHall.next.Goals as goal

pub returns-clause-given : goal.returns-clause-given
returns-clause-given c = λ _.
    let (came, rest, a, b, e) = goes_on c.args.self.now.coming.items c.args.self.now.given (omega arith) in
    record {
      called_at = refl;
      returned_at = refl;
      files = refl;
      begins = refl;
      begun_at = refl;
      given = (came, (rest, a, ap (λ l. Some l) b, ap (λ l. Some l) e), tt);
      kept = tt;
      fresh = tt;
    }
