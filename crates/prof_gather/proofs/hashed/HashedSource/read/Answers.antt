use Rattle.std.proofs.Math.Logic.{∥∥₁_map}
use Rattle.prof_gather.proofs.Fronts.{front_stays, front_moves}
use Rattle.prof_gather.proofs.hashed.HashedSource.read.Goals as goal

pub invariant_of-self : goal.invariant_of-self
invariant_of-self g c = record { front = ∥∥₁_map c.args.self.now.front (front_stays _ _ _ _ c.in_err-count.ensures.bytes) }

pub invariant_of-self-2 : goal.invariant_of-self-2
invariant_of-self-2 g c = record { front = ∥∥₁_map c.args.self.now.front (front_moves _ _ _ _ _ _ c.in_ok-count.ensures.bytes.0 c.update.ensures) }
