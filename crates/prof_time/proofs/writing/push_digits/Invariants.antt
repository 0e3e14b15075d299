use Rattle.prof_time.proofs.Spellings.{IsPushing}
use Rattle.prof_time.proofs.writing.push_digits.Given as goal

abbrev pub invariant-loop-rest : goal.invariant-loop-rest
invariant-loop-rest l = IsPushing l.out.bytes l.places l.rest l.initial.out.bytes l.initial.places l.initial.rest

abbrev pub decreases-loop-rest : goal.decreases-loop-rest
decreases-loop-rest l = l.places
