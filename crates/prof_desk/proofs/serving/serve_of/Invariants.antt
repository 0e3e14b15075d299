-- The profiles before this one were read, and the desk has them.
use Rattle.prof_io.specs.Outside.{seen}
use Rattle.prof_desk.proofs.Servings.{HasRead}
use Rattle.prof_desk.proofs.serving.serve_of.Given as goal

abbrev pub invariant-loop-accepted : goal.invariant-loop-accepted
invariant-loop-accepted g l =
    HasRead l.fn.port l.fn.connections l.fn.sessions l.fn.profiles (seen g.F.Counted l.fn.files) (seen g.S.Counted l.fn.out) l.fn.reads (seen g.F.Counted l.files) l.desk l.accepted
