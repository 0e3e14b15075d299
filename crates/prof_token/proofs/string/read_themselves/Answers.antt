use Rattle.std.proofs.Common.{[], arith}
use Rattle.std.specs.Prelude.{None}
use Rattle.prof_token.proofs.Journeys.{moves_here, moves_wrong, moves_plain, on_ok_map}
use Rattle.prof_token.proofs.Machines.{goes_wrong}
use Rattle.prof_token.proofs.Turns as t
use Rattle.prof_token.proofs.Written.{writes_fault}
use Rattle.prof_token.proofs.string.read_themselves.Goals as goal

pub returns-then-first-lt128-clause-moves : goal.returns-then-first-lt128-clause-moves
returns-then-first-lt128-clause-moves g c = moves_plain c.read_plain.result c.read_plain.ensures.run c.read_plain.ensures.err

pub returns-then-first-lt128-clause-further : goal.returns-then-first-lt128-clause-further
returns-then-first-lt128-clause-further g c = on_ok_map c.read_plain.result (λ h. let p = h.1 in let q = h.2.place in omega arith) c.read_plain.ensures.run

pub returns-then-first-lt194-clause-moves : goal.returns-then-first-lt194-clause-moves
returns-then-first-lt194-clause-moves g c = moves_wrong c.wrong.ensures (moves_here _ _)

pub returns-then-first-lt194-clause-exact : goal.returns-then-first-lt194-clause-exact
returns-then-first-lt194-clause-exact g c = λ begun k s p ps h d.
    writes_fault (goes_wrong {b = c.args.input.now} {m = None} {qs = ps} {es = []} c.args.first c.requires.next (t.text_wrong k s p ps c.args.first (t.bad_middle c.args.first c.if-first-lt128.false c.if-first-lt194.true)) c.wrong.ensures)

pub returns-clause-exact : goal.returns-clause-exact
returns-clause-exact g c = λ begun k s p ps h d.
    writes_fault (goes_wrong {b = c.args.input.now} {m = None} {qs = ps} {es = []} c.args.first c.requires.next (t.text_wrong k s p ps c.args.first (t.bad_high c.args.first c.if-first-lt245.false)) c.wrong-2.ensures)
