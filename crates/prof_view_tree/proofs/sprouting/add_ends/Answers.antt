use Rattle.std.proofs.Common.{◌≡◌, ◌+◌, get_or, None, sym, ◌∙◌, subst, arith}
use Rattle.prof_view_tree.proofs.Masses.{read_at}
use Rattle.prof_view_tree.proofs.RowByRow.{AreEnded, ended_first, ended_none, ended_some, ended_all, end_found, end_in, end_fits}
use Rattle.prof_view_tree.proofs.sprouting.add_ends.Goals as goal
use Rattle.prof_view_tree.proofs.sprouting.add_ends.Goals.{in-Some+in-Some-nodes, in-Some+in_default-nodes, in_default}

pub loop-place-init : goal.loop-place-init
loop-place-init c = λ stacks ks look weighed s. ended_first stacks c.args.own.now weighed ks look c.args.nodes.now c.args.rows.now.items s

pub add_own-requires-clause-row : goal.add_own-requires-clause-row
add_own-requires-clause-row c =
    let r = c.requires in
    let k = c.loop-place.invariant r.0 r.1 r.2 r.3 r.4 in
    end_in r.0 c.args.own.now r.3 r.1 r.2 c.args.nodes.now c.loop-place.rows.items c.loop-place.place c.loop-place-test.true k c.in-Some.weight (read_at c.args.own.now c.loop-place.place c.index-own-place.result c.get.result c.loop-place-test.true c.index-own-place.is c.get.ensures ∙ c.in-Some.is) c.in-Some-nodes.row c.in-Some-nodes.is

pub add_own-requires-clause-fits : goal.add_own-requires-clause-fits
add_own-requires-clause-fits c =
    let r = c.requires in
    let k = c.loop-place.invariant r.0 r.1 r.2 r.3 r.4 in
    end_fits r.0 c.args.own.now r.3 r.1 r.2 c.args.nodes.now c.loop-place.rows.items c.loop-place.place c.loop-place-test.true k c.in-Some.weight (read_at c.args.own.now c.loop-place.place c.index-own-place.result c.get.result c.loop-place-test.true c.index-own-place.is c.get.ensures ∙ c.in-Some.is) c.in-Some-nodes.row c.in-Some-nodes.is

pub loop-place-preserved : goal.loop-place-preserved
loop-place-preserved c = λ stacks ks look weighed s.
    let k = c.loop-place.invariant stacks ks look weighed s in
    let own = c.args.own.now in
    let nodes = c.args.nodes.now in
    let n = c.loop-place.place in
    let read : get_or own n None ≡ c.get.result = read_at own n c.index-own-place.result c.get.result c.loop-place-test.true c.index-own-place.is c.get.ensures in
    elim c.match-get.branch [
      | in-Some+in-Some-nodes w ↦
          subst (λ r. AreEnded stacks own (n + 1) ks r.items look nodes) (sym w.rows-is)
          (ended_some stacks own weighed ks look nodes c.loop-place.rows.items n c.loop-place-test.true k w.in-Some.weight (read ∙ w.in-Some.is) w.in-Some-nodes.row w.in-Some-nodes.is w.add_own.new.rows.items w.add_own.ensures)
      | in-Some+in_default-nodes w ↦
          let f = end_found stacks own weighed ks look nodes c.loop-place.rows.items n c.loop-place-test.true k w.in-Some.weight (read ∙ w.in-Some.is) in
          absurd (w.in_default-nodes.not-Some f.0 f.1)
      | in_default w ↦
          subst (λ r. AreEnded stacks own (n + 1) ks r.items look nodes) (sym w.rows-is)
          (ended_none stacks own weighed ks look nodes c.loop-place.rows.items n c.loop-place-test.true k (read ∙ w.in_default.is))
    ]

pub returns : goal.returns
returns c = λ stacks ks look weighed s.
    ended_all stacks c.args.own.now weighed ks look c.args.nodes.now c.loop-place.rows.items c.loop-place.place (omega (arith, c.loop-place-test.false)) (c.loop-place.invariant stacks ks look weighed s)
