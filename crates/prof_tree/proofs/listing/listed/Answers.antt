use Rattle.std.proofs.Common.{◌+◌, [], ◌∷◌, length-append, arith}
use Rattle.std.proofs.lemmas.List.Elements.{Contains-get_or}
use Rattle.prof_tree.proofs.Steps.{Pending-none, Pending-more, Pending-all, top_in, top_room, few_out, none_popped}
use Rattle.prof_tree.proofs.Kids.{Elem-contains, at_none}
use Rattle.prof_tree.proofs.listing.listed.Goals as goal

pub loop-row-init : goal.loop-row-init
loop-row-init c =
    let first = c.args.children.now.first.items in
    Pending-none c.args.rows.now first c.args.children.now.next.items c.index.result.now c.in_ok-out.out.items c.push_some.new.stack.items c.new-stack.result.items c.requires.children
    (at_none first 0 c.index.result.now (omega (arith, c.requires.children.len)) c.index.ensures) c.in_ok-out.ensures.items c.new-stack.ensures.items c.in_ok-push_some.ensures

pub index-requires-in-Some : goal.index-requires-in-Some
index-requires-in-Some c =
    let i = top_in c.args.rows.now c.args.children.now.next.items c.loop-row.out.items c.loop-row.stack.items c.pop.new.self.items c.in-Some.row c.requires.forest c.in-Some.ensures.items c.loop-row.invariant in
    omega (arith, i, c.requires.children.len_next, c.args.children.now.next.ok.0)

pub index-requires-in-Some-2 : goal.index-requires-in-Some-2
index-requires-in-Some-2 c =
    let i = top_in c.args.rows.now c.args.children.now.next.items c.loop-row.out.items c.loop-row.stack.items c.pop.new.self.items c.in-Some.row c.requires.forest c.in-Some.ensures.items c.loop-row.invariant in
    omega (arith, i, c.requires.children.len, c.args.children.now.first.ok.0)

pub loop-row-smaller : goal.loop-row-smaller
loop-row-smaller c =
    let i = top_room c.args.rows.now c.args.children.now.next.items c.loop-row.out.items c.loop-row.stack.items c.pop.new.self.items c.in-Some.row c.requires.forest c.in-Some.ensures.items c.loop-row.invariant in
    rw c.in_ok-push.ensures.items (omega (arith, i, length-append c.loop-row.out.items (c.in-Some.row ∷ [])))

pub loop-row-preserved : goal.loop-row-preserved
loop-row-preserved c =
    let first = c.args.children.now.first.items in
    let next = c.args.children.now.next.items in
    let row = c.in-Some.row in
    let i = top_in c.args.rows.now next c.loop-row.out.items c.loop-row.stack.items c.pop.new.self.items row c.requires.forest c.in-Some.ensures.items c.loop-row.invariant in
    Pending-more c.args.rows.now first next c.loop-row.out.items c.push.new.self.items c.loop-row.stack.items c.pop.new.self.items c.push_some-in-Some.new.stack.items c.push_some-in-Some-2.new.stack.items c.index-in-Some.result.now c.index-in-Some-2.result.now row
    c.requires.forest c.requires.children c.in-Some.ensures.items c.in_ok-push.ensures.items
    (at_none next row c.index-in-Some.result.now (omega (arith, i, c.requires.children.len_next)) c.index-in-Some.ensures)
    (at_none first (row + 1) c.index-in-Some-2.result.now (omega (arith, i, c.requires.children.len)) c.index-in-Some-2.ensures)
    c.in_ok-push_some-2.ensures c.in_ok-push_some-3.ensures c.loop-row.invariant

pub returns-clause-keys : goal.returns-clause-keys
returns-clause-keys c = Pending-all c.args.rows.now c.args.children.now.next.items c.loop-row.out.items c.loop-row.stack.items (none_popped c.pop.result c.loop-row.stack c.pop.new.self c.in_default.not-Some c.pop.ensures.cases) c.loop-row.invariant

pub returns-clause-in_rows : goal.returns-clause-in_rows
returns-clause-in_rows c =
    let w = c.requires.forest in
    let l = c.loop-row.invariant.listed w.0 w.1 w.2 in
    λ k d h. l.out_in _ (Elem-contains c.loop-row.out.items _ (Contains-get_or c.loop-row.out.items k d h))

pub returns-clause-few : goal.returns-clause-few
returns-clause-few c =
    let w = c.requires.forest in
    few_out w.0 w.1 c.args.rows.now w.2 c.loop-row.out.items c.loop-row.invariant.pend (c.loop-row.invariant.listed w.0 w.1 w.2)
