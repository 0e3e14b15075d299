use Rattle.std.proofs.Common.{◌≡◌, ◌+ℤ◌, to_z, of_z, sym, ap, ◌∙◌, subst, arith}
use Rattle.std.specs.Int.{w128}
use Rattle.std.proofs.lemmas.Int.{ints, to_z-of_z}
use Rattle.prof_tree.specs.Growing.{IsGrown}
use Rattle.prof_tree.specs.Nodes.{nodes_of, keys_of, root_total, own_total}
use Rattle.prof_view_tree.specs.Sprouting.{AreWeighed}
use Rattle.prof_view_tree.specs.Weighing.{held, row_path}
use Rattle.prof_view_tree.proofs.Alike.{grown_alike}
use Rattle.prof_tree.proofs.Law.{keys_of-law}
use Rattle.prof_tree.proofs.Balance.{root_balance, own_balance}
use Rattle.prof_view_tree.proofs.plain_tree.tree_of_rows.Goals as goal

pub grown_by_rows-requires : goal.grown_by_rows-requires
grown_by_rows-requires c = subst (AreWeighed c.args.stacks.now) (sym c.deref.ensures.value) c.requires.weighed

listed_nodes : goal.returns-clause-nodes
listed_nodes c = λ xs w.
    let rows = c.in_ok-rows.ensures in
    let stacks = c.args.stacks.now in
    let own = c.args.weights.now.by_row.items in
    let by_rows : IsGrown (held (row_path stacks) 0 own) rows.0 c.in_ok-rows.rows.items rows.1 =
    subst (λ l. IsGrown (held (row_path stacks) 0 l) rows.0 c.in_ok-rows.rows.items rows.1) c.deref.ensures.value rows.2 in
    let all : IsGrown xs rows.0 c.in_ok-rows.rows.items rows.1 = grown_alike (held (row_path stacks) 0 own) xs rows.0 c.in_ok-rows.rows.items rows.1 w.alike by_rows in
    c.in_ok-nodes.ensures.nodes xs rows.0 rows.1 (subst (λ l. IsGrown xs rows.0 l rows.1) (sym c.deref-2.ensures.value) all)

pub returns-clause-nodes : goal.returns-clause-nodes
returns-clause-nodes c = listed_nodes c

pub returns-clause-each_once : goal.returns-clause-each_once
returns-clause-each_once c = λ xs w. (keys_of xs, keys_of-law xs, listed_nodes c xs w)

pub returns-clause-roots : goal.returns-clause-roots
returns-clause-roots c =
    let xs = c.requires.samples.0 in
    let h = c.requires.samples.1 in
    let w = c.args.weights.now in
    let selected : to_z w128 (of_z w128 w.selected) ≡ w.selected = search (arith, ints, to_z-of_z) in
    let dropped : to_z w128 (of_z w128 w.dropped) ≡ w.dropped = search (arith, ints, to_z-of_z) in
    ap (λ ns. root_total ns +ℤ to_z w128 (of_z w128 w.dropped)) (listed_nodes c xs h) ∙ ap (λ z. root_total (nodes_of c.args.default xs) +ℤ z) (dropped ∙ h.dropped)
    ∙ root_balance xs c.args.default ∙ sym (selected ∙ h.selected)

pub returns-clause-selves : goal.returns-clause-selves
returns-clause-selves c =
    let xs = c.requires.samples.0 in
    let h = c.requires.samples.1 in
    let w = c.args.weights.now in
    let selected : to_z w128 (of_z w128 w.selected) ≡ w.selected = search (arith, ints, to_z-of_z) in
    let dropped : to_z w128 (of_z w128 w.dropped) ≡ w.dropped = search (arith, ints, to_z-of_z) in
    ap (λ ns. own_total ns +ℤ to_z w128 (of_z w128 w.dropped)) (listed_nodes c xs h) ∙ ap (λ z. own_total (nodes_of c.args.default xs) +ℤ z) (dropped ∙ h.dropped)
    ∙ own_balance xs c.args.default ∙ sym (selected ∙ h.selected)
