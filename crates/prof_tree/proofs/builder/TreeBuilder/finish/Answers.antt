use Rattle.std.proofs.Common.{◌≡◌, ◌+ℤ◌, to_z, of_z, sym, ap, ◌∙◌, subst, arith}
use Rattle.std.specs.Int.{w128}
use Rattle.std.proofs.lemmas.Int.{ints, to_z-of_z}
use Rattle.std.specs.HashMap.{get}
use Rattle.prof_tree.specs.Nodes.{nodes_of, keys_of, root_total, own_total}
use Rattle.prof_tree.proofs.Law.{keys_of-law}
use Rattle.prof_tree.proofs.Balance.{root_balance, own_balance}
use Rattle.prof_tree.specs.Growing.{IsGrown, AreSummed, pair_eq}
use Rattle.prof_tree.proofs.builder.TreeBuilder.finish.Goals as goal

pub finish-requires : goal.finish-requires
finish-requires c =
    let h = c.requires in
    subst AreSummed (sym c.deref.ensures.value) (h.0, h.1.keys, get pair_eq c.args.self.index, h.1.grown.table, h.1.grown.adds)

listed_nodes : goal.returns-clause-nodes
listed_nodes c = λ xs h.
    c.in_ok-nodes.ensures.nodes xs h.keys (get pair_eq c.args.self.index) (subst (λ rows. IsGrown xs h.keys rows (get pair_eq c.args.self.index)) (sym c.deref.ensures.value) h.grown)

pub returns-clause-nodes : goal.returns-clause-nodes
returns-clause-nodes c = listed_nodes c

pub returns-clause-each_once : goal.returns-clause-each_once
returns-clause-each_once c = λ xs h. (keys_of xs, keys_of-law xs, listed_nodes c xs h)

pub returns-clause-roots : goal.returns-clause-roots
returns-clause-roots c =
    let xs = c.requires.0 in
    let h = c.requires.1 in
    let selected : to_z w128 (of_z w128 c.args.self.selected) ≡ c.args.self.selected = search (arith, ints, to_z-of_z) in
    let dropped : to_z w128 (of_z w128 c.args.self.dropped) ≡ c.args.self.dropped = search (arith, ints, to_z-of_z) in
    ap (λ ns. root_total ns +ℤ to_z w128 (of_z w128 c.args.self.dropped)) (listed_nodes c xs h) ∙ ap (λ d. root_total (nodes_of c.args.default xs) +ℤ d) (dropped ∙ h.dropped) ∙ root_balance xs c.args.default ∙ sym (selected ∙ h.selected)

pub returns-clause-selves : goal.returns-clause-selves
returns-clause-selves c =
    let xs = c.requires.0 in
    let h = c.requires.1 in
    let selected : to_z w128 (of_z w128 c.args.self.selected) ≡ c.args.self.selected = search (arith, ints, to_z-of_z) in
    let dropped : to_z w128 (of_z w128 c.args.self.dropped) ≡ c.args.self.dropped = search (arith, ints, to_z-of_z) in
    ap (λ ns. own_total ns +ℤ to_z w128 (of_z w128 c.args.self.dropped)) (listed_nodes c xs h) ∙ ap (λ d. own_total (nodes_of c.args.default xs) +ℤ d) (dropped ∙ h.dropped) ∙ own_balance xs c.args.default ∙ sym (selected ∙ h.selected)
