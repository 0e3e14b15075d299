use Rattle.std.proofs.Common.{◌≡◌, ◌+ℤ◌, length, map, to_z, of_z, sym, ap, ◌∙◌, subst, arith}
use Rattle.std.proofs.lemmas.Int.{ints, to_z-of_z}
use Rattle.std.specs.Int.{w128}
use Rattle.prof_tree.specs.Growing.{IsGrown}
use Rattle.prof_tree.specs.Nodes.{weighed, reversed, nodes_of, keys_of, at_roots, inverted_of, root_total}
use Rattle.prof_tree.proofs.Law.{keys_of-law}
use Rattle.prof_tree.proofs.Balance.{inverted_balance}
use Rattle.prof_tree.proofs.Whole.{written, length-at_roots, map-at_roots}
use Rattle.prof_tree.proofs.tree.of_reversed.Goals as goal

listed_nodes : goal.returns-clause-nodes
listed_nodes c =
    let xs = map reversed (weighed c.args.paths.now c.args.weights.now) in
    let g = c.in_ok-rows.ensures.grown in
    let nodes : c.in_ok-nodes.nodes.items ≡ nodes_of c.args.default xs = c.in_ok-nodes.ensures.nodes xs g.0 g.1 (subst (λ rows. IsGrown xs g.0 rows g.1) (sym c.deref.ensures.value) g.2) in
    let roots : c.weigh_roots.new.nodes ≡ map at_roots c.in_ok-nodes.nodes.items = c.weigh_roots.ensures ∙ ap (map at_roots) c.deref_mut.ensures.value in
    written c.in_ok-nodes.nodes.len c.weigh_roots.new.nodes c.in_ok-nodes.nodes.items (omega (arith, c.in_ok-nodes.nodes.ok.0)) (ap length roots ∙ length-at_roots c.in_ok-nodes.nodes.items)
    ∙ roots ∙ ap (map at_roots) nodes

pub returns-clause-nodes : goal.returns-clause-nodes
returns-clause-nodes c = listed_nodes c

pub returns-clause-each_once : goal.returns-clause-each_once
returns-clause-each_once c =
    let xs = map reversed (weighed c.args.paths.now c.args.weights.now) in
    (keys_of xs, keys_of-law xs, listed_nodes c ∙ map-at_roots c.args.default xs (keys_of xs))

pub returns-clause-roots : goal.returns-clause-roots
returns-clause-roots c =
    let xs = weighed c.args.paths.now c.args.weights.now in
    let selected : to_z w128 (of_z w128 c.sums-selected.result.0) ≡ c.sums-selected.result.0 = search (arith, ints, to_z-of_z) in
    let dropped : to_z w128 (of_z w128 c.sums-selected.result.1) ≡ c.sums-selected.result.1 = search (arith, ints, to_z-of_z) in
    ap (λ ns. root_total ns +ℤ to_z w128 (of_z w128 c.sums-selected.result.1)) (listed_nodes c)
    ∙ ap (λ d. root_total (inverted_of c.args.default xs) +ℤ d) (dropped ∙ c.sums-selected.ensures.dropped)
    ∙ inverted_balance c.args.default xs ∙ sym (selected ∙ c.sums-selected.ensures.selected)
