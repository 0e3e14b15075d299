use Rattle.std.proofs.Common.{◌≡◌, map, ap, ◌∙◌}
use Rattle.prof_tree.specs.Forest.{branch, IsForest, key}
use Rattle.prof_tree.specs.Growing.{node_from}
use Rattle.prof_tree.specs.Nodes.{at_roots, keys_of}
use Rattle.prof_tree.proofs.Whole.{forest_from, forest_of, nodes_are, roots_are}
use Rattle.prof_tree.proofs.finishing.finish.Goals as goal

pub returns-clause-nodes : goal.returns-clause-nodes
returns-clause-nodes c = λ xs ks look g.
    let f : IsForest xs ks c.args.rows.now = forest_of xs ks c.args.rows.now look g in
    let keys : map (key ks) c.in_ok-order.order.items ≡ keys_of xs = c.in_ok-order.ensures.keys xs ks f in
    c.in_ok-nodes_at.ensures
    ∙ ap (λ order. map (λ row. node_from c.args.default (branch c.args.rows.now row)) order) c.deref.ensures.value
    ∙ nodes_are c.args.default xs ks c.args.rows.now look g c.in_ok-order.order.items c.in_ok-order.ensures.in_rows keys

pub returns-clause-upward : goal.returns-clause-upward
returns-clause-upward c = λ xs ks look t a.
    let f : IsForest xs ks c.args.rows.now = forest_from xs ks c.args.rows.now look t a in
    let keys : map (key ks) c.in_ok-order.order.items ≡ keys_of xs = c.in_ok-order.ensures.keys xs ks f in
    ap (map at_roots)
    (c.in_ok-nodes_at.ensures
    ∙ ap (λ order. map (λ row. node_from c.args.default (branch c.args.rows.now row)) order) c.deref.ensures.value)
    ∙ roots_are c.args.default xs ks c.args.rows.now look t a c.in_ok-order.order.items c.in_ok-order.ensures.in_rows keys
