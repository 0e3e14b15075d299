use Rattle.std.proofs.Common.{◌≡◌, ◌+ℤ◌, length, map, to_z, of_z, sym, ap, ◌∙◌, subst, arith}
use Rattle.std.specs.Int.{w128}
use Rattle.std.proofs.lemmas.Int.{ints, to_z-of_z}
use Rattle.prof_tables.specs.Threads.{ThreadTables}
use Rattle.prof_tree.specs.Growing.{Adds, IsTable}
use Rattle.prof_tree.specs.Nodes.{reversed, nodes_of, keys_of, at_roots, inverted_of, root_total}
use Rattle.prof_view_tree.specs.Views.{finals}
use Rattle.prof_view_tree.specs.Weighing.{back_path, held}
use Rattle.prof_view_tree.proofs.Alike.{Adds-alike}
use Rattle.prof_tree.proofs.Law.{keys_of-law}
use Rattle.prof_tree.proofs.Balance.{inverted_balance}
use Rattle.prof_tree.proofs.Turns.{key-long}
use Rattle.prof_tree.proofs.Whole.{written, length-at_roots, map-at_roots}
use Rattle.prof_view_tree.proofs.inverted_tree.inverted.Goals as goal

listed_nodes : goal.returns-clause-nodes
listed_nodes g c =
    let l = c.args.layers.now in
    let fs = finals l.base c.args.view.now l.spans in
    let xs = map reversed fs in
    let stacks = c.in_ok-weighted.weighted.rows.items in
    let own = c.in_ok-weighted.weighted.weights.by_row.items in
    let r = c.in_ok-rows.ensures.grown in
    let rows = c.in_ok-rows.rows.items in
    let by_rows : Adds (held (back_path stacks) 0 own) r.0 rows =
    subst (λ s. Adds (held (back_path s) 0 own) r.0 rows) c.deref.ensures.value
    (subst (λ o. Adds (held (back_path c.deref.result.now) 0 o) r.0 rows) c.deref-2.ensures.value r.3) in
    let all : Adds xs r.0 rows = Adds-alike (held (back_path stacks) 0 own) xs r.0 rows c.in_ok-weighted.ensures.weighs.backward (key-long r.0 rows r.1 r.2) by_rows in
    let default = c.default_category.ensures.value ∙ ap (λ (b : ThreadTables). b.shared.default) c.base.ensures in
    let nodes : map at_roots c.in_ok-nodes.nodes.items ≡ map at_roots (nodes_of l.base.shared.default xs) =
    c.in_ok-nodes.ensures.upward xs r.0 r.1 (subst (λ rows. IsTable r.0 rows r.1) (sym c.deref-3.ensures.value) r.2) (subst (Adds xs r.0) (sym c.deref-3.ensures.value) all)
    ∙ ap (λ d. map at_roots (nodes_of d xs)) default in
    let roots : c.weigh_roots.new.nodes ≡ map at_roots c.in_ok-nodes.nodes.items = c.weigh_roots.ensures ∙ ap (map at_roots) c.deref_mut.ensures.value in
    written c.in_ok-nodes.nodes.len c.weigh_roots.new.nodes c.in_ok-nodes.nodes.items (omega (arith, c.in_ok-nodes.nodes.ok.0)) (ap length roots ∙ length-at_roots c.in_ok-nodes.nodes.items)
    ∙ roots ∙ nodes

pub returns-clause-nodes : goal.returns-clause-nodes
returns-clause-nodes g c = listed_nodes g c

pub returns-clause-each_once : goal.returns-clause-each_once
returns-clause-each_once g c =
    let l = c.args.layers.now in
    let xs = map reversed (finals l.base c.args.view.now l.spans) in
    (keys_of xs, keys_of-law xs, listed_nodes g c ∙ map-at_roots l.base.shared.default xs (keys_of xs))

pub returns-clause-roots : goal.returns-clause-roots
returns-clause-roots g c =
    let l = c.args.layers.now in
    let fs = finals l.base c.args.view.now l.spans in
    let h = c.in_ok-weighted.ensures.weighs in
    let w = c.in_ok-weighted.weighted.weights in
    let selected : to_z w128 (of_z w128 w.selected) ≡ w.selected = search (arith, ints, to_z-of_z) in
    let dropped : to_z w128 (of_z w128 w.dropped) ≡ w.dropped = search (arith, ints, to_z-of_z) in
    ap (λ ns. root_total ns +ℤ to_z w128 (of_z w128 w.dropped)) (listed_nodes g c)
    ∙ ap (λ d. root_total (inverted_of l.base.shared.default fs) +ℤ d) (dropped ∙ h.dropped)
    ∙ inverted_balance l.base.shared.default fs ∙ sym (selected ∙ h.selected)
