use Rattle.std.proofs.Common.{◌≡◌, ◌+ℤ◌, ◌++◌, ◌∷◌, [], length, set, FitsSigned, to_z, of_z, sym, ap, ◌∙◌, subst, arith}
use Rattle.std.specs.HashMap.{get}
use Rattle.std.specs.Int.{w128}
use Rattle.prof_view_tree.specs.Climbing.{AreComing}
use Rattle.prof_tree.specs.Forest.{branch}
use Rattle.prof_tree.specs.Growing.{pair_eq, stepped}
use Rattle.prof_view_tree.proofs.Coming.{above_kept, at_node, coming_more, fits_node}
use Rattle.prof_view_tree.proofs.Entries.{below-last, bulk-snoc}
use Rattle.prof_view_tree.proofs.Sampled.{same128}
use Rattle.prof_view_tree.proofs.climbing.Climb.put.Goals as goal

pub add_total-requires-clause-row : goal.add_total-requires-clause-row
add_total-requires-clause-row c =
    let q = c.requires.coming in
    let s = c.args.self.now in
    let t = at_node q.0 q.1 q.2 c.args.parent q.3 q.4 c.args.entry q.5 s.rows.items (get pair_eq s.index) s.groups.items q.6 c.args.step c.args.depth q.8 c.child.new.rows.items (get pair_eq c.child.new.index) c.in_ok-node.node c.in_ok-node.ensures in
    t.1.inside

pub add_total-requires-clause-fits : goal.add_total-requires-clause-fits
add_total-requires-clause-fits c =
    let q = c.requires.coming in
    let s = c.args.self.now in
    let w = c.args.entry.weight in
    let rows = c.child.new.rows.items in
    let look = get pair_eq c.child.new.index in
    let t = at_node q.0 q.1 q.2 c.args.parent q.3 q.4 c.args.entry q.5 s.rows.items (get pair_eq s.index) s.groups.items q.6 c.args.step c.args.depth q.8 rows look c.in_ok-node.node c.in_ok-node.ensures in
    let same : to_z w128 (of_z w128 w) ≡ w = same128 w (omega (arith, bulk-snoc q.4 c.args.entry, q.7.light)) in
    subst (λ z. FitsSigned w128 ((branch rows c.in_ok-node.node).total +ℤ z)) (sym same)
    (fits_node q.0 q.1 q.2 c.args.parent q.3 q.4 c.args.entry q.5 s.rows.items (get pair_eq s.index) s.groups.items q.6 c.args.step t.0 rows look c.in_ok-node.node t.1 q.7.light)

pub returns : goal.returns
returns c = λ stacks zs n m es ks a entries below is_step deep.
    let s = c.args.self.now in
    let o = c.args.parent in
    let e = c.args.entry in
    let rows = c.child.new.rows.items in
    let look = get pair_eq c.child.new.index in
    let groups = c.stand.new.groups.items in
    let r = c.in_ok-node.node in
    let t = at_node stacks zs n o m es e ks s.rows.items (get pair_eq s.index) s.groups.items a c.args.step c.args.depth deep rows look r c.in_ok-node.ensures in
    let inside = below-last (length stacks) es e entries.rows in
    let same : to_z w128 (of_z w128 e.weight) ≡ e.weight = same128 e.weight (omega (arith, bulk-snoc es e, entries.light)) in
    let is_set : c.add_total.new.rows.items ≡ set rows r (stepped (branch rows r) c.args.step e.weight) = c.add_total.ensures ∙ ap (λ w. set rows r (stepped (branch rows r) c.args.step w)) same in
    let stands = c.in_ok-stand.ensures in
    let more = coming_more stacks zs n o m es e ks s.rows.items (get pair_eq s.index) s.groups.items a c.args.step below inside is_step t.0 rows look r t.1 groups stands.len stands.here stands.others in (
      t.0,
      subst (λ z. AreComing stacks zs n o m (es ++ e ∷ []) t.0 z look groups) (sym is_set) more,
      above_kept stacks zs n o m es e ks s.rows.items (get pair_eq s.index) s.groups.items a c.args.step below inside is_step t.0 rows look r t.1 groups stands.len stands.here stands.others,
    )
