use Rattle.std.proofs.Common.{◌≡◌, ◌+◌, ◌<◌, ◌≤◌, ◌∷◌, ◌++◌, [], length, take, get_or, to_z, of_z, sym, ap, subst, arith}
use Rattle.std.specs.Prelude.{unsigned_abs, IfSome}
use Rattle.std.specs.Int.{w128}
use Rattle.std.proofs.lemmas.Option.{slice_get-get_or}
use Rattle.prof_view_tree.specs.Groups.{AreBelow, bulk, bundle, rest_path}
use Rattle.prof_view_tree.specs.Weighing.{AreAlike, back_path, no_row}
use Rattle.prof_view_tree.proofs.Entries.{alike_above, alike_none, below_at, bulk_next, bulk_take, no_entry}
use Rattle.prof_view_tree.proofs.Sampled.{same128}
use Rattle.prof_view_tree.proofs.groups.prefixes_of.Goals as goal
use Rattle.prof_view_tree.proofs.groups.prefixes_of.Goals.{in-Some+in_ok-join, in_default}

pub join-requires-clause-row : goal.join-requires-clause-row
join-requires-clause-row c =
    let stacks = c.args.stacks.now in
    let entry = get_or c.args.group.now c.loop-entry.entry-index no_entry in
    let inside : entry.row < length stacks = below_at (length stacks) c.args.group.now c.loop-entry.entry-index c.requires.entries.rows c.loop-entry-test.true in
    let under : IfSome (get_or stacks entry.row no_row).prefix (λ p. p < entry.row) = c.requires.below entry.row (get_or stacks entry.row no_row) (slice_get-get_or stacks entry.row no_row inside) in
    let less : c.in-Some.prefix < entry.row = subst (λ o. IfSome o (λ p. p < entry.row)) c.in-Some.is under in
    omega (arith, less, inside, c.requires.seats)

pub join-requires-clause-light : goal.join-requires-clause-light
join-requires-clause-light c =
    let group = c.args.group.now in
    let n = c.loop-entry.entry-index in
    let w = (get_or group n no_entry).weight in
    let next = bulk_next group n c.loop-entry-test.true in
    let some = bulk_take group (n + 1) in
    let light = c.requires.entries.light in
    let same : to_z w128 (of_z w128 w) ≡ w = same128 w (omega (arith, next, some, light)) in
    let size : unsigned_abs (to_z w128 (of_z w128 w)) ≡ unsigned_abs w = ap unsigned_abs same in
    omega (arith, next, some, light, size, c.loop-entry.invariant.light)

pub loop-entry-preserved : goal.loop-entry-preserved
loop-entry-preserved c =
    let stacks = c.args.stacks.now in
    let group = c.args.group.now in
    let n = c.loop-entry.entry-index in
    let entry = get_or group n no_entry in
    let above = c.loop-entry.above.items in
    let h = c.loop-entry.invariant in
    let inside = c.loop-entry-test.true in
    let next = bulk_next group n inside in
    let some = bulk_take group (n + 1) in
    let light = c.requires.entries.light in
    let same : to_z w128 (of_z w128 entry.weight) ≡ entry.weight = same128 entry.weight (omega (arith, next, some, light)) in
    let size : unsigned_abs (to_z w128 (of_z w128 entry.weight)) ≡ unsigned_abs entry.weight = ap unsigned_abs same in
    elim c.match-stacks-entry.branch [
      | in-Some+in_ok-join w ↦
          let p = w.in-Some.prefix in
          let new = w.join.new.entries.items in
          let joins = w.in_ok-join.ensures in
          let l = joins.light in
          let less : p < length stacks = (let row : entry.row < length stacks = below_at (length stacks) group n c.requires.entries.rows inside in
          let under : IfSome (get_or stacks entry.row no_row).prefix (λ p. p < entry.row) = c.requires.below entry.row (get_or stacks entry.row no_row) (slice_get-get_or stacks entry.row no_row row) in
          let k : p < entry.row = subst (λ o. IfSome o (λ p. p < entry.row)) w.in-Some.is under in omega (arith, k, row)) in
          let items : c.match-stacks-entry.above.items ≡ new = ap (λ v. v.items) w.above-is in
          record {
            paths = subst (λ z. AreAlike (bundle (rest_path stacks) (take (n + 1) group)) (bundle (back_path stacks) z)) (sym items)
                (alike_above stacks group n inside above new p w.in-Some.is h.paths
                (subst (λ z. AreAlike (bundle (back_path stacks) above ++ record { steps = back_path stacks p; weight = z } ∷ []) (bundle (back_path stacks) new)) same (joins.paths (back_path stacks))));
            rows = subst (AreBelow (length stacks)) (sym items) (joins.rows (length stacks) less h.rows);
            light = subst (λ z. bulk z ≤ bulk (take (n + 1) group)) (sym items) (omega (arith, l, h.light, next, size));
          }
      | in_default w ↦
          let items : c.match-stacks-entry.above.items ≡ above = ap (λ v. v.items) w.above-is in
          record {
            paths = subst (λ z. AreAlike (bundle (rest_path stacks) (take (n + 1) group)) (bundle (back_path stacks) z)) (sym items) (alike_none stacks group n inside above w.in_default.is h.paths);
            rows = subst (AreBelow (length stacks)) (sym items) h.rows;
            light = subst (λ z. bulk z ≤ bulk (take (n + 1) group)) (sym items) (omega (arith, h.light, next));
          }
    ]
