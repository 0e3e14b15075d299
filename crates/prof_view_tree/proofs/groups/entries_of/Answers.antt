use Rattle.std.proofs.Common.{◌≡◌, ◌+◌, ◌∷◌, ◌++◌, [], ℤ, take, get_or, Some, None, to_z, of_z, sym, ap, ◌∙◌, subst, arith}
use Rattle.std.specs.Int.{w128}
use Rattle.prof_view_tree.specs.declared.groups.Entry.{Entry}
use Rattle.prof_view_tree.specs.Groups.{AreBelow, bulk, bundle}
use Rattle.prof_view_tree.specs.Weighing.{mass}
use Rattle.prof_view_tree.proofs.Entries.{below-more, below-snoc, bulk-snoc, bundle-snoc, mass_next, next_none, next_some}
use Rattle.prof_view_tree.proofs.Masses.{mass_within, read_at}
use Rattle.prof_view_tree.proofs.Sampled.{same128}
use Rattle.prof_view_tree.proofs.groups.entries_of.Goals as goal
use Rattle.prof_view_tree.proofs.groups.entries_of.Goals.{in-Some+in_ok-push, in_default}

pub loop-place-preserved : goal.loop-place-preserved
loop-place-preserved c =
    let own = c.args.own.now in
    let n = c.loop-place.place in
    let es = c.loop-place.entries.items in
    let h = c.loop-place.invariant in
    let inside = c.loop-place-test.true in
    let read : get_or own n None ≡ c.get.result = read_at own n c.index-own-place.result c.get.result inside c.index-own-place.is c.get.ensures in
    elim c.match-get.branch [
      | in-Some+in_ok-push w ↦
          let v = w.in-Some.weight in
          let e : Entry = record { row = n; weight = v } in
          let size = mass_next own n (Some v) inside (read ∙ w.in-Some.is) in
          let some = mass_within own (n + 1) in
          let with : ℤ → Entry = λ z. record { row = n; weight = z } in
          let same : with (to_z w128 (of_z w128 v)) ≡ e = ap with (same128 v (omega (arith, size, some, c.requires.light))) in
          let items : c.match-get.entries.items ≡ es ++ e ∷ [] = ap (λ v. v.items) w.entries-is ∙ w.in_ok-push.ensures.items ∙ ap (λ e. es ++ e ∷ []) same in
          let sum : bulk (es ++ e ∷ []) ≡ mass (take (n + 1) own) = omega (arith, bulk-snoc es e, h.size, size) in
          record {
            paths = λ path_at. ap (bundle path_at) items ∙ bundle-snoc path_at es e ∙ ap (λ xs. xs ++ record { steps = path_at n; weight = v } ∷ []) (h.paths path_at) ∙ next_some path_at own n inside v (read ∙ w.in-Some.is);
            rows = subst (AreBelow (n + 1)) (sym items) (below-snoc (n + 1) es e (below-more n (n + 1) es (omega arith) h.rows) (omega arith));
            size = ap bulk items ∙ sum;
          }
      | in_default w ↦
          let items : c.match-get.entries.items ≡ es = ap (λ v. v.items) w.entries-is in
          let size = mass_next own n None inside (read ∙ w.in_default.is) in
          let sum : bulk es ≡ mass (take (n + 1) own) = omega (arith, h.size, size) in
          record {
            paths = λ path_at. ap (bundle path_at) items ∙ h.paths path_at ∙ next_none path_at own n inside (read ∙ w.in_default.is);
            rows = subst (AreBelow (n + 1)) (sym items) (below-more n (n + 1) es (omega arith) h.rows);
            size = ap bulk items ∙ sum;
          }
    ]
