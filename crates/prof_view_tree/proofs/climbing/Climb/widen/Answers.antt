use Rattle.std.proofs.Common.{◌≡◌, ◌+◌, length, Some, Result, Ok, Err, sym, ap, ◌∙◌, subst, arith}
use Rattle.std.specs.Prelude.{OnOk}
use Rattle.std.specs.HashMap.{get}
use Rattle.prof_tree.specs.declared.branch.Branch.{Branch}
use Rattle.prof_view_tree.specs.Climbing.{AreAbove, IsGroup, behind}
use Rattle.prof_tree.specs.Forest.{branch, key, no_branch}
use Rattle.prof_view_tree.specs.Groups.{AreEntries, bundle, group_at, rest_path}
use Rattle.prof_tree.specs.Growing.{pair_eq}
use Rattle.prof_view_tree.specs.Weighing.{AreAlike, back_path}
use Rattle.prof_view_tree.proofs.Coming.{above_of, any_branch, coming_none, deep_of}
use Rattle.prof_view_tree.proofs.climbing.Climb.widen.Goals as goal

on_ok : {T E P Q : Type 0} (r : Result T E) → OnOk r P → (P → Q) → OnOk r Q
on_ok (Ok x) h f = f h
on_ok (Err e) h f = tt

pub prefixes_of-requires-clause-entries : goal.prefixes_of-requires-clause-entries
prefixes_of-requires-clause-entries c =
    let q = c.requires.climbed in
    let stacks = c.args.stacks.now in
    let n = c.args.node in
    let g : IsGroup stacks (behind (key q.1 n) q.0) (group_at c.args.self.now.groups.items n) = q.3.each n (omega arith) c.requires.node in
    subst (AreEntries (length stacks)) (sym (c.deref.ensures.value ∙ c.take_group-group.ensures.here)) g.entries

pub overflow_add-depth : goal.overflow_add-depth
overflow_add-depth c =
    let q = c.requires.climbed in
    let rows = c.args.self.now.rows.items in
    let n = c.args.node in
    let at : c.index.result.now ≡ branch rows n = c.index.ensures ∙ any_branch rows n c.index.result.now no_branch c.requires.node in
    let depth : c.index.result.now.depth ≡ (branch rows n).depth = ap (λ (b : Branch). b.depth) at in
    let deep = deep_of q.1 rows (get pair_eq c.args.self.now.index) n q.3.table c.requires.node in
    let short = q.2 (key q.1 n) (q.3.sums n c.requires.node).in_paths in
    omega (arith, depth, deep, short)

pub put_all-requires-clause-coming : goal.put_all-requires-clause-coming
put_all-requires-clause-coming c =
    let q = c.requires.climbed in
    let stacks = c.args.stacks.now in
    let s = c.args.self.now in
    let rows = s.rows.items in
    let look = get pair_eq s.index in
    let n = c.args.node in
    let inside = c.requires.node in
    let g : IsGroup stacks (behind (key q.1 n) q.0) (group_at s.groups.items n) = q.3.each n (omega arith) inside in
    let group : c.deref.result.now ≡ group_at s.groups.items n = c.deref.ensures.value ∙ c.take_group-group.ensures.here in
    let above = c.in_ok-above.above.items in
    let paths : AreAlike (bundle (rest_path stacks) (group_at s.groups.items n)) (bundle (back_path stacks) above) = subst (λ z. AreAlike (bundle (rest_path stacks) z) (bundle (back_path stacks) above)) group c.in_ok-above.ensures.paths in
    let at : c.index.result.now ≡ branch rows n = c.index.ensures ∙ any_branch rows n c.index.result.now no_branch inside in
    let depth : c.index.result.now.depth ≡ (branch rows n).depth = ap (λ (b : Branch). b.depth) at in
    let deep = deep_of q.1 rows look n q.3.table inside in (
      q.0,
      n + 1,
      q.1,
      coming_none stacks q.0 n q.1 rows look s.groups.items c.take_group-group.new.groups.items q.3 inside c.take_group-group.ensures.len c.take_group-group.ensures.others,
      subst (AreAbove stacks q.0 (Some n) q.1) (sym c.deref-2.ensures.value) (above_of stacks q.0 n q.1 (group_at s.groups.items n) above g c.in_ok-above.ensures.entries paths),
      omega (arith, depth, deep),
    )

pub returns-clause-climbed : goal.returns-clause-climbed
returns-clause-climbed c = on_ok c.put_all.result c.put_all.ensures.climbed (λ h zs ks short a.
    let stacks = c.args.stacks.now in
    let s = c.args.self.now in
    let rows = s.rows.items in
    let look = get pair_eq s.index in
    let n = c.args.node in
    let inside = c.requires.node in
    let g : IsGroup stacks (behind (key ks n) zs) (group_at s.groups.items n) = a.each n (omega arith) inside in
    let group : c.deref.result.now ≡ group_at s.groups.items n = c.deref.ensures.value ∙ c.take_group-group.ensures.here in
    let above = c.in_ok-above.above.items in
    let paths : AreAlike (bundle (rest_path stacks) (group_at s.groups.items n)) (bundle (back_path stacks) above) = subst (λ z. AreAlike (bundle (rest_path stacks) z) (bundle (back_path stacks) above)) group c.in_ok-above.ensures.paths in
    let at : c.index.result.now ≡ branch rows n = c.index.ensures ∙ any_branch rows n c.index.result.now no_branch inside in
    let depth : c.index.result.now.depth ≡ (branch rows n).depth = ap (λ (b : Branch). b.depth) at in
    let deep = deep_of ks rows look n a.table inside in
    h zs (n + 1) ks
    (coming_none stacks zs n ks rows look s.groups.items c.take_group-group.new.groups.items a inside c.take_group-group.ensures.len c.take_group-group.ensures.others)
    (subst (AreAbove stacks zs (Some n) ks) (sym c.deref-2.ensures.value) (above_of stacks zs n ks (group_at s.groups.items n) above g c.in_ok-above.ensures.entries paths))
    (omega (arith, depth, deep)))

pub returns-clause-many : goal.returns-clause-many
returns-clause-many c = λ limit e.
    let k = c.put_all.ensures.many limit e in (
      k.0,
      λ zs ks short a.
          let stacks = c.args.stacks.now in
          let s = c.args.self.now in
          let rows = s.rows.items in
          let look = get pair_eq s.index in
          let n = c.args.node in
          let inside = c.requires.node in
          let g : IsGroup stacks (behind (key ks n) zs) (group_at s.groups.items n) = a.each n (omega arith) inside in
          let group : c.deref.result.now ≡ group_at s.groups.items n = c.deref.ensures.value ∙ c.take_group-group.ensures.here in
          let above = c.in_ok-above.above.items in
          let paths : AreAlike (bundle (rest_path stacks) (group_at s.groups.items n)) (bundle (back_path stacks) above) = subst (λ z. AreAlike (bundle (rest_path stacks) z) (bundle (back_path stacks) above)) group c.in_ok-above.ensures.paths in
          let at : c.index.result.now ≡ branch rows n = c.index.ensures ∙ any_branch rows n c.index.result.now no_branch inside in
          let depth : c.index.result.now.depth ≡ (branch rows n).depth = ap (λ (b : Branch). b.depth) at in
          let deep = deep_of ks rows look n a.table inside in
          k.1 zs (n + 1) ks
          (coming_none stacks zs n ks rows look s.groups.items c.take_group-group.new.groups.items a inside c.take_group-group.ensures.len c.take_group-group.ensures.others)
          (subst (AreAbove stacks zs (Some n) ks) (sym c.deref-2.ensures.value) (above_of stacks zs n ks (group_at s.groups.items n) above g c.in_ok-above.ensures.entries paths))
          (omega (arith, depth, deep)),
    )
