use Rattle.std.proofs.Common.{◌<◌, ◌++◌, ◌∷◌, [], length, take, get_or, refl, sym, ap, ◌∙◌, subst, arith}
use Rattle.std.specs.HashMap.{get}
use Rattle.prof_view_tree.specs.Climbing.{AreComing, behind}
use Rattle.prof_view_tree.specs.Groups.{bundle}
use Rattle.prof_tree.specs.Growing.{pair_eq}
use Rattle.prof_tree.specs.Nodes.{node_limit}
use Rattle.prof_view_tree.specs.Weighing.{AreAlike, back_path}
use Rattle.prof_view_tree.proofs.Coming.{climbed, too_many_new}
use Rattle.prof_view_tree.proofs.Entries.{entries_upto, no_entry, prefix_upto, take_all, take_next_entry}
use Rattle.prof_view_tree.proofs.climbing.Climb.put_all.Goals as goal

pub put-requires : goal.put-requires
put-requires c =
    let q = c.requires.coming in
    let entries = c.args.entries.now in
    let i = c.loop-entry.entry-index in
    let k = c.loop-entry.invariant.coming q.0 q.1 q.2 q.3 q.4 q.5 in
    record { coming = (c.args.stacks.now, q.0, q.1, length c.args.self.now.rows.items, take i entries, k.0, k.1, entries_upto (length c.args.stacks.now) entries i c.loop-entry-test.true q.4.entries, q.5 ∙ ap length (sym k.2)) }

pub returns-then-len-gt-NODE_LIMIT-clause-many : goal.returns-then-len-gt-NODE_LIMIT-clause-many
returns-then-len-gt-NODE_LIMIT-clause-many c = λ limit e. (
  cc,
  λ zs n ks a above deep.
      let stacks = c.args.stacks.now in
      let o = c.args.parent in
      let m = length c.args.self.now.rows.items in
      let entries = c.args.entries.now in
      let i = c.loop-entry.entry-index in
      let inside = c.loop-entry-test.true in
      let entry = get_or entries i no_entry in
      let k = c.loop-entry.invariant.coming zs n ks a above deep in
      let p = c.in_ok-put.ensures stacks zs n m (take i entries) k.0 k.1 (entries_upto (length stacks) entries i inside above.entries) c.requires.below refl (deep ∙ ap length (sym k.2)) in
      let s = c.put.new.self in
      let many : node_limit < length s.rows.items = omega (arith, c.if-len-gt-NODE_LIMIT.true, c.len.ensures, s.rows.ok.0) in
      too_many_new stacks zs n o m (take i entries ++ entry ∷ []) p.0 s.rows.items (get pair_eq s.index) s.groups.items p.1 entries (prefix_upto (back_path stacks) entries i inside)
      (subst (λ z. AreAlike (behind z zs) (bundle (back_path stacks) entries)) (sym (p.2 ∙ k.2)) above.paths) many,
)

pub loop-entry-preserved : goal.loop-entry-preserved
loop-entry-preserved c = record {
  rows = omega (arith, c.if-len-gt-NODE_LIMIT.false, c.len.ensures, c.put.new.self.rows.ok.0);
  coming = λ zs n ks a above deep.
      let stacks = c.args.stacks.now in
      let o = c.args.parent in
      let m = length c.args.self.now.rows.items in
      let entries = c.args.entries.now in
      let i = c.loop-entry.entry-index in
      let inside = c.loop-entry-test.true in
      let k = c.loop-entry.invariant.coming zs n ks a above deep in
      let p = c.in_ok-put.ensures stacks zs n m (take i entries) k.0 k.1 (entries_upto (length stacks) entries i inside above.entries) c.requires.below refl (deep ∙ ap length (sym k.2)) in
      let s = c.put.new.self in
      (p.0, subst (λ es. AreComing stacks zs n o m es p.0 s.rows.items (get pair_eq s.index) s.groups.items) (sym (take_next_entry entries i inside)) p.1, p.2 ∙ k.2);
}

pub returns-clause-climbed : goal.returns-clause-climbed
returns-clause-climbed c = λ zs n ks a above deep.
    let stacks = c.args.stacks.now in
    let o = c.args.parent in
    let m = length c.args.self.now.rows.items in
    let entries = c.args.entries.now in
    let k = c.loop-entry.invariant.coming zs n ks a above deep in
    let s = c.loop-entry.self in
    let all = subst (λ es. AreComing stacks zs n o m es k.0 s.rows.items (get pair_eq s.index) s.groups.items) (take_all entries c.loop-entry.entry-index (omega (arith, c.loop-entry-test.false))) k.1 in
    (k.0, climbed stacks zs n o m entries k.0 s.rows.items (get pair_eq s.index) s.groups.items all above.entries (subst (λ z. AreAlike (behind z zs) (bundle (back_path stacks) entries)) (sym k.2) above.paths))
