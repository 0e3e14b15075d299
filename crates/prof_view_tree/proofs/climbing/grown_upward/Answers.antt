use Rattle.std.proofs.Common.{◌≡◌, ◌≤◌, [], length, None, Result, Err, IsErrAnd, refl, sym, ap, ◌∙◌, subst, arith}
use Rattle.std.specs.HashMap.{get}
use Rattle.std.proofs.lemmas.List.{length-replicate}
use Rattle.std.proofs.lemmas.Result.{err_from_is_err_and}
use Rattle.prof_tree.specs.declared.node.InvertRefusal.TheVariants.{TooManyNodes}
use Rattle.prof_view_tree.specs.Climbing.{AreAbove}
use Rattle.prof_view_tree.specs.Groups.{AreEntries}
use Rattle.prof_tree.specs.Growing.{pair_eq}
use Rattle.prof_view_tree.specs.Weighing.{AreAlike, back_path, held}
use Rattle.prof_view_tree.proofs.Alike.{alike_same}
use Rattle.prof_view_tree.proofs.Coming.{climbed_all}
use Rattle.prof_view_tree.proofs.Entries.{short_held}
use Rattle.prof_tree.proofs.Whole.{written}
use Rattle.prof_view_tree.proofs.climbing.grown_upward.Goals as goal

-- the refusal that is passed on
same_refusal : {T U E : Type 0} (r : Result T E) (x y : E) → IsErrAnd r (λ z. z ≡ x) → r ≡ Err y → let passed : Result U E = Err x in passed ≡ Err y
same_refusal r x y h e =
    let p = err_from_is_err_and {Q = λ z. z ≡ x} r h in
    let is : r ≡ Err p.0 = p.1 in
    let same : p.0 ≡ x = p.2 in
    cc

pub put_all-requires-clause-coming : goal.put_all-requires-clause-coming
put_all-requires-clause-coming c =
    let stacks = c.args.stacks.now in
    let zs = held (back_path stacks) 0 c.args.own.now in
    let leaves = c.in_ok-leaves.leaves.items in
    let above : AreAbove stacks zs None [] leaves = record {
      entries = subst (λ n. AreEntries n leaves) c.requires.len c.in_ok-leaves.ensures.entries;
      paths = subst (AreAlike zs) (sym (c.in_ok-leaves.ensures.paths (back_path stacks))) (alike_same zs);
    } in
    (zs, 0, [], c.new-climb.ensures.coming stacks zs, subst (AreAbove stacks zs None []) (sym c.deref.ensures.value) above, refl)

pub returns-in_err-put_all-clause-many : goal.returns-in_err-put_all-clause-many
returns-in_err-put_all-clause-many c = λ limit e.
    let stacks = c.args.stacks.now in
    let zs = held (back_path stacks) 0 c.args.own.now in
    let leaves = c.in_ok-leaves.leaves.items in
    let above : AreAbove stacks zs None [] leaves = record {
      entries = subst (λ n. AreEntries n leaves) c.requires.len c.in_ok-leaves.ensures.entries;
      paths = subst (AreAlike zs) (sym (c.in_ok-leaves.ensures.paths (back_path stacks))) (alike_same zs);
    } in
    let h = c.in_err-put_all.ensures.many limit (same_refusal c.from_residual-in_err-put_all.result _ (TooManyNodes limit) c.from_residual-in_err-put_all.ensures.1 e) in
    (h.0, h.1 zs 0 [] (c.new-climb.ensures.coming stacks zs) (subst (AreAbove stacks zs None []) (sym c.deref.ensures.value) above) refl)

pub loop-node-init : goal.loop-node-init
loop-node-init c =
    let stacks = c.args.stacks.now in
    let zs = held (back_path stacks) 0 c.args.own.now in
    let leaves = c.in_ok-leaves.leaves.items in
    let above : AreAbove stacks zs None [] leaves = record {
      entries = subst (λ n. AreEntries n leaves) c.requires.len c.in_ok-leaves.ensures.entries;
      paths = subst (AreAlike zs) (sym (c.in_ok-leaves.ensures.paths (back_path stacks))) (alike_same zs);
    } in
    record {
      seats = ap length c.in_ok-seats.ensures ∙ length-replicate _ _;
      rows = c.in_ok-put_all.ensures.within;
      climbed = c.in_ok-put_all.ensures.climbed zs 0 [] (c.new-climb.ensures.coming stacks zs) (subst (AreAbove stacks zs None []) (sym c.deref.ensures.value) above) refl;
    }

pub widen-requires-clause-climbed : goal.widen-requires-clause-climbed
widen-requires-clause-climbed c =
    let stacks = c.args.stacks.now in
    let own = c.args.own.now in
    let k = c.loop-node.invariant.climbed in
    (held (back_path stacks) 0 own, k.0, λ p h. (let s = short_held stacks 0 own p h in omega (arith, s, c.requires.few)), k.1)

pub returns-in_err-widen-clause-many : goal.returns-in_err-widen-clause-many
returns-in_err-widen-clause-many c = λ limit e.
    let stacks = c.args.stacks.now in
    let own = c.args.own.now in
    let k = c.loop-node.invariant.climbed in
    let h = c.in_err-widen.ensures.many limit (same_refusal c.from_residual-in_err-widen.result _ (TooManyNodes limit) c.from_residual-in_err-widen.ensures.1 e) in
    (h.0, h.1 (held (back_path stacks) 0 own) k.0 (λ p h. (let s = short_held stacks 0 own p h in omega (arith, s, c.requires.few))) k.1)

pub loop-node-preserved : goal.loop-node-preserved
loop-node-preserved c =
    let stacks = c.args.stacks.now in
    let own = c.args.own.now in
    let k = c.loop-node.invariant.climbed in
    let same : length c.widen.new.seats ≡ length c.loop-node.seats.items = c.widen.auto.seats ∙ ap length c.deref_mut.ensures.value in
    record {
      seats = ap length (written c.loop-node.seats.len c.widen.new.seats c.loop-node.seats.items (omega (arith, c.loop-node.seats.ok.0)) same) ∙ same ∙ c.loop-node.invariant.seats;
      rows = c.in_ok-widen.ensures.within;
      climbed = c.in_ok-widen.ensures.climbed (held (back_path stacks) 0 own) k.0 (λ p h. (let s = short_held stacks 0 own p h in omega (arith, s, c.requires.few))) k.1;
    }

pub returns-clause-grown : goal.returns-clause-grown
returns-clause-grown c =
    let stacks = c.args.stacks.now in
    let k = c.loop-node.invariant.climbed in
    let s = c.loop-node.climb in
    let all : length s.rows.items ≤ c.loop-node.node = omega (arith, c.loop-node-test.false, c.len.ensures, s.rows.ok.0) in
    (k.0, get pair_eq s.index, k.1.table, climbed_all stacks (held (back_path stacks) 0 c.args.own.now) c.loop-node.node k.0 s.rows.items (get pair_eq s.index) s.groups.items k.1 all)
