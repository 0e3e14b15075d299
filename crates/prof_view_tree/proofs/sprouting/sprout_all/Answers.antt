use Rattle.std.proofs.Common.{rules, ◌≡◌, ◌+◌, ◌<◌, ℕ, ℤ, List, [], length, get_or, Option, None, sym, ◌∙◌, subst, arith}
use Rattle.std.specs.HashMap.{get}
use Rattle.std.proofs.lemmas.Option.{slice_get-get_or}
use Rattle.prof_tables.specs.declared.rows.StackRow.{StackRow}
use Rattle.prof_tree.specs.Growing.{pair_eq}
use Rattle.prof_view_tree.specs.Sprouting.{AreSprouted, IsStack}
use Rattle.prof_view_tree.specs.Weighing.{AreThrough, no_row}
use Rattle.prof_view_tree.proofs.Masses.{read_at}
use Rattle.prof_view_tree.proofs.RowByRow.{sprouted_first}
use Rattle.prof_view_tree.proofs.sprouting.sprout_all.Goals as goal

pub loop-place-init : goal.loop-place-init
loop-place-init c = λ own weighed is. (
  [],
  subst (λ l. AreSprouted c.args.stacks.now own 0 [] l (get pair_eq c.new-index.result) c.in_ok-nodes.nodes.items) (sym c.new-rows.ensures.items)
      (subst (λ l. AreSprouted c.args.stacks.now own 0 [] [] (get pair_eq c.new-index.result) l) (sym c.in_ok-nodes.ensures.items)
      (sprouted_first c.args.stacks.now weighed.below own (get pair_eq c.new-index.result) (λ q. search (rules, c.new-index.ensures.empty)))),
)

-- the next stack row, with the weight that was read
is_next : (stacks : List StackRow) (own : List (Option ℤ)) (through : List (Option ℤ)) (n place : ℕ) (read got : Option ℤ) → n ≡ place → place < length stacks → AreThrough stacks own through → read ≡ get_or through place read → got ≡ read
    → IsStack stacks own n (get_or stacks place no_row) got
is_next stacks own through n place read got same inside is here taken =
    let weight : get_or through place None ≡ got = read_at through place read got (omega (arith, inside, is.len)) here taken in
    subst (λ k. IsStack stacks own k (get_or stacks place no_row) got) (sym same)
    (record { row = slice_get-get_or stacks place no_row inside; through = sym weight ∙ is.each place inside })

pub bounds-through-place : goal.bounds-through-place
bounds-through-place c =
    let r = c.requires in
    omega (arith, c.loop-place-test.true, r.2.len)

pub sprout-requires : goal.sprout-requires
sprout-requires c =
    let r = c.requires in
    let k = c.loop-place.invariant r.0 r.1 r.2 in (
      c.args.stacks.now,
      r.0,
      k.0,
      r.1,
      is_next c.args.stacks.now r.0 c.args.through.now (length c.loop-place.nodes.items) c.loop-place.place c.index-through-place.result c.get.result k.1.len c.loop-place-test.true r.2 c.index-through-place.is c.get.ensures,
      subst (λ n. AreSprouted c.args.stacks.now r.0 n k.0 c.loop-place.rows.items (get pair_eq c.loop-place.index) c.loop-place.nodes.items) (sym k.1.len) k.1,
    )

pub loop-place-preserved : goal.loop-place-preserved
loop-place-preserved c = λ own weighed is.
    let k = c.loop-place.invariant own weighed is in
    let stacks = c.args.stacks.now in
    let more = c.in_ok-sprout.ensures stacks own k.0 weighed
    (is_next stacks own c.args.through.now (length c.loop-place.nodes.items) c.loop-place.place c.index-through-place.result c.get.result k.1.len c.loop-place-test.true is c.index-through-place.is c.get.ensures)
    (subst (λ n. AreSprouted stacks own n k.0 c.loop-place.rows.items (get pair_eq c.loop-place.index) c.loop-place.nodes.items) (sym k.1.len) k.1) in (
      more.0,
      subst (λ n. AreSprouted stacks own (n + 1) more.0 c.sprout.new.rows.items (get pair_eq c.sprout.new.index) c.sprout.new.nodes.items) k.1.len more.1,
    )
