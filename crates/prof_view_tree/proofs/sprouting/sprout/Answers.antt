use Rattle.std.proofs.Common.{◌≡◌, ◌+◌, ◌^◌, ◌<◌, ℕ, List, length, get_or, Option, None, Some, sym, ap, ◌∙◌, subst, refl}
use Rattle.std.specs.Option.{IfSome, option_and_then, option_map_or}
use Rattle.std.specs.HashMap.{get}
use Rattle.std.proofs.lemmas.Option.{slice_get_within}
use Rattle.prof_tables.specs.declared.rows.StackRow.{StackRow}
use Rattle.prof_tables.specs.Paths.{step_of}
use Rattle.prof_tree.specs.declared.branch.Branch.{Branch}
use Rattle.prof_tree.specs.Forest.{branch}
use Rattle.prof_tree.specs.Growing.{IsChild, pair_eq}
use Rattle.prof_view_tree.specs.Sprouting.{AreSprouted}
use Rattle.prof_view_tree.proofs.RowByRow.{prefix_within, parent_in, depth_fits, child_in, child_fits, sprouted_none, sprouted_some}
use Rattle.prof_view_tree.proofs.sprouting.sprout.Goals as goal

-- what holds of an optional number's value
of_value : (P : ℕ → Type 0) (o : Option ℕ) → ((m : ℕ) → o ≡ Some m → P m) → IfSome o P
of_value P None h = tt
of_value P (Some m) h = h m refl

-- a child of the row that was looked up
found_child : (rows rows' : List Branch) (look look' : Option ℕ × ℕ → Option ℕ) (stack : StackRow) (seen nodes : List (Option ℕ)) (parent : Option ℕ) (depth row : ℕ) → seen ≡ nodes → parent ≡ option_and_then (λ p. get_or seen p None) stack.prefix
    → IsChild rows look rows' look' parent depth (step_of stack) row → IsChild rows look rows' look' (option_and_then (λ p. get_or nodes p None) stack.prefix) depth (step_of stack) row
found_child rows rows' look look' stack seen nodes parent depth row same is k =
    subst (λ o. IsChild rows look rows' look' o depth (step_of stack) row) (is ∙ ap (λ l. option_and_then (λ p. get_or l p None) stack.prefix) same) k

found_depth : (rows seen_rows : List Branch) (stack : StackRow) (seen nodes : List (Option ℕ)) (parent : Option ℕ) (depth : ℕ) → seen ≡ nodes → seen_rows ≡ rows → parent ≡ option_and_then (λ p. get_or seen p None) stack.prefix
    → depth ≡ option_map_or (λ m. (branch seen_rows m).depth + 1) parent 0 → depth ≡ option_map_or (λ m. (branch rows m).depth + 1) (option_and_then (λ p. get_or nodes p None) stack.prefix) 0
found_depth rows seen_rows stack seen nodes parent depth same same_rows is k =
    k ∙ ap (λ l. option_map_or (λ m. (branch l m).depth + 1) parent 0) same_rows
    ∙ ap (λ o. option_map_or (λ m. (branch rows m).depth + 1) o 0) (is ∙ ap (λ l. option_and_then (λ p. get_or l p None) stack.prefix) same)

pub returns-in_default : goal.returns-in_default
returns-in_default c = λ stacks own ks weighed is s.
    let n = length c.args.nodes.now.items in
    let inside : n < length stacks = slice_get_within stacks n c.args.stack is.row in (
      ks,
      subst (λ l. AreSprouted stacks own (n + 1) ks c.args.rows.now.items (get pair_eq c.args.index.now) l) (sym c.in_ok-push.ensures.items)
          (sprouted_none stacks own n c.args.stack weighed inside is.row ks c.args.rows.now.items (get pair_eq c.args.index.now) c.args.nodes.now.items (sym is.through ∙ c.in_default.is) s),
    )

pub row_above-parent-requires : goal.row_above-parent-requires
row_above-parent-requires c =
    let r = c.requires in
    let n = length c.args.nodes.now.items in
    let inside : n < length r.0 = slice_get_within r.0 n c.args.stack r.4.row in
    subst (λ l. IfSome c.args.stack.prefix (λ p. p < length l)) (sym c.deref.ensures.value)
    (prefix_within r.0 r.1 n c.args.stack r.3 inside r.4.row c.in-Some.weight r.2 c.args.rows.now.items (get pair_eq c.args.index.now) c.args.nodes.now.items (sym r.4.through ∙ c.in-Some.is) r.5)

pub depth_below-depth-requires : goal.depth_below-depth-requires
depth_below-depth-requires c =
    let r = c.requires in
    let n = length c.args.nodes.now.items in
    let inside : n < length r.0 = slice_get_within r.0 n c.args.stack r.4.row in
    let same : c.row_above-parent.result ≡ option_and_then (λ p. get_or c.args.nodes.now.items p None) c.args.stack.prefix = c.row_above-parent.ensures ∙ ap (λ l. option_and_then (λ p. get_or l p None) c.args.stack.prefix) c.deref.ensures.value in
    subst (λ l. IfSome c.row_above-parent.result (λ row. (row < length l) × ((branch l row).depth + 1 < 2 ^ 32))) (sym c.deref-2.ensures.value)
    (of_value (λ row. (row < length c.args.rows.now.items) × ((branch c.args.rows.now.items row).depth + 1 < 2 ^ 32)) c.row_above-parent.result (λ m e. (
      parent_in r.0 r.1 n c.args.stack r.3 inside r.4.row c.in-Some.weight r.2 c.args.rows.now.items (get pair_eq c.args.index.now) c.args.nodes.now.items (sym r.4.through ∙ c.in-Some.is) r.5 m (sym same ∙ e),
      depth_fits r.0 r.1 n c.args.stack r.3 inside r.4.row c.in-Some.weight r.2 c.args.rows.now.items (get pair_eq c.args.index.now) c.args.nodes.now.items (sym r.4.through ∙ c.in-Some.is) r.5 m (sym same ∙ e),
    )))

pub add_total-requires-clause-row : goal.add_total-requires-clause-row
add_total-requires-clause-row c =
    let r = c.requires in
    let n = length c.args.nodes.now.items in
    let inside : n < length r.0 = slice_get_within r.0 n c.args.stack r.4.row in
    child_in r.0 r.1 n c.args.stack r.3 inside r.4.row c.in-Some.weight r.2 c.args.rows.now.items (get pair_eq c.args.index.now) c.args.nodes.now.items (sym r.4.through ∙ c.in-Some.is) r.5
    c.child.new.rows.items (get pair_eq c.args.index.now) (get pair_eq c.child.new.index) c.depth_below-depth.result c.in_ok-row.row refl
    (found_depth c.args.rows.now.items c.deref-2.result.now c.args.stack c.deref.result.now c.args.nodes.now.items c.row_above-parent.result c.depth_below-depth.result c.deref.ensures.value c.deref-2.ensures.value c.row_above-parent.ensures c.depth_below-depth.ensures)
    (found_child c.args.rows.now.items c.child.new.rows.items (get pair_eq c.args.index.now) (get pair_eq c.child.new.index) c.args.stack c.deref.result.now c.args.nodes.now.items c.row_above-parent.result c.depth_below-depth.result c.in_ok-row.row c.deref.ensures.value c.row_above-parent.ensures c.in_ok-row.ensures)

pub add_total-requires-clause-fits : goal.add_total-requires-clause-fits
add_total-requires-clause-fits c =
    let r = c.requires in
    let n = length c.args.nodes.now.items in
    let inside : n < length r.0 = slice_get_within r.0 n c.args.stack r.4.row in
    child_fits r.0 r.1 n c.args.stack r.3 inside r.4.row c.in-Some.weight r.2 c.args.rows.now.items (get pair_eq c.args.index.now) c.args.nodes.now.items (sym r.4.through ∙ c.in-Some.is) r.5
    c.child.new.rows.items (get pair_eq c.args.index.now) (get pair_eq c.child.new.index) c.depth_below-depth.result c.in_ok-row.row refl
    (found_depth c.args.rows.now.items c.deref-2.result.now c.args.stack c.deref.result.now c.args.nodes.now.items c.row_above-parent.result c.depth_below-depth.result c.deref.ensures.value c.deref-2.ensures.value c.row_above-parent.ensures c.depth_below-depth.ensures)
    (found_child c.args.rows.now.items c.child.new.rows.items (get pair_eq c.args.index.now) (get pair_eq c.child.new.index) c.args.stack c.deref.result.now c.args.nodes.now.items c.row_above-parent.result c.depth_below-depth.result c.in_ok-row.row c.deref.ensures.value c.row_above-parent.ensures c.in_ok-row.ensures)

pub returns : goal.returns
returns c = λ stacks own ks weighed is s.
    let n = length c.args.nodes.now.items in
    let inside : n < length stacks = slice_get_within stacks n c.args.stack is.row in
    let more = sprouted_some stacks own n c.args.stack weighed inside is.row c.in-Some.weight ks c.args.rows.now.items (get pair_eq c.args.index.now) c.args.nodes.now.items (sym is.through ∙ c.in-Some.is) s
    c.child.new.rows.items (get pair_eq c.args.index.now) (get pair_eq c.child.new.index) c.depth_below-depth.result c.in_ok-row.row refl
    (found_depth c.args.rows.now.items c.deref-2.result.now c.args.stack c.deref.result.now c.args.nodes.now.items c.row_above-parent.result c.depth_below-depth.result c.deref.ensures.value c.deref-2.ensures.value c.row_above-parent.ensures c.depth_below-depth.ensures)
    (found_child c.args.rows.now.items c.child.new.rows.items (get pair_eq c.args.index.now) (get pair_eq c.child.new.index) c.args.stack c.deref.result.now c.args.nodes.now.items c.row_above-parent.result c.depth_below-depth.result c.in_ok-row.row c.deref.ensures.value c.row_above-parent.ensures c.in_ok-row.ensures)
    c.add_total.new.rows.items c.add_total.ensures in (
      more.0,
      subst (λ l. AreSprouted stacks own (n + 1) more.0 c.add_total.new.rows.items (get pair_eq c.child.new.index) l) (sym c.in_ok-push-2.ensures.items) more.1,
    )
