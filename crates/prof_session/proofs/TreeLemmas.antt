-- The trees that a session shows are those of the machine
use Rattle.std.proofs.Common.{◌≡◌, ℕ, ◌<◌, ◌≤◌, nat_lt, true, false, Bool, cond, ℤ, List, length, map, Option, Some, None, refl, sym, ap, ◌∙◌, subst, arith}
use Rattle.prof_tables.specs.Threads.{ThreadTables}
use Rattle.prof_path.specs.declared.lists.Span.{Span}
use Rattle.prof_path.specs.Views.{ViewLists}
use Rattle.prof_tree.specs.declared.node.Node.{Node}
use Rattle.prof_tree.specs.Nodes.{node_limit}
use Rattle.prof_tree.specs.Trees.{TreeLists}
use Rattle.prof_view_tree.specs.Views.{plain_tree, inverted_tree, selected_weight, dropped_weight}
use Rattle.prof_machine.specs.declared.refusal.Refusal.TheVariants.{TooManyNodes}
use Rattle.prof_machine.specs.declared.refusal.Reply.TheVariants.{Inverted, Refused}
use Rattle.prof_machine.specs.Known.{intervals, tree_of, inverted_of}
use Rattle.prof_machine.specs.Machine.{inverted_reply}

abbrev listed : List Node → ℤ → ℤ → TreeLists
listed nodes selected dropped = record { nodes = nodes; selected = selected; dropped = dropped }

same_lists : (tree : TreeLists) (nodes : List Node) (selected dropped : ℤ) → tree.nodes ≡ nodes → tree.selected ≡ selected → tree.dropped ≡ dropped → tree ≡ listed nodes selected dropped
same_lists tree nodes selected dropped a b c =
    ap (λ n. listed n tree.selected tree.dropped) a ∙ (ap (λ s. listed nodes s tree.dropped) b ∙ ap (λ d. listed nodes selected d) c)

few : (n : ℕ) → n ≤ node_limit → nat_lt node_limit n ≡ false
few n h = grind arith

many : (n : ℕ) → node_limit < n → nat_lt node_limit n ≡ true
many n h = grind arith

module _ (t : ThreadTables) (v : ViewLists) (spans : List (List Span)) (found : spans ≡ map (intervals t) v.transforms) where
  pub is_tree_of : (tree : TreeLists) → tree.nodes ≡ plain_tree t v spans → tree.selected ≡ selected_weight t v spans → tree.dropped ≡ dropped_weight t v spans → tree ≡ tree_of t v
  is_tree_of tree a b c =
      same_lists tree (plain_tree t v spans) (selected_weight t v spans) (dropped_weight t v spans) a b c
      ∙ ap (λ s. listed (plain_tree t v s) (selected_weight t v s) (dropped_weight t v s)) found

  pub is_inverted_of : (tree : TreeLists) → tree.nodes ≡ inverted_tree t v spans → tree.selected ≡ selected_weight t v spans → tree.dropped ≡ dropped_weight t v spans → length tree.nodes ≤ node_limit
      → Inverted tree ≡ inverted_reply (inverted_of t v)
  is_inverted_of tree a b c h =
      let all : tree ≡ listed (inverted_tree t v (map (intervals t) v.transforms)) (selected_weight t v (map (intervals t) v.transforms)) (dropped_weight t v (map (intervals t) v.transforms)) =
      same_lists tree (inverted_tree t v spans) (selected_weight t v spans) (dropped_weight t v spans) a b c
      ∙ ap (λ s. listed (inverted_tree t v s) (selected_weight t v s) (dropped_weight t v s)) found in
      let short : nat_lt node_limit (length (inverted_tree t v (map (intervals t) v.transforms))) ≡ false =
      few (length (inverted_tree t v (map (intervals t) v.transforms))) (subst (λ (l : List Node). length l ≤ node_limit) (a ∙ ap (inverted_tree t v) found) h) in
      ap (λ x. Inverted x) all ∙ sym (ap (λ x. inverted_reply (cond x None (Some (listed (inverted_tree t v (map (intervals t) v.transforms)) (selected_weight t v (map (intervals t) v.transforms)) (dropped_weight t v (map (intervals t) v.transforms)))))) short)

  pub is_too_many : (limit : ℕ) → limit ≡ node_limit → node_limit < length (inverted_tree t v spans) → Refused (TooManyNodes limit) ≡ inverted_reply (inverted_of t v)
  is_too_many limit e h =
      let long : nat_lt node_limit (length (inverted_tree t v (map (intervals t) v.transforms))) ≡ true =
      many (length (inverted_tree t v (map (intervals t) v.transforms))) (subst (λ (s : List (List Span)). node_limit < length (inverted_tree t v s)) found h) in
      ap (λ n. Refused (TooManyNodes n)) e ∙ sym (ap (λ x. inverted_reply (cond x None (Some (listed (inverted_tree t v (map (intervals t) v.transforms)) (selected_weight t v (map (intervals t) v.transforms)) (dropped_weight t v (map (intervals t) v.transforms)))))) long)
