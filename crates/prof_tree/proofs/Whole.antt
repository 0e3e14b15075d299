-- From the rows to the list of nodes
use Rattle.std.proofs.Common.{◌≡◌, ℕ, zero, suc, ◌-◌, ◌<◌, ◌≤◌, ℤ, pos, ◌+ℤ◌, FitsSigned, neg_ℤ, ◌≤ℤ◌, true, false, cond, eqb, List, [], ◌∷◌, ◌++◌, length, map, take, drop, get_or, Option, unwrap_or, sym, ap, ◌∙◌, subst, refl, arith}
use Rattle.std.specs.List.{All, filter}
use Rattle.std.specs.Int.{w128}
use Rattle.std.proofs.lemmas.List.Elements.{All-head, All-tail}
use Rattle.std.proofs.Math.Seq.{get_or-append_seam}
use Rattle.prof_tree.specs.declared.branch.Branch.{Branch}
use Rattle.prof_tree.specs.declared.node.Node.{Node}
use Rattle.prof_tree.specs.Nodes.{Weighed, at_roots, inverted_at, dropped_of, node_at, nodes_of, keys_of, total, total_at}
use Rattle.prof_tree.specs.Forest.{EachOf, key, key_above, branch, IsForest}
use Rattle.prof_tree.specs.Growing.{Adds, IsGrown, IsSmall, IsTable, node_from}
use Rattle.prof_tree.proofs.Walking.{length-snoc}
use Rattle.prof_tree.proofs.Turns.{fits_more}
use Rattle.prof_tree.proofs.PathSteps.{total-snoc, own_at-yes, own_at-no}
use Rattle.prof_tables.specs.declared.rows.Step.{Step}
use Rattle.std.proofs.lemmas.Bool.{false≢true}
use Rattle.std.proofs.lemmas.Bool.Decides.{nat_tests}

pub forest_from : (xs : List Weighed) (ks : List (List ℕ)) (rows : List Branch) (look : Option ℕ × ℕ → Option ℕ) → IsTable ks rows look → Adds xs ks rows → IsForest xs ks rows
forest_from xs ks rows look t a = record {
  keys = t.keys;
  above = t.above;
  apart = t.apart;
  totals = a.totals;
  in_paths = a.in_paths;
  whole = a.whole;
}

pub forest_of : (xs : List Weighed) (ks : List (List ℕ)) (rows : List Branch) (look : Option ℕ × ℕ → Option ℕ) → IsGrown xs ks rows look → IsForest xs ks rows
forest_of xs ks rows look g = forest_from xs ks rows look g.table g.adds

-- a node is told by its parts
five : {d d' f f' c c' : ℕ} {t t' o o' : ℤ} → d ≡ d' → f ≡ f' → t ≡ t' → o ≡ o' → c ≡ c' → let a : Node = record { depth = d; func = f; total = t; own = o; category = c } in let b : Node = record { depth = d'; func = f'; total = t'; own = o'; category = c' } in a ≡ b
five p q r s v = λ i. record { depth = p i; func = q i; total = r i; own = s i; category = v i }

func_is : (ks : List (List ℕ)) (rows : List Branch) (look : Option ℕ × ℕ → Option ℕ) → IsTable ks rows look → (r : ℕ) → r < length rows → (branch rows r).func ≡ get_or (key ks r) (length (key ks r) - 1) 0
func_is ks rows look t r h =
    let k = key ks r in
    let b = branch rows r in
    let u = key_above ks b.parent in
    let n : length k - 1 ≡ length u = ap (λ z. length z - 1) (t.keys r h) ∙ (let e = length-snoc u b.func in omega arith) in
    sym (ap (get_or k (length k - 1)) refl ∙ ap (λ m. get_or k m 0) n ∙ ap (λ z. get_or z (length u) 0) (t.keys r h) ∙ get_or-append_seam u b.func [] 0)

node_is : (default : ℕ) (xs : List Weighed) (ks : List (List ℕ)) (rows : List Branch) (look : Option ℕ × ℕ → Option ℕ) → IsGrown xs ks rows look → (r : ℕ) → r < length rows → node_from default (branch rows r) ≡ node_at default xs (key ks r)
node_is default xs ks rows look g r h =
    five (g.table.depths r h) (func_is ks rows look g.table r h) (g.adds.totals r h) (g.owns r h) (ap (λ o. unwrap_or o default) (g.adds.categories r h))

-- one whose self weight is its total at a root, and else none
root_is : (default : ℕ) (xs : List Weighed) (ks : List (List ℕ)) (rows : List Branch) (look : Option ℕ × ℕ → Option ℕ) → IsTable ks rows look → Adds xs ks rows → (r : ℕ) → r < length rows
    → at_roots (node_from default (branch rows r)) ≡ inverted_at default xs (key ks r)
root_is default xs ks rows look t a r h =
    let k = key ks r in
    let b = branch rows r in
    let own : cond (eqb b.depth 0) b.total (pos 0) ≡ cond (eqb (length k - 1) 0) (total_at xs k) (pos 0) =
    ap (λ d. cond (eqb d 0) b.total (pos 0)) (t.depths r h) ∙ ap (λ z. cond (eqb (length k - 1) 0) z (pos 0)) (a.totals r h) in
    five (t.depths r h) (func_is ks rows look t r h) (a.totals r h) own (ap (λ o. unwrap_or o default) (a.categories r h))

pub nodes_are : (default : ℕ) (xs : List Weighed) (ks : List (List ℕ)) (rows : List Branch) (look : Option ℕ × ℕ → Option ℕ) → IsGrown xs ks rows look → (order : List ℕ) → All (λ row. row < length rows) order → map (key ks) order ≡ keys_of xs
    → map (λ row. node_from default (branch rows row)) order ≡ nodes_of default xs
nodes_are default xs ks rows look g order within e = each order within ∙ ap (map (node_at default xs)) e
  where
    each : (order : List ℕ) → All (λ row. row < length rows) order → map (λ row. node_from default (branch rows row)) order ≡ map (node_at default xs) (map (key ks) order)
    each [] h = refl
    each (r ∷ order) h =
        let first : node_from default (branch rows r) ≡ node_at default xs (key ks r) = node_is default xs ks rows look g r (All-head (λ row. row < length rows) r order h) in
        let rest : map (λ row. node_from default (branch rows row)) order ≡ map (node_at default xs) (map (key ks) order) = each order (All-tail (λ row. row < length rows) r order h) in
        ap (λ z. z ∷ map (λ row. node_from default (branch rows row)) order) first ∙ ap (λ z. node_at default xs (key ks r) ∷ z) rest

pub roots_are : (default : ℕ) (xs : List Weighed) (ks : List (List ℕ)) (rows : List Branch) (look : Option ℕ × ℕ → Option ℕ) → IsTable ks rows look → Adds xs ks rows → (order : List ℕ) → All (λ row. row < length rows) order → map (key ks) order ≡ keys_of xs
    → map at_roots (map (λ row. node_from default (branch rows row)) order) ≡ map at_roots (nodes_of default xs)
roots_are default xs ks rows look t a order within e = each order within ∙ ap (λ keys. map at_roots (map (node_at default xs) keys)) e
  where
    each : (order : List ℕ) → All (λ row. row < length rows) order → map at_roots (map (λ row. node_from default (branch rows row)) order) ≡ map at_roots (map (node_at default xs) (map (key ks) order))
    each [] h = refl
    each (r ∷ order) h =
        let first : at_roots (node_from default (branch rows r)) ≡ inverted_at default xs (key ks r) = root_is default xs ks rows look t a r (All-head (λ row. row < length rows) r order h) in
        let rest : map at_roots (map (λ row. node_from default (branch rows row)) order) ≡ map at_roots (map (node_at default xs) (map (key ks) order)) = each order (All-tail (λ row. row < length rows) r order h) in
        ap (λ z. z ∷ map at_roots (map (λ row. node_from default (branch rows row)) order)) first ∙ ap (λ z. inverted_at default xs (key ks r) ∷ z) rest

filter-true : (xs : List Weighed) → filter (λ _. true) xs ≡ xs
filter-true [] = refl
filter-true (x ∷ xs) = ap (λ z. x ∷ z) (filter-true xs)

pub fits_all : (xs : List Weighed) (w : ℤ) → EachOf IsSmall xs → length xs ≤ 8388607 → neg_ℤ (pos 9223372036854775808) ≤ℤ w → w ≤ℤ pos 9223372036854775808 → FitsSigned w128 (total xs +ℤ w)
fits_all xs w small few low high = subst (λ z. FitsSigned w128 (total z +ℤ w)) (filter-true xs) (fits_more (λ _. true) xs w small few low high)

pub total-more : (xs ys : List Weighed) (x : List Step) (w : ℤ) → ys ≡ xs ++ record { steps = x; weight = w } ∷ [] → total ys ≡ total xs +ℤ w
total-more xs ys x w e = ap total e ∙ total-snoc xs (record { steps = x; weight = w })

pub dropped-yes : (xs ys : List Weighed) (x : List Step) (w : ℤ) → ys ≡ xs ++ record { steps = x; weight = w } ∷ [] → eqb (length x) 0 ≡ true → dropped_of ys ≡ dropped_of xs +ℤ w
dropped-yes xs ys [] w e h = ap dropped_of e ∙ own_at-yes xs (record { steps = []; weight = w }) [] refl
dropped-yes xs ys (s ∷ x) w e h = absurd (false≢true (sym (let k : eqb (length (s ∷ x)) 0 ≡ false = grind (arith, nat_tests) in k) ∙ h))

pub dropped-no : (xs ys : List Weighed) (x : List Step) (w : ℤ) → ys ≡ xs ++ record { steps = x; weight = w } ∷ [] → eqb (length x) 0 ≡ false → dropped_of ys ≡ dropped_of xs
dropped-no xs ys [] w e h = absurd (false≢true (sym h))
dropped-no xs ys (s ∷ x) w e h = ap dropped_of e ∙ own_at-no xs (record { steps = s ∷ x; weight = w }) [] refl

pub fits_dropped : (xs : List Weighed) (w : ℤ) → EachOf IsSmall xs → length xs ≤ 8388607 → neg_ℤ (pos 9223372036854775808) ≤ℤ w → w ≤ℤ pos 9223372036854775808 → FitsSigned w128 (dropped_of xs +ℤ w)
fits_dropped xs w small few low high = fits_more _ xs w small few low high

pub get_or-any_node : (ns : List Node) (i : ℕ) (d e : Node) → i < length ns → get_or ns i d ≡ get_or ns i e
get_or-any_node [] i d e h = absurd (omega arith)
get_or-any_node (n ∷ ns) zero d e h = refl
get_or-any_node (n ∷ ns) (suc i) d e h = get_or-any_node ns i d e (omega arith)

-- what a slice that is written whole leaves in its list
pub written : {X : Type 0} (n : ℕ) (ys items : List X) → n ≡ length items → length ys ≡ length items → take n (ys ++ drop (length ys) items) ≡ ys
written {X} n ys items e h = ap (λ m. take m (ys ++ drop (length ys) items)) (e ∙ sym h) ∙ front ys (drop (length ys) items)
  where
    front : (ys rest : List X) → take (length ys) (ys ++ rest) ≡ ys
    front [] rest = refl
    front (y ∷ ys) rest = ap (λ z. y ∷ z) (front ys rest)

pub length-at_roots : (ns : List Node) → length (map at_roots ns) ≡ length ns
length-at_roots [] = refl
length-at_roots (n ∷ ns) = ap suc (length-at_roots ns)

pub map-at_roots : (default : ℕ) (xs : List Weighed) (ks : List (List ℕ)) → map at_roots (map (node_at default xs) ks) ≡ map (inverted_at default xs) ks
map-at_roots default xs [] = refl
map-at_roots default xs (k ∷ ks) = ap (λ z. inverted_at default xs k ∷ z) (map-at_roots default xs ks)
