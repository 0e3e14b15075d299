-- Paths that are read from their leaves
use Rattle.std.proofs.Common.{◌≡◌, ℕ, zero, suc, ◌+◌, ◌<◌, ◌≤◌, ℤ, Bool, true, false, cond, not, eqb, List, [], ◌∷◌, ◌++◌, length, take, drop, get_or, Option, None, Some, sym, ap, ◌∙◌, refl, subst, arith, add-one, drop-cons, length-drop, inl, inr}
use Rattle.std.specs.Prelude.{slice_get, IfSome, ◌==◌, if◌then◌else◌}
use Rattle.std.specs.Option.{option_map_or}
use Rattle.std.proofs.lemmas.Bool.{cases_lt}
use Rattle.std.proofs.lemmas.Bool.Decides.{nat_tests}
use Rattle.std.proofs.lemmas.Option.{none-some, slice_get-get_or, get_or_from_slice_get, slice_get_within}
use Rattle.prof_tables.specs.declared.rows.StackRow.{StackRow}
use Rattle.prof_tables.specs.declared.rows.Step.{Step}
use Rattle.prof_tables.specs.Threads.{SharedTables}
use Rattle.prof_tables.specs.Paths.{path, step_of, PrefixesBelow}
use Rattle.prof_tables.proofs.PathLemmas.{path-row}
use Rattle.prof_path.specs.declared.lists.Span.{Span}
use Rattle.prof_path.specs.declared.transform.Implementation.{Implementation}
use Rattle.prof_path.specs.declared.transform.Transform.TheVariants.{FocusSubtree}
use Rattle.prof_path.specs.Shown.{shown}
use Rattle.prof_path.specs.Rewriting.{rewrite}
use Rattle.prof_path.proofs.StepLaws.{inverted_focus, empty_stays}
use Rattle.prof_layer.specs.declared.focusing.Node.{Node}
use Rattle.prof_layer.specs.Rewritten.{IsRowOf, entry_at, AreRows, IsRewritten}
use Rattle.prof_layer.specs.Focusing.{nearest, end_above, node_of, AreNodes, IsLinked}
use Rattle.prof_layer.proofs.RowLaws.{path-none}
use Rattle.prof_raw.proofs.PushLemmas.{slice_get-push_other, slice_get-push_last, length-push}

-- one function more of the call node
abbrev turn : List Node → ℕ → List ℕ → ℕ → Option Node → Option ℕ
turn nodes f funcs r found = option_map_or (λ (node : Node). if node.func == f then (if length funcs == 0 then Some r else end_above nodes funcs node.above) else None) found None

next-funcs : (nodes : List Node) (funcs : List ℕ) (k : ℕ) (row : Option ℕ) → k < length funcs → end_above nodes (drop k funcs) row ≡ end_above nodes (get_or funcs k 0 ∷ drop (k + 1) funcs) row
next-funcs nodes funcs k row lt =
    let one : drop k funcs ≡ get_or funcs k 0 ∷ drop (k + 1) funcs = rw (add-one, drop-cons funcs k 0) in
    ap (λ l. end_above nodes l row) one

pub end-none : (nodes : List Node) (funcs : List ℕ) → end_above nodes funcs None ≡ None
end-none nodes [] = refl
end-none nodes (f ∷ funcs) = refl

pub end-other : (nodes : List Node) (funcs : List ℕ) (k r : ℕ) (node : Node) → k < length funcs → slice_get nodes r ≡ Some node → (node.func ≡ get_or funcs k 0 → ⊥) → end_above nodes (drop k funcs) (Some r) ≡ None
end-other nodes funcs k r node lt at other =
    next-funcs nodes funcs k (Some r) lt
    ∙ ap (turn nodes (get_or funcs k 0) (drop (k + 1) funcs) r) at
    ∙ ap (λ b. cond b (cond (length (drop (k + 1) funcs) == 0) (Some r) (end_above nodes (drop (k + 1) funcs) node.above)) None) (let e : eqb node.func (get_or funcs k 0) ≡ false = grind (arith, nat_tests) in e)

pub end-last : (nodes : List Node) (funcs : List ℕ) (k r : ℕ) (node : Node) → k + 1 ≡ length funcs → slice_get nodes r ≡ Some node → node.func ≡ get_or funcs k 0 → end_above nodes (drop k funcs) (Some r) ≡ Some r
end-last nodes funcs k r node last at same =
    next-funcs nodes funcs k (Some r) (omega arith)
    ∙ ap (turn nodes (get_or funcs k 0) (drop (k + 1) funcs) r) at
    ∙ ap (λ b. cond b (cond (length (drop (k + 1) funcs) == 0) (Some r) (end_above nodes (drop (k + 1) funcs) node.above)) None) (let e : eqb node.func (get_or funcs k 0) ≡ true = grind (arith, nat_tests) in e)
    ∙ ap (λ b. cond b (Some r) (end_above nodes (drop (k + 1) funcs) node.above)) (let n : length (drop (k + 1) funcs) ≡ 0 = omega (arith, length-drop (k + 1) funcs) in let e : eqb (length (drop (k + 1) funcs)) 0 ≡ true = grind (arith, nat_tests) in e)

pub end-more : (nodes : List Node) (funcs : List ℕ) (k r : ℕ) (node : Node) → k + 1 < length funcs → slice_get nodes r ≡ Some node → node.func ≡ get_or funcs k 0 → end_above nodes (drop k funcs) (Some r) ≡ end_above nodes (drop (k + 1) funcs) node.above
end-more nodes funcs k r node more at same =
    next-funcs nodes funcs k (Some r) (omega arith)
    ∙ ap (turn nodes (get_or funcs k 0) (drop (k + 1) funcs) r) at
    ∙ ap (λ b. cond b (cond (length (drop (k + 1) funcs) == 0) (Some r) (end_above nodes (drop (k + 1) funcs) node.above)) None) (let e : eqb node.func (get_or funcs k 0) ≡ true = grind (arith, nat_tests) in e)
    ∙ ap (λ b. cond b (Some r) (end_above nodes (drop (k + 1) funcs) node.above)) (let n : 0 < length (drop (k + 1) funcs) = omega (arith, length-drop (k + 1) funcs) in let e : eqb (length (drop (k + 1) funcs)) 0 ≡ false = grind (arith, nat_tests) in e)

-- the nodes of one row more
nearest-push : (nodes : List Node) (node : Node) (row : Option ℕ) → IfSome row (λ r. r < length nodes) → nearest (nodes ++ node ∷ []) row ≡ nearest nodes row
nearest-push nodes node None h = refl
nearest-push nodes node (Some r) h = ap (λ o. option_map_or (λ (n : Node). cond n.shown (Some r) n.above) o None) (slice_get-push_other nodes node r h)

IfSome-weaker : (o : Option ℕ) (k n : ℕ) → k ≤ n → IfSome o (λ p. p < k) → IfSome o (λ p. p < n)
IfSome-weaker None k n le h = tt
IfSome-weaker (Some p) k n le h = omega arith

node_of-push : (t : SharedTables) (i : Implementation) (nodes : List Node) (node : Node) (row : StackRow) → IfSome row.prefix (λ p. p < length nodes) → node_of t i (nodes ++ node ∷ []) row ≡ node_of t i nodes row
node_of-push t i nodes node row h = ap (λ above. record { func = row.func; shown = shown t i row.func; above = above }) (nearest-push nodes node row.prefix h)

pub nodes-begun : (t : SharedTables) (i : Implementation) (top : List StackRow) → AreNodes t i top 0 []
nodes-begun t i top = record { count = refl; each = λ k row lt at. absurd (omega arith) }

pub nodes-more : (t : SharedTables) (i : Implementation) (top : List StackRow) (n : ℕ) (nodes new : List Node) (row : StackRow) (node : Node) → PrefixesBelow top → slice_get top n ≡ Some row → AreNodes t i top n nodes
    → node ≡ node_of t i nodes row → new ≡ nodes ++ node ∷ [] → AreNodes t i top (n + 1) new
nodes-more t i top n nodes new row node below at h is pushed = subst (AreNodes t i top (n + 1)) (sym pushed) (record {
  count = length-push nodes node ∙ ap suc h.count ∙ (let e : suc n ≡ n + 1 = omega arith in e);
  each = λ k other lt here. elim (cases_lt k n) [
    | inl l ↦ (let within : k < length nodes = omega (arith, h.count) in
        slice_get-push_other nodes node k within ∙ h.each k other l here
        ∙ sym (ap Some (node_of-push t i nodes node other (IfSome-weaker other.prefix k (length nodes) (omega arith) (below k other here)))))
    | inr g ↦ (let k_is : length nodes ≡ k = omega (arith, h.count) in
        let n_is : n ≡ k = omega arith in
        let Q : ℕ → Type 0 = λ j. slice_get (nodes ++ node ∷ []) j ≡ Some node in
        let R : ℕ → Type 0 = λ j. slice_get top j ≡ Some row in
        let found : slice_get top k ≡ Some row = subst R n_is at in
        let same : row ≡ other = cc in
        subst Q k_is (slice_get-push_last nodes node) ∙ ap Some (is ∙ ap (node_of t i nodes) same ∙ sym (node_of-push t i nodes node other (IfSome-weaker other.prefix k (length nodes) (omega arith) (below k other here)))))
  ];
})

pub take-more : (top : List StackRow) (k : ℕ) (row : StackRow) → slice_get top k ≡ Some row → take k top ++ row ∷ [] ≡ take (k + 1) top
take-more [] k row at = absurd (cc)
take-more (r ∷ top) zero row at = let same : row ≡ r = cc in ap (λ x. x ∷ []) same
take-more (r ∷ top) (suc k) row at =
    let e : suc (k + 1) ≡ suc k + 1 = omega arith in
    ap (λ l. r ∷ l) (take-more top k row at) ∙ ap (λ n. take n (r ∷ top)) e

-- the node of a row by its parts
pub node-parts : (t : SharedTables) (i : Implementation) (nodes : List Node) (row : StackRow) (b : Bool) (above : Option ℕ) → b ≡ shown t i row.func → above ≡ nearest nodes row.prefix
    → record { func = row.func; shown = b; above = above } ≡ node_of t i nodes row
node-parts t i nodes row b above e h =
    let made : Bool → Option ℕ → Node = λ s a. record { func = row.func; shown = s; above = a } in
    ap (λ s. made s above) e ∙ ap (made (shown t i row.func)) h

-- the nearest shown row is no later one, its step is shown, and a call node that is read from the leaf ends where it does
record IsNear (t : SharedTables) (i : Implementation) (top : List StackRow) (n : ℕ) (row near : Option ℕ) : Type 0 where
  below : IfSome near (λ r. r < n)
  seen : IfSome near (λ r. (found : StackRow) → slice_get top r ≡ Some found → shown t i found.func ≡ true)
  same : (f : ℕ) (q : List ℕ) (spans : List Span) (m : ℤ) → rewrite t (FocusSubtree i (f ∷ q) true) spans (path top row) m ≡ rewrite t (FocusSubtree i (f ∷ q) true) spans (path top near) m

-- a call node that is read from the leaf, with one more step
inverted-row : (t : SharedTables) (i : Implementation) (top : List StackRow) (r : ℕ) (row : StackRow) (f : ℕ) (q : List ℕ) (spans : List Span) (m : ℤ) (b : Bool) → PrefixesBelow top → slice_get top r ≡ Some row → shown t i row.func ≡ b
    → rewrite t (FocusSubtree i (f ∷ q) true) spans (path top (Some r)) m
    ≡ cond (not b) (rewrite t (FocusSubtree i (f ∷ q) true) spans (path top row.prefix) m)
    (cond (row.func == f) (cond (length q == 0) (path top row.prefix ++ step_of row ∷ []) (rewrite t (FocusSubtree i q true) spans (path top row.prefix) m)) [])
inverted-row t i top r row f q spans m b below at is =
    ap (λ x. rewrite t (FocusSubtree i (f ∷ q) true) spans x m) (path-row top r row below at)
    ∙ inverted_focus t i f q spans (path top row.prefix) (step_of row) m
    ∙ ap (λ b. cond (not b) (rewrite t (FocusSubtree i (f ∷ q) true) spans (path top row.prefix) m)
    (cond (row.func == f) (cond (length q == 0) (path top row.prefix ++ step_of row ∷ []) (rewrite t (FocusSubtree i q true) spans (path top row.prefix) m)) [])) is

nearest-at : (t : SharedTables) (i : Implementation) (top : List StackRow) (n : ℕ) (nodes : List Node) (r : ℕ) (row : StackRow) → r < n → slice_get top r ≡ Some row → AreNodes t i top n nodes
    → nearest nodes (Some r) ≡ cond (shown t i row.func) (Some r) (nearest nodes row.prefix)
nearest-at t i top n nodes r row lt at h = ap (λ o. option_map_or (λ (node : Node). cond node.shown (Some r) node.above) o None) (h.each r row lt at)

near-none : (t : SharedTables) (i : Implementation) (top : List StackRow) (n : ℕ) → IsNear t i top n None None
near-none t i top n = record { below = tt; seen = tt; same = λ f q spans m. refl }

near-row : (t : SharedTables) (i : Implementation) (top : List StackRow) (nodes : List Node) (n r : ℕ) (row : StackRow) (b : Bool) → PrefixesBelow top → AreNodes t i top (length top) nodes → r < suc n → slice_get top r ≡ Some row → shown t i row.func ≡ b
    → IsNear t i top n row.prefix (nearest nodes row.prefix) → IsNear t i top (suc n) (Some r) (cond b (Some r) (nearest nodes row.prefix))
near-row t i top nodes n r row true below h lt at is up = record {
  below = lt;
  seen = λ found here. let same : row ≡ found = cc in ap (λ (s : StackRow). shown t i s.func) (sym same) ∙ is;
  same = λ f q spans m. refl;
}
near-row t i top nodes n r row false below h lt at is up = record {
  below = IfSome-weaker (nearest nodes row.prefix) n (suc n) (omega arith) up.below;
  seen = up.seen;
  same = λ f q spans m. inverted-row t i top r row f q spans m false below at is ∙ up.same f q spans m;
}

-- the row that is there
near-found : (t : SharedTables) (i : Implementation) (top : List StackRow) (nodes : List Node) (n r : ℕ) (found : Option StackRow) → slice_get top r ≡ found → PrefixesBelow top → AreNodes t i top (length top) nodes → suc n ≤ length top → r < suc n
    → ((row : StackRow) → slice_get top r ≡ Some row → IsNear t i top n row.prefix (nearest nodes row.prefix))
    → IsNear t i top (suc n) (Some r) (nearest nodes (Some r))
near-found t i top nodes n r None at below h le lt up =
    let within : r < length top = omega arith in
    let there = slice_get-get_or top r (record { prefix = None; func = 0; category = 0 }) within in
    absurd (none-some (get_or top r (record { prefix = None; func = 0; category = 0 })) (sym at ∙ there))
near-found t i top nodes n r (Some row) at below h le lt up =
    subst (IsNear t i top (suc n) (Some r)) (sym (nearest-at t i top (length top) nodes r row (omega arith) at h))
    (near-row t i top nodes n r row (shown t i row.func) below h lt at refl (up row at))

near : (t : SharedTables) (i : Implementation) (top : List StackRow) (nodes : List Node) → PrefixesBelow top → AreNodes t i top (length top) nodes
    → (n : ℕ) (row : Option ℕ) → n ≤ length top → IfSome row (λ r. r < n) → IsNear t i top n row (nearest nodes row)
near t i top nodes below h zero None le lt = near-none t i top 0
near t i top nodes below h zero (Some r) le lt = absurd (omega arith)
near t i top nodes below h (suc n) None le lt = near-none t i top (suc n)
near t i top nodes below h (suc n) (Some r) le lt =
    near-found t i top nodes n r (slice_get top r) refl below h le lt (λ row at. near t i top nodes below h n row.prefix (omega arith) (IfSome-weaker row.prefix r n (omega arith) (below r row at)))

-- each row above is one of the rows
pub nodes-linked : (t : SharedTables) (i : Implementation) (top : List StackRow) (nodes : List Node) → PrefixesBelow top → AreNodes t i top (length top) nodes → IsLinked nodes
nodes-linked t i top nodes below h = λ k d lt.
    let within : k < length top = omega (arith, h.count) in
    let row = get_or top k (record { prefix = None; func = 0; category = 0 }) in
    let at : slice_get top k ≡ Some row = slice_get-get_or top k (record { prefix = None; func = 0; category = 0 }) within in
    let prefix = IfSome-weaker row.prefix k (length top) (omega arith) (below k row at) in
    let is : get_or nodes k d ≡ node_of t i nodes row = get_or_from_slice_get nodes k (node_of t i nodes row) d (h.each k row within at) in
    subst (λ (node : Node). IfSome node.above (λ a. a < length nodes)) (sym is)
    (IfSome-weaker (nearest nodes row.prefix) (length top) (length nodes) (omega (arith, h.count)) (near t i top nodes below h (length top) row.prefix (omega arith) prefix).below)

-- where the functions end, upwards from the nearest shown row, is where the focused path ends
abbrev EndsAt : SharedTables → Implementation → List StackRow → List Node → List ℕ → List Span → ℤ → ℕ → StackRow → Type 0
EndsAt t i top nodes q spans m r row =
    IsRowOf top (cond (length q == 0) (Some r) (end_above nodes q (nearest nodes row.prefix)))
    (cond (length q == 0) (path top row.prefix ++ step_of row ∷ []) (rewrite t (FocusSubtree i q true) spans (path top row.prefix) m))

end-by : (top : List StackRow) (b : Bool) (e : Option ℕ) (y : List Step) → IsRowOf top e y → IsRowOf top (cond b e None) (cond b y [])
end-by top true e y h = h
end-by top false e y h = refl

end-found : (t : SharedTables) (i : Implementation) (top : List StackRow) (nodes : List Node) (f : ℕ) (q : List ℕ) (spans : List Span) (m : ℤ) (row near : Option ℕ) → PrefixesBelow top → AreNodes t i top (length top) nodes
    → IsNear t i top (length top) row near
    → ((r : ℕ) (found : StackRow) → slice_get top r ≡ Some found → EndsAt t i top nodes q spans m r found)
    → IsRowOf top (end_above nodes (f ∷ q) near) (rewrite t (FocusSubtree i (f ∷ q) true) spans (path top row) m)
end-found t i top nodes f q spans m row None below h n rest =
    n.same f q spans m ∙ ap (λ x. rewrite t (FocusSubtree i (f ∷ q) true) spans x m) (path-none top) ∙ empty_stays t (FocusSubtree i (f ∷ q) true) spans m
end-found t i top nodes f q spans m row (Some r) below h n rest =
    let found : StackRow = get_or top r (record { prefix = None; func = 0; category = 0 }) in
    let at : slice_get top r ≡ Some found = slice_get-get_or top r (record { prefix = None; func = 0; category = 0 }) n.below in
    subst (IsRowOf top (end_above nodes (f ∷ q) (Some r))) (sym (n.same f q spans m ∙ inverted-row t i top r found f q spans m true below at (n.seen found at)))
    (subst (λ e. IsRowOf top e (cond (found.func == f) (cond (length q == 0) (path top found.prefix ++ step_of found ∷ []) (rewrite t (FocusSubtree i q true) spans (path top found.prefix) m)) []))
    (sym (ap (turn nodes f q r) (h.each r found n.below at)))
    (end-by top (found.func == f) (cond (length q == 0) (Some r) (end_above nodes q (nearest nodes found.prefix)))
    (cond (length q == 0) (path top found.prefix ++ step_of found ∷ []) (rewrite t (FocusSubtree i q true) spans (path top found.prefix) m)) (rest r found at)))

ends-more : (top : List StackRow) (g : ℕ) (q : List ℕ) (d e : Option ℕ) (z y : List Step) → IsRowOf top e y → IsRowOf top (cond (length (g ∷ q) == 0) d e) (cond (length (g ∷ q) == 0) z y)
ends-more top g q d e z y h =
    let some : (length (g ∷ q) == 0) ≡ false = grind (arith, nat_tests) in
    subst (λ b. IsRowOf top (cond b d e) (cond b z y)) (sym some) h

pub end-row : (t : SharedTables) (i : Implementation) (top : List StackRow) (nodes : List Node) → PrefixesBelow top → AreNodes t i top (length top) nodes
    → (f : ℕ) (q : List ℕ) (row : Option ℕ) → IfSome row (λ r. r < length top) → (spans : List Span) (m : ℤ)
    → IsRowOf top (end_above nodes (f ∷ q) (nearest nodes row)) (rewrite t (FocusSubtree i (f ∷ q) true) spans (path top row) m)
end-row t i top nodes below h f [] row lt spans m =
    end-found t i top nodes f [] spans m row (nearest nodes row) below h (near t i top nodes below h (length top) row (omega arith) lt)
    (λ r found at. (slice_get_within top r found at, path-row top r found below at))
end-row t i top nodes below h f (g ∷ q) row lt spans m =
    end-found t i top nodes f (g ∷ q) spans m row (nearest nodes row) below h (near t i top nodes below h (length top) row (omega arith) lt)
    (λ r found at. ends-more top g q (Some r) (end_above nodes (g ∷ q) (nearest nodes found.prefix)) (path top found.prefix ++ step_of found ∷ []) (rewrite t (FocusSubtree i (g ∷ q) true) spans (path top found.prefix) m)
    (end-row t i top nodes below h g q found.prefix
    (let within = slice_get_within top r found at in IfSome-weaker found.prefix r (length top) (omega arith) (below r found at)) spans m))

-- the rows as they are, where each path goes to the row at which it ends
pub focus-done : (t : SharedTables) (i : Implementation) (top rows : List StackRow) (nodes : List Node) (funcs : List ℕ) (outs : List (Option ℕ)) → 0 < length funcs → AreRows t top → rows ≡ top → AreNodes t i top (length top) nodes
    → length outs ≡ length nodes → ((r : ℕ) → r < length nodes → entry_at outs r ≡ end_above nodes funcs (nearest nodes (Some r)))
    → IsRewritten t (FocusSubtree i funcs true) top rows outs
focus-done t i top rows nodes [] outs some fit same h count ends = absurd (omega arith)
focus-done t i top rows nodes (f ∷ q) outs some fit same h count ends = subst (λ r. IsRewritten t (FocusSubtree i (f ∷ q) true) top r outs) (sym same) (record {
  fit = fit;
  few = omega arith;
  count = count ∙ h.count;
  paths = λ r lt spans m. subst (λ e. IsRowOf top e (rewrite t (FocusSubtree i (f ∷ q) true) spans (path top (Some r)) m)) (sym (ends r (omega (arith, h.count)))) (end-row t i top nodes fit.prefixes h f q (Some r) lt spans m);
})
