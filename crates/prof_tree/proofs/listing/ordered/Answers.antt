use Rattle.std.proofs.Common.{◌≡◌, ◌<◌, length, map, reverse, get_or, Some, None, sym, subst, arith}
use Rattle.std.specs.List.Sorted.{IsPermutation, IsSorted}
use Rattle.prof_tree.specs.Forest.{EachOf, IsChain}
use Rattle.prof_tree.specs.Ranks.{rank_at, rank_cmp, rows_of, EachOnce}
use Rattle.prof_tree.proofs.Kids.{top-in, chain-same, chain-one, chain-nothing, none-is, sorted-of, sorted-in, sorted-once, sorted-ranked, elem-sorted, ranked-one, ranked-none}
use Rattle.prof_tree.proofs.listing.ordered.Goals as goal

pub bounds-next-row : goal.bounds-next-row
bounds-next-row c =
    let h = top-in (length c.args.rows.now) c.args.next.now c.args.head c.in-Some.row c.requires.chain c.in-Some.is in
    omega (arith, h, c.requires.len)

pub chained-requires-clause-in_next : goal.chained-requires-clause-in_next
chained-requires-clause-in_next c =
    let w = c.requires.chain in
    let same : IsPermutation (map (rank_at c.args.rows.now) w.0) c.deref.result.now = sorted-of c.args.rows.now w.0 _ _ _ (c.in_ok-take_ranks-in-Some.ensures w.0 (subst (λ z. IsChain c.args.next.now z w.0) c.in-Some.is w.1)) c.in_ok-sort-in-Some.ensures.permutation c.deref.ensures.value in
    sorted-in c.args.rows.now w.0 c.deref.result.now same (length c.args.next.now) (subst (λ n. EachOf (λ row. row < n) w.0) (sym c.requires.len) w.2)

pub chained-requires-clause-apart : goal.chained-requires-clause-apart
chained-requires-clause-apart c =
    let w = c.requires.chain in
    let same : IsPermutation (map (rank_at c.args.rows.now) w.0) c.deref.result.now = sorted-of c.args.rows.now w.0 _ _ _ (c.in_ok-take_ranks-in-Some.ensures w.0 (subst (λ z. IsChain c.args.next.now z w.0) c.in-Some.is w.1)) c.in_ok-sort-in-Some.ensures.permutation c.deref.ensures.value in
    sorted-once c.args.rows.now w.0 c.deref.result.now same w.3

pub returns-in_ok-sort-in-Some-clause-chain : goal.returns-in_ok-sort-in-Some-clause-chain
returns-in_ok-sort-in-Some-clause-chain c = λ l h.
    let w = c.requires.chain in
    let same : IsPermutation (map (rank_at c.args.rows.now) l) c.deref.result.now = sorted-of c.args.rows.now l _ _ _ (c.in_ok-take_ranks-in-Some.ensures l (subst (λ z. IsChain c.args.next.now z l) c.in-Some.is h)) c.in_ok-sort-in-Some.ensures.permutation c.deref.ensures.value in
    let once : EachOnce l = subst EachOnce (chain-same c.args.next.now c.args.head w.0 l w.1 h) w.3 in
    let up : IsSorted rank_cmp c.deref.result.now = subst (IsSorted rank_cmp) (sym c.deref.ensures.value) c.in_ok-sort-in-Some.ensures.sorted in
    (reverse (rows_of c.deref.result.now), c.chained.ensures.chain, sorted-ranked c.args.rows.now l c.deref.result.now same once up)

pub returns-in_ok-sort-in-Some-clause-others : goal.returns-in_ok-sort-in-Some-clause-others
returns-in_ok-sort-in-Some-clause-others c = λ l h row n.
    let same : IsPermutation (map (rank_at c.args.rows.now) l) c.deref.result.now = sorted-of c.args.rows.now l _ _ _ (c.in_ok-take_ranks-in-Some.ensures l (subst (λ z. IsChain c.args.next.now z l) c.in-Some.is h)) c.in_ok-sort-in-Some.ensures.permutation c.deref.ensures.value in
    c.chained.ensures.others row (λ e. n (elem-sorted c.args.rows.now l c.deref.result.now same row e))

pub returns-in_default-clause-chain : goal.returns-in_default-clause-chain
returns-in_default-clause-chain c = λ l h.
    let h : IsChain c.args.next.now (Some c.in-Some.row) l = subst (λ z. IsChain c.args.next.now z l) c.in-Some.is h in
    let none : get_or c.args.next.now c.in-Some.row None ≡ None = none-is (get_or c.args.next.now c.in-Some.row None) c.is_some.result c.is_some.ensures c.if-is_some.false in
    (l, h, ranked-one c.args.rows.now l c.in-Some.row (chain-one c.args.next.now c.in-Some.row l none h))

pub returns-in_default-2-clause-chain : goal.returns-in_default-2-clause-chain
returns-in_default-2-clause-chain c = λ l h. (l, h, ranked-none c.args.rows.now l (chain-nothing c.args.next.now c.args.head l c.in_default.is h))
