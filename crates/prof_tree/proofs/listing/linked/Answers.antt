use Rattle.std.proofs.Common.{◌≡◌, ◌+◌, ◌<◌, ℕ, List, length, length-set, get_or, set, Some, None, sym, ◌∙◌, subst, arith}
use Rattle.prof_tree.specs.Forest.{IsChain, branch, link}
use Rattle.prof_tree.specs.Ranks.{AreSiblings}
use Rattle.prof_tree.proofs.Kids.{at_none, link_in, linked-more}
use Rattle.prof_tree.proofs.listing.linked.Goals as goal

pub index-requires : goal.index-requires
index-requires c =
    let k = link_in c.args.rows.now c.loop-row.row c.requires.forest c.loop-row-test.true in
    let e : c.place_of-place.result ≡ link (branch c.args.rows.now c.loop-row.row).parent = c.place_of-place.ensures in
    omega (arith, k, e, c.loop-row.invariant.len, c.loop-row.first.ok.0)

pub index_mut-requires-in-loop-row : goal.index_mut-requires-in-loop-row
index_mut-requires-in-loop-row c =
    let k = link_in c.args.rows.now c.loop-row.row c.requires.forest c.loop-row-test.true in
    let e : c.place_of-place.result ≡ link (branch c.args.rows.now c.loop-row.row).parent = c.place_of-place.ensures in
    omega (arith, k, e, c.loop-row.invariant.len, c.loop-row.first.ok.0)

pub loop-row-preserved : goal.loop-row-preserved
loop-row-preserved c =
    let rows = c.args.rows.now in
    let row = c.loop-row.row in
    let first = c.loop-row.first.items in
    let next = c.loop-row.next.items in
    let place = c.place_of-place.result in
    let k = link_in rows row c.requires.forest c.loop-row-test.true in
    let e : place ≡ link (branch rows row).parent = c.place_of-place.ensures in
    let in_first : place < length first = omega (arith, k, e, c.loop-row.invariant.len) in
    let in_next : row < length next = omega (arith, c.loop-row-test.true, c.loop-row.invariant.len_next) in
    let found : c.index.result.now ≡ get_or first place None = at_none first place c.index.result.now in_first c.index.ensures in
    record {
      len = length-set first place (Some row) ∙ c.loop-row.invariant.len;
      len_next = length-set next row c.index.result.now ∙ c.loop-row.invariant.len_next;
      each = λ p lt. subst (λ z. (kids : List ℕ) × IsChain (set next row z) (get_or (set first place (Some row)) p None) kids × AreSiblings rows (row + 1) p kids) (sym found)
          (linked-more rows first next place row e in_first in_next c.loop-row.invariant.each p (subst (λ n. p < n) (length-set first place (Some row)) lt));
    }

pub returns : goal.returns
returns c =
    let all : c.loop-row.row ≡ length c.args.rows.now = omega arith in
    record {
      len = c.loop-row.invariant.len;
      len_next = c.loop-row.invariant.len_next;
      each = λ p lt. subst (λ n. (kids : List ℕ) × IsChain c.loop-row.next.items (get_or c.loop-row.first.items p None) kids × AreSiblings c.args.rows.now n p kids) all (c.loop-row.invariant.each p lt);
    }
