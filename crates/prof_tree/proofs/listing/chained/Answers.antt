use Rattle.std.proofs.Common.{◌<◌, length, length-set, get_or, ◌∙◌, arith}
use Rattle.prof_tree.proofs.Kids.{place-in, put-more, put-others}
use Rattle.prof_tree.proofs.listing.chained.Goals as goal

pub bounds-next-rank : goal.bounds-next-rank
bounds-next-rank c =
    let h = place-in (length c.args.next.now) c.args.ranks.now c.loop-rank.rank-index (record { size = 0; func = record { 0 = 0 }; row = 0 }) c.requires.in_next c.loop-rank-test.true in
    omega (arith, h, c.loop-rank.invariant.len)

pub loop-rank-preserved : goal.loop-rank-preserved
loop-rank-preserved c =
    let ranks = c.args.ranks.now in
    let i = c.loop-rank.rank-index in
    let h = place-in (length c.args.next.now) ranks i (record { size = 0; func = record { 0 = 0 }; row = 0 }) c.requires.in_next c.loop-rank-test.true in
    let row = (get_or ranks i (record { size = 0; func = record { 0 = 0 }; row = 0 })).row in
    let in_next : row < length c.loop-rank.next = omega (arith, h, c.loop-rank.invariant.len) in
    record {
      chain = put-more c.loop-rank.next c.loop-rank.head ranks i _ c.requires.apart c.loop-rank-test.true in_next c.loop-rank.invariant.chain;
      others = put-others c.args.next.now c.loop-rank.next c.loop-rank.head ranks i _ c.loop-rank-test.true c.loop-rank.invariant.others;
      len = length-set c.loop-rank.next row c.loop-rank.head ∙ c.loop-rank.invariant.len;
    }
