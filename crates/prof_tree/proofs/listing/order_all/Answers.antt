use Rattle.std.proofs.Common.{get_or, None, arith}
use Rattle.prof_tree.proofs.Kids.{siblings-chain, ranked-more, ranked-all, ranked-start}
use Rattle.prof_tree.proofs.listing.order_all.Goals as goal

pub loop-head-init : goal.loop-head-init
loop-head-init c = ranked-start c.args.rows.now c.args.first.now c.args.next.now c.requires.siblings

pub ordered-requires-clause-len : goal.ordered-requires-clause-len
ordered-requires-clause-len c = c.loop-head.invariant.all.len_next

pub ordered-requires-clause-chain : goal.ordered-requires-clause-chain
ordered-requires-clause-chain c = siblings-chain c.args.rows.now c.loop-head.next (get_or c.loop-head.first c.loop-head.head-index None) c.loop-head.head-index (c.loop-head.invariant.all.each c.loop-head.head-index (omega arith))

pub loop-head-preserved : goal.loop-head-preserved
loop-head-preserved c =
    ranked-more c.args.rows.now c.loop-head.head-index c.loop-head.first c.loop-head.next c.ordered.new.next c.in_ok-head.field-0 (omega arith) c.loop-head.invariant c.in_ok-head.ensures.chain c.in_ok-head.ensures.others c.in_ok-head.ensures.len

pub returns : goal.returns
returns c = ranked-all c.args.rows.now c.loop-head.head-index c.loop-head.first c.loop-head.next (omega arith) c.loop-head.invariant
