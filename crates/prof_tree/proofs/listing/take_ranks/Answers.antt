use Rattle.std.proofs.Common.{◌≡◌, ◌++◌, [], ◌∷◌, length, nat_abs, ap, ◌∙◌, arith}
use Rattle.std.proofs.lemmas.Int.{ints, to_z-of_z}
use Rattle.prof_tree.specs.Forest.{branch}
use Rattle.prof_tree.specs.Ranks.{rank_at}
use Rattle.prof_tree.proofs.Kids.{taken-in, taken-more, taken-all, nothing-is, longer}
use Rattle.prof_tree.proofs.listing.take_ranks.Goals as goal

pub bounds-rows-row : goal.bounds-rows-row
bounds-rows-row c = (taken-in c.args.rows.now (length c.args.rows.now) c.args.next.now c.args.head c.loop-at.at c.loop-at.ranks.items c.in-Some.row c.requires.chain c.loop-at.invariant c.in-Some.is).0

pub bounds-next-row : goal.bounds-next-row
bounds-next-row c =
    let h = (taken-in c.args.rows.now (length c.args.rows.now) c.args.next.now c.args.head c.loop-at.at c.loop-at.ranks.items c.in-Some.row c.requires.chain c.loop-at.invariant c.in-Some.is).0 in
    omega (arith, h, c.requires.len)

pub loop-at-smaller : goal.loop-at-smaller
loop-at-smaller c =
    let h = (taken-in c.args.rows.now (length c.args.rows.now) c.args.next.now c.args.head c.loop-at.at c.loop-at.ranks.items c.in-Some.row c.requires.chain c.loop-at.invariant c.in-Some.is).1 in
    omega (arith, h, longer c.loop-at.ranks.items c.push.new.self.items _ c.in_ok-push.ensures.items)

pub loop-at-preserved : goal.loop-at-preserved
loop-at-preserved c =
    let rows = c.args.rows.now in
    let row = c.in-Some.row in
    let ranks = c.loop-at.ranks.items in
    let size : c.unsigned_abs.result ≡ nat_abs (branch rows row).total = first_of (grind (arith, to_z-of_z, c.unsigned_abs.ensures.value), search (arith, ints, to_z-of_z, c.unsigned_abs.ensures)) in
    let pushed : c.push.new.self.items ≡ ranks ++ rank_at rows row ∷ [] = c.in_ok-push.ensures.items ∙ ap (λ z. ranks ++ record { size = z; func = record { 0 = (branch rows row).func }; row = row } ∷ []) size in
    taken-more rows c.args.next.now c.args.head c.loop-at.at ranks c.push.new.self.items row c.loop-at.invariant c.in-Some.is pushed

pub returns : goal.returns
returns c = taken-all c.args.rows.now c.args.next.now c.args.head c.loop-at.at c.loop-at.ranks.items c.loop-at.invariant (nothing-is c.loop-at.at c.in_default.not-Some)
