use Rattle.std.proofs.Common.{◌≡◌, ℕ, length, take, reverse, get_or, None}
use Rattle.prof_tree.specs.Forest.{IsChain, Elem}
use Rattle.prof_tree.specs.Ranks.{rows_of}
use Rattle.prof_tree.proofs.listing.chained.Given as goal

abbrev pub invariant-loop-rank : goal.invariant-loop-rank
invariant-loop-rank l = record {
  chain : IsChain l.next l.head (reverse (rows_of (take l.rank-index l.ranks)));
  others : (row : ℕ) → (Elem row (rows_of (take l.rank-index l.ranks)) → ⊥) → get_or l.next row None ≡ get_or l.fn.next row None;
  len : length l.next ≡ length l.fn.next;
}
