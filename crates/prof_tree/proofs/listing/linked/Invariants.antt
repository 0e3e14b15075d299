use Rattle.std.proofs.Common.{◌≡◌, ◌+◌, ◌<◌, ℕ, List, length, get_or, None}
use Rattle.prof_tree.specs.Forest.{IsChain}
use Rattle.prof_tree.specs.Ranks.{AreSiblings}
use Rattle.prof_tree.proofs.listing.linked.Given as goal

abbrev pub invariant-loop-row : goal.invariant-loop-row
invariant-loop-row l = record {
  len : length l.first.items ≡ length l.rows + 1;
  len_next : length l.next.items ≡ length l.rows;
  each : (p : ℕ) → p < length l.first.items → (kids : List ℕ) × IsChain l.next.items (get_or l.first.items p None) kids × AreSiblings l.rows l.row p kids;
}
