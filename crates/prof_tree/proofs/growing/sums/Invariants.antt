use Rattle.std.proofs.Common.{◌≡◌, take}
use Rattle.prof_tree.specs.Nodes.{weighed, total, dropped_of}
use Rattle.prof_tree.specs.Forest.{EachOf}
use Rattle.prof_tree.specs.Growing.{IsSmall}
use Rattle.prof_tree.proofs.growing.sums.Given as goal

abbrev pub invariant-loop-place : goal.invariant-loop-place
invariant-loop-place l = record {
  selected : l.selected ≡ total (weighed (take l.place l.paths) (take l.place l.weights));
  dropped : l.dropped ≡ dropped_of (weighed (take l.place l.paths) (take l.place l.weights));
  small : EachOf IsSmall (weighed (take l.place l.paths) (take l.place l.weights));
}
