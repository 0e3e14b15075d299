use Rattle.std.proofs.Common.{◌≡◌, take, false}
use Rattle.std.specs.List.{list_any}
use Rattle.prof_path.specs.Lowered.{has_lowered, sought}
use Rattle.prof_marker.proofs.seeker.occurs_among.Given as goal

abbrev pub invariant-loop-text : goal.invariant-loop-text
invariant-loop-text l = record {
  terms : sought l.seeker ≡ sought l.fn.seeker;
  known : l.seeker.known.items ≡ l.fn.seeker.known.items;
  none : list_any (has_lowered (sought l.fn.seeker)) (take l.text-index l.texts) ≡ false;
}
