use Rattle.std.proofs.Common.{◌≡◌, take}
use Rattle.prof_marker.specs.Markers.{drafts_of}
use Rattle.prof_marker.specs.Kept.{IsKept, drafts_in}
use Rattle.prof_marker.proofs.pairing.derive.Given as goal

abbrev pub invariant-loop-row : goal.invariant-loop-row
invariant-loop-row l = record {
  kept : IsKept l.strings l.drafts;
  drafts : drafts_in l.drafts ≡ drafts_of l.strings l.times.first l.times.last (take l.row-index l.raw.rows);
}
