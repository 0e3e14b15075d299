-- The bytes that aren't used stay the same while the page is filled.
use Rattle.std.proofs.Common.{◌≡◌, ◌≤◌, ◌<◌, ◌+◌, ◌-◌, length, take, IsTrue, if◌then◌else◌}
use Rattle.std.specs.Io.KnownBytes.{IsAtEnd}
use Rattle.prof_wire.specs.Reading.{StaysUnused}
use Rattle.prof_wire.proofs.reading.read_head.Given as goal

abbrev pub invariant-more : goal.invariant-more
invariant-more g l = record {
  size : length l.page ≡ 65536;
  within : l.at.end ≤ 65536;
  fields_fit : length l.fields ≡ 100;
  same : StaysUnused (take l.fn.filled l.fn.page) (g.H.Counted.left l.fn.hall) (take l.at.end l.page) (g.H.Counted.left l.hall);
  over : IsTrue l.at.ended → IsAtEnd (g.H.Counted.left l.hall) × (l.at.end < 65536);
  written : g.H.Counted.written l.hall ≡ g.H.Counted.written l.fn.hall;
  place : g.H.Counted.place l.hall ≡ g.H.Counted.place l.fn.hall;
  space : g.H.Counted.room l.hall ≡ g.H.Counted.room l.fn.hall;
  kept : g.H.Counted.faults l.hall ≡ g.H.Counted.faults l.fn.hall;
  sure : g.H.Counted.sure l.fn.hall → g.H.Counted.sure l.hall;
}

abbrev pub decreases-more : goal.decreases-more
decreases-more g l = 65536 - l.at.end + (if l.at.ended then 0 else 1)
