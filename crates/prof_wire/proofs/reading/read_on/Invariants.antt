-- The bytes that aren't used stay the same while the page is filled.
use Rattle.std.proofs.Common.{◌≡◌, ◌≤◌, ◌-◌, length, take}
use Rattle.prof_wire.specs.Reading.{StaysUnused}
use Rattle.prof_wire.proofs.reading.read_on.Given as goal

abbrev pub invariant-fill : goal.invariant-fill
invariant-fill g l = record {
  size : length l.page ≡ 65536;
  within : l.end ≤ 65536;
  further : l.filled ≤ l.end;
  same : StaysUnused (take l.fn.filled l.fn.page) (g.H.Counted.left l.fn.hall) (take l.end l.page) (g.H.Counted.left l.hall);
  written : g.H.Counted.written l.hall ≡ g.H.Counted.written l.fn.hall;
  place : g.H.Counted.place l.hall ≡ g.H.Counted.place l.fn.hall;
  space : g.H.Counted.room l.hall ≡ g.H.Counted.room l.fn.hall;
  kept : g.H.Counted.faults l.hall ≡ g.H.Counted.faults l.fn.hall;
  sure : g.H.Counted.sure l.fn.hall → g.H.Counted.sure l.hall;
}

abbrev pub decreases-fill : goal.decreases-fill
decreases-fill g l = 65536 - l.end
