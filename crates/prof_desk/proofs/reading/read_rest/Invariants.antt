-- What was read so far was left at first.
use Rattle.std.proofs.Common.{◌≡◌, ◌-◌, length}
use Rattle.std.specs.Io.KnownBytes.{Consumes}
use Rattle.prof_desk.proofs.reading.read_rest.Given as goal

abbrev pub invariant-loop-page : goal.invariant-loop-page
invariant-loop-page g l = record {
  page : length l.page ≡ 65536;
  came : Consumes (g.F.Counted.left l.fn.files) (g.F.Counted.left l.files) l.script.items;
  place : g.F.Counted.place l.files ≡ g.F.Counted.place l.fn.files;
  calm : g.F.Counted.faults l.files ≡ g.F.Counted.faults l.fn.files;
  sure : g.F.Counted.sure l.fn.files → g.F.Counted.sure l.files;
}

abbrev pub decreases-loop-page : goal.decreases-loop-page
decreases-loop-page g l = 16777217 - length l.script.items
