use Rattle.std.proofs.Common.{Some}
use Rattle.prof_gather.specs.Marks.{marked}
use Rattle.prof_gather.proofs.whole.read_object.Given as goal

abbrev pub ghosts-gather : goal.ghosts-gather
ghosts-gather g a = record {
  text = g.S.Counted.left a.src.src.now;
  written = Some (marked a.src.src.ghost_name (g.S.Counted.written a.src.src.now));
  place = g.S.Counted.place a.src.src.now;
  faults = g.S.Counted.faults a.src.src.now;
  sure = g.S.Counted.sure a.src.src.now;
}
