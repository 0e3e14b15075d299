use Rattle.std.proofs.Common.{◌≡◌, map, take}
use Rattle.std.specs.Option.{option_map}
use Rattle.prof_gecko.specs.Columns.{moved, shift_of}
use Rattle.prof_gecko.proofs.shift.Shift.moved_cells.Given as goal

abbrev pub invariant-loop-row : goal.invariant-loop-row
invariant-loop-row l = l.list ≡ map (option_map (moved (shift_of l.self))) (take l.row l.cells)
