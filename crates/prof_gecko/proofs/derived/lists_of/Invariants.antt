use Rattle.std.proofs.Common.{take}
use Rattle.prof_gecko.proofs.Deriving.{RowsDone}
use Rattle.prof_gecko.proofs.derived.lists_of.Given as goal

abbrev pub invariant-loop-row : goal.invariant-loop-row
invariant-loop-row l = RowsDone l.libs l.fn.strings l.places l.relevant_for_js l.row-index (take l.row-index l.rows) l.lists
