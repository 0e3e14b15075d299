use Rattle.std.proofs.Common.{◌≡◌, ◌+◌, ◌<◌, ◌++◌, suc, length}
use Rattle.std.specs.Prelude.{reverse, IfSome}
use Rattle.std.specs.Option.{option_map_or}
use Rattle.prof_tables.specs.Paths.{path}
use Rattle.prof_path.proofs.paths.path_of.Given as goal

abbrev pub invariant-loop-next : goal.invariant-loop-next
invariant-loop-next g l = record {
  within : IfSome l.next (λ i. i < length l.thread.shared.stacks);
  kept : path l.thread.shared.stacks l.next ++ reverse l.steps.items ≡ path l.thread.shared.stacks l.fn.stack;
  rows_read : l.reads + length (path l.thread.shared.stacks l.next) ≡ l.fn.reads + length (path l.thread.shared.stacks l.fn.stack);
}

abbrev pub decreases-loop-next : goal.decreases-loop-next
decreases-loop-next g l = option_map_or suc l.next 0
