use Rattle.std.proofs.Common.{◌<◌, ◌+◌, length}
use Rattle.std.specs.List.{All}
use Rattle.prof_tables.specs.declared.rows.Step.{Step}
use Rattle.prof_path_calls.proofs.paths.path_of_funcs.Given as goal

abbrev pub invariant-loop-func : goal.invariant-loop-func
invariant-loop-func l = All (λ (s : Step). s.func < length l.thread.shared.funcs + length l.thread.shared.resources) l.path
