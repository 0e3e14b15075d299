use Rattle.std.proofs.Common.{sym, ◌∙◌}
use Rattle.std.specs.Prelude.{codes}
use Rattle.prof_grammar.specs.Value.{Value, last_named}
use Rattle.prof_layout.proofs.KeptFrom.{kept_shared-is}
use Rattle.prof_read.proofs.Held.{tables_are}
use Rattle.prof_read.proofs.raw.tables_over.Goals as goal

pub returns : goal.returns
returns c = λ ms own texts fault are held.
    tables_are texts fault (last_named (codes "resourceTable") ms) (last_named (codes "funcTable") ms) (last_named (codes "frameTable") ms) (last_named (codes "stackTable") ms)
    c.args.strings c.resource_columns-has_resources.result c.func_columns-funcs.result c.frame_columns-frames.result c.stack_columns-stacks.result
    held (c.resource_columns-has_resources.ensures _ are.resources) (c.func_columns-funcs.ensures _ are.funcs) (c.frame_columns-frames.ensures _ are.frames) (c.stack_columns-stacks.ensures _ are.stacks)
    ∙ sym (kept_shared-is texts fault (Value.object ms))
