use Rattle.prof_tables.specs.Threads.{ThreadTables}
use Rattle.prof_gecko.specs.Checks.{parts_broken}
use Rattle.prof_gecko.specs.Converted.{thread_in}
use Rattle.prof_gecko.proofs.Building.{columns_fail, parts_made}
use Rattle.prof_gecko.proofs.Refusing.{names}
use Rattle.prof_gecko.proofs.thread.build_columns.Goals as goal

pub returns-in_err-check_columns : goal.returns-in_err-check_columns
returns-in_err-check_columns c = names (λ (t : ThreadTables). t) c.from_residual.result c.in_err-check_columns.field-0.0
    (parts_broken c.args.number c.args.common.categories c.args.libs.now c.args.columns) (thread_in c.args.common.categories c.args.common.default c.args.libs.now c.args.columns)
    (columns_fail c.args.number c.args.common.categories c.args.libs.now c.args.columns _ c.in_err-check_columns.ensures) c.from_residual.ensures.1

pub returns : goal.returns
returns c = parts_made (λ (t : ThreadTables). t) _ c.args.number c.args.common.categories c.args.libs.now c.args.columns (thread_in c.args.common.categories c.args.common.default c.args.libs.now c.args.columns)
    c.in_ok-check_columns.ensures c.build_checked.ensures
