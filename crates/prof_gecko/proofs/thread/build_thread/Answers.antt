use Rattle.prof_tables.specs.Threads.{ThreadTables}
use Rattle.prof_gecko.specs.Columns.{parts_of, shift_of}
use Rattle.prof_gecko.proofs.Adding.{columns_ranges}
use Rattle.prof_gecko.proofs.Building.{thread_made}
use Rattle.prof_gecko.proofs.thread.build_thread.Goals as goal

pub build_columns-requires : goal.build_columns-requires
build_columns-requires c = record {
  default = c.requires.default;
  ranges = columns_ranges (shift_of c.args.shift) c.args.thread c.in_ok-columns.columns c.in_ok-columns.ensures c.requires.ranges;
}

pub returns : goal.returns
returns c = thread_made (λ (t : ThreadTables). t) _ c.args.number c.args.common.categories c.args.common.default c.args.libs.now c.in_ok-columns.columns (parts_of (shift_of c.args.shift) c.args.thread)
    c.in_ok-columns.ensures c.build_columns.ensures
