use Rattle.std.proofs.Common.{◌≤◌, Some, length, sym, ap, subst}
use Rattle.std.specs.Prelude.{All}
use Rattle.prof_tables.specs.Threads.{ThreadTables}
use Rattle.prof_tables.specs.Ties.{IsPart}
use Rattle.prof_gecko.specs.Columns.{FrameCells, ThreadParts}
use Rattle.prof_gecko.specs.Fits.{FitLocations}
use Rattle.prof_gecko.specs.Checks.{limits_broken}
use Rattle.prof_gecko.specs.Converted.{lists_in, thread_in}
use Rattle.prof_gecko.proofs.Again.{passed}
use Rattle.prof_gecko.proofs.Building.{checked_made, limits_over}
use Rattle.prof_gecko.proofs.Refusing.{names}
use Rattle.prof_gecko.proofs.thread.build_checked.Goals as goal

pub of-requires : goal.of-requires
of-requires c =
    let p = passed (Some c.args.number) c.args.common.categories c.args.columns c.requires.checked in
    record {
      fit = subst (λ (q : ThreadParts). FitLocations (length q.strings) q.frames) (sym c.columns.view_is) p.locations;
      few = subst (λ (q : ThreadParts). length q.strings ≤ 4194304) (sym c.columns.view_is) p.few;
    }

pub build_derived-requires-clause-ranges : goal.build_derived-requires-clause-ranges
build_derived-requires-clause-ranges c = subst (λ (q : ThreadParts). All (IsPart (length q.own.marker_texts)) q.own.marker_ranges) (sym c.columns.view_is) c.requires.ranges

pub returns-in_err-check_limits : goal.returns-in_err-check_limits
returns-in_err-check_limits c = names (λ (t : ThreadTables). t) c.from_residual-in_err-check_limits.result c.in_err-check_limits.field-0.0
    (limits_broken (Some c.args.number) (lists_in c.args.libs.now c.args.columns.strings c.args.columns.frames)) (thread_in c.args.common.categories c.args.common.default c.args.libs.now c.args.columns)
    (limits_over (Some c.args.number) c.args.libs.now _ c.args.columns _ _ c.columns.view_is c.in_ok-derived.ensures.lists c.in_err-check_limits.ensures)
    c.from_residual-in_err-check_limits.ensures.1

pub returns : goal.returns
returns c = checked_made (λ (t : ThreadTables). t) _ c.args.number c.args.common.categories c.args.common.default c.args.libs.now _ c.args.columns _ _ _ c.columns.view_is
    c.requires.checked c.in_ok-derived.ensures.lists c.in_ok-check_limits.ensures c.in_ok-derived.ensures.numbers (ap (λ (f : FrameCells). f.category) c.frames.view_is)
    c.build_derived.ensures
