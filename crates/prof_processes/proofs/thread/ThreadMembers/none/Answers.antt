use Rattle.std.proofs.Common.{None, refl}
use Rattle.prof_raw.specs.declared.limits.TheConstants.{MOST_ROWS, MOST_SAMPLES}
use Rattle.prof_processes.proofs.thread.ThreadMembers.none.Goals as goal

pub returns : goal.returns
returns c = record {
  name = refl;
  strings = c.absent.ensures;
  frame = c.in_ok-frame_table.ensures MOST_ROWS None c.absent-rows.ensures;
  stack = c.in_ok-stack_table.ensures MOST_ROWS None c.absent-rows.ensures;
  samples = c.in_ok-sample_table.ensures MOST_SAMPLES None c.absent-samples.ensures;
  markers = c.in_ok-marker_parts.ensures None c.absent-rows.ensures;
}
