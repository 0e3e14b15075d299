use Rattle.prof_raw.specs.declared.limits.TheConstants.{MOST_ROWS}
use Rattle.prof_processes.specs.Tables.{members_in}
use Rattle.prof_processes.proofs.tables.marker_parts.Goals as goal

pub returns : goal.returns
returns c member h = record {
  table = c.in_ok-table.ensures MOST_ROWS member h;
  there = c.has_phase.ensures MOST_ROWS member h;
  texts = c.in_ok-texts.ensures.texts MOST_ROWS (members_in member) h.placed;
  ranges = c.in_ok-texts.ensures.ranges MOST_ROWS (members_in member) h.placed;
}
