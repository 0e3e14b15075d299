use Rattle.std.proofs.Common.{rules, ◌≡◌, true, false}
use Rattle.prof_wire.proofs.Unused.{reads_on, filled_more}
use Rattle.prof_wire.proofs.reading.read_on.Goals as goal

pub returns-then-may_end_head-clause-reads : goal.returns-then-may_end_head-clause-reads
returns-then-may_end_head-clause-reads g c = record {
  within = search rules;
  further = search rules;
  same = reads_on _ _ _ _ _ _ _ c.fill.invariant.same c.in_ok-count.ensures.bytes.0 (filled_more _ _ _ _ _ (search rules) (search rules));
  over = λ (ended : false ≡ true). cc ended;
}

pub fill-preserved : goal.fill-preserved
fill-preserved g c = record {
  size = search rules;
  within = search rules;
  further = search rules;
  same = reads_on _ _ _ _ _ _ _ c.fill.invariant.same c.in_ok-count.ensures.bytes.0 (filled_more _ _ _ _ _ (search rules) (search rules));
  written = search rules;
  place = search rules;
  space = search rules;
  kept = search rules;
  sure = search rules;
}
