use Rattle.std.proofs.Common.{◌≡◌, ◌≤◌, ◌<◌, ◌-◌, length, take}
use Rattle.std.specs.Prelude.{None, ◌⊎◌}
use Rattle.prof_io.specs.Outside.{seen}
use Rattle.prof_token.specs.Moves.{Moves}
use Rattle.prof_json.specs.Nest.{Occurs}
use Rattle.prof_json.specs.declared.nesting.Phase.TheVariants.{AfterName}
use Rattle.prof_json.proofs.Passing.{Passed}
use Rattle.prof_json.proofs.reading.skip_events.Given as goal

abbrev pub invariant-events : goal.invariant-events
invariant-events g l = record {
  moves : Moves None l.fn.input (seen g.S.Counted l.fn.src) l.input (seen g.S.Counted l.src);
  told : Passed l.fn.input (g.S.Counted.left l.fn.src) l.fn.begun l.fn.brackets.items l.opened l.input (g.S.Counted.left l.src) l.phase l.brackets.items;
  occurs : Occurs l.phase l.brackets.items;
  few : length l.brackets.items ≤ 256;
  same : take l.opened l.brackets.items ≡ take l.opened l.fn.brackets.items;
  within : l.opened ≤ length l.brackets.items;
  inside : (l.opened < length l.brackets.items) ⊎ (l.phase ≡ AfterName);
}

abbrev pub decreases-events : goal.decreases-events
decreases-events g l = l.input.limit - l.input.place
