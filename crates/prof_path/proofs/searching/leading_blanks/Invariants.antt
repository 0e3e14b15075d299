use Rattle.std.proofs.Common.{◌≡◌, ◌+◌, ◌-◌, ◌<◌, ◌≤◌, true, length, drop, get_or}
use Rattle.std.specs.List.{prefix_len}
use Rattle.prof_path.specs.Terms.{is_blank}
use Rattle.prof_path.proofs.searching.leading_blanks.Given as goal

abbrev pub invariant-loop-count : goal.invariant-loop-count
invariant-loop-count l = record {
  within : l.count ≤ length l.text;
  rest : l.count + prefix_len is_blank (drop l.count l.text) ≡ prefix_len is_blank l.text;
  blank : 0 < l.count → is_blank (get_or l.text (l.count - 1) 0) ≡ true;
}

abbrev pub decreases-loop-count : goal.decreases-loop-count
decreases-loop-count l = length l.text - l.count
