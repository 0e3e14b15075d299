use Rattle.std.proofs.Common.{◌≡◌, ◌+◌, ◌<◌, ◌≤◌, true, length, take, get_or}
use Rattle.std.specs.List.{suffix_len}
use Rattle.prof_path.specs.Terms.{is_blank}
use Rattle.prof_path.proofs.searching.length_before_blanks.Given as goal

abbrev pub invariant-loop-end : goal.invariant-loop-end
invariant-loop-end l = record {
  within : l.end ≤ length l.text;
  rest : l.end + suffix_len is_blank l.text ≡ length l.text + suffix_len is_blank (take l.end l.text);
  blank : l.end < length l.text → is_blank (get_or l.text l.end 0) ≡ true;
}

abbrev pub decreases-loop-end : goal.decreases-loop-end
decreases-loop-end l = l.end
