-- The lines of the text are those of what was passed, as the front of the first, and of what is left.
use Rattle.std.proofs.Common.{◌≡◌, ◌≤◌, ◌-◌, length, take, drop}
use Rattle.prof_script.specs.Lines.{lines, lines_from}
use Rattle.prof_script.proofs.lines.line_len.Given as goal

abbrev pub invariant-loop-len : goal.invariant-loop-len
invariant-loop-len l = record {
  within : l.len ≤ length l.text;
  same : lines l.text ≡ lines_from (take l.len l.text) (drop l.len l.text);
}

abbrev pub decreases-loop-len : goal.decreases-loop-len
decreases-loop-len l = length l.text - l.len
