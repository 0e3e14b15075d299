use Rattle.std.proofs.Common.{◌≡◌, ◌++◌, take}
use Rattle.prof_keep.specs.Saved.{lines_text}
use Rattle.prof_keep.proofs.writing.push_lines.Given as goal

abbrev pub invariant-lines : goal.invariant-lines
invariant-lines l = l.text ≡ l.fn.text ++ lines_text (take l.view-index l.views)
