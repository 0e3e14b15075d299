-- The page has what was on it, and what was made since.
use Rattle.std.proofs.Common.{◌≡◌, ◌-◌, ◌++◌}
use Rattle.arrayvec.specs.ArrayString.{array_string_len}
use Rattle.prof_demo.specs.Rest.{rest}
use Rattle.prof_demo.proofs.source.Rest.fill.Given as goal

abbrev pub invariant-loop-self : goal.invariant-loop-self
invariant-loop-self l = l.page.bytes ++ rest l.self.number l.self.part l.self.row ≡ l.fn.page.bytes ++ rest l.fn.self.number l.fn.self.part l.fn.self.row

abbrev pub decreases-loop-self : goal.decreases-loop-self
decreases-loop-self l = 65536 - array_string_len l.page
