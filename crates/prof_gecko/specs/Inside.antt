-- A process has more entries than each one below it.
use Rattle.std.specs.Prelude.{◌+◌, ◌≤◌, List, [], ◌∷◌, ◌++◌, Option, length}
use Rattle.std.proofs.Common.{arith, length-append}
use denote.Param.Weighed.{most}
use Rattle.prof_raw.specs.declared.rule.ListFault.{ListFault}
use Rattle.prof_gecko.specs.Gathered.{Entry, joined, fault_entries}

-- no process has more than all of them together
pub most_le-joined : (children : List (List Entry)) → most (λ es. length es + 1) children ≤ length (joined children) + 1
most_le-joined [] = omega arith
most_le-joined (es ∷ children) = omega (arith, most_le-joined children, length-append es (joined children))

pub most_below : (children : List (List Entry)) (f : Option ListFault) →
    most (λ es. length es + 1) children ≤ length (joined children ++ fault_entries f) + 1
most_below children f = omega (arith, most_le-joined children, length-append (joined children) (fault_entries f))
