-- What is left to check, the last of it first.
use Rattle.std.specs.Prelude.{List, [], ◌∷◌, ◌++◌, Option, None, Some}
use Rattle.prof_raw.specs.declared.rule.Broken.{Broken}
use Rattle.prof_raw.specs.declared.rule.Column.TheVariants as column
use Rattle.prof_raw.specs.declared.rule.Table.TheVariants as table
use Rattle.prof_raw.specs.Checks.{named}
use Rattle.prof_gecko.specs.declared.work.Work.{Work}
use Rattle.prof_gecko.specs.declared.work.Work.TheVariants as work
use Rattle.prof_gecko.specs.Gathered.{Entry, fault}

abbrev pub work_entries : Work → List Entry
work_entries (work.Process p) = p
work_entries (work.Fault f) = fault f ∷ []

abbrev pub entries_left : List Work → List Entry
entries_left [] = []
entries_left (w ∷ ws) = entries_left ws ++ work_entries w

-- the fault of a list of processes, at its place
abbrev pub work_broken : Work → Option Broken
work_broken (work.Process p) = None
work_broken (work.Fault f) = named None table.Processes column.List (Some f)
