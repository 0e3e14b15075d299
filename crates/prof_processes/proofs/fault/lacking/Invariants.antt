use Rattle.std.proofs.Common.{◌≡◌, Option, drop}
use Rattle.prof_grammar.specs.Value.{Value}
use Rattle.prof_gather.specs.Taking.{IsFoundIn}
use Rattle.prof_schema.specs.Gathered.{IsSchema}
use Rattle.prof_gecko_layout.specs.GeckoTables as layout
use Rattle.prof_processes.specs.Tables.{named_columns}
use Rattle.prof_processes.proofs.fault.lacking.Given as goal

abbrev pub invariant-loop-column : goal.invariant-loop-column
invariant-loop-column l = (member : Option Value) → IsFoundIn IsSchema member l.schema → layout.lacking member (named_columns l.needed) ≡ layout.lacking member (named_columns (drop l.column-index l.needed))
