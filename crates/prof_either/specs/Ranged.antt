-- That processes have ranges is a fact.
use Rattle.std.proofs.Props.{props}
use Rattle.prof_gecko.specs.Gathered.{Entry, process, fault}
use Rattle.prof_gecko.specs.Processes.{HasRanges}

pub ranges_fact : (e : Entry) → IsProp (HasRanges e)
ranges_fact (process p) = Prim.hlevel props
ranges_fact (fault f) = Prim.hlevel props
