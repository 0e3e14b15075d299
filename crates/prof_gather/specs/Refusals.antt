-- Why a text wasn't gathered, by why its reader stopped.
use Rattle.prof_token.specs.declared.fault.JsonFault.{JsonFault}
use Rattle.prof_token.specs.declared.fault.JsonFault.TheVariants as fault
use Rattle.prof_gather.specs.declared.refusal.GatherRefusal.{GatherRefusal}
use Rattle.prof_gather.specs.declared.refusal.GatherRefusal.TheVariants as refusal

abbrev pub refusal_of : JsonFault → GatherRefusal
refusal_of fault.ReadFault = refusal.ReadFault
refusal_of fault.NoMemory = refusal.NoMemory
refusal_of (fault.NotJson at) = refusal.Json (fault.NotJson at)
refusal_of (fault.TooDeep at) = refusal.Json (fault.TooDeep at)
refusal_of fault.TooLong = refusal.Json fault.TooLong
