-- Why a profile wasn't read, by why its text wasn't gathered or its tables weren't built.
use Rattle.prof_gather.specs.declared.refusal.GatherRefusal.{GatherRefusal}
use Rattle.prof_gather.specs.declared.refusal.GatherRefusal.TheVariants as gather
use Rattle.prof_tables.specs.declared.refusal.BuildRefusal.{BuildRefusal}
use Rattle.prof_tables.specs.declared.refusal.BuildRefusal.TheVariants as built
use Rattle.prof_read.specs.declared.refusal.ReadRefusal.{ReadRefusal}
use Rattle.prof_read.specs.declared.refusal.ReadRefusal.TheVariants as refusal

abbrev pub ungathered : GatherRefusal → ReadRefusal
ungathered (gather.Json fault) = refusal.Json fault
ungathered gather.ReadFault = refusal.ReadFault
ungathered gather.NoMemory = refusal.NoMemory

abbrev pub unbuilt : BuildRefusal → ReadRefusal
unbuilt (built.Broken broken) = refusal.Broken broken
unbuilt built.NoMemory = refusal.NoMemory
