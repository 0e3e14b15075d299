-- The names of the members of samples.
use Rattle.std.specs.Prelude.{ℕ, List, codes}
use Rattle.prof_members.specs.declared.samples.SampleMember.{SampleMember}
use Rattle.prof_members.specs.declared.samples.SampleMember.TheVariants.{Stack, Time, TimeDeltas, WeightType, Weight, Length}

abbrev pub sample_name : SampleMember → List ℕ
sample_name Stack = codes "stack"
sample_name Time = codes "time"
sample_name TimeDeltas = codes "timeDeltas"
sample_name WeightType = codes "weightType"
sample_name Weight = codes "weight"
sample_name Length = codes "length"
