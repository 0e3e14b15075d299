use Rattle.std.proofs.Common.{◌≡◌, ℕ, List}
use Rattle.prof_members.specs.SampleNames.{sample_name}
use Rattle.prof_members.specs.declared.samples.SampleMember.{SampleMember}
use Rattle.prof_members.specs.declared.samples.SampleMember.TheVariants.{Stack, Time, TimeDeltas, WeightType, Weight, Length}
use Rattle.prof_members.proofs.OtherNames.{other-text}
use Rattle.prof_members.proofs.samples.sample_member.Goals as goal

no_name : (n : List ℕ) → (n ≡ sample_name Stack → ⊥) → (n ≡ sample_name Time → ⊥) → (n ≡ sample_name TimeDeltas → ⊥) → (n ≡ sample_name WeightType → ⊥) → (n ≡ sample_name Weight → ⊥) → (n ≡ sample_name Length → ⊥) → (m : SampleMember) → n ≡ sample_name m → ⊥
no_name n a b c d e f Stack = a
no_name n a b c d e f Time = b
no_name n a b c d e f TimeDeltas = c
no_name n a b c d e f WeightType = d
no_name n a b c d e f Weight = e
no_name n a b c d e f Length = f

pub returns-in_default-clause-other : goal.returns-in_default-clause-other
returns-in_default-clause-other c = λ m. other-text c.args.name.now (sample_name m) (no_name c.args.name.now c.in_default.not-stack c.in_default.not-time c.in_default.not-timeDeltas c.in_default.not-weightType c.in_default.not-weight c.in_default.not-length m)
