-- The names of members.
use Rattle.std.specs.Prelude.{ℕ, List, codes}
use Rattle.prof_members.specs.declared.shared.SharedMember.{SharedMember}
use Rattle.prof_members.specs.declared.shared.SharedMember.TheVariants.{Strings, Resources, Funcs, Frames, Stacks}

abbrev pub member_name : SharedMember → List ℕ
member_name Strings = codes "stringArray"
member_name Resources = codes "resourceTable"
member_name Funcs = codes "funcTable"
member_name Frames = codes "frameTable"
member_name Stacks = codes "stackTable"
