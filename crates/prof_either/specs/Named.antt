-- The names of the members of a thread, of `meta` and of the whole text.
use Rattle.std.specs.Prelude.{ℕ, List, codes}
use Rattle.prof_either.specs.declared.meta.MetaMember.{MetaMember}
use Rattle.prof_either.specs.declared.meta.MetaMember.TheVariants as meta
use Rattle.prof_either.specs.declared.parts.PartMember.{PartMember}
use Rattle.prof_either.specs.declared.parts.PartMember.TheVariants as part
use Rattle.prof_either.specs.declared.thread.EitherMember.{EitherMember}
use Rattle.prof_either.specs.declared.thread.EitherMember.TheVariants as thread

abbrev pub either_name : EitherMember → List ℕ
either_name thread.Name = codes "name"
either_name thread.Strings = codes "stringTable"
either_name thread.Frames = codes "frameTable"
either_name thread.Stacks = codes "stackTable"
either_name thread.Samples = codes "samples"
either_name thread.Markers = codes "markers"

abbrev pub meta_name : MetaMember → List ℕ
meta_name meta.ProcessedVersion = codes "preprocessedProfileVersion"
meta_name meta.Version = codes "version"
meta_name meta.Categories = codes "categories"
meta_name meta.StartTime = codes "startTime"

abbrev pub part_name : PartMember → List ℕ
part_name part.Meta = codes "meta"
part_name part.Shared = codes "shared"
part_name part.Libs = codes "libs"
part_name part.Threads = codes "threads"
part_name part.Processes = codes "processes"
