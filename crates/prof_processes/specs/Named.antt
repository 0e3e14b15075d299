-- The names of the members of a thread and of a process.
use Rattle.std.specs.Prelude.{ℕ, List, codes}
use Rattle.prof_processes.specs.declared.process.ProcessMember.{ProcessMember}
use Rattle.prof_processes.specs.declared.process.ProcessMember.TheVariants.{Meta, Libs, Threads, Processes}
use Rattle.prof_processes.specs.declared.thread.ThreadMember.{ThreadMember}
use Rattle.prof_processes.specs.declared.thread.ThreadMember.TheVariants.{Name, Strings, Frames, Stacks, Samples, Markers}

abbrev pub thread_name : ThreadMember → List ℕ
thread_name Name = codes "name"
thread_name Strings = codes "stringTable"
thread_name Frames = codes "frameTable"
thread_name Stacks = codes "stackTable"
thread_name Samples = codes "samples"
thread_name Markers = codes "markers"

abbrev pub process_name : ProcessMember → List ℕ
process_name Meta = codes "meta"
process_name Libs = codes "libs"
process_name Threads = codes "threads"
process_name Processes = codes "processes"
