-- What is told of a status.
use Rattle.std.specs.Prelude.{ℕ, List, [], ◌++◌, codes}
use Rattle.prof_reply.specs.Lines.{line}
use Rattle.prof_desk.specs.declared.status.Status.{Status}
use Rattle.prof_desk.specs.declared.status.Status.TheVariants.{Done, Broken, Usage, FileFault, OutFault, HallFault, NoMemory, KeeperFault}
use Rattle.prof_words.specs.declared.order.WordRefusal.{WordRefusal}
use Rattle.prof_words.specs.declared.order.WordRefusal.TheVariants as refusal

-- what is told of a status, where the file of that name is at fault, or the text breaks as it is said
abbrev pub told : Status → List ℕ → List ℕ → List ℕ
told Done name broken = []
told Broken name broken = line broken
told Usage name broken = line (codes "usage: profdesk tree, markers, script, serve, check, convert, gen, demo, flame, chart, alloc, merge")
told FileFault name broken = codes "file fault " ++ line name
told OutFault name broken = line (codes "out fault")
told HallFault name broken = line (codes "hall fault")
told NoMemory name broken = line (codes "no memory")
told KeeperFault name broken = line (codes "keeper fault")

-- the status of a run whose words are refused
abbrev pub refusal_status : WordRefusal → Status
refusal_status refusal.Usage = Usage
refusal_status refusal.NoMemory = NoMemory
