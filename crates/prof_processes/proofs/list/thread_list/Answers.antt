use Rattle.std.proofs.Common.{refl}
use Rattle.prof_processes.proofs.ThreadLists.{threads_read}
use Rattle.prof_processes.proofs.list.thread_list.Goals as goal

pub returns-clause-list : goal.returns-clause-list
returns-clause-list g c =
    let read = c.in_ok-kind.ensures.value in
    (read.0, read.1, threads_read read.0 c.absent-list.result c.array.new.list _ c.in_ok-kind.kind c.absent-list.ensures read.2 c.state_of-list.ensures refl refl)
