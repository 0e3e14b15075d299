-- What is gathered of threads in both ways.
use Rattle.std.specs.Prelude.{◌≡◌, List, Option}
use Rattle.prof_grammar.specs.Value.{Value, Members}
use Rattle.prof_members.specs.Columns.{IsThreadListOf}
use Rattle.prof_members.specs.Gathered as named
use Rattle.prof_processes.specs.Processes as rows
use Rattle.prof_processes.specs.Threads.{AreThread, kept_cells}
use Rattle.prof_processes.specs.declared.thread.ThreadMembers.{ThreadMembers}
use Rattle.prof_either.specs.declared.gathered.ThreadLists.{ThreadLists}
use Rattle.prof_either.specs.declared.thread.EitherThread.{EitherThread}

-- the members of a thread
pub record AreEither (ms : Members) (t : EitherThread) : Type 0 where
  pub named : named.AreThread ms t.named
  pub rows : AreThread ms t.rows

-- what is gathered of an item of a Gecko profile's threads; of one that is no object it is what is gathered of no member
pub record IsRowThread (v : Value) (t : ThreadMembers) : Type 0 where
  pub members : Members
  pub are : AreThread members t
  pub same : kept_cells (Value.object members) ≡ kept_cells v

-- what is gathered of an item
pub record IsEither (v : Value) (t : EitherThread) : Type 0 where
  pub named : named.IsThread v t.named
  pub rows : IsRowThread v t.rows

-- the threads of these items, of lists that had none at first
pub record AreListsOf (first : ThreadLists) (vs : List Value) (l : ThreadLists) : Type 0 where
  pub named : IsThreadListOf first.named vs l.named
  pub rows : rows.AreThreadsOf first.rows vs l.rows

-- the threads of a member
pub record AreThreadLists (member : Option Value) (l : ThreadLists) : Type 0 where
  pub named : named.IsThreadList member l.named
  pub rows : rows.IsThreadList member l.rows
