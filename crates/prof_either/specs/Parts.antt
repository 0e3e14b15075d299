-- What is gathered of the members of a text that may have either form.
use Rattle.std.specs.Prelude.{◌≡◌, codes, is_some}
use Rattle.prof_gather.specs.Taking.{IsFoundIn}
use Rattle.prof_gecko_layout.specs.GeckoProfile.{below}
use Rattle.prof_grammar.specs.Value.{Members, last_named}
use Rattle.prof_members.specs.Gathered.{AreShared, IsCategoryList}
use Rattle.prof_processes.specs.Libs.{IsLibList, IsStart}
use Rattle.prof_processes.specs.Processes.{KeepEntries, child_entries}
use Rattle.prof_either.specs.Threads.{AreThreadLists}
use Rattle.prof_either.specs.declared.meta.EitherMeta.{EitherMeta}
use Rattle.prof_either.specs.declared.gathered.EitherParts.{EitherParts}

-- the members of `meta`
pub record AreMeta (ms : Members) (m : EitherMeta) : Type 0 where
  pub processed : m.processed ≡ is_some (last_named (codes "preprocessedProfileVersion") ms)
  pub version : m.version ≡ is_some (last_named (codes "version") ms)
  pub categories : IsCategoryList (last_named (codes "categories") ms) m.categories
  pub start : IsStart (last_named (codes "startTime") ms) m.start

-- the members of the text's object
pub record AreParts (ms : Members) (p : EitherParts) : Type 0 where
  pub meta : IsFoundIn AreMeta (last_named (codes "meta") ms) p.meta
  pub shared : IsFoundIn AreShared (last_named (codes "shared") ms) p.shared
  pub libs : IsLibList (last_named (codes "libs") ms) p.libs
  pub threads : AreThreadLists (last_named (codes "threads") ms) p.threads
  pub children : KeepEntries (below ms) (child_entries p.children)
