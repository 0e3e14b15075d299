use Rattle.std.proofs.Common.{Some, ap, List, ℕ}
use Rattle.prof_memory.proofs.Shelves.{bytes_at-place_of}
use Rattle.prof_memory.proofs.steady.SteadyFilesFiles.begin.Goals as goal

pub returns-clause-bytes : goal.returns-clause-bytes
returns-clause-bytes c =
    rw (c.find-self.ensures, c.deref.ensures.value) (ap (λ (l : List ℕ). Some l) (bytes_at-place_of c.args.self.now.files.items c.args.name.now))
