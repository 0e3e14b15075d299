use Rattle.std.proofs.Common.{◌≡◌, sym, ◌∙◌, arith}
use Rattle.prof_memory.specs.Memory.{parts_of, part_before}
use Rattle.prof_memory.proofs.Shelves.{part_there}
use Rattle.prof_memory.proofs.steady.SteadyHallSource.read.Goals as goal

pub returns-clause-bytes : goal.returns-clause-bytes
returns-clause-bytes c =
    let parts = c.args.self.now.coming.items in
    let n = c.args.self.now.given in
    let same : part_before (parts_of parts) n ≡ c.deref.result.now =
    part_there parts n c.index.result.now (omega arith) (omega arith) c.index.ensures ∙ sym c.deref.ensures.value in
    rw same (c.give-count.ensures.given, λ none room. c.give-count.ensures.end none)

pub returns-clause-amount : goal.returns-clause-amount
returns-clause-amount c =
    let parts = c.args.self.now.coming.items in
    let n = c.args.self.now.given in
    let same : part_before (parts_of parts) n ≡ c.deref.result.now =
    part_there parts n c.index.result.now (omega arith) (omega arith) c.index.ensures ∙ sym c.deref.ensures.value in
    rw same c.give-count.ensures.amount
