use Rattle.std.proofs.Common.{◌≡◌, arith, map, refl}
use Rattle.prof_memory.specs.Halls.{served_in}
use Rattle.prof_memory.proofs.Answered.{kept_answers}
use Rattle.prof_memory.proofs.memory_hall.MemHallSink.write.Goals as goal

pub returns-clause-place : goal.returns-clause-place
returns-clause-place c =
    let same : map (served_in c.take-count.new.self.bytes.items) c.args.self.now.ended.items ≡ map (served_in c.args.self.now.buffer.bytes.items) c.args.self.now.ended.items =
    kept_answers _ _ _ _ _ c.take-count.ensures.bytes (omega arith) c.args.self.now.within in
    rw same refl
