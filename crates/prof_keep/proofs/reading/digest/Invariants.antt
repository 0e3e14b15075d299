use Rattle.std.proofs.Common.{◌≡◌, length, take}
use Rattle.prof_spell.proofs.Chained.{Came}
use Rattle.prof_keep.specs.Reading.{digest_chain}
use Rattle.prof_keep.proofs.reading.digest.Given as goal

abbrev pub invariant-bytes : goal.invariant-bytes
invariant-bytes l = Came digest_chain 0 l.fn.cursor (take l.i l.digest) l.i l.cursor × (length l.digest ≡ 32)
