use Rattle.std.proofs.Common.{take, refl, arith}
use Rattle.prof_spell.proofs.Chained.{came_none}
use Rattle.prof_keep.specs.Reading.{digest_chain}
use Rattle.prof_keep.proofs.DigestLemmas.{digest_stops, digest_more, digest_end}
use Rattle.prof_keep.proofs.reading.digest.Goals as goal

pub returns-in-Err : goal.returns-in-Err
returns-in-Err c = digest_stops c.bytes.i c.args.cursor.now c.bytes.cursor c.hex_byte.new.cursor (take c.bytes.i c.bytes.digest) c.in-Err.stop (omega arith) c.bytes.invariant.0 c.in-Err.ensures

pub bytes-init : goal.bytes-init
bytes-init c = (came_none digest_chain 0 c.args.cursor.now, refl)

pub bytes-preserved : goal.bytes-preserved
bytes-preserved c = digest_more c.bytes.i c.args.cursor.now c.bytes.cursor c.hex_byte.new.cursor c.bytes.digest c.in-Ok.byte (omega arith) c.bytes.invariant.1 c.bytes.invariant.0 c.in-Ok.ensures

pub returns : goal.returns
returns c = digest_end c.bytes.i c.args.cursor.now c.bytes.cursor c.bytes.digest (omega arith) c.bytes.invariant.1 c.bytes.invariant.0
