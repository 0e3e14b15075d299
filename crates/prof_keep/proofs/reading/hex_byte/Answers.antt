use Rattle.prof_keep.proofs.DigestLemmas.{stuck_high, stuck_low, byte_taken}
use Rattle.prof_keep.proofs.reading.hex_byte.Goals as goal

pub returns-in-None : goal.returns-in-None
returns-in-None c = stuck_high c.args.cursor.now c.in-None.ensures.none

pub returns-in-None-nibble : goal.returns-in-None-nibble
returns-in-None-nibble c =
    let high = c.in-Some.ensures.some in
    stuck_low c.args.cursor.now c.pass.new.self c.in-Some.high high.0 (c.pass.ensures _ high.1) c.in-None-nibble.ensures.none

pub returns : goal.returns
returns c =
    let high = c.in-Some.ensures.some in
    let low = c.in-Some-nibble.ensures.some in
    byte_taken c.args.cursor.now c.pass.new.self c.pass-2.new.self c.in-Some.high c.in-Some-nibble.low high.0 low.0 (c.pass.ensures _ high.1) (c.pass-2.ensures _ low.1)
