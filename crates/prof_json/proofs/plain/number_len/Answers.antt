use Rattle.std.proofs.Common.{◌<◌, arith}
use Rattle.prof_json.proofs.Items.{plain_front}
use Rattle.prof_json.proofs.plain.number_len.Goals as goal

pub returns-clause-plain : goal.returns-clause-plain
returns-clause-plain c = λ _.
    let none = c.if-whole-eq0.false in
    let some : 0 < c.whole_len-whole.result = omega arith in
    plain_front c.args.bytes.now c.whole_len-whole.result c.fraction_len.result (c.whole_len-whole.ensures.whole some) c.fraction_len.ensures.fraction
