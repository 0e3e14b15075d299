use Rattle.prof_json.proofs.Items.{whole_zero, whole_run}
use Rattle.prof_json.proofs.plain.whole_len.Goals as goal

pub returns-then-bytes-eq48-clause-whole : goal.returns-then-bytes-eq48-clause-whole
returns-then-bytes-eq48-clause-whole c = λ _. whole_zero c.args.bytes.now c.if-bytes-eq48.true

pub returns-clause-whole : goal.returns-clause-whole
returns-clause-whole c = whole_run c.args.bytes.now c.digit_len.result c.if-bytes-eq48.false c.digit_len.ensures.within c.digit_len.ensures.run
