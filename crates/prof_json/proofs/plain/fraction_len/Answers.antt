use Rattle.prof_json.proofs.Items.{no_fraction_text, fraction_run}
use Rattle.prof_json.proofs.plain.fraction_len.Goals as goal

pub returns-then-is_empty-clause-fraction : goal.returns-then-is_empty-clause-fraction
returns-then-is_empty-clause-fraction c = no_fraction_text

pub returns-then-digits-eq0-clause-fraction : goal.returns-then-digits-eq0-clause-fraction
returns-then-digits-eq0-clause-fraction c = no_fraction_text

pub returns-clause-fraction : goal.returns-clause-fraction
returns-clause-fraction c = fraction_run c.args.bytes.now c.digit_len-digits.result c.if-bytes-ne46.false c.digit_len-digits.ensures.within c.digit_len-digits.ensures.run c.if-digits-eq0.false
