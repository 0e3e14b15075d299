use Rattle.std.proofs.Common.{◌∙◌, ap, sym}
use Rattle.prof_words.specs.Numbers.{is_decimal}
use Rattle.prof_words.proofs.Decimals.{is_decimal-long}
use Rattle.prof_words.proofs.numbers.is_decimal.Goals as goal

pub returns-then-digits-ne48 : goal.returns-then-digits-ne48
returns-then-digits-ne48 c =
    c.are_digits.ensures ∙ sym (is_decimal-long c.as_bytes.result.now c.in_default.len_at_least c.if-digits-ne48.true) ∙ ap is_decimal c.as_bytes.ensures.value
