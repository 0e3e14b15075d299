use Rattle.std.proofs.Common.{◌≡◌, true, sym, arith}
use Rattle.prof_words.specs.Numbers.{is_decimal}
use Rattle.prof_words.proofs.Decimals.{number_within-unread}
use Rattle.prof_words.proofs.numbers.number_within.Goals as goal

pub returns-in_default-3 : goal.returns-in_default-3
returns-in_default-3 c =
    let decimal : is_decimal c.args.word.now ≡ true = grind arith in
    sym (number_within-unread c.args.word.now c.args.least c.args.most c.in_default.field-0 (omega arith) decimal c.in_default.ensures.value.0)
