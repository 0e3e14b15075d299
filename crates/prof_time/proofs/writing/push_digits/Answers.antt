use Rattle.std.proofs.Common.{◌≡◌, ◌+◌, ◌-◌, ◌/◌, ◌^◌, [], ◌∷◌, ◌++◌, ap, ◌∙◌, arith}
use Rattle.prof_time.proofs.Spellings.{pushing_more, digit_below}
use Rattle.prof_time.proofs.writing.push_digits.Goals as goal

pub loop-rest-preserved : goal.loop-rest-preserved
loop-rest-preserved c =
    let bytes = c.loop-rest.out.bytes in
    let places = c.loop-rest.places in
    let rest = c.loop-rest.rest in
    let weight = c.pow-weight.ensures in
    let below = digit_below places rest c.loop-rest.invariant.below c.loop-rest-test.true in
    let digit : c.from.result ≡ 48 + rest / 10 ^ (places - 1) = c.from.ensures ∙ ap (λ w. 48 + rest / w) weight in
    let new : c.push.new.self.bytes ≡ bytes ++ (48 + rest / 10 ^ (places - 1)) ∷ [] =
    c.push.ensures.ascii (omega arith) ∙ ap (λ d. bytes ++ d ∷ []) digit in
    rw weight (pushing_more bytes c.push.new.self.bytes places rest c.args.out.now.bytes c.args.places c.args.rest c.loop-rest.invariant c.loop-rest-test.true new)
