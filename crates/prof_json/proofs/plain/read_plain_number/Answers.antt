use Rattle.std.proofs.Common.{◌<◌, ◌∙◌, sym, arith}
use Rattle.prof_json.specs.Parts.{behind}
use Rattle.prof_json.proofs.Items.{number_read, plain_utf8}
use Rattle.prof_json.proofs.plain.read_plain_number.Goals as goal

pub push-requires : goal.push-requires
push-requires c =
    let none = c.if-len-eq0.false in
    let some : 0 < c.number_len-len.result = omega arith in
    plain_utf8 (c.number_len-len.ensures.plain some)

pub returns-clause-number : goal.returns-clause-number
returns-clause-number c = λ _.
    let none = c.if-len-eq0.false in
    let some : 0 < c.number_len-len.result = omega arith in
    let few = c.if-ahead-before.false in
    let other = c.if-len-rest.false in
    let within = c.number_len-len.ensures.within in
    number_read c.args.input.now c.pass.new.self c.args.text.now c.push.new.self c.args.before c.number_len-len.result (behind c.args.brackets.now) c.ahead-ahead.result.now c.ahead-ahead.ensures (omega arith) (omega arith)
    (c.number_len-len.ensures.plain some) c.in_ok-push.ensures.ok c.pass.ensures (sym c.may_follow.ensures ∙ c.if-not-may_follow.false)
