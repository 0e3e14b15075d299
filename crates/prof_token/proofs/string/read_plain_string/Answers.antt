use Rattle.std.proofs.Common.{arith}
use Rattle.prof_token.proofs.Strings.{string_read}
use Rattle.prof_token.proofs.Utf8.{plain_utf8}
use Rattle.prof_token.proofs.string.read_plain_string.Goals as goal

pub push-requires : goal.push-requires
push-requires c = plain_utf8 c.plain_len-run.ensures.run

pub returns-clause-string : goal.returns-clause-string
returns-clause-string c = λ _.
    let few = c.if-ahead-before.false in
    let other = c.if-run-rest.false in
    let within = c.plain_len-run.ensures.within in
    string_read c.args.input.now c.pass.new.self c.args.text.now c.push.new.self c.args.before c.plain_len-run.result c.ahead-ahead.result.now c.ahead-ahead.ensures (omega arith) (omega arith)
    c.if-rest-run-ne34.false c.plain_len-run.ensures.run c.in_ok-push.ensures.ok c.pass.ensures
