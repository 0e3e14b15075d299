use Rattle.std.proofs.Common.{refl}
use Rattle.prof_request.proofs.RestLemmas.{rest_reads}
use Rattle.prof_request.proofs.line_text.rest.Goals as goal

pub returns-then-takes : goal.returns-then-takes
returns-then-takes c = rest_reads c.args.cursor.now c.takes.new.self c.some_text.new.cursor c.some_text.result (c.if-takes.ensures.yes refl) c.some_text.ensures
