use Rattle.prof_spell.specs.Pieces.{signed}
use Rattle.prof_spell.proofs.Parts.{err_first}
use Rattle.prof_address.specs.Parts.{ranges}
use Rattle.prof_address.proofs.RangeLemmas.{start_of, end_text, range_leads, mark_err, end_err}
use Rattle.prof_address.proofs.view.range.Goals as goal

pub returns-in-Err : goal.returns-in-Err
returns-in-Err c = err_first ranges signed start_of end_text c.args.cursor.now c.signed.new.self c.in-Err.stop range_leads c.in-Err.ensures

pub returns-in-Err-literal : goal.returns-in-Err-literal
returns-in-Err-literal c = mark_err c.args.cursor.now c.signed.new.self c.literal.new.self c.in-Ok.start c.in-Err-literal.stop c.in-Ok.ensures c.in-Err-literal.ensures

pub returns-in-Err-signed : goal.returns-in-Err-signed
returns-in-Err-signed c = end_err c.args.cursor.now c.signed.new.self c.literal.new.self c.signed-2.new.self c.in-Ok.start c.in-Err-signed.stop c.in-Ok.ensures c.in-Ok-literal.ensures c.in-Err-signed.ensures
