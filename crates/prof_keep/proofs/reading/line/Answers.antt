use Rattle.prof_keep.proofs.LineLemmas.{line_err_word, line_err_view, line_err_end, line_taken}
use Rattle.prof_keep.proofs.reading.line.Goals as goal

pub returns-in-Err : goal.returns-in-Err
returns-in-Err c = line_err_word c.args.form c.args.cursor.now c.literal.new.self c.in-Err.stop c.in-Err.ensures

pub returns-in-Err-next_view : goal.returns-in-Err-next_view
returns-in-Err-next_view c = line_err_view c.args.form c.args.cursor.now c.literal.new.self c.next_view.new.cursor c.in-Err-next_view.stop c.in-Ok.ensures c.in-Err-next_view.ensures

pub returns-in-Ok-literal : goal.returns-in-Ok-literal
returns-in-Ok-literal c = line_taken c.args.form c.args.cursor.now c.literal.new.self c.next_view.new.cursor c.literal-2.new.self c.in-Ok-next_view.view c.in-Ok.ensures c.in-Ok-next_view.ensures c.in-Ok-literal.ensures

pub returns-in-Err-literal : goal.returns-in-Err-literal
returns-in-Err-literal c = line_err_end c.args.form c.args.cursor.now c.literal.new.self c.next_view.new.cursor c.literal-2.new.self c.in-Ok-next_view.view c.in-Err-literal.stop c.in-Ok.ensures c.in-Ok-next_view.ensures c.in-Err-literal.ensures
