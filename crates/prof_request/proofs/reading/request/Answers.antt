use Rattle.prof_request.proofs.LineLemmas.{err_session, err_command, line_taken}
use Rattle.prof_request.proofs.reading.request.Goals as goal

pub returns-in-Err : goal.returns-in-Err
returns-in-Err c = err_session c.args.cursor.now c.name_and_space.new.cursor c.in-Err.stop c.in-Err.ensures

pub returns-in-Ok-command : goal.returns-in-Ok-command
returns-in-Ok-command c = line_taken c.args.cursor.now c.name_and_space.new.cursor c.command.new.cursor c.in-Ok.session c.in-Ok-command.command c.in-Ok.ensures c.in-Ok-command.ensures

pub returns-in-Err-command : goal.returns-in-Err-command
returns-in-Err-command c = err_command c.args.cursor.now c.name_and_space.new.cursor c.command.new.cursor c.in-Ok.session c.in-Err-command.stop c.in-Ok.ensures c.in-Err-command.ensures
