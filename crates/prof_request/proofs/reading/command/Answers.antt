use Rattle.prof_spell.proofs.Parts.{err_first}
use Rattle.prof_request.specs.Words.{word_of, command_words}
use Rattle.prof_request.specs.Reading.{arguments_text, commands}
use Rattle.prof_request.proofs.CommandLemmas.{command_leads, command_reads}
use Rattle.prof_request.proofs.reading.command.Goals as goal

pub returns-in-Err : goal.returns-in-Err
returns-in-Err c = err_first commands command_words word_of arguments_text c.args.cursor.now c.one_of.new.self c.in-Err.stop command_leads c.in-Err.ensures

pub returns : goal.returns
returns c = command_reads c.args.cursor.now c.one_of.new.self c.arguments.new.cursor c.in-Ok.word c.arguments.result c.in-Ok.ensures c.arguments.ensures
