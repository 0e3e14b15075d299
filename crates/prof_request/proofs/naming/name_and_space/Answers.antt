use Rattle.prof_request.specs.Reading.{names}
use Rattle.prof_request.proofs.NameLemmas.{splits_names}
use Rattle.prof_request.proofs.SpacedLemmas.{name_ends, err_value, err_space, space_taken}
use Rattle.prof_request.proofs.naming.name_and_space.Goals as goal

pub returns-in-Err : goal.returns-in-Err
returns-in-Err c = err_value names c.args.cursor.now c.name.new.cursor c.in-Err.stop name_ends c.in-Err.ensures

pub returns-in-Ok-literal : goal.returns-in-Ok-literal
returns-in-Ok-literal c = space_taken names c.args.cursor.now c.name.new.cursor c.literal.new.self c.in-Ok.name name_ends c.in-Ok.ensures c.in-Ok-literal.ensures

pub returns-in-Err-literal : goal.returns-in-Err-literal
returns-in-Err-literal c = err_space names c.args.cursor.now c.name.new.cursor c.literal.new.self c.in-Ok.name c.in-Err-literal.stop name_ends splits_names c.in-Ok.ensures c.in-Err-literal.ensures
