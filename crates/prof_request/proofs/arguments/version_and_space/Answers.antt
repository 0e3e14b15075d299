use Rattle.prof_address.specs.Transforms.{u32s}
use Rattle.prof_address.proofs.Filters.{splits_u32s}
use Rattle.prof_request.proofs.SpacedLemmas.{version_ends, err_value, err_space, space_taken}
use Rattle.prof_request.proofs.arguments.version_and_space.Goals as goal

pub returns-in-Err : goal.returns-in-Err
returns-in-Err c = err_value u32s c.args.cursor.now c.number.new.cursor c.in-Err.stop version_ends c.in-Err.ensures

pub returns-in-Ok-literal : goal.returns-in-Ok-literal
returns-in-Ok-literal c = space_taken u32s c.args.cursor.now c.number.new.cursor c.literal.new.self c.in-Ok.version version_ends c.in-Ok.ensures c.in-Ok-literal.ensures

pub returns-in-Err-literal : goal.returns-in-Err-literal
returns-in-Err-literal c = err_space u32s c.args.cursor.now c.number.new.cursor c.literal.new.self c.in-Ok.version c.in-Err-literal.stop version_ends splits_u32s c.in-Ok.ensures c.in-Err-literal.ensures
