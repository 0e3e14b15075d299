use Rattle.std.proofs.Common.{rules, w64}
use Rattle.std.proofs.lemmas.Int.{to_z-of_z}
use Rattle.prof_spell.specs.Pieces.{signed}
use Rattle.prof_spell.proofs.SignedLemmas.{splits_signed}
use Rattle.prof_request.proofs.SpacedLemmas.{start_ends, err_value, err_space, space_taken}
use Rattle.prof_request.proofs.arguments.start_and_space.Goals as goal

pub returns-in-Err : goal.returns-in-Err
returns-in-Err c = err_value signed c.args.cursor.now c.signed.new.self c.in-Err.stop start_ends c.in-Err.ensures

pub returns-in-Ok-literal : goal.returns-in-Ok-literal
returns-in-Ok-literal c =
    rw (to_z-of_z w64 c.in-Ok.start (search rules))
    (space_taken signed c.args.cursor.now c.signed.new.self c.literal.new.self c.in-Ok.start start_ends c.in-Ok.ensures c.in-Ok-literal.ensures)

pub returns-in-Err-literal : goal.returns-in-Err-literal
returns-in-Err-literal c = err_space signed c.args.cursor.now c.signed.new.self c.literal.new.self c.in-Ok.start c.in-Err-literal.stop start_ends splits_signed c.in-Ok.ensures c.in-Err-literal.ensures
