use Rattle.std.proofs.Common.{arith}
use Rattle.prof_address.specs.Transforms.{u32s}
use Rattle.prof_request.specs.Reading.{before_space}
use Rattle.prof_request.proofs.SpacedLemmas.{meets_behind, splits_version}
use Rattle.prof_spell.proofs.SequenceLemmas.{err_front, err_back, taken_pair}
use Rattle.prof_request.proofs.arguments.version_and_number.Goals as goal

pub returns-in-Err : goal.returns-in-Err
returns-in-Err c = err_front (before_space u32s) (λ version. u32s) c.args.cursor.now c.version_and_space.new.cursor c.in-Err.stop (meets_behind u32s u32s 0 (omega arith)) c.in-Err.ensures

pub returns-in-Ok-number : goal.returns-in-Ok-number
returns-in-Ok-number c = taken_pair (before_space u32s) (λ version. u32s) c.args.cursor.now c.version_and_space.new.cursor c.number.new.cursor c.in-Ok.version c.in-Ok-number.n (meets_behind u32s u32s 0 (omega arith)) c.in-Ok.ensures c.in-Ok-number.ensures

pub returns-in-Err-number : goal.returns-in-Err-number
returns-in-Err-number c = err_back (before_space u32s) (λ version. u32s) c.args.cursor.now c.version_and_space.new.cursor c.number.new.cursor c.in-Ok.version c.in-Err-number.stop (meets_behind u32s u32s 0 (omega arith)) splits_version c.in-Ok.ensures c.in-Err-number.ensures
