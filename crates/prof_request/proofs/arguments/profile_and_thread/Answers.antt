use Rattle.prof_address.specs.Transforms.{u32s}
use Rattle.prof_request.specs.Reading.{names, before_space}
use Rattle.prof_request.proofs.SpacedLemmas.{opening_meets, splits_session}
use Rattle.prof_spell.proofs.SequenceLemmas.{err_front, err_back, taken_pair}
use Rattle.prof_request.proofs.arguments.profile_and_thread.Goals as goal

pub returns-in-Err : goal.returns-in-Err
returns-in-Err c = err_front (before_space names) (λ profile. u32s) c.args.cursor.now c.name_and_space.new.cursor c.in-Err.stop opening_meets c.in-Err.ensures

pub returns-in-Ok-number : goal.returns-in-Ok-number
returns-in-Ok-number c = taken_pair (before_space names) (λ profile. u32s) c.args.cursor.now c.name_and_space.new.cursor c.number.new.cursor c.in-Ok.profile c.in-Ok-number.thread opening_meets c.in-Ok.ensures c.in-Ok-number.ensures

pub returns-in-Err-number : goal.returns-in-Err-number
returns-in-Err-number c = err_back (before_space names) (λ profile. u32s) c.args.cursor.now c.name_and_space.new.cursor c.number.new.cursor c.in-Ok.profile c.in-Err-number.stop opening_meets splits_session c.in-Ok.ensures c.in-Err-number.ensures
