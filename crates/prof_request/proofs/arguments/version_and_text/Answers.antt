use Rattle.prof_address.specs.Transforms.{u32s}
use Rattle.prof_address.proofs.Filters.{splits_u32s}
use Rattle.prof_request.specs.Reading.{rests}
use Rattle.prof_request.proofs.SpacedLemmas.{text_meets}
use Rattle.prof_spell.proofs.SequenceLemmas.{err_front, err_back, taken_pair}
use Rattle.prof_request.proofs.arguments.version_and_text.Goals as goal

pub returns-in-Err : goal.returns-in-Err
returns-in-Err c = err_front u32s (λ version. rests) c.args.cursor.now c.number.new.cursor c.in-Err.stop text_meets c.in-Err.ensures

pub returns-in-Ok-rest : goal.returns-in-Ok-rest
returns-in-Ok-rest c = taken_pair u32s (λ version. rests) c.args.cursor.now c.number.new.cursor c.rest.new.cursor c.in-Ok.version c.in-Ok-rest.text text_meets c.in-Ok.ensures c.in-Ok-rest.ensures

pub returns-in-Err-rest : goal.returns-in-Err-rest
returns-in-Err-rest c = err_back u32s (λ version. rests) c.args.cursor.now c.number.new.cursor c.rest.new.cursor c.in-Ok.version c.in-Err-rest.stop text_meets splits_u32s c.in-Ok.ensures c.in-Err-rest.ensures
