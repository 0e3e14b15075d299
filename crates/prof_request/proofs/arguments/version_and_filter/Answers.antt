use Rattle.prof_path.specs.declared.transform.Implementation.TheVariants.{Combined}
use Rattle.prof_address.specs.Transforms.{u32s}
use Rattle.prof_request.specs.Reading.{before_space, filter_words}
use Rattle.prof_request.proofs.SpacedLemmas.{meets_behind, splits_version, as_filter, among_filters}
use Rattle.prof_spell.proofs.SequenceLemmas.{err_front, err_back, taken_pair}
use Rattle.prof_request.proofs.arguments.version_and_filter.Goals as goal

pub returns-in-Err : goal.returns-in-Err
returns-in-Err c = err_front (before_space u32s) (λ version. filter_words) c.args.cursor.now c.version_and_space.new.cursor c.in-Err.stop (meets_behind u32s filter_words (as_filter Combined) (among_filters Combined)) c.in-Err.ensures

pub returns-in-Ok-one_of : goal.returns-in-Ok-one_of
returns-in-Ok-one_of c = taken_pair (before_space u32s) (λ version. filter_words) c.args.cursor.now c.version_and_space.new.cursor c.one_of.new.self c.in-Ok.version c.in-Ok-one_of.filter (meets_behind u32s filter_words (as_filter Combined) (among_filters Combined)) c.in-Ok.ensures c.in-Ok-one_of.ensures

pub returns-in-Err-one_of : goal.returns-in-Err-one_of
returns-in-Err-one_of c = err_back (before_space u32s) (λ version. filter_words) c.args.cursor.now c.version_and_space.new.cursor c.one_of.new.self c.in-Ok.version c.in-Err-one_of.stop (meets_behind u32s filter_words (as_filter Combined) (among_filters Combined)) splits_version c.in-Ok.ensures c.in-Err-one_of.ensures
