use Rattle.prof_address.specs.Transforms.{u32s}
use Rattle.prof_request.specs.Reading.{before_space, line_ranges}
use Rattle.prof_request.proofs.SpacedLemmas.{meets_behind, splits_version, no_range, no_range_fits}
use Rattle.prof_spell.proofs.SequenceLemmas.{err_front, err_back, taken_pair}
use Rattle.prof_request.proofs.arguments.version_and_range.Goals as goal

pub returns-in-Err : goal.returns-in-Err
returns-in-Err c = err_front (before_space u32s) (λ version. line_ranges) c.args.cursor.now c.version_and_space.new.cursor c.in-Err.stop (meets_behind u32s line_ranges no_range no_range_fits) c.in-Err.ensures

pub returns-in-Ok-range : goal.returns-in-Ok-range
returns-in-Ok-range c = taken_pair (before_space u32s) (λ version. line_ranges) c.args.cursor.now c.version_and_space.new.cursor c.range.new.cursor c.in-Ok.version c.in-Ok-range.range (meets_behind u32s line_ranges no_range no_range_fits) c.in-Ok.ensures c.in-Ok-range.ensures

pub returns-in-Err-range : goal.returns-in-Err-range
returns-in-Err-range c = err_back (before_space u32s) (λ version. line_ranges) c.args.cursor.now c.version_and_space.new.cursor c.range.new.cursor c.in-Ok.version c.in-Err-range.stop (meets_behind u32s line_ranges no_range no_range_fits) splits_version c.in-Ok.ensures c.in-Err-range.ensures
