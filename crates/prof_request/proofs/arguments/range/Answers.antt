use Rattle.std.proofs.Common.{rules, w64}
use Rattle.std.proofs.lemmas.Int.{to_z-of_z}
use Rattle.prof_spell.specs.Pieces.{signed}
use Rattle.prof_spell.proofs.Parts.{err_built, taken_built}
use Rattle.prof_spell.proofs.SequenceLemmas.{err_front, err_back, taken_pair}
use Rattle.prof_request.specs.Reading.{before_space, line_ranges}
use Rattle.prof_request.proofs.SpacedLemmas.{bounds, range_of, range_built, bounds_meet, splits_start}
use Rattle.prof_request.proofs.arguments.range.Goals as goal

pub returns-in-Err : goal.returns-in-Err
returns-in-Err c = err_built line_ranges bounds range_of c.args.cursor.now c.start_and_space.new.cursor c.in-Err.stop range_built
    (err_front (before_space signed) (λ start. signed) c.args.cursor.now c.start_and_space.new.cursor c.in-Err.stop bounds_meet c.in-Err.ensures)

pub returns-in-Ok-signed : goal.returns-in-Ok-signed
returns-in-Ok-signed c =
    rw (to_z-of_z w64 c.in-Ok.start (search rules), to_z-of_z w64 c.in-Ok-signed.end (search rules))
    (taken_built line_ranges bounds range_of c.args.cursor.now c.signed.new.self (c.in-Ok.start, c.in-Ok-signed.end) range_built (λ a. a)
    (taken_pair (before_space signed) (λ start. signed) c.args.cursor.now c.start_and_space.new.cursor c.signed.new.self c.in-Ok.start c.in-Ok-signed.end bounds_meet c.in-Ok.ensures c.in-Ok-signed.ensures))

pub returns-in-Err-signed : goal.returns-in-Err-signed
returns-in-Err-signed c = err_built line_ranges bounds range_of c.args.cursor.now c.signed.new.self c.in-Err-signed.stop range_built
    (err_back (before_space signed) (λ start. signed) c.args.cursor.now c.start_and_space.new.cursor c.signed.new.self c.in-Ok.start c.in-Err-signed.stop bounds_meet splits_start c.in-Ok.ensures c.in-Err-signed.ensures)
