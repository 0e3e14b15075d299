use Rattle.std.proofs.Common.{arith}
use Rattle.std.specs.Prelude.{codes}
use Rattle.prof_spell.specs.Pieces.{literal, numbers}
use Rattle.prof_spell.proofs.Words.{splits_literal}
use Rattle.prof_spell.proofs.Numbers.{splits_number}
use Rattle.prof_spell.proofs.SequenceLemmas.{err_front, err_back, taken_pair}
use Rattle.prof_keep.specs.Reading.{after_place}
use Rattle.prof_keep.proofs.SavedLemmas.{places, place_meets, version_meets}
use Rattle.prof_keep.proofs.reading.after_version.Goals as goal

pub returns-in-Err : goal.returns-in-Err
returns-in-Err c = err_front (literal (codes "\nplace ")) (λ u. places c.args.form) c.args.cursor.now c.literal.new.self c.in-Err.stop (version_meets c.args.form) c.in-Err.ensures

pub returns-in-Err-number : goal.returns-in-Err-number
returns-in-Err-number c = err_back (literal (codes "\nplace ")) (λ u. places c.args.form) c.args.cursor.now c.literal.new.self c.number.new.self tt c.in-Err-number.stop (version_meets c.args.form) (splits_literal (codes "\nplace ")) c.in-Ok.ensures
    (err_front (numbers 99) (after_place c.args.form) c.literal.new.self c.number.new.self c.in-Err-number.stop (place_meets c.args.form) c.in-Err-number.ensures)

pub after_place-requires : goal.after_place-requires
after_place-requires c = let fits = c.in-Ok-number.ensures.fits in omega arith

pub returns-in-Ok-after_place : goal.returns-in-Ok-after_place
returns-in-Ok-after_place c = taken_pair (literal (codes "\nplace ")) (λ u. places c.args.form) c.args.cursor.now c.literal.new.self c.after_place.new.cursor tt (c.in-Ok-number.place, (tt, c.in-Ok-after_place.views.items)) (version_meets c.args.form) c.in-Ok.ensures
    (taken_pair (numbers 99) (after_place c.args.form) c.literal.new.self c.number.new.self c.after_place.new.cursor c.in-Ok-number.place (tt, c.in-Ok-after_place.views.items) (place_meets c.args.form) c.in-Ok-number.ensures c.in-Ok-after_place.ensures)

pub returns-in-Err-after_place : goal.returns-in-Err-after_place
returns-in-Err-after_place c = err_back (literal (codes "\nplace ")) (λ u. places c.args.form) c.args.cursor.now c.literal.new.self c.after_place.new.cursor tt c.in-Err-after_place.stop (version_meets c.args.form) (splits_literal (codes "\nplace ")) c.in-Ok.ensures
    (err_back (numbers 99) (after_place c.args.form) c.literal.new.self c.number.new.self c.after_place.new.cursor c.in-Ok-number.place c.in-Err-after_place.stop (place_meets c.args.form) (splits_number 99 (omega arith)) c.in-Ok-number.ensures c.in-Err-after_place.ensures)
