use Rattle.std.specs.Prelude.{codes}
use Rattle.prof_spell.specs.Pieces.{literal}
use Rattle.prof_spell.proofs.Words.{splits_literal}
use Rattle.prof_spell.proofs.SequenceLemmas.{err_front, err_back, taken_pair}
use Rattle.prof_address.specs.Transforms.{u32s}
use Rattle.prof_address.proofs.Filters.{splits_u32s}
use Rattle.prof_keep.specs.Reading.{after_version}
use Rattle.prof_keep.proofs.SavedLemmas.{versions, number_meets, digest_meets}
use Rattle.prof_keep.proofs.reading.after_digest.Goals as goal

pub returns-in-Err : goal.returns-in-Err
returns-in-Err c = err_front (literal (codes "\nversion ")) (λ u. versions c.args.form) c.args.cursor.now c.literal.new.self c.in-Err.stop (digest_meets c.args.form) c.in-Err.ensures

pub returns-in-Err-number : goal.returns-in-Err-number
returns-in-Err-number c = err_back (literal (codes "\nversion ")) (λ u. versions c.args.form) c.args.cursor.now c.literal.new.self c.number.new.self tt c.in-Err-number.stop (digest_meets c.args.form) (splits_literal (codes "\nversion ")) c.in-Ok.ensures
    (err_front u32s (λ version. after_version c.args.form) c.literal.new.self c.number.new.self c.in-Err-number.stop (number_meets c.args.form) c.in-Err-number.ensures)

pub returns-in-Ok-after_version : goal.returns-in-Ok-after_version
returns-in-Ok-after_version c =
    let p = c.in-Ok-after_version.placed in
    taken_pair (literal (codes "\nversion ")) (λ u. versions c.args.form) c.args.cursor.now c.literal.new.self c.after_version.new.cursor tt (c.in-Ok-number.version, (tt, (p.0, (tt, p.1.items)))) (digest_meets c.args.form) c.in-Ok.ensures
    (taken_pair u32s (λ version. after_version c.args.form) c.literal.new.self c.number.new.self c.after_version.new.cursor c.in-Ok-number.version (tt, (p.0, (tt, p.1.items))) (number_meets c.args.form) c.in-Ok-number.ensures c.in-Ok-after_version.ensures)

pub returns-in-Err-after_version : goal.returns-in-Err-after_version
returns-in-Err-after_version c = err_back (literal (codes "\nversion ")) (λ u. versions c.args.form) c.args.cursor.now c.literal.new.self c.after_version.new.cursor tt c.in-Err-after_version.stop (digest_meets c.args.form) (splits_literal (codes "\nversion ")) c.in-Ok.ensures
    (err_back u32s (λ version. after_version c.args.form) c.literal.new.self c.number.new.self c.after_version.new.cursor c.in-Ok-number.version c.in-Err-after_version.stop (number_meets c.args.form) splits_u32s c.in-Ok-number.ensures c.in-Err-after_version.ensures)
