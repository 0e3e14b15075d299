use Rattle.prof_spell.proofs.Parts.{err_first, err_behind, err_built, rest}
use Rattle.prof_address.specs.Transforms.{filters, paths, ends, focuses, end_text}
use Rattle.std.proofs.Common.{◌++◌}
use Rattle.prof_address.proofs.Filters.{focus_leads, path_leads, end_built, behind_filter, splits_filters, splits_paths}
use Rattle.prof_address.proofs.reading.focus.Goals as goal

pub returns-in-Err : goal.returns-in-Err
returns-in-Err c = err_first focuses filters (λ p. p.0) (λ p. paths.text p.1 ++ end_text p.2) c.args.cursor.now c.filter.new.cursor c.in-Err.stop focus_leads c.in-Err.ensures

pub returns-in-Err-path : goal.returns-in-Err-path
returns-in-Err-path c =
    err_behind focuses filters (λ p. p.0) (λ p. paths.text p.1 ++ end_text p.2) c.args.cursor.now c.filter.new.cursor c.path.new.cursor c.in-Ok.filter c.in-Err-path.stop focus_leads splits_filters c.in-Ok.ensures
    (err_first (behind_filter c.in-Ok.filter) paths (λ p. p.1) (λ p. end_text p.2) c.filter.new.cursor c.path.new.cursor c.in-Err-path.stop (path_leads c.in-Ok.filter) c.in-Err-path.ensures)

pub returns-in-Err-end : goal.returns-in-Err-end
returns-in-Err-end c =
    let i = c.in-Ok.filter in
    let q = c.in-Ok-path.path in
    err_behind focuses filters (λ p. p.0) (λ p. paths.text p.1 ++ end_text p.2) c.args.cursor.now c.filter.new.cursor c.end.new.cursor i c.in-Err-end.stop focus_leads splits_filters c.in-Ok.ensures
    (err_behind (behind_filter i) paths (λ p. p.1) (λ p. end_text p.2) c.filter.new.cursor c.path.new.cursor c.end.new.cursor q c.in-Err-end.stop (path_leads i) splits_paths c.in-Ok-path.ensures
    (err_built (rest (behind_filter i) (λ p. p.1) (λ p. end_text p.2) q) ends (λ b. (i, q, b)) c.path.new.cursor c.end.new.cursor c.in-Err-end.stop (end_built i q c.in-Ok-path.ensures.fits) c.in-Err-end.ensures))
