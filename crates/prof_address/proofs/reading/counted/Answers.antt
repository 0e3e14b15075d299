use Rattle.prof_spell.proofs.Parts.{err_first, err_behind, err_built, rest}
use Rattle.prof_address.specs.Transforms.{filters, counted, u32s}
use Rattle.prof_address.proofs.Filters.{counted_leads, counted_built, splits_filters}
use Rattle.prof_address.proofs.reading.counted.Goals as goal

pub returns-in-Err : goal.returns-in-Err
returns-in-Err c = err_first counted filters (λ p. p.0) (λ p. u32s.text p.1) c.args.cursor.now c.filter.new.cursor c.in-Err.stop counted_leads c.in-Err.ensures

pub returns-in-Err-number : goal.returns-in-Err-number
returns-in-Err-number c =
    err_behind counted filters (λ p. p.0) (λ p. u32s.text p.1) c.args.cursor.now c.filter.new.cursor c.number.new.cursor c.in-Ok.filter c.in-Err-number.stop counted_leads splits_filters c.in-Ok.ensures
    (err_built (rest counted (λ p. p.0) (λ p. u32s.text p.1) c.in-Ok.filter) u32s (λ n. (c.in-Ok.filter, n)) c.filter.new.cursor c.number.new.cursor c.in-Err-number.stop (counted_built c.in-Ok.filter) c.in-Err-number.ensures)
