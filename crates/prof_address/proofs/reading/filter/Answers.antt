use Rattle.std.specs.Prelude.{codes}
use Rattle.prof_spell.specs.Pieces.{literal}
use Rattle.prof_spell.proofs.Parts.{err_first, err_behind, err_built, rest}
use Rattle.prof_address.specs.Transforms.{filters}
use Rattle.prof_address.proofs.Filters.{filter_words, as_filter, filter_leads, dash_built, splits_filter_words}
use Rattle.prof_address.proofs.reading.filter.Goals as goal

pub returns-in-Err : goal.returns-in-Err
returns-in-Err c = err_first filters filter_words as_filter (λ i. codes "-") c.args.cursor.now c.one_of.new.self c.in-Err.stop filter_leads c.in-Err.ensures

pub returns-in-Err-literal : goal.returns-in-Err-literal
returns-in-Err-literal c =
    err_behind filters filter_words as_filter (λ i. codes "-") c.args.cursor.now c.one_of.new.self c.literal.new.self c.in-Ok.filter c.in-Err-literal.stop filter_leads splits_filter_words c.in-Ok.ensures
    (err_built (rest filters as_filter (λ i. codes "-") c.in-Ok.filter) (literal (codes "-")) (λ u. c.in-Ok.filter.0) c.one_of.new.self c.literal.new.self c.in-Err-literal.stop (dash_built c.in-Ok.filter) c.in-Err-literal.ensures)
