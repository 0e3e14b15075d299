use Rattle.prof_spell.proofs.Parts.{err_first, err_behind, err_built, rest}
use Rattle.prof_address.specs.Transforms.{filters, nodes, paths}
use Rattle.prof_address.proofs.Filters.{node_leads, node_built, splits_filters}
use Rattle.prof_address.proofs.reading.node.Goals as goal

pub returns-in-Err : goal.returns-in-Err
returns-in-Err c = err_first nodes filters (λ p. p.0) (λ p. paths.text p.1) c.args.cursor.now c.filter.new.cursor c.in-Err.stop node_leads c.in-Err.ensures

pub returns-in-Err-path : goal.returns-in-Err-path
returns-in-Err-path c =
    err_behind nodes filters (λ p. p.0) (λ p. paths.text p.1) c.args.cursor.now c.filter.new.cursor c.path.new.cursor c.in-Ok.filter c.in-Err-path.stop node_leads splits_filters c.in-Ok.ensures
    (err_built (rest nodes (λ p. p.0) (λ p. paths.text p.1) c.in-Ok.filter) paths (λ n. (c.in-Ok.filter, n)) c.filter.new.cursor c.path.new.cursor c.in-Err-path.stop (node_built c.in-Ok.filter) c.in-Err-path.ensures)
