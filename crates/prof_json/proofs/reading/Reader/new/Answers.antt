use Rattle.prof_json.proofs.Positions.{fresh_is}
use Rattle.prof_json.proofs.Fresh.{fresh_reads}
use Rattle.prof_json.proofs.reading.Reader.new.Goals as goal

pub returns-clause-fresh : goal.returns-clause-fresh
returns-clause-fresh c = fresh_is c.in_ok-input.input.bytes c.in_ok-input.input.place c.in_ok-input.input.limit c.args.limit c.new-2.result.items c.in_ok-input.ensures.0 c.in_ok-input.ensures.1 c.in_ok-input.ensures.2 c.new-2.ensures.items

pub returns-clause-reading : goal.returns-clause-reading
returns-clause-reading c =
    fresh_reads c.args.limit _ (fresh_is c.in_ok-input.input.bytes c.in_ok-input.input.place c.in_ok-input.input.limit c.args.limit c.new-2.result.items c.in_ok-input.ensures.0 c.in_ok-input.ensures.1 c.in_ok-input.ensures.2 c.new-2.ensures.items)
