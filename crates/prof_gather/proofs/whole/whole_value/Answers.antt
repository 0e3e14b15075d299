use Rattle.prof_gather.proofs.Wholes.{is_all, over}
use Rattle.prof_gather.proofs.whole.whole_value.Goals as goal

pub returns-clause-value : goal.returns-clause-value
returns-clause-value g c =
    let read = c.in_ok-found.ensures.value in
    (read.0, is_all c.args.feed.now c.top_value.new.feed c.next.new.self read.0 c.in_ok-_end._end read.1 c.in_ok-found.ensures.ok c.in_ok-_end.ensures.ok, read.2)
