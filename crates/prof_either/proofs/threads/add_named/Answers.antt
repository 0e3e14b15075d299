use Rattle.std.proofs.Common.{◌<◌, ◌≤◌, ◌∙◌, ap, arith, length}
use Rattle.std.specs.Option.{option_or}
use Rattle.prof_layout.specs.Lists.{is_object}
use Rattle.prof_raw.specs.declared.limits.TheConstants.{MOST_THREADS}
use Rattle.prof_members.proofs.MoreItems.{threads_added, threads_full}
use Rattle.prof_either.proofs.ListsTaken.{bad_row_is}
use Rattle.prof_either.proofs.threads.add_named.Goals as goal

pub returns-then-len : goal.returns-then-len
returns-then-len c v fits is =
    let many : MOST_THREADS < length c.args.list.now.threads.items = let l = c.len.ensures in let t = c.if-len.true in omega arith in
    threads_full c.args.list.now many v

pub returns : goal.returns
returns c v fits is =
    let few : length c.args.list.now.threads.items ≤ MOST_THREADS = let l = c.len.ensures in let t = c.if-len.false in omega arith in
    let row = bad_row_is c.args.fits (is_object v) _ (length c.args.list.now.threads.items) _ c.bad_row-bad.ensures fits (let l = c.len-2.ensures in omega arith) in
    threads_added c.args.list.now _ v c.args.thread few c.in_ok-push.ensures.items is (c.or-list.ensures ∙ ap (option_or c.args.list.now.bad) row)
