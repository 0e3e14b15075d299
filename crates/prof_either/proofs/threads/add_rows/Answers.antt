use Rattle.std.proofs.Common.{◌<◌, ◌≤◌, ◌∙◌, [], ◌∷◌, ap, sym, arith, length, subst}
use Rattle.std.specs.List.{All}
use Rattle.std.specs.Option.{option_or}
use Rattle.std.proofs.lemmas.List.Elements.{All-append, All-cons, All-nil}
use Rattle.prof_gecko.specs.Processes.{ThreadHasRanges}
use Rattle.prof_layout.specs.Lists.{is_object}
use Rattle.prof_grammar.specs.Value.{object}
use Rattle.prof_raw.specs.declared.limits.TheConstants.{MOST_THREADS}
use Rattle.prof_processes.proofs.Ranges.{thread_ranges}
use Rattle.prof_processes.proofs.ThreadLists.{thread_added, threads_full}
use Rattle.prof_either.proofs.ListsTaken.{bad_row_is}
use Rattle.prof_either.proofs.threads.add_rows.Goals as goal

pub returns-then-len-clause-thread : goal.returns-then-len-clause-thread
returns-then-len-clause-thread c v fits is =
    let many : MOST_THREADS < length c.args.list.now.threads.items = let l = c.len.ensures in let t = c.if-len.true in omega arith in
    threads_full c.args.list.now many v

pub returns-clause-thread : goal.returns-clause-thread
returns-clause-thread c v fits is =
    let few : length c.args.list.now.threads.items ≤ MOST_THREADS = let l = c.len.ensures in let t = c.if-len.false in omega arith in
    let row = bad_row_is c.args.fits (is_object v) _ (length c.args.list.now.threads.items) _ c.bad_row-bad.ensures fits (let l = c.len-2.ensures in omega arith) in
    thread_added c.args.list.now _ v _ few c.in_ok-push.ensures.items (c.in_ok-thread.ensures is.members is.are ∙ is.same) (c.or-list.ensures ∙ ap (option_or c.args.list.now.bad) row)

pub returns-clause-ranges : goal.returns-clause-ranges
returns-clause-ranges c all =
    let of = c.requires in
    let one : ThreadHasRanges c.in_ok-thread.thread = subst ThreadHasRanges (sym (c.in_ok-thread.ensures of.0 of.1)) (thread_ranges (object of.0)) in
    subst (All ThreadHasRanges) (sym c.in_ok-push.ensures.items) (All-append ThreadHasRanges c.args.list.now.threads.items (c.in_ok-thread.thread ∷ []) all (All-cons ThreadHasRanges c.in_ok-thread.thread [] one (All-nil ThreadHasRanges)))
