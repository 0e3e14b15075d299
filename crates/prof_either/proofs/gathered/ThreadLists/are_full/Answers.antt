use Rattle.std.proofs.Common.{◌<◌, arith, length}
use Rattle.std.proofs.lemmas.Bool.Decides.{nat_tests}
use Rattle.prof_raw.specs.declared.limits.TheConstants.{MOST_THREADS}
use Rattle.prof_either.proofs.ListsTaken.{lists_full}
use Rattle.prof_either.proofs.gathered.ThreadLists.are_full.Goals as goal

pub returns-then-len : goal.returns-then-len
returns-then-len c full =
    let many : MOST_THREADS < length c.args.self.now.named.threads.items = let l = c.len.ensures in let t = c.if-len.true in omega arith in
    let more : MOST_THREADS < length c.args.self.now.rows.threads.items = let l = c.len-then-len.ensures in let t : 1024 < c.len-then-len.result = grind (arith, nat_tests) in omega arith in
    lists_full c.args.self.now many more
