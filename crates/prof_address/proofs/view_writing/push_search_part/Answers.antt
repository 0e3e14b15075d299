use Rattle.std.proofs.Common.{◌≡◌, ◌<◌, length, arith}
use Rattle.std.proofs.lemmas.Bool.Decides.{nat_tests}
use Rattle.prof_address.proofs.WritingLemmas.{no_search, some_search}
use Rattle.prof_address.proofs.view_writing.push_search_part.Goals as goal

pub returns-then-is_empty : goal.returns-then-is_empty
returns-then-is_empty c = let none : length c.args.search.now ≡ 0 = grind (arith, nat_tests) in no_search c.args.search.now c.args.text.now none

pub returns : goal.returns
returns c =
    let some : 0 < length c.args.search.now = grind (arith, nat_tests) in
    some_search c.args.search.now c.args.text.now c.push_str.new.self c.push_search.new.text some c.in_ok-push_str.ensures.ok c.in_ok-push_search.ensures
