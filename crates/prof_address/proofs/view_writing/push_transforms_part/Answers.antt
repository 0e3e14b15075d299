use Rattle.std.proofs.Common.{◌≡◌, ◌<◌, length, arith}
use Rattle.std.proofs.lemmas.Bool.Decides.{nat_tests}
use Rattle.prof_address.proofs.WritingLemmas.{no_transforms, some_transforms}
use Rattle.prof_address.proofs.view_writing.push_transforms_part.Goals as goal

pub returns-then-is_empty : goal.returns-then-is_empty
returns-then-is_empty c = let none : length c.args.list.now ≡ 0 = grind (arith, nat_tests) in no_transforms c.args.list.now c.args.text.now none

pub returns : goal.returns
returns c =
    let some : 0 < length c.args.list.now = grind (arith, nat_tests) in
    some_transforms c.args.list.now c.args.text.now c.push_str.new.self c.push_transforms.new.text some c.in_ok-push_str.ensures.ok c.in_ok-push_transforms.ensures
