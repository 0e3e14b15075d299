use Rattle.std.proofs.Common.{arith}
use Rattle.std.specs.Prelude.{IsUtf8, option_copied}
use Rattle.prof_back.proofs.OneMore.{one_more_found}
use Rattle.prof_back.proofs.kept.strings_are_utf8.Goals as goal

pub loop-place-preserved : goal.loop-place-preserved
loop-place-preserved c =
    one_more_found IsUtf8 c.args.strings.now c.loop-place.place (option_copied c.get.result) (omega arith) c.get.ensures c.loop-place.invariant c.is_utf8_or_none.ensures
