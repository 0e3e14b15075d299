use Rattle.std.specs.Prelude.{IsUtf8}
use Rattle.prof_back.proofs.OneMore.{one_more}
use Rattle.prof_back.proofs.kept.are_utf8.Goals as goal

pub loop-text-preserved : goal.loop-text-preserved
loop-text-preserved c =
    one_more IsUtf8 c.args.texts.now c.loop-text.text-index c.text-item.result c.as_str.result.now c.loop-text-test.true c.text-item.is c.loop-text.invariant c.as_str.ensures c.is_utf8.ensures
