use Rattle.std.proofs.Common.{sym}
use Rattle.std.specs.Prelude.{string_bytes}
use Rattle.prof_gecko.proofs.Deriving.{copy_more}
use Rattle.prof_gecko.proofs.derived.copied.Goals as goal

pub loop-i-preserved : goal.loop-i-preserved
loop-i-preserved c =
    copy_more string_bytes c.loop-i.texts.items c.push.new.self.items c.in_ok-from_str.field-0 c.args.strings.now c.loop-i.i c.in-Some.text.now
    c.in_ok-push.ensures.items c.in_ok-from_str.ensures.ok (sym c.in-Some.ensures) c.loop-i.invariant
