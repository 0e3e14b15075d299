use Rattle.std.proofs.Common.{refl}
use Rattle.std.specs.Prelude.{codes}
use Rattle.prof_members.proofs.OtherNames.{other-text}
use Rattle.prof_members.proofs.samples.unit_named.Goals as goal

pub returns-in_default : goal.returns-in_default
returns-in_default c =
    let text = c.args.text.now in
    let a = other-text text (codes "samples") c.in_default.not-samples in
    let b = other-text text (codes "tracing-ms") c.in_default.not-text in
    let d = other-text text (codes "bytes") c.in_default.not-bytes in
    rw (a, b, d) refl
