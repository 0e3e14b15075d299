use Rattle.std.proofs.Common.{rules, ◌≡◌, ◌≢◌, ◌<◌, [], length, take, arith, ℕ, List}
use Rattle.prof_wire.specs.Reading.{IsHeadEnd}
use Rattle.prof_wire.specs.declared.messages.WireEnd.TheVariants.{Bad, HeadTooLong}
use Rattle.prof_wire.specs.declared.messages.Why.TheVariants.{Head, Cut}
use Rattle.prof_wire.proofs.Unused.{carried}
use Rattle.prof_wire.proofs.NoHeads.{broken_end, too_long_end, cut_end, at_end_of}
use Rattle.prof_wire.proofs.reading.read_head.Goals as goal

pub returns-in-Broken-clause-reads : goal.returns-in-Broken-clause-reads
returns-in-Broken-clause-reads g c =
    carried (λ (l : List ℕ). IsHeadEnd l (Bad Head)) _ _ _ _ c.more.invariant.same
    (λ rest e. broken_end _ rest c.in-Broken.ensures.0 c.in-Broken.ensures.1)

pub returns-else-at-eq0-clause-reads : goal.returns-else-at-eq0-clause-reads
returns-else-at-eq0-clause-reads g c =
    let ended = c.more.invariant.over c.if-at.true in
    let size : length (take c.more.at.end c.more.page) ≡ c.more.at.end = search rules in
    carried (λ (l : List ℕ). IsHeadEnd l (Bad Cut)) _ _ _ _ c.more.invariant.same
    (λ rest e. cut_end (take c.more.at.end c.more.page) rest (omega (arith, size, c.if-at-eq0.false)) (omega (arith, size, ended.1)) c.in-Partial.ensures (at_end_of _ rest ended.0 e))

pub returns-then-at-page-clause-reads : goal.returns-then-at-page-clause-reads
returns-then-at-page-clause-reads g c =
    let size : length (take c.more.at.end c.more.page) ≡ 65536 = search rules in
    carried (λ (l : List ℕ). IsHeadEnd l HeadTooLong) _ _ _ _ c.more.invariant.same
    (λ rest e. too_long_end _ rest size c.in-Partial.ensures)
