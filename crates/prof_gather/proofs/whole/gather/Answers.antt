use Rattle.std.proofs.Common.{sym, subst}
use Rattle.std.specs.Io.KnownBytes.{IsAtEnd}
use Rattle.prof_gather.specs.Feeding.{Told}
use Rattle.prof_gather.specs.Taking.{IsFound}
use Rattle.prof_gather.proofs.Fronts.{whole_hash}
use Rattle.prof_gather.proofs.Wholes.{whole_text}
use Rattle.prof_gather.proofs.whole.gather.Goals as goal

pub returns-in-Ok-clause-digest : goal.returns-in-Ok-clause-digest
returns-in-Ok-clause-digest g c =
    whole_hash _ _ _ _ c.feed.inside.src.front (subst (λ (t : Told). IsAtEnd t.left) (sym c.feed.view_is) c.in-Ok.ensures.ok) c.finalize-digest.ensures

pub returns-in-Ok-clause-value : goal.returns-in-Ok-clause-value
returns-in-Ok-clause-value g c =
    let read = c.in-Ok.ensures.value in
    whole_text (λ v. IsFound g.T.FromMembers.is v c.in-Ok.found) g.W.Start.text (g.R.Counted.left c.args.src) c.args.reader c.requires.fresh c.requires.text read
