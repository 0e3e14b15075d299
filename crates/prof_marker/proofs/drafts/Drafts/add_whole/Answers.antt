use Rattle.prof_marker.specs.declared.drafts.Standing.TheVariants.{Whole}
use Rattle.prof_marker.proofs.Drafted.{drafts-push}
use Rattle.prof_marker.proofs.Keeping.{keeps-whole}
use Rattle.std.proofs.Common.{Result, Ok, Err}
use Rattle.std.specs.Prelude.{OnOk}
use Rattle.prof_marker.proofs.drafts.Drafts.add_whole.Goals as goal

-- a fact of two facts, each on success
both_ok : {T E A B C : Type 0} (r : Result T E) → OnOk r A → OnOk r B → (A → B → C) → OnOk r C
both_ok (Ok x) a b f = f a b
both_ok (Err e) a b f = tt

pub returns-clause-kept : goal.returns-clause-kept
returns-clause-kept c = λ strings kept placed.
    both_ok c.add.result c.add.ensures.markers c.add.ensures.standings (λ ms ss.
    let was = keeps-whole kept c.args.marker placed in
    rw (ms, ss, c.add.ensures.latest, c.add.ensures.firsts) was)

pub returns-clause-drafts : goal.returns-clause-drafts
returns-clause-drafts c = λ many.
    both_ok c.add.result c.add.ensures.markers c.add.ensures.standings (λ ms ss.
    rw (ms, ss) (drafts-push c.args.self.now.markers.items c.args.self.now.standings.items c.args.marker Whole many))
