use Rattle.std.proofs.Common.{sym, subst}
use Rattle.prof_path.specs.Views.{ViewLists}
use Rattle.prof_address.specs.Views.{HasPaths}
use Rattle.prof_machine.specs.Session.{present}
use Rattle.prof_machine.proofs.RuleLemmas.{has_paths}
use Rattle.prof_session.proofs.SoundLemmas.{present_accepted}
use Rattle.prof_session.proofs.seat.Seat.address.Goals as goal

pub write_view-requires : goal.write_view-requires
write_view-requires c =
    subst (λ (v : ViewLists). HasPaths v) (sym c.present.ensures.view)
    (has_paths c.args.known.now (present c.args.self.now.session) (present_accepted c.args.known.now c.args.self.now c.requires c.present.ensures.within))
