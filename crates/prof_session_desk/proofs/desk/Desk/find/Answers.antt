use Rattle.std.proofs.Common.{◌∙◌}
use Rattle.prof_session_desk.proofs.DeskLemmas.{place_by_name}
use Rattle.prof_session_desk.proofs.desk.Desk.find.Goals as goal

pub returns : goal.returns
returns c = rw (← c.self.view_is) (c.find.ensures ∙ place_by_name c.self.inside.names c.self.inside.seats.items c.self.invariant.1 c.args.session.now)
