use Rattle.std.proofs.Common.{◌≡◌, ◌∙◌, ◌<◌, ℕ, List, Bool, true, false, ◌&&◌, is_some, get_or, sym, ap, arith}
use Rattle.std.proofs.lemmas.Bool.{false≢true}
use Rattle.matchit.specs.Seek.{first}
use Rattle.prof_wire.specs.OnlyRoute.{only_route}
use Rattle.prof_wire.specs.Routing.{is_session, is_among, commands}
use Rattle.prof_wire.proofs.OneRoute.{target_found}
use Rattle.prof_wire.proofs.Targets.{names_nothing, neither, nor_second}
use Rattle.prof_wire.proofs.routing.Routes.names_of.Goals as goal
use Rattle.prof_wire.proofs.routing.Routes.names_of.Goals.{else-is_session-via-then-is_session+else-is_command, else-is_session-via-else-is_session}

pub returns-then-not-fits-clause-none : goal.returns-then-not-fits-clause-none
returns-then-not-fits-clause-none c = λ session command is.
    let same : c.in-Ok.text.now ≡ c.args.target.now = c.in-Ok.ensures.cases.0 in
    let unfit : is_some (first only_route c.args.target.now) ≡ false =
    ap (λ (l : List ℕ). is_some (first only_route l)) (sym same) ∙ sym c.fits.ensures ∙ c.if-not-fits.true in
    let byte : get_or c.args.target.now 10 0 < 256 = let h = c.type_inv.target 10 in omega (arith, h) in
    false≢true (sym unfit ∙ target_found c.args.target.now session command byte is)

pub returns-else-is_session-clause-none : goal.returns-else-is_session-clause-none
returns-else-is_session-clause-none c =
    let same : c.in-Ok.text.now ≡ c.args.target.now = c.in-Ok.ensures.cases.0 in
    let unlike : (is_session c.in_ok-session.session.now && is_among commands c.in_ok-session.command.now) ≡ false =
    elim c.else-is_session.branch [
      | else-is_session-via-then-is_session+else-is_command w ↦ nor_second _ _ (sym w.is_command.ensures ∙ w.if-is_command.false)
      | else-is_session-via-else-is_session w ↦ neither _ _ (sym c.is_session.ensures ∙ w.if-is_session.false)
    ] in
    names_nothing c.args.target.now c.in_ok-session.session.now c.in_ok-session.command.now (sym same ∙ c.in_ok-session.ensures.some) c.in_ok-session.ensures.first unlike
