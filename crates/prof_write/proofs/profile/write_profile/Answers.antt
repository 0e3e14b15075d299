use Rattle.std.proofs.Common.{[], append-nil, sym}
use Rattle.prof_page.proofs.Pages.{gathers_end, gathers_failed, gathers_nothing, gathers_on}
use Rattle.prof_write.specs.Compact.{compact}
use Rattle.prof_write.specs.Written.{profile_value}
use Rattle.prof_write.proofs.profile.write_profile.Goals as goal

pub returns-in_err-add_profile-clause-written : goal.returns-in_err-add_profile-clause-written
returns-in_err-add_profile-clause-written g c =
    gathers_failed {T = Unit {0}} {E = Unit {0}} _ _ _ tt _ _ [] (compact (profile_value c.args.profile.now)) [] _ _ _ c.from_residual.ensures.0
    (gathers_nothing {T = Unit {0}} {E = Unit {0}} _ tt _ c.new-page.ensures) c.in_err-add_profile.ensures.text (sym (append-nil (compact (profile_value c.args.profile.now))))

pub returns-clause-written : goal.returns-clause-written
returns-clause-written g c =
    gathers_end _ _ _ _ _ _ _
    (gathers_on {T = Unit {0}} {E = Unit {0}} _ _ _ tt _ _ _ _ _ _ (gathers_nothing {T = Unit {0}} {E = Unit {0}} _ tt _ c.new-page.ensures) c.in_ok-add_profile.ensures.text)
    c.write_page.ensures.written
