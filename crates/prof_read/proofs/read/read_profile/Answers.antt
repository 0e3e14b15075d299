use Rattle.prof_read.proofs.Telling.{told_gathering, told_checking, no_fault, told_profile, told_form}
use Rattle.prof_read.proofs.read.read_profile.Goals as goal

pub returns-in_err-parts-clause-cause : goal.returns-in_err-parts-clause-cause
returns-in_err-parts-clause-cause g c = told_gathering c.in_err-parts.field-0.0 c.from_residual.result _ _ _ c.in_err-parts.ensures.cause c.from_residual.ensures.1

pub returns-in_err-profile-clause-cause : goal.returns-in_err-profile-clause-cause
returns-in_err-profile-clause-cause g c =
    told_checking c.in_err-profile.field-0.0 c.from_residual-in_err-profile.result _ _ _ c.in_ok-parts.parts c.in_err-profile.ensures.building c.in_err-profile.ensures.profile c.in_ok-parts.ensures.calm c.in_ok-parts.ensures.value c.from_residual-in_err-profile.ensures.1

pub returns-in_err-profile-clause-steady : goal.returns-in_err-profile-clause-steady
returns-in_err-profile-clause-steady g c = λ steady same. no_fault c.in_err-profile.field-0.0 c.from_residual-in_err-profile.result c.in_err-profile.ensures.building c.from_residual-in_err-profile.ensures.1 same

pub returns-clause-stands : goal.returns-clause-stands
returns-clause-stands g c = told_profile (c.in_ok-profile.profile, c.in_ok-profile.form) _ c.in_ok-parts.parts c.in_ok-profile.ensures.profile c.in_ok-parts.ensures.value

pub returns-clause-form : goal.returns-clause-form
returns-clause-form g c = told_form c.in_ok-profile.form _ c.in_ok-parts.parts c.in_ok-profile.ensures.form c.in_ok-parts.ensures.value
