use Rattle.std.proofs.Common.{◌∙◌, ℕ, ◌≡◌, sym}
use Rattle.prof_tables.specs.Profiles.{ProfileTables}
use Rattle.prof_layout.specs.Profile.{categories_broken, category_names, default_category}
use Rattle.prof_gecko_layout.specs.GeckoProfile.{gecko_broken}
use Rattle.prof_read.proofs.Forming.{gathered_is, gathered-broken, gathered-profile, gecko-categories}
use Rattle.prof_read.proofs.Profiling.{parted}
use Rattle.prof_read.proofs.Refusing.{names-on, names-unbuilt}
use Rattle.prof_read.proofs.forms.gecko_profile.Goals as goal

pub returns-in_err-categories-clause-profile : goal.returns-in_err-categories-clause-profile
returns-in_err-categories-clause-profile c = λ v categories keeps.
    names-on (λ (n : ℕ). n ≡ n) _ c.in_err-categories.field-0.0 c.from_residual.result (categories_broken v) (gecko_broken v) (c.in_err-categories.ensures.categories v categories)
    (gecko-categories v) c.from_residual.ensures.1

pub returns-in_err-profile-clause-profile : goal.returns-in_err-profile-clause-profile
returns-in_err-profile-clause-profile c = λ v categories keeps.
    let told = c.in_ok-categories.ensures.categories v categories in
    let are = parted c.in_ok-categories.categories.items (category_names v) c.in_ok-categories.default (default_category v) told.1 in
    let is = gathered_is v c.in_ok-categories.categories.items c.in_ok-categories.default c.args.parts.root are.0 are.1 told.0 in
    names-unbuilt (λ (p : ProfileTables). p) _ c.in_err-profile.field-0.0 c.from_residual-in_err-profile.result _ (gecko_broken v) _ c.in_err-profile.ensures
    (gathered-broken v _ c.args.parts.root is keeps) c.from_residual-in_err-profile.ensures.1

pub returns-clause-profile : goal.returns-clause-profile
returns-clause-profile c = λ v categories keeps.
    let told = c.in_ok-categories.ensures.categories v categories in
    let are = parted c.in_ok-categories.categories.items (category_names v) c.in_ok-categories.default (default_category v) told.1 in
    let is = gathered_is v c.in_ok-categories.categories.items c.in_ok-categories.default c.args.parts.root are.0 are.1 told.0 in
    let built = c.in_ok-profile.ensures in (
      sym (gathered-broken v _ c.args.parts.root is keeps) ∙ built.0,
      built.1 ∙ gathered-profile v _ c.args.parts.root is keeps built.0,
    )
