use Rattle.std.proofs.Common.{◌∙◌, List, ℕ, ap}
use Rattle.std.specs.List.{enumerate_from, join_with_byte}
use Rattle.prof_page.proofs.Pages.{gathers_same}
use Rattle.prof_tables.specs.Profiles.{ProfileTables}
use Rattle.prof_write.specs.Cells.{category_value, texts_of_cells}
use Rattle.prof_write.proofs.profile.add_profile_categories.Goals as goal

abbrev text : ℕ → List (List ℕ) → List ℕ
text default names = join_with_byte 44 (texts_of_cells (category_value default) (enumerate_from 0 names))

pub returns : goal.returns
returns g c =
    gathers_same _ _ _ _ _ _ _ c.add_categories.ensures
    (ap (λ (names : List (List ℕ)). text c.profile.inside.default names) c.deref.ensures.value ∙ ap (λ (v : ProfileTables). text v.default v.categories) c.profile.view_is)
