use Rattle.std.proofs.Common.{◌++◌, ap, codes, false}
use Rattle.std.specs.Prelude.{map}
use Rattle.std.specs.List.{enumerate_from}
use Rattle.prof_page.proofs.Pages.{gathers_on, gathers_same, gathers_stopped}
use Rattle.prof_write.specs.Cells.{category_value}
use Rattle.prof_write.specs.Compact.{compact_items, values_of}
use Rattle.prof_write.proofs.ArrayLemmas.{closed_is}
use Rattle.prof_write.proofs.profile.add_meta.Goals as goal

pub returns-in_err-add_text : goal.returns-in_err-add_text
returns-in_err-add_text g c =
    let rows = map (category_value c.args.profile.now.default) (enumerate_from 0 c.args.profile.now.categories) in
    gathers_stopped _ _ _ _ _ _ (compact_items false (values_of rows) ++ codes "}") _ _ c.from_residual.ensures.0 c.in_err-add_text.ensures

pub returns-in_err-add_profile_categories : goal.returns-in_err-add_profile_categories
returns-in_err-add_profile_categories g c =
    let rows = map (category_value c.args.profile.now.default) (enumerate_from 0 c.args.profile.now.categories) in
    gathers_same _ _ _ _ _ _ _
    (gathers_on _ _ _ _ _ _ _ _ _ _ c.in_ok-add_text.ensures
    (gathers_stopped _ _ _ _ _ _ (codes "]}") _ _ c.from_residual-in_err-add_profile_categories.ensures.0 c.in_err-add_profile_categories.ensures))
    (ap (λ l. codes "{\"meta\":{\"preprocessedProfileVersion\":0,\"categories\":[" ++ l) (closed_is rows (codes "}")))

pub returns : goal.returns
returns g c =
    let rows = map (category_value c.args.profile.now.default) (enumerate_from 0 c.args.profile.now.categories) in
    gathers_same _ _ _ _ _ _ _
    (gathers_on _ _ _ _ _ _ _ _ _ _ c.in_ok-add_text.ensures
    (gathers_on _ _ _ _ _ _ _ _ _ _ c.in_ok-add_profile_categories.ensures c.add_text-2.ensures))
    (ap (λ l. codes "{\"meta\":{\"preprocessedProfileVersion\":0,\"categories\":[" ++ l) (closed_is rows (codes "}")))
