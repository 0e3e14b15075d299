use Rattle.std.proofs.Common.{◌++◌, ap, codes}
use Rattle.std.specs.Prelude.{map}
use Rattle.prof_page.proofs.Pages.{gathers_on, gathers_same, gathers_stopped}
use Rattle.prof_write.specs.Compact.{compact}
use Rattle.prof_write.specs.Written.{meta_value, thread_value}
use Rattle.prof_write.proofs.ArrayLemmas.{closed_is}
use Rattle.prof_write.proofs.profile.add_profile.Goals as goal

pub returns-in_err-add_meta-clause-text : goal.returns-in_err-add_meta-clause-text
returns-in_err-add_meta-clause-text g c = gathers_stopped _ _ _ _ _ _ _ _ _ c.from_residual.ensures.0 c.in_err-add_meta.ensures

pub returns-in_err-add_text-clause-text : goal.returns-in_err-add_text-clause-text
returns-in_err-add_text-clause-text g c =
    gathers_on _ _ _ _ _ _ _ _ _ _ c.in_ok-add_meta.ensures (gathers_stopped _ _ _ _ _ _ _ _ _ c.from_residual-in_err-add_text.ensures.0 c.in_err-add_text.ensures)

pub returns-in_err-add_profile_threads-clause-text : goal.returns-in_err-add_profile_threads-clause-text
returns-in_err-add_profile_threads-clause-text g c =
    gathers_same _ _ _ _ _ _ _
    (gathers_on _ _ _ _ _ _ _ _ _ _ c.in_ok-add_meta.ensures
    (gathers_on _ _ _ _ _ _ _ _ _ _ c.in_ok-add_text.ensures
    (gathers_stopped _ _ _ _ _ _ (codes "]}") _ _ c.from_residual-in_err-add_profile_threads.ensures.0 c.in_err-add_profile_threads.ensures.text)))
    (ap (λ l. (codes "{\"meta\":" ++ compact (meta_value c.args.profile.now)) ++ (codes ",\"libs\":[],\"threads\":[" ++ l)) (closed_is (map thread_value c.args.profile.now.threads) (codes "}")))

pub returns-clause-text : goal.returns-clause-text
returns-clause-text g c =
    gathers_same _ _ _ _ _ _ _
    (gathers_on _ _ _ _ _ _ _ _ _ _ c.in_ok-add_meta.ensures
    (gathers_on _ _ _ _ _ _ _ _ _ _ c.in_ok-add_text.ensures
    (gathers_on _ _ _ _ _ _ _ _ _ _ c.in_ok-add_profile_threads.ensures.text c.add_text-2.ensures)))
    (ap (λ l. (codes "{\"meta\":" ++ compact (meta_value c.args.profile.now)) ++ (codes ",\"libs\":[],\"threads\":[" ++ l)) (closed_is (map thread_value c.args.profile.now.threads) (codes "}")))
