use Rattle.std.proofs.Common.{codes, refl}
use Rattle.std.specs.Prelude.{map}
use Rattle.prof_page.proofs.Pages.{gathers_on, gathers_stopped}
use Rattle.prof_write.specs.Cells.{index}
use Rattle.prof_write.proofs.funcs.add_resources.Goals as goal

pub returns-in_err-add_array : goal.returns-in_err-add_array
returns-in_err-add_array g c =
    gathers_stopped _ _ _ _ _ _ (codes "}") _ _ c.from_residual.ensures.0 (c.in_err-add_array.ensures (map index c.args.thread.now.shared.resources) refl)

pub returns : goal.returns
returns g c = gathers_on _ _ _ _ _ _ _ _ _ _ (c.in_ok-add_array.ensures (map index c.args.thread.now.shared.resources) refl) c.add_text.ensures
