use Rattle.std.proofs.Common.{[], ◌++◌, ap, append-nil, refl, sym}
use Rattle.prof_demo.specs.Generated.{samples_text, stacks_text}
use Rattle.prof_page.proofs.Pages.{gathers_end, gathers_failed, gathers_nothing, gathers_on}
use Rattle.prof_demo.proofs.generating.generate.Goals as goal

pub returns-in_err-add_stacks : goal.returns-in_err-add_stacks
returns-in_err-add_stacks g c =
    gathers_failed {T = Unit {0}} {E = Unit {0}} _ _ _ tt _ _ [] stacks_text (samples_text c.args.number) _ _ _ c.from_residual.ensures.0
    (gathers_nothing {T = Unit {0}} {E = Unit {0}} _ tt _ c.new-page.ensures) c.in_err-add_stacks.ensures refl

pub returns-in_err-add_samples : goal.returns-in_err-add_samples
returns-in_err-add_samples g c =
    gathers_failed _ _ _ _ _ _ stacks_text (samples_text c.args.number) [] _ _ _ c.from_residual-in_err-add_samples.ensures.0
    (gathers_on {T = Unit {0}} {E = Unit {0}} _ _ _ tt _ _ _ _ _ _ (gathers_nothing {T = Unit {0}} {E = Unit {0}} _ tt _ c.new-page.ensures) c.in_ok-add_stacks.ensures)
    c.in_err-add_samples.ensures (ap (λ l. stacks_text ++ l) (sym (append-nil (samples_text c.args.number))))

pub returns : goal.returns
returns g c =
    gathers_end _ _ _ _ _ _ _
    (gathers_on {T = Unit {0}} {E = Unit {0}} _ _ _ tt _ _ _ _ _ _ (gathers_nothing {T = Unit {0}} {E = Unit {0}} _ tt _ c.new-page.ensures)
    (gathers_on _ _ _ _ _ _ _ _ _ _ c.in_ok-add_stacks.ensures c.in_ok-add_samples.ensures))
    c.write_page.ensures.written
