use Rattle.std.proofs.Common.{◌≡◌, ◌∙◌, ap}
use Rattle.prof_page.proofs.Pages.{gathers_not, gathers_written}
use Rattle.prof_writer.proofs.Outputs.{writes_as}
use Rattle.prof_page.proofs.page.add_string.Goals as goal

pub returns-in_err-write_page : goal.returns-in_err-write_page
returns-in_err-write_page g c =
    let same : c.push_unescaped.new.page.bytes ≡ c.args.page.now.bytes = ap (λ p. p.bytes) c.if-push_unescaped.ensures.stays in
    gathers_not _ _ _ _ c.args.page.now.bytes _ _ c.from_residual.ensures.0 (writes_as same c.in_err-write_page.ensures.written)

pub returns : goal.returns
returns g c =
    let same : c.push_unescaped.new.page.bytes ≡ c.args.page.now.bytes = ap (λ p. p.bytes) c.if-push_unescaped.ensures.stays in
    let later : c.push_unescaped-2.new.page.bytes ≡ c.write_page.new.page.bytes = ap (λ p. p.bytes) c.if-push_unescaped-2.ensures.stays in
    gathers_written _ _ _ tt _ _ _ _ (writes_as same c.in_ok-write_page.ensures.written) (later ∙ c.in_ok-write_page.ensures.empty) c.write_string.ensures
