use Rattle.std.proofs.Common.{◌++◌, ◌∙◌, ap}
use Rattle.prof_page.proofs.Pages.{gathers_more, gathers_not, gathers_page}
use Rattle.prof_page.proofs.page.add_text.Goals as goal
use Rattle.prof_page.proofs.page.add_text.Goals.{then-remaining_capacity-text+in_ok-write_page, else-remaining_capacity-text}

pub returns-in_err-write_page : goal.returns-in_err-write_page
returns-in_err-write_page g c = gathers_not _ _ _ _ _ _ _ c.from_residual.ensures.0 c.in_err-write_page.ensures.written

pub returns : goal.returns
returns g c =
    let text = c.args.text.now in
    let page = c.if-remaining_capacity-text.page.bytes in
    let new = c.push_str.ensures.bytes in
    elim c.if-remaining_capacity-text.branch [
      | then-remaining_capacity-text+in_ok-write_page w ↦
          rw w.out-is (gathers_page _ _ _ tt _ page text _ w.in_ok-write_page.ensures.written (ap (λ p. p.bytes) w.page-is ∙ w.in_ok-write_page.ensures.empty) new)
      | else-remaining_capacity-text w ↦ rw w.out-is (gathers_more _ tt _ text _ (new ∙ ap (λ p. p.bytes ++ text) w.page-is))
    ]
