use Rattle.std.proofs.Common.{◌∙◌}
use Rattle.prof_token.proofs.Machines.{goes_trans, goes_cut}
use Rattle.prof_token.proofs.Turns.{blank_end}
use Rattle.prof_token.proofs.token.need_behind_blank.Goals as goal

pub returns-in-Ok-None-clause-exact : goal.returns-in-Ok-None-clause-exact
returns-in-Ok-None-clause-exact g c = λ ps d e.
    goes_trans (c.in-Ok-None.ensures.exact ps d) (goes_cut (rw c.in-Ok-None.field-0-is at c.in-Ok-None.ensures.shown) (blank_end ps ∙ e) c.wrong.ensures)
