use Rattle.prof_token.proofs.Machines.{goes_trans, goes_cut}
use Rattle.prof_token.proofs.input.Input.need.Goals as goal

pub returns-in-Ok-None-clause-exact : goal.returns-in-Ok-None-clause-exact
returns-in-Ok-None-clause-exact g c = λ ps e. goes_trans (c.in-Ok-None.ensures.exact ps) (goes_cut (rw c.in-Ok-None.field-0-is at c.in-Ok-None.ensures.shown) e c.wrong.ensures)
