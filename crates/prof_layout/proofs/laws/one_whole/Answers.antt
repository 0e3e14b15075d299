use Rattle.prof_layout.proofs.Numbers.{whole_is, whole_exact}
use Rattle.prof_layout.proofs.laws.one_whole.Goals as goal

pub returns : goal.returns
returns c = λ text m z h. (λ e. whole_exact text m z h e, λ e. whole_is text z e)
