use Rattle.prof_grammar.proofs.Complete.{json_run}
use Rattle.prof_grammar.proofs.one_list.Goals as goal

pub returns : goal.returns
returns c = λ text es fs i j. let a = json_run i in let b = json_run j in cc
