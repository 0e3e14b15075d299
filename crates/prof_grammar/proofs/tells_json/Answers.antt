use Rattle.prof_grammar.proofs.Complete.{json_run}
use Rattle.prof_grammar.proofs.Ended.{json_of_run}
use Rattle.prof_grammar.proofs.tells_json.Goals as goal

pub returns : goal.returns
returns c = λ text es. (λ j. json_run j, λ e. json_of_run text es e)
