use Rattle.prof_json.proofs.Fresh as f
use Rattle.prof_json.proofs.laws.tells_on.Goals as goal

pub returns : goal.returns
returns c = f.tells_on
