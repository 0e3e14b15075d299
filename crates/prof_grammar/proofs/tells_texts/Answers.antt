use Rattle.prof_grammar.proofs.Texts as t
use Rattle.prof_grammar.proofs.tells_texts.Goals as goal

pub returns : goal.returns
returns c = t.tells_texts
