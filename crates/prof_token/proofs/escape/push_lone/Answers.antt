use Rattle.std.specs.Char.{encode_utf8}
use Rattle.prof_token.proofs.Journeys.{on_ok_map}
use Rattle.prof_token.proofs.Texts.{gains_on}
use Rattle.prof_token.proofs.escape.push_lone.Goals as goal

pub returns-in-Some-clause-text : goal.returns-in-Some-clause-text
unfolding encode_utf8
returns-in-Some-clause-text c = rw c.in-Some.is (on_ok_map c.push_char.result (λ g begun s h. gains_on h g) c.push_char.ensures.ok)
