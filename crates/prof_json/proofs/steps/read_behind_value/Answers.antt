use Rattle.std.proofs.Common.{◌∙◌, sym}
use Rattle.prof_json.proofs.Enclosing.{ends, none_last}
use Rattle.prof_token.proofs.Journeys.{if_ok_map}
use Rattle.prof_json.proofs.steps.read_behind_value.Goals as goal

pub returns-in-None-clause-ok : goal.returns-in-None-clause-ok
returns-in-None-clause-ok g c = ends _ _ _ _ _ c.read_end.result (sym c.deref.ensures.value ∙ none_last c.deref.result.now (sym c.in-None.ensures.value)) c.read_end.ensures.ok

pub returns-in-None-clause-own : goal.returns-in-None-clause-own
returns-in-None-clause-own g c = if_ok_map c.read_end.result (λ e is other. absurd (other is)) c.read_end.ensures.ok
