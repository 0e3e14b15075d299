use Rattle.std.proofs.Common.{ℕ, List, Some, subst, ap}
use Rattle.prof_grammar.specs.Value.{Value}
use Rattle.prof_json.specs.declared.answer.Event.{Event}
use Rattle.prof_gather.specs.Feeding.{Gives}
use Rattle.prof_column.proofs.ValuesRead.{reads-string}
use Rattle.prof_column.proofs.texts.text.Goals as goal

pub returns-in_ok-text-in-Str-clause-text : goal.returns-in_ok-text-in-Str-clause-text
returns-in_ok-text-in-Str-clause-text g c =
    let gives = subst (λ (e : Event). Gives c.args.feed.now e c.next.new.self) c.in-Str.is c.in_ok-first.ensures.ok in
    (Value.string c.string.result.now, reads-string c.args.feed.now c.next.new.self c.string.result.now gives c.string.ensures, ap (λ (t : List ℕ). Some t) c.in_ok-text-in-Str.ensures.ok)
