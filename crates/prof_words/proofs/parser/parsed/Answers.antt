use Rattle.std.proofs.Common.{◌≡◌, ◌∙◌, ap, sym, inl, inr}
use Rattle.clap.specs.Words.{subcommand_of}
use Rattle.clap.specs.Faults.{fault_of, is_simple_and_free}
use Rattle.clap.specs.Simple.{App, app_of, is_simple}
use Rattle.clap.specs.Walk.{is_empty}
use Rattle.prof_words.specs.Desk.{desk}
use Rattle.prof_words.specs.Reading.{texts_of}
use Rattle.prof_words.proofs.Entering.{desk_is_free, desk_is_simple}
use Rattle.prof_words.proofs.Refused.{some_kinds}
use Rattle.prof_words.proofs.parser.parsed.Goals as goal

pub returns-in-Ok-try_get_matches_from-clause-fits : goal.returns-in-Ok-try_get_matches_from-clause-fits
returns-in-Ok-try_get_matches_from-clause-fits c =
    let is : app_of c.in-Ok.desk ≡ desk = c.in-Ok.ensures in
    let none = c.in-Ok-try_get_matches_from.ensures.kinds (ap is_simple_and_free is ∙ desk_is_free) in
    ap is_empty (sym (ap (λ (a : App). fault_of a (texts_of c.args.words.now)) is) ∙ none)

pub returns-in-Ok-try_get_matches_from-clause-rows : goal.returns-in-Ok-try_get_matches_from-clause-rows
returns-in-Ok-try_get_matches_from-clause-rows c =
    let is : app_of c.in-Ok.desk ≡ desk = c.in-Ok.ensures in
    let rows = c.in-Ok-try_get_matches_from.ensures.matches (ap is_simple is ∙ desk_is_simple) in
    rows.1 ∙ ap (λ (a : App). subcommand_of a (texts_of c.args.words.now)) is

pub returns-in-Err-clause-usage : goal.returns-in-Err-clause-usage
returns-in-Err-clause-usage c = λ refused.
    let is : app_of c.in-Ok.desk ≡ desk = c.in-Ok.ensures in
    let kinds = c.in-Err.ensures.kinds (ap is_simple_and_free is ∙ desk_is_free) in
    let none_of_memory = c.refusal_of.ensures (cc refused) in
    elim kinds [
      | inl memory ↦ absurd (none_of_memory (c.kind.ensures ∙ memory))
      | inr among ↦ ap is_empty (sym (ap (λ (a : App). fault_of a (texts_of c.args.words.now)) is)) ∙ some_kinds _ _ among
    ]
