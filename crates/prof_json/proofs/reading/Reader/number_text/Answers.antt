use Rattle.std.proofs.Common.{ℕ, List, ap, sym, subst, ◌∙◌}
use Rattle.std.specs.Prelude.{Some}
use Rattle.prof_grammar.specs.Event.{number}
use Rattle.prof_token.specs.Numbers.{IsNumeral}
use Rattle.prof_json.specs.Position.{Position}
use Rattle.prof_json.proofs.Positions.{number_is}
use Rattle.prof_json.proofs.reading.Reader.number_text.Goals as goal

pub returns-clause-text : goal.returns-clause-text
returns-clause-text c =
    let i = c.self.inside in
    let last = ap (λ (p : Position). p.last) c.self.view_is in
    sym last ∙ (number_is i.last i.text.bytes c.requires.0 (last ∙ c.requires.1) c.self.invariant.2).0 ∙ ap (λ (x : List ℕ). Some (number x)) (sym c.as_bytes.ensures)

pub returns-clause-numeral : goal.returns-clause-numeral
returns-clause-numeral c =
    let i = c.self.inside in
    let last = ap (λ (p : Position). p.last) c.self.view_is in
    subst (λ (x : List ℕ). IsNumeral x) (sym c.as_bytes.ensures) (number_is i.last i.text.bytes c.requires.0 (last ∙ c.requires.1) c.self.invariant.2).1
