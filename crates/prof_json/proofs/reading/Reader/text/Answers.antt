use Rattle.std.proofs.Common.{ℕ, List, ap, sym, subst}
use Rattle.std.specs.Prelude.{Option}
use Rattle.prof_grammar.specs.Event as e
use Rattle.prof_json.specs.Position.{Position, last_of}
use Rattle.prof_json.specs.Skip.{IsText}
use Rattle.prof_json.proofs.Positions.{text_is}
use Rattle.prof_json.proofs.reading.Reader.text.Goals as goal

pub returns : goal.returns
returns c =
    let i = c.self.inside in
    let last = ap (λ (p : Position). p.last) c.self.view_is in
    subst (λ (o : Option e.Event). IsText o c.as_str.result.now) last
    (subst (λ (x : List ℕ). IsText (last_of i.last i.text.bytes) x) (sym c.as_str.ensures)
    (text_is i.last i.text.bytes c.requires.0 (subst (λ (o : Option e.Event). IsText o c.requires.0) (sym last) c.requires.1)))
