use Rattle.std.proofs.Common.{◌≡◌, ◌++◌, ◌<◌, [], sym, ap, ◌∙◌, append-nil, arith}
use Rattle.std.specs.Prelude.{All}
use Rattle.std.proofs.lemmas.List.Elements.{All-from_get_or}
use Rattle.percent_encoding.specs.Iter.{encoded_text}
use Rattle.prof_spell.proofs.WritingLemmas.{encoded_search}
use Rattle.prof_spell.proofs.writing.push_search.Goals as goal

pub returns : goal.returns
returns c =
    let small : All (λ b. b < 256) c.args.search.now = All-from_get_or (λ b. b < 256) c.args.search.now 0 (λ i within. omega (arith, c.type_inv.search i)) in
    let none : encoded_text c.pieces.piece-iterator ≡ [] = c.in-None.ensures.steps in
    sym (append-nil c.pieces.text) ∙ ap (λ t. c.pieces.text ++ t) (sym none) ∙ c.pieces.invariant ∙ ap (λ t. c.args.text.now ++ t) (encoded_search c.args.search.now small)
