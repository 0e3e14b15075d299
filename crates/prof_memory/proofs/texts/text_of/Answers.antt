use Rattle.std.proofs.Common.{sym, ap, ◌∙◌, Some, List, ℕ}
use Rattle.prof_memory.proofs.KeptTexts.{found_text, lacking_text}
use Rattle.prof_memory.proofs.texts.text_of.Goals as goal

pub returns-then-place-entries : goal.returns-then-place-entries
returns-then-place-entries c = sym (lacking_text c.args.entries.now c.args.key.now c.find-place.result c.find-place.ensures c.if-place-entries.true)

pub returns : goal.returns
returns c =
    ap (λ (t : List ℕ). Some t) (c.in_ok-text.ensures ∙ ap (λ (e : List ℕ × List ℕ). e.1) (sym c.index-entries-place.is))
    ∙ sym (found_text c.args.entries.now c.args.key.now c.find-place.result c.index-entries-place.result c.find-place.ensures c.if-place-entries.false c.index-entries-place.is)
