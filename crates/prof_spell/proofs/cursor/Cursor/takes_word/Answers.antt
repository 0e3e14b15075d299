use Rattle.std.proofs.Common.{ap, refl, sym, ◌∙◌, get_or, take, ◌++◌}
use Rattle.std.specs.Prelude.{Some}
use Rattle.prof_spell.specs.Spelling.{first}
use Rattle.prof_spell.proofs.Words.{literal_stuck}
use Rattle.prof_spell.proofs.cursor.Cursor.takes_word.Goals as goal

pub returns-then-not-takes-clause-no : goal.returns-then-not-takes-clause-no
returns-then-not-takes-clause-no c =
    let same = c.as_bytes-byte-items.ensures.value in
    let no = c.if-not-takes.ensures.no refl in
    let i = c.bytes.byte-index in
    λ h. literal_stuck c.args.word.now i c.args.self.now c.takes.new.self (rw (← same) c.bytes-test.true)
    (c.bytes.invariant ∙ ap (λ w. take i w ++ c.bytes.self) same ∙ ap (λ s. take i c.args.word.now ++ s) (sym no.0))
    (λ e. no.1 (ap first (sym no.0) ∙ e ∙ ap (λ w. Some (get_or w i 0)) (sym same)))
