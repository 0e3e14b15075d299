use Rattle.std.proofs.Common.{◌≡◌, ℕ, ◌+◌, ◌<◌, ◌≤◌, ◌∷◌, ◌++◌, length, List, take, ap, sym, refl, subst, ◌∙◌, arith, inl, inr, []}
use Rattle.std.specs.Prelude.{◌⊎◌}
use Rattle.std.proofs.lemmas.List.{take_more}
use Rattle.prof_spell.specs.Pieces.{words}
use Rattle.prof_spell.proofs.Words.{one_more, among_get, Word, apart_any, all_words}
use Rattle.prof_spell.proofs.cursor.Cursor.one_of.Goals as goal
use Rattle.prof_spell.proofs.cursor.Cursor.one_of.Goals.{then-len, else-len}

pub returns-then-takes_word : goal.returns-then-takes_word
returns-then-takes_word g c = record {
  fits = rw c.word-item.is (among_get c.args.list.now c.words.word-index c.word-item.result c.words-test.true);
  split = sym c.words.invariant.0 ∙ sym c.ahead-ahead.ensures ∙ c.if-takes_word.ensures.yes refl ∙ ap (λ t. t ++ c.takes_word.new.self) c.word.ensures;
  apart = apart_any c.takes_word.new.self;
}

pub words-preserved : goal.words-preserved
words-preserved g c =
    let w = c.word-item.result in
    let i = c.words.word-index in
    let grown : take (i + 1) c.args.list.now ≡ take i c.args.list.now ++ w ∷ [] = take_more c.args.list.now i w c.words-test.true ∙ ap (λ v. take i c.args.list.now ++ v ∷ []) (sym c.word-item.is) in
    let start : c.ahead-ahead.result ≡ c.args.self.now = c.ahead-ahead.ensures ∙ c.words.invariant.0 in
    let stuck : Word (g.W.Word.word w) c.args.self.now c.takes_word.new.self =
    subst (λ (t : List ℕ). Word t c.args.self.now c.takes_word.new.self) c.word.ensures (subst (λ (t : List ℕ). Word c.word.result.now t c.takes_word.new.self) start (c.if-takes_word.ensures.no refl)) in
    let choice : ((c.if-len.farthest ≡ c.takes_word.new.self) × (length c.takes_word.new.self < length c.words.farthest)) ⊎ ((c.if-len.farthest ≡ c.words.farthest) × (length c.words.farthest ≤ length c.takes_word.new.self)) =
    elim c.if-len.branch [
      | then-len w ↦ inl (w.farthest-is, omega arith)
      | else-len w ↦ inr (w.farthest-is, omega arith)
    ] in
    (c.words.invariant.0, inr (one_more g.W.Word.word c.args.list.now i w c.args.self.now c.words.farthest c.takes_word.new.self c.if-len.farthest grown c.words.invariant.1 stuck choice))

pub returns : goal.returns
returns g c = all_words g.W.Word.word c.args.list.now c.words.word-index c.args.self.now c.words.farthest (omega arith) (omega arith) c.words.invariant.1
