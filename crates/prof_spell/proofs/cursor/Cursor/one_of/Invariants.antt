use Rattle.std.proofs.Common.{◌≡◌}
use Rattle.prof_spell.proofs.Words.{WordsSoFar}
use Rattle.prof_spell.proofs.cursor.Cursor.one_of.Given as goal

abbrev pub invariant-words : goal.invariant-words
invariant-words g l = (l.self ≡ l.fn.self) × WordsSoFar g.W.Word.word l.list l.word-index l.fn.self l.farthest
