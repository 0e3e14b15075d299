use Rattle.std.proofs.Common.{◌≡◌, ◌++◌, take}
use Rattle.prof_spell.proofs.cursor.Cursor.takes_word.Given as goal

abbrev pub invariant-bytes : goal.invariant-bytes
invariant-bytes l = l.fn.self ≡ take l.byte-index l.byte-items ++ l.self
