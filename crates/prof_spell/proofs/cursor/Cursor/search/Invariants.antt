use Rattle.std.proofs.Common.{length}
use Rattle.prof_spell.specs.declared.utf8.Due.TheVariants.{Character}
use Rattle.prof_spell.specs.Escapes.{escape_chain}
use Rattle.prof_spell.proofs.Chained.{Came}
use Rattle.prof_spell.proofs.cursor.Cursor.search.Given as goal

abbrev pub invariant-bytes : goal.invariant-bytes
invariant-bytes l = Came escape_chain Character l.fn.self l.bytes.items l.due l.self

abbrev pub decreases-bytes : goal.decreases-bytes
decreases-bytes l = length l.self
