use Rattle.std.proofs.Common.{◌≡◌, ◌++◌}
use Rattle.percent_encoding.specs.Iter.{encoded_text}
use Rattle.percent_encoding.specs.Percent.{percent_encode}
use Rattle.prof_spell.specs.declared.writing.TheConstants.{RESERVED}
use Rattle.prof_spell.proofs.writing.push_search.Given as goal

abbrev pub invariant-pieces : goal.invariant-pieces
invariant-pieces l = l.text ++ encoded_text l.piece-iterator ≡ l.fn.text ++ percent_encode RESERVED l.fn.search
