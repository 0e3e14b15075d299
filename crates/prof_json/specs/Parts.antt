-- The parts of the machine that are still to come where a reader stands.
use Rattle.std.specs.Prelude.{List, [], ◌∷◌, codes, drop}
use Rattle.prof_grammar.specs.Grammar.{value, items, more_items, members, more_members}
use Rattle.prof_grammar.specs.Machine.{Part, mark, blank, symbol, word, a_colon}
use Rattle.prof_json.specs.Nest.{Nest}
use Rattle.prof_json.specs.declared.nesting.Bracket.{Bracket}
use Rattle.prof_json.specs.declared.nesting.Bracket.TheVariants.{Array, Object}
use Rattle.prof_json.specs.declared.nesting.Phase.{Phase}
use Rattle.prof_json.specs.declared.nesting.Phase.TheVariants.{Start, FirstItem, FirstMember, AfterName, AfterValue}

-- behind a value within these brackets, where these parts come behind the outermost of them
abbrev pub within : List Part → List Bracket → List Part
within ps [] = ps
within ps (Array ∷ xs) = within (blank ∷ symbol more_items ∷ ps) xs
within ps (Object ∷ xs) = within (blank ∷ symbol more_members ∷ ps) xs

-- behind a value of the text
abbrev pub behind : List Bracket → List Part
behind xs = within (blank ∷ []) xs

-- In this phase, where these parts come behind a value. Two of them are the innermost bracket's own.
abbrev pub parts_in : Phase → List Part → List Part
parts_in Start ps = mark ∷ blank ∷ symbol value ∷ ps
parts_in FirstItem ps = blank ∷ symbol items ∷ drop 2 ps
parts_in FirstMember ps = blank ∷ symbol members ∷ drop 2 ps
parts_in AfterName ps = blank ∷ word (codes ":") a_colon ∷ blank ∷ symbol value ∷ ps
parts_in AfterValue ps = ps

abbrev pub parts_of : Nest → List Part
parts_of nest = parts_in nest.phase (behind nest.open_)
