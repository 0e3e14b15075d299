-- What the readers of whole texts answer.
use Rattle.std.specs.Prelude.{ℕ, List, ⊤, Result, Ok, Err}
use Rattle.prof_spell.specs.Spelling.{Language, IsFault, Spells}
use Rattle.prof_address.specs.declared.refusal.TextRefusal.{TextRefusal}
use Rattle.prof_address.specs.declared.refusal.TextRefusal.TheVariants.{BadAddress, NoMemory}

-- The one value that has the text; or no value has it, and the place is the length of the longest front with which
-- some value's text begins.
abbrev pub ReadsWhole : {V : Type 0} → Language V → List ℕ → Result V TextRefusal → Type 0
ReadsWhole L text (Ok v) = Spells L text v
ReadsWhole L text (Err (BadAddress place)) = IsFault L text place
ReadsWhole L text (Err NoMemory) = ⊤
