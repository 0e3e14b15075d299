-- Why a text wasn't gathered.
use Rattle.std.specs.Prelude.{◌≡◌, ℕ, List, Option, ⊤}
use Rattle.prof_io.specs.Causes.{Rose}
use Rattle.prof_gather.specs.Feeding.{IsOfText}
use Rattle.prof_gather.specs.Reading.{EndsBy}
use Rattle.prof_gather.specs.declared.refusal.GatherRefusal.{GatherRefusal}
use Rattle.prof_gather.specs.declared.refusal.GatherRefusal.TheVariants as refusal

-- The source's count rose where the source has failed. A fault of JSON comes only where it didn't rise, and the reading
-- of the text ends by it.
abbrev pub IsCaused : GatherRefusal → Option (List ℕ) → ℕ → ℕ → Type 0
IsCaused refusal.ReadFault text before now = Rose before now
IsCaused (refusal.Json f) text before now = (now ≡ before) × IsOfText f × EndsBy f text
IsCaused refusal.NoMemory text before now = ⊤
