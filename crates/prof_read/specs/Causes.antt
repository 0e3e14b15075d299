-- Why a text wasn't read as a profile.
use Rattle.std.specs.Prelude.{◌≡◌, ℕ, List, Option, IfSome, ⊤}
use Rattle.prof_io.specs.Causes.{Rose}
use Rattle.prof_gather.specs.Feeding.{IsOfText}
use Rattle.prof_gather.specs.Reading.{EndsBy}
use Rattle.prof_read.specs.Texts.{Breaks}
use Rattle.prof_read.specs.declared.refusal.ReadRefusal.{ReadRefusal}
use Rattle.prof_read.specs.declared.refusal.ReadRefusal.TheVariants as refusal

-- The source's count rose where the source has failed. What is told of the text comes only where it didn't rise: a fault of
-- JSON is the one by which the reading of the text ends, and a broken rule the first check that the text fails.
abbrev pub IsCaused : ReadRefusal → Option (List ℕ) → ℕ → ℕ → Type 0
IsCaused refusal.ReadFault text before now = Rose before now
IsCaused (refusal.Json f) text before now = (now ≡ before) × IsOfText f × EndsBy f text
IsCaused (refusal.Broken b) text before now = (now ≡ before) × IfSome text (λ bytes. Breaks bytes b)
IsCaused refusal.NoMemory text before now = ⊤
