-- The files that an order reads.
use Rattle.std.specs.Prelude.{◌≡◌, ◌≤◌, ◌<◌, ℕ, length, zero, suc, List, [], ◌∷◌, Option, Some, None, IfSome, IsSome, ⊤, option_map}
use Rattle.prof_io.specs.Shelf.{Place, Shelf, content, file_at}
use Rattle.prof_gather.specs.Feeding.{IsOfText}
use Rattle.prof_gather.specs.Reading.{EndsBy}
use Rattle.prof_read.specs.declared.read.Form.{Form}
use Rattle.prof_read.specs.Texts.{Stands, Breaks, IsOfForm}
use Rattle.prof_tables.specs.Profiles.{ProfileTables}
use Rattle.sha2.specs.Sha256.{sha256}
use Rattle.prof_desk.specs.Orders.{Kind, a_profile, a_script}
use Rattle.prof_desk.specs.declared.breaks.Break.{Break}
use Rattle.prof_desk.specs.declared.breaks.Break.TheVariants as break

-- what an accepted file is: a profile with its digest and the form of its text, or a script's bytes
pub data Input : Type 0 where
  of_profile : ProfileTables → List ℕ → Form → Input
  of_script : List ℕ → Input

-- a profile as it is read
abbrev pub profile_input : ProfileTables × List ℕ × Form → Input
profile_input r = of_profile r.0 r.1 r.2

-- how many bytes a script may have
abbrev pub script_limit : ℕ
script_limit = 16777216

-- the bytes are accepted, and are this
abbrev pub IsInput : Kind → List ℕ → Input → Type 0
IsInput a_profile bytes (of_profile p digest form) = Stands bytes p × (digest ≡ sha256 bytes) × IsOfForm bytes form
IsInput a_script bytes (of_script text) = (text ≡ bytes) × (length bytes ≤ script_limit)
IsInput kind bytes input = ⊥

-- The text isn't accepted, and for this: the fault by which its reading ends, which is one of a text, or the first check
-- that it fails. A script isn't accepted for its length alone.
abbrev pub IsBreak : Kind → Option (List ℕ) → Break → Type 0
IsBreak a_profile text (break.Json f) = IsOfText f × EndsBy f text
IsBreak a_profile text (break.Rule b) = IfSome text (λ bytes. Breaks bytes b)
IsBreak a_script text break.LongScript = IfSome text (λ bytes. script_limit < length bytes)
IsBreak kind text b = ⊥

-- the bytes of the file of that name, where the files tell their bytes
abbrev pub text_in : Place → List ℕ → Option (List ℕ)
text_in place name = option_map (λ shelf. content shelf name) place.files

-- the first files are accepted, and are these
abbrev pub AreInputs : Place → List (Kind × List ℕ) → List Input → Type 0
AreInputs place files [] = ⊤
AreInputs place [] (input ∷ inputs) = ⊥
AreInputs place (file ∷ files) (input ∷ inputs) = IfSome (text_in place file.1) (λ bytes. IsInput file.0 bytes input) × AreInputs place files inputs

-- the file behind so many isn't accepted, and for this
abbrev pub IsBreakAt : Place → List (Kind × List ℕ) → ℕ → Break → Type 0
IsBreakAt place [] at b = ⊥
IsBreakAt place (file ∷ files) zero b = IsBreak file.0 (text_in place file.1) b
IsBreakAt place (file ∷ files) (suc at) b = IsBreakAt place files at b

-- the name of the file behind so many
abbrev pub name_at : List (Kind × List ℕ) → ℕ → List ℕ
name_at [] at = []
name_at (file ∷ files) zero = file.1
name_at (file ∷ files) (suc at) = name_at files at

-- the files tell that this one is there
abbrev pub IsThere : Option Shelf → List ℕ → Type 0
IsThere None name = ⊥
IsThere (Some shelf) name = IsSome (file_at shelf name)

abbrev pub AreThere : Option Shelf → List (Kind × List ℕ) → Type 0
AreThere shelf [] = ⊤
AreThere shelf (file ∷ files) = IsThere shelf file.1 × AreThere shelf files
