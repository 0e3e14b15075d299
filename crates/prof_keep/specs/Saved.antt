-- The texts of saved sessions.
use Rattle.std.specs.Prelude.{◌≡◌, ⊤, ℕ, ◌<◌, ◌≤◌, true, List, [], ◌∷◌, ◌++◌, length, codes, Result, Ok, Err}
use Rattle.std.specs.Fmt.{decimal}
use Rattle.hex.specs.Hex.{encode_lower}
use Rattle.prof_spell.specs.Spelling.{Language, IsFault, Spells}
use Rattle.prof_spell.specs.Pieces.{EachFits}
use Rattle.prof_path.specs.Views.{ViewLists}
use Rattle.prof_address.specs.declared.kind.Form.{Form}
use Rattle.prof_address.specs.declared.kind.Form.TheVariants.{First, Second}
use Rattle.prof_address.specs.declared.refusal.TextRefusal.{TextRefusal}
use Rattle.prof_address.specs.declared.refusal.TextRefusal.TheVariants.{BadAddress, NoMemory}
use Rattle.prof_address.specs.Transforms.{u32s}
use Rattle.prof_address.specs.Views.{view_text, IsWrittenView, HasPaths}

-- a saved session: the profile's digest, the version, and the views with the place of the present one
pub record SavedLists : Type 0 where
  pub digest : List ℕ
  pub version : ℕ
  pub place : ℕ
  pub views : List ViewLists

-- the first line up to its digit, and the word of the second line, by the form of the text
abbrev pub head_text : Form → List ℕ
head_text First = codes "profdesk-session 1\ndigest "
head_text Second = codes "profdesk-session 2\ndigest "

-- a line for a view
abbrev pub line_text : ViewLists → List ℕ
line_text v = codes "view " ++ (view_text v ++ codes "\n")

abbrev pub lines_text : List ViewLists → List ℕ
lines_text [] = []
lines_text (v ∷ vs) = line_text v ++ lines_text vs

-- the text of a saved session
abbrev pub saved_text : Form → SavedLists → List ℕ
saved_text form s =
    head_text form ++ (encode_lower s.digest
    ++ (codes "\nversion " ++ (decimal s.version
    ++ (codes "\nplace " ++ (decimal s.place
    ++ (codes "\n" ++ lines_text s.views))))))

abbrev pub IsByte : ℕ → Type 0
IsByte b = b < 256

-- a saved session that has a text of the form: 1 to 100 views, and the place is below their number
pub record IsSaved (form : Form) (s : SavedLists) : Type 0 where
  pub digest : EachFits IsByte s.digest
  pub digest_length : length s.digest ≡ 32
  pub version : u32s.Fits s.version
  pub views : EachFits (IsWrittenView form) s.views
  pub few : length s.views ≤ 100
  pub place : s.place < length s.views

-- nothing stands behind such a text
abbrev pub saves : Language (Form × SavedLists)
saves = record { text = λ p. saved_text p.0 p.1; Fits = λ p. IsSaved p.0 p.1; goes = λ p b. true }

-- The saved session that has the text in one of the forms; or no session has it, and the place of the fault.
abbrev pub ReadsSaved : List ℕ → Result SavedLists TextRefusal → Type 0
ReadsSaved text (Ok s) = (form : Form) × Spells saves text (form, s)
ReadsSaved text (Err (BadAddress place)) = IsFault saves text place
ReadsSaved text (Err NoMemory) = ⊤

-- no path of a view is empty, there are 1 to 100 views, and the place is below their number
pub record MayBeSaved (s : SavedLists) : Type 0 where
  pub paths : EachFits HasPaths s.views
  pub few : length s.views ≤ 100
  pub place : s.place < length s.views
