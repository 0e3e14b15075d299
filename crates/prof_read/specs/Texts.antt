-- What a text of either form stands for, or the first check that it fails.
use Rattle.std.specs.Prelude.{◌≡◌, ℕ, List, if◌then◌else◌, None, Some}
use Rattle.prof_grammar.specs.Value.{Value}
use Rattle.prof_grammar.specs.Accepted.{IsAccepted}
use Rattle.prof_raw.specs.declared.rule.Broken.{Broken}
use Rattle.prof_tables.specs.Profiles.{ProfileTables}
use Rattle.prof_layout.specs.Profile.{is_processed}
use Rattle.prof_gecko_layout.specs.GeckoProfile.{broken_of, profile_in}
use Rattle.prof_read.specs.declared.read.Form.{Form}
use Rattle.prof_read.specs.declared.read.Form.TheVariants.{Processed, Gecko}

-- the text is accepted, and is this profile
pub record Stands (text : List ℕ) (p : ProfileTables) : Type 0 where
  pub value : Value
  pub reads : IsAccepted text value
  pub whole : broken_of value ≡ None
  pub is : p ≡ profile_in value

-- the text is accepted, and this is the first check that it fails
pub record Breaks (text : List ℕ) (b : Broken) : Type 0 where
  pub value : Value
  pub reads : IsAccepted text value
  pub first : broken_of value ≡ Some b

-- the form of a value that is a profile
abbrev pub form_of : Value → Form
form_of v = if is_processed v then Processed else Gecko

-- the text is accepted, and its value is of this form
pub record IsOfForm (text : List ℕ) (form : Form) : Type 0 where
  pub value : Value
  pub reads : IsAccepted text value
  pub is : form ≡ form_of value
