-- What the function of a location stands for.
use Rattle.std.specs.Prelude.{◌≡◌, ℕ, ◌-◌, List, [], Bool, false, ◌&&◌, Option, None, Some, nat_eq, unwrap_or, slice_index_or}
use Rattle.std.specs.Option.{option_map_or}
use Rattle.prof_raw.specs.Texts.{first_place}
use Rattle.prof_location.specs.Locations.{Kind, address, script, label, kind_of}
use Rattle.prof_gecko_names.specs.Libraries.{Lib, library_of, lib_at}
use Rattle.prof_gecko_names.specs.declared.func.FuncKey.{FuncKey}
use Rattle.prof_gecko_names.specs.declared.func.FuncKey.TheVariants as key

-- the text of a place, which is empty past the end
abbrev pub text_at : List (List ℕ) → ℕ → List ℕ
text_at strings place = slice_index_or strings place []

-- an address in a library
abbrev pub by_library : List Lib → ℕ → ℕ → FuncKey
by_library libs a l = key.Lib l (a - (lib_at libs l).start)

-- a location by its text, which has its first place
abbrev pub by_text : List (List ℕ) → ℕ → FuncKey
by_text strings place = key.Text (unwrap_or (first_place strings (text_at strings place)) place)

-- An address in a library stands for that and its offset, and every other location for its text.
abbrev pub key_for : List Lib → List (List ℕ) → ℕ → Kind → FuncKey
key_for libs strings place (address (Some a)) =
    option_map_or (by_library libs a) (library_of libs a) (by_text strings place)
key_for libs strings place (address None) = by_text strings place
key_for libs strings place (script s) = by_text strings place
key_for libs strings place label = by_text strings place

-- what the function stands for of the location at a place of the strings
abbrev pub key_of : List Lib → List (List ℕ) → ℕ → FuncKey
key_of libs strings place = key_for libs strings place (kind_of (text_at strings place))

abbrev pub same_key : FuncKey → FuncKey → Bool
same_key (key.Lib l o) (key.Lib m p) = nat_eq l m && nat_eq o p
same_key (key.Lib l o) (key.Text q) = false
same_key (key.Text p) (key.Lib m o) = false
same_key (key.Text p) (key.Text q) = nat_eq p q

-- what is known of the places that were looked at
abbrev pub IsKnown : List Lib → List (List ℕ) → List (Option FuncKey) → Type 0
IsKnown libs strings known =
    (p : ℕ) (k : FuncKey) → slice_index_or known p None ≡ Some k → k ≡ key_of libs strings p
