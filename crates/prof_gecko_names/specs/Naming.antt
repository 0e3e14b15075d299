-- How a function is named: its name, its file and its resource, before their texts have places.
use Rattle.std.specs.Prelude.{ℕ, ◌-◌, ◌==◌, List, [], ◌∷◌, ◌++◌, Bool, true, false, ◌&&◌, ◌||◌, if◌then◌else◌, Option, None, Some, nat_le, nat_lt, take, drop, codes}
use Rattle.std.specs.List.{prefix_len}
use Rattle.std.specs.Option.{option_map_or}
use Rattle.std.specs.Fmt.{digits}
use Rattle.prof_location.specs.Cutting.{begins}
use Rattle.prof_location.specs.Locations.{Kind, address, script, label, kind_of, is_decimal}
use Rattle.prof_gecko_names.specs.Libraries.{Lib, library_of, lib_at}

-- A to Z and a to z
abbrev pub is_letter : ℕ → Bool
is_letter c = (nat_le 65 c && nat_le c 90) || (nat_le 97 c && nat_le c 122)

-- these, 0 to 9, the point and the dash
abbrev pub is_host_character : ℕ → Bool
is_host_character c = is_decimal c || is_letter c || c == 46 || c == 45

-- the end, or one of `/`, `:`, `?` and `#`
abbrev pub ends_host : List ℕ → Bool
ends_host [] = true
ends_host (c ∷ text) = c == 47 || c == 58 || c == 63 || c == 35

-- The longest run of a host's characters, where it isn't empty and its end is a host's end. Else the file's text.
abbrev pub host_in : List ℕ → List ℕ → List ℕ
host_in file rest =
    let n = prefix_len is_host_character rest in
    if nat_lt 0 n && ends_host (drop n rest) then take n rest else file

-- the name of a JavaScript file's resource: the host behind `http://` or `https://`, and else the file's text
unfoldable pub resource_name : List ℕ → List ℕ
resource_name file =
    if begins (codes "http://") file then host_in file (drop 7 file)
    else if begins (codes "https://") file then host_in file (drop 8 file)
    else file

-- a resource: a library, or that of the JavaScript files of one name
pub record Resource : Type 0 where
  pub lib : Option ℕ
  pub name : List ℕ

-- a function
pub record Named : Type 0 where
  pub name : List ℕ
  pub is_js : Bool
  pub file : Option (List ℕ)
  pub resource : Option Resource

-- a function that its location's text names, without file and resource
abbrev pub plain : List ℕ → Named
plain text = record { name = text; is_js = false; file = None; resource = None }

-- an address in a library is named by its offset
abbrev pub in_library : List Lib → ℕ → ℕ → Named
in_library libs a l = record {
  name = codes "0x" ++ digits 16 false (a - (lib_at libs l).start);
  is_js = false;
  file = None;
  resource = Some (record { lib = Some l; name = (lib_at libs l).name });
}

-- a JavaScript function of a file
abbrev pub scripted : List ℕ → List ℕ → Named
scripted name file = record {
  name = name;
  is_js = true;
  file = Some file;
  resource = Some (record { lib = None; name = resource_name file });
}

abbrev pub named_for : List Lib → List ℕ → Kind → Named
named_for libs text (address (Some a)) = option_map_or (in_library libs a) (library_of libs a) (plain text)
named_for libs text (address None) = plain text
named_for libs text (script s) = scripted s.name s.file
named_for libs text label = plain text

-- the function of a location
abbrev pub named_of : List Lib → List ℕ → Named
named_of libs text = named_for libs text (kind_of text)
