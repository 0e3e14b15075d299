-- What a location is, without its loans.
use Rattle.std.specs.Prelude.{ℕ, List, Option}
use Rattle.std.specs.Option.{option_map, option_copied}
use Rattle.std.specs.Borrow.{Bor}
use Rattle.prof_location.specs.Locations.{Script, Kind, address, script, label}
use Rattle.prof_location.specs.declared.location.Location.{Location}
use Rattle.prof_location.specs.declared.location.Location.TheVariants as location
use Rattle.prof_location.specs.declared.location.Parts.{Parts}

-- the parts of a JavaScript location
abbrev pub script_shown : Bor (List ℕ) → Bor (List ℕ) → Bor (List ℕ) → Option (Bor (List ℕ)) → Script
script_shown name file line column =
    record { name = name.now; file = file.now; line = line.now; column = option_copied column }

-- a location
abbrev pub shown : Location → Kind
shown (location.Address value) = address value
shown (location.Script name file line column) = script (script_shown name file line column)
shown location.Label = label

abbrev pub parts_shown : Parts → Script
parts_shown p = script_shown p.name p.file p.line p.column

-- the two sides of a cut
abbrev pub pair_shown : Option (Bor (List ℕ) × Bor (List ℕ)) → Option (List ℕ × List ℕ)
pair_shown pair = option_map (λ p. (p.0.now, p.1.now)) pair
