-- The names of the members of a placed table.
use Rattle.std.specs.Prelude.{ℕ, List, codes}
use Rattle.prof_schema.specs.declared.table.PlacedMember.{PlacedMember}
use Rattle.prof_schema.specs.declared.table.PlacedMember.TheVariants.{Schema, Data}

abbrev pub placed_name : PlacedMember → List ℕ
placed_name Schema = codes "schema"
placed_name Data = codes "data"
