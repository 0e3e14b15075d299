-- What a build answers.
use Rattle.std.specs.Prelude.{◌≡◌, Option, None, Some, Result, Ok, Err}
use Rattle.prof_raw.specs.declared.rule.Broken.{Broken}
use Rattle.prof_tables.specs.declared.refusal.BuildRefusal.{BuildRefusal}
use Rattle.prof_tables.specs.declared.refusal.BuildRefusal.TheVariants as refusal

-- The value that is wanted where no check fails, and else the first check that does. Want of memory is free.
abbrev pub Builds : {X Y : Type 0} → (X → Y) → Result X BuildRefusal → Option Broken → Y → Type 0
Builds view (Ok x) check wanted = (check ≡ None) × (view x ≡ wanted)
Builds view (Err (refusal.Broken b)) check wanted = check ≡ Some b
Builds view (Err refusal.NoMemory) check wanted = Unit {0}
