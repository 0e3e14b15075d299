-- What is built of a value that was gathered.
use Rattle.std.specs.Prelude.{◌≡◌, Option, Some, None, Result, Ok, Err, ⊤}
use Rattle.prof_raw.specs.declared.rule.Broken.{Broken}
use Rattle.prof_read.specs.declared.refusal.ReadRefusal.{ReadRefusal}
use Rattle.prof_read.specs.declared.refusal.ReadRefusal.TheVariants as refusal

-- What is wanted where no check fails, told by a property, and else the first check that does. Want of memory is free.
abbrev pub ReadsAs : {X : Type 0} → (X → Type 0) → Result X ReadRefusal → Option Broken → Type 0
ReadsAs Is (Ok x) check = (check ≡ None) × Is x
ReadsAs Is (Err (refusal.Broken b)) check = check ≡ Some b
ReadsAs Is (Err (refusal.Json f)) check = ⊥
ReadsAs Is (Err refusal.ReadFault) check = ⊥
ReadsAs Is (Err refusal.NoMemory) check = ⊤

-- the same where a value is wanted
abbrev pub Reads : {X Y : Type 0} → (X → Y) → Result X ReadRefusal → Option Broken → Y → Type 0
Reads view result check wanted = ReadsAs (λ x. view x ≡ wanted) result check
