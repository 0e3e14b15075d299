-- Refusals that are passed on, with the check that they name.
use Rattle.std.proofs.Common.{◌≡◌, Option, Some, Result, Ok, Err}
use Rattle.std.specs.Result.{IsErrAnd}
use Rattle.prof_raw.specs.declared.rule.Broken.{Broken}
use Rattle.prof_tables.specs.declared.refusal.BuildRefusal.{BuildRefusal}
use Rattle.prof_tables.specs.declared.refusal.BuildRefusal.TheVariants as refusal
use Rattle.prof_tables.specs.Builds.{Builds}

-- a check that failed
pub names : {X Y : Type 0} (view : X → Y) (r : Result X BuildRefusal) (b : Broken) (check : Option Broken) (wanted : Y) → check ≡ Some b → IsErrAnd r (λ e. e ≡ refusal.Broken b) → Builds view r check wanted
names view (Ok x) b check wanted e h = absurd h
names view (Err r) b check wanted e h = rw h e

-- want of memory
pub no_memory : {X Y : Type 0} (view : X → Y) (r : Result X BuildRefusal) (check : Option Broken) (wanted : Y) → IsErrAnd r (λ e. e ≡ refusal.NoMemory) → Builds view r check wanted
no_memory view (Ok x) check wanted h = absurd h
no_memory view (Err r) check wanted h = rw h tt

-- a refusal of a part that was built
pub names-on : {X Y Z W : Type 0} (was : Z → W) (view : X → Y) (refused : BuildRefusal) (r : Result X BuildRefusal) (first check : Option Broken) (part : W) (wanted : Y) →
    Builds was (Err refused) first part → ((b : Broken) → first ≡ Some b → check ≡ Some b) → IsErrAnd r (λ e. e ≡ refused) → Builds view r check wanted
names-on was view refused (Ok x) first check part wanted h on e = absurd e
names-on was view (refusal.Broken b) (Err r) first check part wanted h on e = rw e (on b h)
names-on was view refusal.NoMemory (Err r) first check part wanted h on e = rw e tt
