-- Refusals that are passed on, with the check that they name.
use Rattle.std.proofs.Common.{◌≡◌, ℕ, Option, None, Some, Result, Ok, Err, refl}
use Rattle.prof_raw.specs.declared.rule.Table.{Table}
use Rattle.prof_raw.specs.declared.rule.Column.{Column}
use Rattle.prof_raw.specs.declared.rule.ListFault.{ListFault}
use Rattle.prof_raw.specs.Checks.{named}
use Rattle.std.specs.Result.{IsErrAnd}
use Rattle.prof_raw.specs.declared.rule.Broken.{Broken}
use Rattle.prof_tables.specs.declared.refusal.BuildRefusal.{BuildRefusal}
use Rattle.prof_tables.specs.declared.refusal.BuildRefusal.TheVariants as build
use Rattle.prof_tables.specs.Builds.{Builds}
use Rattle.prof_read.specs.declared.refusal.ReadRefusal.{ReadRefusal}
use Rattle.prof_read.specs.declared.refusal.ReadRefusal.TheVariants as refusal
use Rattle.prof_read.specs.Refusals.{unbuilt}
use Rattle.prof_read.specs.Built.{ReadsAs}

-- a check that failed
pub names : {X : Type 0} (Is : X → Type 0) (r : Result X ReadRefusal) (b : Broken) (check : Option Broken) → check ≡ Some b → IsErrAnd r (λ e. e ≡ refusal.Broken b) → ReadsAs Is r check
names Is (Ok x) b check e h = absurd h
names Is (Err r) b check e h = rw h e

-- want of memory
pub no_memory : {X : Type 0} (Is : X → Type 0) (r : Result X ReadRefusal) (check : Option Broken) → IsErrAnd r (λ e. e ≡ refusal.NoMemory) → ReadsAs Is r check
no_memory Is (Ok x) check h = absurd h
no_memory Is (Err r) check h = rw h tt

-- a refusal of what was read before
pub names-on : {X Z : Type 0} (Was : Z → Type 0) (Is : X → Type 0) (refused : ReadRefusal) (r : Result X ReadRefusal) (first check : Option Broken) →
    ReadsAs Was (Err refused) first → ((b : Broken) → first ≡ Some b → check ≡ Some b) → IsErrAnd r (λ e. e ≡ refused) → ReadsAs Is r check
names-on Was Is refused (Ok x) first check was on h = absurd h
names-on Was Is (refusal.Broken b) (Err r) first check was on h = rw h (on b was)
names-on Was Is (refusal.Json f) (Err r) first check was on h = absurd was
names-on Was Is refusal.ReadFault (Err r) first check was on h = absurd was
names-on Was Is refusal.NoMemory (Err r) first check was on h = rw h tt

-- and of tables that weren't built
pub names-unbuilt : {X Y Z : Type 0} (view : Y → Z) (Is : X → Type 0) (refused : BuildRefusal) (r : Result X ReadRefusal) (first check : Option Broken) (wanted : Z) →
    Builds view (Err refused) first wanted → (first ≡ check) → IsErrAnd r (λ e. e ≡ unbuilt refused) → ReadsAs Is r check
names-unbuilt view Is refused (Ok x) first check wanted was on h = absurd h
names-unbuilt view Is (build.Broken b) (Err r) first check wanted was on h = rw (h, ← on) was
names-unbuilt view Is build.NoMemory (Err r) first check wanted was on h = rw h tt

-- a list that no check names breaks nothing
pub fault_none : (thread : Option ℕ) (t : Table) (c : Column) (fault : Option ListFault) → named thread t c fault ≡ None → fault ≡ None
fault_none thread t c None h = refl
fault_none thread t c (Some f) h = cc

pub both : {X Y : Type 0} {x z : X} {y w : Y} → x ≡ z → y ≡ w → ◌≡◌ {A = X × Y} (x, y) (z, w)
both e f = rw (e, f) refl
