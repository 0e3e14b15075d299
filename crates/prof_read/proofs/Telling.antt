-- What is told of a whole text: its profile, the first check that it fails, or the fault by which its reading ends.
use Rattle.std.proofs.Common.{◌≡◌, ℕ, List, Option, None, Some, IfSome, Result, Ok, Err, subst}
use Rattle.std.specs.Result.{IfErr, IsErrAnd}
use Rattle.prof_grammar.specs.Value.{Value}
use Rattle.prof_grammar.specs.Accepted.{IsAccepted}
use Rattle.prof_tables.specs.Profiles.{ProfileTables}
use Rattle.prof_gecko_layout.specs.GeckoProfile.{broken_of, profile_in}
use Rattle.prof_gather.specs.declared.refusal.GatherRefusal.{GatherRefusal}
use Rattle.prof_gather.specs.declared.refusal.GatherRefusal.TheVariants as gather
use Rattle.prof_gather.specs.declared.objects.Found.{Found}
use Rattle.prof_gather.specs.Causes as gathering
use Rattle.prof_gather.specs.Taking.{IsFound}
use Rattle.prof_read.specs.declared.refusal.ReadRefusal.{ReadRefusal}
use Rattle.prof_read.specs.declared.refusal.ReadRefusal.TheVariants as refusal
use Rattle.prof_either.specs.Parts.{AreParts}
use Rattle.prof_either.specs.declared.gathered.EitherParts.{EitherParts}
use Rattle.prof_read.specs.Refusals.{ungathered}
use Rattle.prof_read.specs.Bases.{IsBuilding}
use Rattle.prof_read.specs.Built.{ReadsAs}
use Rattle.prof_read.specs.Causes.{IsCaused}
use Rattle.prof_read.specs.Texts.{Stands, IsOfForm, form_of}
use Rattle.prof_read.specs.declared.read.Form.{Form}

-- a text that wasn't gathered
pub told_gathering : {X : Type 0} (refused : GatherRefusal) (r : Result X ReadRefusal) (text : Option (List ℕ)) (before now : ℕ) → gathering.IsCaused refused text before now →
    IsErrAnd r (λ e. e ≡ ungathered refused) → IfErr r (λ e. IsCaused e text before now)
told_gathering refused (Ok x) text before now caused h = absurd h
told_gathering (gather.Json f) (Err e) text before now caused h = rw h caused
told_gathering gather.ReadFault (Err e) text before now caused h = rw h caused
told_gathering gather.NoMemory (Err e) text before now caused h = rw h tt

-- the value of the text, and what was gathered of it
abbrev pub IsGatheredFrom : Option (List ℕ) → Found EitherParts → Type 0
IsGatheredFrom text parts = IfSome text (λ bytes. (v : Value) × IsAccepted bytes v × IsFound AreParts v parts)

-- what was built is wanted
abbrev pub IsBuiltBy : Result (ProfileTables × Form) ReadRefusal → Found EitherParts → Type 0
IsBuiltBy r parts = (v : Value) → IsFound AreParts v parts → ReadsAs (λ x. x.0 ≡ profile_in v) r (broken_of v)

-- a text that fails a check
pub told_checking : {X : Type 0} (refused : ReadRefusal) (r : Result X ReadRefusal) (text : Option (List ℕ)) (before now : ℕ) (parts : Found EitherParts) → IsBuilding refused → IsBuiltBy (Err refused) parts →
    now ≡ before → IsGatheredFrom text parts → IsErrAnd r (λ e. e ≡ refused) → IfErr r (λ e. IsCaused e text before now)
told_checking refused (Ok x) text before now parts building built calm there h = absurd h
told_checking (refusal.Broken b) (Err e) None before now parts building built calm there h = rw h (calm, tt)
told_checking (refusal.Broken b) (Err e) (Some text) before now parts building built calm there h = rw h (calm, record { value = there.0; reads = there.1; first = built there.0 there.2 })
told_checking (refusal.Json f) (Err e) text before now parts building built calm there h = absurd building
told_checking refusal.ReadFault (Err e) text before now parts building built calm there h = absurd building
told_checking refusal.NoMemory (Err e) text before now parts building built calm there h = rw h tt

-- no source fails while a profile is built
pub no_fault : {X : Type 0} (refused : ReadRefusal) (r : Result X ReadRefusal) → IsBuilding refused → IsErrAnd r (λ e. e ≡ refused) → r ≡ Err refusal.ReadFault → ⊥
no_fault refused (Ok x) building h q = absurd h
no_fault refused (Err e) building h q =
    let same : refused ≡ refusal.ReadFault = cc in
    subst IsBuilding same building

-- a text that is a profile
pub told_profile : (x : ProfileTables × Form) (text : Option (List ℕ)) (parts : Found EitherParts) → IsBuiltBy (Ok x) parts → IsGatheredFrom text parts → IfSome text (λ bytes. Stands bytes x.0)
told_profile x None parts built there = tt
told_profile x (Some text) parts built there =
    let is = built there.0 there.2 in
    record { value = there.0; reads = there.1; whole = is.0; is = is.1 }

-- and of a form
pub told_form : (form : Form) (text : Option (List ℕ)) (parts : Found EitherParts) → ((v : Value) → IsFound AreParts v parts → form ≡ form_of v) → IsGatheredFrom text parts → IfSome text (λ bytes. IsOfForm bytes form)
told_form form None parts is there = tt
told_form form (Some text) parts is there = record { value = there.0; reads = there.1; is = is there.0 there.2 }
