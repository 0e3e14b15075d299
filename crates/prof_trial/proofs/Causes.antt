-- A text that stands for a profile is read as that, and as nothing else.
use Rattle.std.proofs.Common.{◌≡◌, ◌≢◌, ℕ, List, Option, Some, refl, subst}
use Rattle.std.specs.Prelude.{IfSome}
use Rattle.prof_grammar.specs.Accepted.{IsAccepted}
use Rattle.prof_grammar.specs.Machine.{start}
use Rattle.prof_grammar.specs.Reading.{Ending, finished}
use Rattle.prof_grammar.specs.Told.{reading}
use Rattle.prof_grammar.specs.Value.{Value, flatten}
use Rattle.prof_grammar.specs.declared.TheConstants.{LONGEST}
use Rattle.prof_grammar.proofs.Ended.{reads_right}
use Rattle.prof_grammar.proofs.OneEnding.{one_ending}
use Rattle.prof_token.specs.declared.fault.JsonFault.{JsonFault}
use Rattle.prof_token.specs.declared.fault.JsonFault.TheVariants.{NotJson, TooDeep, TooLong, ReadFault, NoMemory}
use Rattle.prof_gather.specs.Feeding.{IsOfText}
use Rattle.prof_gather.specs.Reading.{EndsBy, IsEnding}
use Rattle.prof_raw.specs.declared.rule.Broken.{Broken}
use Rattle.prof_read.specs.Causes.{IsCaused}
use Rattle.prof_read.specs.Texts.{Stands, Breaks}
use Rattle.prof_read.specs.declared.refusal.ReadRefusal.{ReadRefusal}
use Rattle.prof_read.specs.declared.refusal.ReadRefusal.TheVariants as refusal
use Rattle.prof_read.proofs.Texts.{not_both, same_profile}
use Rattle.prof_tables.specs.Profiles.{ProfileTables}

ends_finished : (text : List ℕ) (v : Value) → IsAccepted text v → (reading LONGEST 0 start text).ending ≡ finished
ends_finished text v h = one_ending LONGEST text (reading LONGEST 0 start text).events (flatten v) (reading LONGEST 0 start text).ending finished (reads_right LONGEST text) h

-- a finished reading ends by no fault of the text
no_fault : (f : JsonFault) (e : Ending) → e ≡ finished → IsOfText f → IsEnding f e → ⊥
no_fault (NotJson at) e done of ends = cc
no_fault (TooDeep at) e done of ends = cc
no_fault TooLong e done of ends = cc
no_fault ReadFault e done of ends = of
no_fault NoMemory e done of ends = of

-- what is told of a source that had a text to give
told : (P : List ℕ → Type 0) (left : Option (List ℕ)) (text : List ℕ) → left ≡ Some text → IfSome left P → P text
told P left text e h = subst (λ (o : Option (List ℕ)). IfSome o P) e h

no_json : (text : List ℕ) (p : ProfileTables) (left : Option (List ℕ)) (f : JsonFault) → Stands text p → left ≡ Some text → IsOfText f → EndsBy f left → ⊥
no_json text p left f stands e of ends = no_fault f (reading LONGEST 0 start text).ending (ends_finished text stands.value stands.reads) of (told (λ bytes. IsEnding f (reading LONGEST 0 start bytes).ending) left text e ends)

no_break : (text : List ℕ) (p : ProfileTables) (left : Option (List ℕ)) (b : Broken) → Stands text p → left ≡ Some text → IfSome left (λ bytes. Breaks bytes b) → ⊥
no_break text p left b stands e breaks = not_both text p b stands (told (λ bytes. Breaks bytes b) left text e breaks)

-- so nothing else is refused than for want of memory, where the source doesn't fail
pub only_memory : (text : List ℕ) (p : ProfileTables) (left : Option (List ℕ)) (before now : ℕ) (r : ReadRefusal) → Stands text p → left ≡ Some text → IsCaused r left before now → r ≢ refusal.ReadFault
    → r ≡ refusal.NoMemory
only_memory text p left before now (refusal.Json f) stands e cause steady = absurd (no_json text p left f stands e cause.1 cause.2)
only_memory text p left before now (refusal.Broken b) stands e cause steady = absurd (no_break text p left b stands e cause.1)
only_memory text p left before now refusal.ReadFault stands e cause steady = absurd (steady refl)
only_memory text p left before now refusal.NoMemory stands e cause steady = refl

pub this_profile : (text : List ℕ) (p q : ProfileTables) (left : Option (List ℕ)) → Stands text p → left ≡ Some text → IfSome left (λ bytes. Stands bytes q) → q ≡ p
this_profile text p q left stands e h = same_profile text q p (told (λ bytes. Stands bytes q) left text e h) stands
