-- A text is one profile, or fails one check first.
use Rattle.std.proofs.Common.{◌≡◌, ℕ, List, [], ◌++◌, Option, None, Some, refl, sym, ap, ◌∙◌, inl, inr, ◌⊎◌}
use Rattle.prof_grammar.specs.Event.{Event}
use Rattle.prof_grammar.specs.Grammar.{IsJson}
use Rattle.prof_grammar.specs.Reading.{IsReading, finished}
use Rattle.prof_grammar.specs.Value.{Value, flatten}
use Rattle.prof_grammar.specs.Accepted.{IsAccepted}
use Rattle.prof_grammar.specs.declared.TheConstants.{LONGEST}
use Rattle.prof_grammar.proofs.Complete.{json_run}
use Rattle.prof_grammar.proofs.Flat.{is_value}
use Rattle.prof_grammar.proofs.OneEnding.{when_finished}
use Rattle.prof_grammar.proofs.Unique.{one}
use Rattle.prof_tables.specs.Profiles.{ProfileTables}
use Rattle.prof_raw.specs.declared.rule.Broken.{Broken}
use Rattle.prof_layout.specs.Profile.{broken, profile_of, Stands, Breaks}

json_of : (text : List ℕ) (es : List Event) → IsReading LONGEST text es finished → IsJson text es
json_of text es h = (when_finished LONGEST text es h).0.json

-- a text has one value
pub same_value : (text : List ℕ) (v w : Value) → IsAccepted text v → IsAccepted text w → v ≡ w
same_value text v w i j =
    let a = json_run (json_of text (flatten v) i) in
    let b = json_run (json_of text (flatten w) j) in
    let same : flatten v ≡ flatten w = cc in
    let both : flatten v ++ [] ≡ flatten w ++ [] = ap (λ (es : List Event). es ++ []) same in
    (one v w [] [] both).0

pub same_profile : (text : List ℕ) (p q : ProfileTables) → Stands text p → Stands text q → p ≡ q
same_profile text p q h k = h.is ∙ ap profile_of (same_value text h.value k.value h.reads k.reads) ∙ sym k.is

pub same_check : (text : List ℕ) (b c : Broken) → Breaks text b → Breaks text c → b ≡ c
same_check text b c h k =
    let e : Some b ≡ Some c = sym h.first ∙ ap broken (same_value text h.value k.value h.reads k.reads) ∙ k.first in
    cc

pub not_both : (text : List ℕ) (p : ProfileTables) (b : Broken) → Stands text p → Breaks text b → ⊥
not_both text p b h k =
    let e : None ≡ Some b = sym h.whole ∙ ap broken (same_value text h.value k.value h.reads k.reads) ∙ k.first in
    cc

by_check : (text : List ℕ) (v : Value) (check : Option Broken) → IsAccepted text v → broken v ≡ check → ((p : ProfileTables) × Stands text p) ⊎ ((b : Broken) × Breaks text b)
by_check text v None h e = inl (profile_of v, record { value = v; reads = h; whole = e; is = refl })
by_check text v (Some b) h e = inr (b, record { value = v; reads = h; first = e })

pub either : (text : List ℕ) (es : List Event) → IsReading LONGEST text es finished → ((p : ProfileTables) × Stands text p) ⊎ ((b : Broken) × Breaks text b)
either text es h =
    let found = is_value (json_of text es h) in
    by_check text found.0 (broken found.0) (rw found.1 at h) refl
