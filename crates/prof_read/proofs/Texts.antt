-- A text of either form is one profile, or fails one check first.
use Rattle.std.proofs.Common.{◌≡◌, ℕ, List, Option, None, Some, refl, sym, ap, ◌∙◌, inl, inr, ◌⊎◌}
use Rattle.std.specs.Prelude.{true}
use Rattle.std.proofs.lemmas.Bool.{cases_Bool}
use Rattle.prof_grammar.specs.Event.{Event}
use Rattle.prof_grammar.specs.Reading.{IsReading, finished}
use Rattle.prof_grammar.specs.Value.{Value}
use Rattle.prof_grammar.specs.Accepted.{IsAccepted}
use Rattle.prof_grammar.specs.declared.TheConstants.{LONGEST}
use Rattle.prof_tables.specs.Profiles.{ProfileTables}
use Rattle.prof_raw.specs.declared.rule.Broken.{Broken}
use Rattle.prof_layout.specs.Profile.{is_processed, processed_broken, broken, unknown_format, profile_of}
use Rattle.prof_layout.specs.Profile as processed
use Rattle.prof_layout.proofs.Texts.{same_value}
use Rattle.prof_layout.proofs.Texts as layout
use Rattle.prof_gecko_layout.specs.GeckoProfile.{broken_of, profile_in}
use Rattle.prof_read.specs.declared.read.Form.{Form}
use Rattle.prof_read.specs.declared.read.Form.TheVariants.{Processed}
use Rattle.prof_read.specs.Texts.{Stands, Breaks, IsOfForm, form_of}

pub same_profile : (text : List ℕ) (p q : ProfileTables) → Stands text p → Stands text q → p ≡ q
same_profile text p q h k = h.is ∙ ap profile_in (same_value text h.value k.value h.reads k.reads) ∙ sym k.is

pub same_check : (text : List ℕ) (b c : Broken) → Breaks text b → Breaks text c → b ≡ c
same_check text b c h k =
    let e : Some b ≡ Some c = sym h.first ∙ ap broken_of (same_value text h.value k.value h.reads k.reads) ∙ k.first in
    cc

pub same_form : (text : List ℕ) (f g : Form) → IsOfForm text f → IsOfForm text g → f ≡ g
same_form text f g h k = h.is ∙ ap (λ (v : Value). form_of v) (same_value text h.value k.value h.reads k.reads) ∙ sym k.is

pub not_both : (text : List ℕ) (p : ProfileTables) (b : Broken) → Stands text p → Breaks text b → ⊥
not_both text p b h k =
    let e : None ≡ Some b = sym h.whole ∙ ap broken_of (same_value text h.value k.value h.reads k.reads) ∙ k.first in
    cc

by_check : (text : List ℕ) (v : Value) (check : Option Broken) → IsAccepted text v → broken_of v ≡ check → ((p : ProfileTables) × Stands text p) ⊎ ((b : Broken) × Breaks text b)
by_check text v None h e = inl (profile_in v, record { value = v; reads = h; whole = e; is = refl })
by_check text v (Some b) h e = inr (b, record { value = v; reads = h; first = e })

pub either : (text : List ℕ) (es : List Event) → IsReading LONGEST text es finished → ((p : ProfileTables) × Stands text p) ⊎ ((b : Broken) × Breaks text b)
either text es h = elim (layout.either text es h) [
  | inl stands ↦ by_check text stands.1.value (broken_of stands.1.value) stands.1.reads refl
  | inr breaks ↦ by_check text breaks.1.value (broken_of breaks.1.value) breaks.1.reads refl
]

-- ---- processed values

-- a processed value breaks what processed profiles break
pub broken-processed : (v : Value) → is_processed v ≡ true → broken_of v ≡ broken v
unfolding broken_of broken
broken-processed v e = rw e refl

pub profile-processed : (v : Value) → is_processed v ≡ true → profile_in v ≡ profile_of v
unfolding profile_in
profile-processed v e = rw e refl

-- what breaks nothing as a processed value is one
pub whole-processed : (v : Value) → broken v ≡ None → is_processed v ≡ true
unfolding broken
whole-processed v h = elim (cases_Bool (is_processed v)) [
  | inl t ↦ t
  | inr f ↦ (let k : Some unknown_format ≡ None = rw f at h in cc)
]

pub stands-processed : (text : List ℕ) (p : ProfileTables) → processed.Stands text p → Stands text p
stands-processed text p h =
    let is = whole-processed h.value h.whole in
    record { value = h.value; reads = h.reads; whole = broken-processed h.value is ∙ h.whole; is = h.is ∙ sym (profile-processed h.value is) }

pub form-processed : (text : List ℕ) (p : ProfileTables) → processed.Stands text p → IsOfForm text Processed
form-processed text p h =
    let is = whole-processed h.value h.whole in
    record { value = h.value; reads = h.reads; is = rw is refl }
