-- Values that were read to their end behind their first event.
use Rattle.std.proofs.Common.{◌≡◌, ◌≢◌, ◌≤◌, ◌<◌, ℕ, List, [], ◌∷◌, inl, inr, refl, sym, ap, subst, ◌∙◌, arith}
use Rattle.std.specs.Prelude.{Result, Ok, Err, OnOk, IfOk, ◌⊎◌, true, false}
use Rattle.prof_grammar.specs.Event as told
use Rattle.prof_grammar.specs.Value.{Value, Values, Members}
use Rattle.prof_json.specs.declared.answer.Event.{Event}
use Rattle.prof_json.specs.declared.answer.Event.TheVariants as event
use Rattle.prof_gather.specs.declared.refusal.GatherRefusal.{GatherRefusal}
use Rattle.prof_gather.specs.Feeding.{Frame, Told, Gives, IsBegun, IsWithin, IsFresh, Finishes, Passes, outside, in_member}
use Rattle.prof_gather.specs.Taking.{Reads, ReadsOn}
use Rattle.prof_gather.proofs.Comings.{comes_here}
use Rattle.prof_gather.proofs.Nests.{Opens}
use Rattle.prof_gather.proofs.Turnings.{IsOther, string, number, boolean, reads_on}

pub on_ok_map : {T P Q : Type 0} (r : Result T GatherRefusal) → (P → Q) → OnOk r P → OnOk r Q
on_ok_map (Ok x) f p = f p
on_ok_map (Err e) f p = tt

pub if_ok_map : {T : Type 0} {P Q : T → Type 0} (r : Result T GatherRefusal) → ((x : T) → P x → Q x) → IfOk r P → IfOk r Q
if_ok_map (Ok x) f p = f x p
if_ok_map (Err e) f p = tt

-- a value that has begun isn't the end
pub begun_goes : (e : Event) (t : Told) → IsBegun e t → e ≢ event.End
begun_goes event.End t h q = absurd h
begun_goes event.ObjectStart t h q = cc
begun_goes event.ObjectEnd t h q = cc
begun_goes event.ArrayStart t h q = cc
begun_goes event.ArrayEnd t h q = cc
begun_goes event.Name t h q = cc
begun_goes event.Str t h q = cc
begun_goes event.Number t h q = cc
begun_goes event.True t h q = cc
begun_goes event.False t h q = cc
begun_goes event.Null t h q = cc

-- behind the whole value nothing is open but what was open around it
pub then_outside : (e : Event) (outer : List Frame) (old now new : Told) → Opens e outer old now → Finishes e now new → new.frames ≡ outer
then_outside e outer old now new o f = f.frames ∙ o.outside

-- a member's whole value was read
pub member_passes : (e : Event) (old now new : Told) (w : IsWithin in_member old) → Opens e w.outer old now → Finishes e now new → Passes old new
member_passes e old now new w o f =
    let less = o.room in
    let then = f.room in
    record {
      frames = λ g frames is. then_outside e w.outer old now new o f ∙ (let same : in_member ∷ w.outer ≡ g ∷ frames = sym w.frames ∙ is in cc);
      room = omega arith;
    }

pub value_reads : (e : Event) (old now new : Told) (outer : List Frame) (v : Value) → Opens e outer old now → Gives old e now → ReadsOn now new v → Reads old new v
value_reads e old now new outer v o g r = reads_on e old now new v (begun_goes e now o.begun) g r

-- an event that is a whole value, and not null
pub other_behind : (e : Event) (t : Told) → ((e ≡ event.Str) ⊎ ((e ≡ event.Number) ⊎ ((e ≡ event.True) ⊎ (e ≡ event.False)))) → IsBegun e t → (v : Value) × ReadsOn t t v × IsOther v
other_behind e t (inl h) g = let b = subst (λ x. IsBegun x t) h g in (Value.string b.0, record { begins = record { first = told.str b.0; others = []; last = b.1; is = refl }; told = comes_here t.rest }, string)
other_behind e t (inr (inl h)) g = let b = subst (λ x. IsBegun x t) h g in (Value.number b.0, record { begins = record { first = told.number b.0; others = []; last = b.1; is = refl }; told = comes_here t.rest }, number)
other_behind e t (inr (inr (inl h))) g = let b = subst (λ x. IsBegun x t) h g in (Value.boolean true, record { begins = record { first = told.truth true; others = []; last = b; is = refl }; told = comes_here t.rest }, boolean)
other_behind e t (inr (inr (inr h))) g = let b = subst (λ x. IsBegun x t) h g in (Value.boolean false, record { begins = record { first = told.truth false; others = []; last = b; is = refl }; told = comes_here t.rest }, boolean)

pub null_behind : (t : Told) → IsBegun event.Null t → ReadsOn t t Value.null
null_behind t b = record { begins = record { first = told.null; others = []; last = b; is = refl }; told = comes_here t.rest }
