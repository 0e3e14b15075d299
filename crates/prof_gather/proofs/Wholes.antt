-- What is read of a whole text.
use Rattle.std.proofs.Common.{true, false, ◌≡◌, ◌≢◌, ℕ, List, [], ◌∷◌, ◌++◌, refl, sym, ap, subst, ◌∙◌, append-nil}
use Rattle.std.specs.Prelude.{Option, Some, None, IfSome}
use Rattle.prof_grammar.specs.Event as told
use Rattle.prof_grammar.specs.Machine.{start}
use Rattle.prof_grammar.specs.Reading.{IsReading, finished}
use Rattle.prof_grammar.specs.Told.{Reading, reading, tell, stop}
use Rattle.prof_grammar.specs.Value.{Value, flatten}
use Rattle.prof_grammar.specs.Accepted.{IsAccepted}
use Rattle.prof_grammar.specs.declared.TheConstants.{LONGEST}
use Rattle.prof_json.specs.declared.answer.Event.{Event}
use Rattle.prof_json.specs.declared.answer.Event.TheVariants as event
use Rattle.prof_gather.specs.Feeding.{Told, Gives, Tells, IsOver, step}
use Rattle.prof_json.specs.Position.{Position, fresh}
use Rattle.prof_grammar.proofs.Ended.{reads_right}
use Rattle.prof_gather.specs.Reading.{rest_of, Comes, Ends}
use Rattle.prof_gather.specs.Taking.{Reads}
use Rattle.prof_gather.specs.Whole.{IsAll}

-- where nothing is open the text is over
pub over : (e : Event) (old new : Told) → old.frames ≡ [] → Gives old e new → IsOver old new
over event.End old new h g = g
over event.ObjectStart old new h g = absurd (let e : None ≡ Some new.frames = sym (ap (λ x. step x told.object_start) h) ∙ g.frames in cc)
over event.ObjectEnd old new h g = absurd (let e : None ≡ Some new.frames = sym (ap (λ x. step x told.object_end) h) ∙ g.frames in cc)
over event.ArrayStart old new h g = absurd (let e : None ≡ Some new.frames = sym (ap (λ x. step x told.array_start) h) ∙ g.frames in cc)
over event.ArrayEnd old new h g = absurd (let e : None ≡ Some new.frames = sym (ap (λ x. step x told.array_end) h) ∙ g.frames in cc)
over event.Name old new h g = absurd (let e : None ≡ Some new.frames = sym (ap (λ x. step x (told.name g.0)) h) ∙ g.1.frames in cc)
over event.Str old new h g = absurd (let e : None ≡ Some new.frames = sym (ap (λ x. step x (told.str g.0)) h) ∙ g.1.frames in cc)
over event.Number old new h g = absurd (let e : None ≡ Some new.frames = sym (ap (λ x. step x (told.number g.0)) h) ∙ g.1.frames in cc)
over event.True old new h g = absurd (let e : None ≡ Some new.frames = sym (ap (λ x. step x (told.truth true)) h) ∙ g.frames in cc)
over event.False old new h g = absurd (let e : None ≡ Some new.frames = sym (ap (λ x. step x (told.truth false)) h) ∙ g.frames in cc)
over event.Null old new h g = absurd (let e : None ≡ Some new.frames = sym (ap (λ x. step x told.null) h) ∙ g.frames in cc)

all_of : (a b : Option Reading) (v : Value) → Comes a (flatten v) b → Ends b → IsAll a v
all_of None b v c e = tt
all_of (Some r) None v c e = absurd c
all_of (Some r) (Some s) v c e = c ∙ ap (tell (flatten v)) e

-- the value is the whole text
pub is_all : (old now new : Told) (v : Value) (e : Event) → Reads old now v → now.frames ≡ [] → Gives now e new → IsAll old.rest v
is_all old now new v e r f g = all_of old.rest now.rest v r.told (over e now new f g).whole

-- a text whose value is all that is read of it is accepted
accepted : (t : List ℕ) (v : Value) → reading LONGEST 0 start t ≡ tell (flatten v) (stop finished) → IsAccepted t v
accepted t v e =
    let is : IsReading LONGEST t (reading LONGEST 0 start t).events (reading LONGEST 0 start t).ending = reads_right LONGEST t in
    let told_all : (reading LONGEST 0 start t).events ≡ flatten v = ap (λ (r : Reading). r.events) e ∙ append-nil (flatten v) in
    let ended : (reading LONGEST 0 start t).ending ≡ finished = ap (λ (r : Reading). r.ending) e in
    subst (λ x. IsReading LONGEST t x finished) told_all (subst (λ x. IsReading LONGEST t (reading LONGEST 0 start t).events x) ended is)

pub whole_text : (P : Value → Type 0) (text left : Option (List ℕ)) (p : Position) → p ≡ fresh LONGEST → text ≡ left → (v : Value) × IsAll (rest_of p left) v × P v → IfSome text (λ t. (v : Value) × IsAccepted t v × P v)
whole_text P None left p e f h = tt
whole_text P (Some t) left p e f h =
    let all : IsAll (rest_of (fresh LONGEST) (Some t)) h.0 = subst (λ (o : Option (List ℕ)). IsAll (rest_of (fresh LONGEST) o) h.0) (sym f) (subst (λ (q : Position). IsAll (rest_of q left) h.0) e h.1) in
    (h.0, accepted t h.0 all, h.2)
