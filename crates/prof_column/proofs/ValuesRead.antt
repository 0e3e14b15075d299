-- Values that are read, by their first event and what comes behind it.
use Rattle.std.proofs.Common.{◌≡◌, ℕ, List, [], ◌∷◌, Option, Some, None, refl, sym, ◌∙◌, ap, subst}
use Rattle.std.specs.Prelude.{Result, Ok, Err, OnOk}
use Rattle.prof_grammar.specs.Event as told
use Rattle.prof_grammar.specs.Told.{Reading, tell}
use Rattle.prof_grammar.specs.Value.{Value, flatten}
use Rattle.prof_json.specs.declared.answer.Event.{Event}
use Rattle.prof_json.specs.declared.answer.Event.TheVariants as event
use Rattle.prof_gather.specs.Reading.{Comes}
use Rattle.prof_gather.specs.Feeding.{Told, Tells, Gives, IsWithin, in_member}
use Rattle.prof_gather.specs.Taking.{Reads, ReadsOn}

-- nothing comes
pub comes-none : (a : Option Reading) → Comes a [] a
comes-none None = tt
comes-none (Some r) = refl

-- events behind an event
comes-behind : (a b c : Option Reading) (e : told.Event) (es : List told.Event) → Comes a (e ∷ []) b → Comes b es c → Comes a (e ∷ es) c
comes-behind None b c e es p q = tt
comes-behind (Some r) None c e es p q = absurd p
comes-behind (Some r) (Some s) None e es p q = absurd q
comes-behind (Some r) (Some s) (Some t) e es p q = p ∙ ap (tell (e ∷ [])) q

tells-on : (old mid new : Told) (e : told.Event) (v : Value) → Tells old e mid → ReadsOn mid new v → Reads old new v
tells-on old mid new e v t on =
    let same : on.begins.first ≡ e = let a : mid.last ≡ Some on.begins.first = on.begins.last in let b : mid.last ≡ Some e = t.last in cc in
    let is : e ∷ on.begins.others ≡ flatten v = ap (λ (f : told.Event). f ∷ on.begins.others) (sym same) ∙ sym on.begins.is in
    record { told = subst (λ (es : List told.Event). Comes old.rest es new.rest) is (comes-behind old.rest mid.rest new.rest e on.begins.others t.rest on.told) }

-- a member's value, whose first event came and then the rest of it
pub reads-on : (old mid new : Told) (first : Event) (v : Value) → IsWithin in_member old → Gives old first mid → ReadsOn mid new v → Reads old new v
reads-on old mid new event.ObjectStart v w g on = tells-on old mid new _ v g on
reads-on old mid new event.ObjectEnd v w g on = tells-on old mid new _ v g on
reads-on old mid new event.ArrayStart v w g on = tells-on old mid new _ v g on
reads-on old mid new event.ArrayEnd v w g on = tells-on old mid new _ v g on
reads-on old mid new event.Name v w g on = tells-on old mid new _ v g.1 on
reads-on old mid new event.Str v w g on = tells-on old mid new _ v g.1 on
reads-on old mid new event.Number v w g on = tells-on old mid new _ v g.1 on
reads-on old mid new event.True v w g on = tells-on old mid new _ v g on
reads-on old mid new event.False v w g on = tells-on old mid new _ v g on
reads-on old mid new event.Null v w g on = tells-on old mid new _ v g on
reads-on old mid new event.End v w g on = let a = g.due in let b = w.frames in absurd (cc)

-- a number, a string and null are events of their own
pub reads-number : (old new : Told) (text : List ℕ) → Gives old event.Number new → new.last ≡ Some (told.number text) → Reads old new (Value.number text)
reads-number old new text g last =
    let same : g.0 ≡ text = let a = g.1.last in cc in
    record { told = subst (λ (t : List ℕ). Comes old.rest (told.number t ∷ []) new.rest) same g.1.rest }

pub reads-string : (old new : Told) (text : List ℕ) → Gives old event.Str new → new.last ≡ Some (told.str text) → Reads old new (Value.string text)
reads-string old new text g last =
    let same : g.0 ≡ text = let a = g.1.last in cc in
    record { told = subst (λ (t : List ℕ). Comes old.rest (told.str t ∷ []) new.rest) same g.1.rest }

pub reads-null : (old new : Told) → Gives old event.Null new → Reads old new Value.null
reads-null old new g = record { told = g.rest }

-- a string's item is read with its first event
pub on-string : (t : Told) (text : List ℕ) → t.last ≡ Some (told.str text) → ReadsOn t t (Value.string text)
on-string t text last = record { begins = record { first = told.str text; others = []; last = last; is = refl }; told = comes-none t.rest }

-- what follows where the call went well
pub on-ok : {T E A B : Type 0} (r : Result T E) → (A → B) → OnOk r A → OnOk r B
on-ok (Ok x) f a = f a
on-ok (Err e) f a = tt
