-- What the turns of the loops over items and members read.
use Rattle.std.proofs.Common.{Bool, inl, inr, ◌≡◌, ◌≢◌, ℕ, List, [], ◌∷◌, ◌++◌, refl, sym, ap, subst, ◌∙◌, true, false}
use Rattle.std.specs.Prelude.{Option, Some, None, ◌⊎◌}
use Rattle.prof_grammar.specs.Event as told
use Rattle.prof_grammar.specs.Value.{Value, Values, no_values, Members, no_members, snoc, items, flatten, flatten_values, flatten_members}
use Rattle.prof_json.specs.declared.answer.Event.{Event}
use Rattle.prof_json.specs.declared.answer.Event.TheVariants as event
use Rattle.prof_gather.specs.Feeding.{Told, Gives, IsBegun}
use Rattle.prof_gather.specs.Reading.{Comes}
use Rattle.prof_gather.specs.Taking.{Reads, ReadsOn, ReadsItems, ReadsMembers, Begins, TakesMember, TakesItem, IsFound, IsTaken}
use Rattle.prof_gather.specs.declared.objects.Found.{Found}
use Rattle.prof_gather.specs.declared.objects.Found.TheVariants as found
use Rattle.prof_gather.specs.declared.objects.Kind.{Kind}
use Rattle.prof_gather.specs.declared.objects.Kind.TheVariants as kind
use Rattle.prof_gather.proofs.Comings.{comes_here, comes_trans, comes_as}
use Rattle.prof_gather.proofs.Values.{push, items-push, flatten-push, flatten-snoc}

-- the members so far, and what was gathered of them
pub record MembersSoFar {S : Type 0} (Is : Members → S → Type 0) (start now : Told) (s : S) : Type 0 where
  pub members : Members
  pub comes : Comes start.rest (flatten_members members) now.rest
  pub is : Is members s

pub no_member : {S : Type 0} (Is : Members → S → Type 0) (t : Told) (s : S) → Is no_members s → MembersSoFar Is t t s
no_member Is t s i = record { members = no_members; comes = comes_here t.rest; is = i }

same_name : (l : Option told.Event) (m n : List ℕ) → l ≡ Some (told.name m) → l ≡ Some (told.name n) → m ≡ n
same_name l m n a b = let e : Some (told.name m) ≡ Some (told.name n) = sym a ∙ b in cc

pub one_member : {S : Type 0} (Is : Members → S → Type 0) (start now named new : Told) (s t : S) → MembersSoFar Is start now s → Gives now event.Name named → TakesMember Is named new s t → MembersSoFar Is start new t
one_member Is start now named new s t m g k =
    let e : g.0 ≡ k.name = same_name named.last g.0 k.name g.1.last k.last in
    let first : Comes now.rest (told.name k.name ∷ flatten k.value) new.rest = comes_trans now.rest named.rest new.rest (told.name k.name ∷ []) (flatten k.value) (subst (λ x. Comes now.rest (told.name x ∷ []) named.rest) e g.1.rest) k.reads.told in
    record {
      members = snoc m.members k.name k.value;
      comes = comes_as start.rest new.rest _ _ (sym (flatten-snoc m.members k.name k.value)) (comes_trans start.rest now.rest new.rest (flatten_members m.members) (told.name k.name ∷ flatten k.value) m.comes first);
      is = k.taken m.members m.is;
    }

pub members_end : {S : Type 0} (Is : Members → S → Type 0) (start now new : Told) (s : S) → MembersSoFar Is start now s → Gives now event.ObjectEnd new → (ms : Members) × ReadsMembers start new ms × Is ms s
members_end Is start now new s m g = (m.members, record { told = comes_trans start.rest now.rest new.rest (flatten_members m.members) (told.object_end ∷ []) m.comes g.rest }, m.is)

-- the items so far, and what was gathered of them
pub record ItemsSoFar {S : Type 0} (Is : S → List Value → S → Type 0) (first : S) (start now : Told) (s : S) : Type 0 where
  pub values : Values
  pub comes : Comes start.rest (flatten_values values) now.rest
  pub is : Is first (items values) s

pub no_item : {S : Type 0} (Is : S → List Value → S → Type 0) (t : Told) (s : S) → Is s [] s → ItemsSoFar Is s t t s
no_item Is t s i = record { values = no_values; comes = comes_here t.rest; is = i }

-- the event that was given is the last one
pub gives_told : (e : Event) (old new : Told) → e ≢ event.End → Gives old e new → (t : told.Event) × (new.last ≡ Some t) × Comes old.rest (t ∷ []) new.rest
gives_told event.ObjectStart old new n g = (told.object_start, g.last, g.rest)
gives_told event.ObjectEnd old new n g = (told.object_end, g.last, g.rest)
gives_told event.ArrayStart old new n g = (told.array_start, g.last, g.rest)
gives_told event.ArrayEnd old new n g = (told.array_end, g.last, g.rest)
gives_told event.Name old new n g = (told.name g.0, g.1.last, g.1.rest)
gives_told event.Str old new n g = (told.str g.0, g.1.last, g.1.rest)
gives_told event.Number old new n g = (told.number g.0, g.1.last, g.1.rest)
gives_told event.True old new n g = (told.truth true, g.last, g.rest)
gives_told event.False old new n g = (told.truth false, g.last, g.rest)
gives_told event.Null old new n g = (told.null, g.last, g.rest)
gives_told event.End old new n g = absurd (n refl)

same_event : (l : Option told.Event) (a b : told.Event) → l ≡ Some a → l ≡ Some b → a ≡ b
same_event l a b p q = let e : Some a ≡ Some b = sym p ∙ q in cc

-- a value whose first event was given, and then its others
pub reads_on : (e : Event) (old now new : Told) (v : Value) → e ≢ event.End → Gives old e now → ReadsOn now new v → Reads old new v
reads_on e old now new v n g r =
    let t = gives_told e old now n g in
    let same : t.0 ≡ r.begins.first = same_event now.last t.0 r.begins.first t.1 r.begins.last in
    let all : Comes old.rest (r.begins.first ∷ r.begins.others) new.rest = comes_trans old.rest now.rest new.rest (r.begins.first ∷ []) r.begins.others (subst (λ x. Comes old.rest (x ∷ []) now.rest) same t.2) r.told in
    record { told = comes_as old.rest new.rest _ _ (sym r.begins.is) all }

pub one_item : {S : Type 0} (Is : S → List Value → S → Type 0) (first : S) (start now begun new : Told) (e : Event) (s t : S) → e ≢ event.End → ItemsSoFar Is first start now s → Gives now e begun → TakesItem Is begun new s t → ItemsSoFar Is first start new t
one_item Is first start now begun new e s t n m g k =
    let r = reads_on e now begun new k.value n g k.reads in
    record {
      values = push m.values k.value;
      comes = comes_as start.rest new.rest _ _ (sym (flatten-push m.values k.value)) (comes_trans start.rest now.rest new.rest (flatten_values m.values) (flatten k.value) m.comes r.told);
      is = subst (λ vs. Is first vs t) (sym (items-push m.values k.value)) (k.taken first (items m.values) m.is);
    }

pub items_end : {S : Type 0} (Is : S → List Value → S → Type 0) (first : S) (start now new : Told) (s : S) → ItemsSoFar Is first start now s → Gives now event.ArrayEnd new → (vs : Values) × ReadsItems start new vs × Is first (items vs) s
items_end Is first start now new s m g = (m.values, record { told = comes_trans start.rest now.rest new.rest (flatten_values m.values) (told.array_end ∷ []) m.comes g.rest }, m.is)

-- ---- values behind their first event

pub object_behind : (old new : Told) (ms : Members) → old.last ≡ Some told.object_start → ReadsMembers old new ms → ReadsOn old new (Value.object ms)
object_behind old new ms l r = record { begins = record { first = told.object_start; others = flatten_members ms ++ told.object_end ∷ []; last = l; is = refl }; told = r.told }

pub array_behind : (old new : Told) (vs : Values) → old.last ≡ Some told.array_start → ReadsItems old new vs → ReadsOn old new (Value.array vs)
array_behind old new vs l r = record { begins = record { first = told.array_start; others = flatten_values vs ++ told.array_end ∷ []; last = l; is = refl }; told = r.told }

-- an event that is a whole value
abbrev pub IsScalar : Event → Type 0
IsScalar e = (e ≡ event.Str) ⊎ ((e ≡ event.Number) ⊎ ((e ≡ event.True) ⊎ ((e ≡ event.False) ⊎ (e ≡ event.Null))))

pub scalar_behind : (e : Event) (t : Told) → IsScalar e → IsBegun e t → (v : Value) × ReadsOn t t v
scalar_behind e t (inl h) g = let b = subst (λ x. IsBegun x t) h g in (Value.string b.0, record { begins = record { first = told.str b.0; others = []; last = b.1; is = refl }; told = comes_here t.rest })
scalar_behind e t (inr (inl h)) g = let b = subst (λ x. IsBegun x t) h g in (Value.number b.0, record { begins = record { first = told.number b.0; others = []; last = b.1; is = refl }; told = comes_here t.rest })
scalar_behind e t (inr (inr (inl h))) g = let b = subst (λ x. IsBegun x t) h g in (Value.boolean true, record { begins = record { first = told.truth true; others = []; last = b; is = refl }; told = comes_here t.rest })
scalar_behind e t (inr (inr (inr (inl h)))) g = let b = subst (λ x. IsBegun x t) h g in (Value.boolean false, record { begins = record { first = told.truth false; others = []; last = b; is = refl }; told = comes_here t.rest })
scalar_behind e t (inr (inr (inr (inr h)))) g = let b = subst (λ x. IsBegun x t) h g in (Value.null, record { begins = record { first = told.null; others = []; last = b; is = refl }; told = comes_here t.rest })

-- a value of one event, which is neither an object, an array nor null
pub data IsOther : Value → Type 0 where
  string : {t : List ℕ} → IsOther (Value.string t)
  number : {t : List ℕ} → IsOther (Value.number t)
  boolean : {b : Bool} → IsOther (Value.boolean b)

pub other_found : {T : Type 0} (Is : Members → T → Type 0) (v : Value) → IsOther v → IsFound Is v found.Other
other_found Is v string = refl
other_found Is v number = refl
other_found Is v boolean = refl

pub other_taken : {S : Type 0} (Is : S → List Value → S → Type 0) (v : Value) (s t : S) → IsOther v → t ≡ s → IsTaken Is v s kind.Other t
other_taken Is v s t string e = (refl, e)
other_taken Is v s t number e = (refl, e)
other_taken Is v s t boolean e = (refl, e)
