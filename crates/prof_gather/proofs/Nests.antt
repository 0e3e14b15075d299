-- Which events may come within an object, an array and a member, and what they begin.
use Rattle.std.proofs.Common.{◌≡◌, ◌≢◌, ℕ, ◌<◌, List, [], ◌∷◌, refl, ap, sym, ◌∙◌}
use Rattle.std.specs.Prelude.{Some, None, true, false}
use Rattle.prof_grammar.specs.Event as told
use Rattle.prof_json.specs.declared.answer.Event.{Event}
use Rattle.prof_json.specs.declared.answer.Event.TheVariants as event
use Rattle.prof_gather.specs.Feeding.{Frame, in_array, in_object, in_member, in_text, Told, step, after_value, opening, Tells, IsOver, Gives, IsWithin, IsNamed, IsBegun, outside, but_first, IsFresh}

-- the event has begun a value, behind which this is open
pub record Opens (e : Event) (outer : List Frame) (old new : Told) : Type 0 where
  pub begun : IsBegun e new
  pub outside : outside e new.frames ≡ outer
  pub room : new.room < old.room

some_frames : (a b : List Frame) → Some a ≡ Some b → b ≡ a
some_frames a b e = cc

-- the frames behind an event
frames_after : (old new : Told) (t : told.Event) (frames a : List Frame) → old.frames ≡ frames → step frames t ≡ Some a → Tells old t new → new.frames ≡ a
frames_after old new t frames a h s g = some_frames a new.frames (sym s ∙ (ap (λ x. step x t) (sym h) ∙ g.frames))

never : (old new : Told) (t : told.Event) (frames : List Frame) → old.frames ≡ frames → step frames t ≡ None → Tells old t new → ⊥
never old new t frames h s g = let e : None ≡ Some new.frames = sym s ∙ (ap (λ x. step x t) (sym h) ∙ g.frames) in cc

never_over : (old new : Told) (f : Frame) (frames : List Frame) → old.frames ≡ f ∷ frames → IsOver old new → ⊥
never_over old new f frames h o = let e : f ∷ frames ≡ [] = sym h ∙ o.due in cc

-- a value that begins where the frames are these
opens : (e : Event) (old new : Told) (frames outer : List Frame) → old.frames ≡ frames → after_value frames ≡ Some outer
    → step frames told.array_end ≡ None → step frames told.object_end ≡ None → ((n : List ℕ) → step frames (told.name n) ≡ None) → (IsOver old new → ⊥)
    → Gives old e new → Opens e outer old new
opens event.ObjectStart old new frames outer h v a o n z g =
    let f = frames_after old new told.object_start frames (in_object ∷ outer) h (ap (opening in_object) v) g in
    record { begun = (outer, f, g.last); outside = ap but_first f; room = g.room }
opens event.ArrayStart old new frames outer h v a o n z g =
    let f = frames_after old new told.array_start frames (in_array ∷ outer) h (ap (opening in_array) v) g in
    record { begun = (outer, f, g.last); outside = ap but_first f; room = g.room }
opens event.Str old new frames outer h v a o n z g = record { begun = (g.0, g.1.last); outside = frames_after old new (told.str g.0) frames outer h v g.1; room = g.1.room }
opens event.Number old new frames outer h v a o n z g = record { begun = (g.0, g.1.last); outside = frames_after old new (told.number g.0) frames outer h v g.1; room = g.1.room }
opens event.True old new frames outer h v a o n z g = record { begun = g.last; outside = frames_after old new (told.truth true) frames outer h v g; room = g.room }
opens event.False old new frames outer h v a o n z g = record { begun = g.last; outside = frames_after old new (told.truth false) frames outer h v g; room = g.room }
opens event.Null old new frames outer h v a o n z g = record { begun = g.last; outside = frames_after old new told.null frames outer h v g; room = g.room }
opens event.ObjectEnd old new frames outer h v a o n z g = absurd (never old new told.object_end frames h o g)
opens event.ArrayEnd old new frames outer h v a o n z g = absurd (never old new told.array_end frames h a g)
opens event.Name old new frames outer h v a o n z g = absurd (never old new (told.name g.0) frames h (n g.0) g.1)
opens event.End old new frames outer h v a o n z g = absurd (z g)

-- the value of a member
pub member_opens : (e : Event) (old new : Told) (w : IsWithin in_member old) → Gives old e new → Opens e w.outer old new
member_opens e old new w g = opens e old new (in_member ∷ w.outer) w.outer w.frames refl refl refl (λ n. refl) (never_over old new in_member w.outer w.frames) g

-- the value of the whole text
pub text_opens : (e : Event) (old new : Told) → IsFresh old → Gives old e new → Opens e [] old new
text_opens e old new h g = opens e old new (in_text ∷ []) [] h refl refl refl (λ n. refl) (never_over old new in_text [] h) g

-- an item of an array
pub item_opens : (e : Event) (old new : Told) → IsWithin in_array old → e ≢ event.ArrayEnd → Gives old e new → Opens e old.frames old new
item_opens event.ArrayEnd old new w h g = absurd (h refl)
item_opens event.ObjectStart old new w h g =
    let f = frames_after old new told.object_start (in_array ∷ w.outer) (in_object ∷ in_array ∷ w.outer) w.frames refl g in
    record { begun = (in_array ∷ w.outer, f, g.last); outside = ap but_first f ∙ sym w.frames; room = g.room }
item_opens event.ArrayStart old new w h g =
    let f = frames_after old new told.array_start (in_array ∷ w.outer) (in_array ∷ in_array ∷ w.outer) w.frames refl g in
    record { begun = (in_array ∷ w.outer, f, g.last); outside = ap but_first f ∙ sym w.frames; room = g.room }
item_opens event.Str old new w h g = record { begun = (g.0, g.1.last); outside = frames_after old new (told.str g.0) (in_array ∷ w.outer) (in_array ∷ w.outer) w.frames refl g.1 ∙ sym w.frames; room = g.1.room }
item_opens event.Number old new w h g = record { begun = (g.0, g.1.last); outside = frames_after old new (told.number g.0) (in_array ∷ w.outer) (in_array ∷ w.outer) w.frames refl g.1 ∙ sym w.frames; room = g.1.room }
item_opens event.True old new w h g = record { begun = g.last; outside = frames_after old new (told.truth true) (in_array ∷ w.outer) (in_array ∷ w.outer) w.frames refl g ∙ sym w.frames; room = g.room }
item_opens event.False old new w h g = record { begun = g.last; outside = frames_after old new (told.truth false) (in_array ∷ w.outer) (in_array ∷ w.outer) w.frames refl g ∙ sym w.frames; room = g.room }
item_opens event.Null old new w h g = record { begun = g.last; outside = frames_after old new told.null (in_array ∷ w.outer) (in_array ∷ w.outer) w.frames refl g ∙ sym w.frames; room = g.room }
item_opens event.ObjectEnd old new w h g = absurd (never old new told.object_end (in_array ∷ w.outer) w.frames refl g)
item_opens event.Name old new w h g = absurd (never old new (told.name g.0) (in_array ∷ w.outer) w.frames refl g.1)
item_opens event.End old new w h g = absurd (never_over old new in_array w.outer w.frames g)

-- the end of an array, and of an object
pub array_ends : (old new : Told) (w : IsWithin in_array old) → Gives old event.ArrayEnd new → (new.frames ≡ w.outer) × (new.room < old.room)
array_ends old new w g = (frames_after old new told.array_end (in_array ∷ w.outer) w.outer w.frames refl g, g.room)

pub object_ends : (old new : Told) (w : IsWithin in_object old) → Gives old event.ObjectEnd new → (new.frames ≡ w.outer) × (new.room < old.room)
object_ends old new w g = (frames_after old new told.object_end (in_object ∷ w.outer) w.outer w.frames refl g, g.room)

-- the name of a member
pub member_named : (old new : Told) (w : IsWithin in_object old) → Gives old event.Name new → (new.frames ≡ in_member ∷ old.frames) × IsNamed new × (new.room < old.room)
member_named old new w g =
    let f = frames_after old new (told.name g.0) (in_object ∷ w.outer) (in_member ∷ in_object ∷ w.outer) w.frames refl g.1 in
    (f ∙ ap (λ x. in_member ∷ x) (sym w.frames), record { outer = in_object ∷ w.outer; frames = f; name = g.0; last = g.1.last }, g.1.room)

-- within an object nothing else may come
pub only_members : (e : Event) (old new : Told) → IsWithin in_object old → e ≢ event.ObjectEnd → e ≢ event.Name → Gives old e new → ⊥
only_members event.ObjectEnd old new w a b g = a refl
only_members event.Name old new w a b g = b refl
only_members event.ObjectStart old new w a b g = never old new told.object_start (in_object ∷ w.outer) w.frames refl g
only_members event.ArrayStart old new w a b g = never old new told.array_start (in_object ∷ w.outer) w.frames refl g
only_members event.ArrayEnd old new w a b g = never old new told.array_end (in_object ∷ w.outer) w.frames refl g
only_members event.Str old new w a b g = never old new (told.str g.0) (in_object ∷ w.outer) w.frames refl g.1
only_members event.Number old new w a b g = never old new (told.number g.0) (in_object ∷ w.outer) w.frames refl g.1
only_members event.True old new w a b g = never old new (told.truth true) (in_object ∷ w.outer) w.frames refl g
only_members event.False old new w a b g = never old new (told.truth false) (in_object ∷ w.outer) w.frames refl g
only_members event.Null old new w a b g = never old new told.null (in_object ∷ w.outer) w.frames refl g
only_members event.End old new w a b g = never_over old new in_object w.outer w.frames g
