-- A session stays sound
use Rattle.std.proofs.Common.{◌≡◌, ◌≢◌, ℕ, ◌+◌, ◌-◌, ◌<◌, ◌≤◌, ◌==◌, ◌⊎◌, inl, inr, List, [], ◌∷◌, ◌++◌, length, get_or, map, take, drop, true, false, Bool, None, Some, Option, unwrap_or, refl, sym, ap, ◌∙◌, subst, arith, length-append, length-drop}
use Rattle.std.specs.Prelude.{Result, Ok, Err, OnOk}
use Rattle.std.specs.List.{All}
use Rattle.std.proofs.lemmas.Bool.Decides.{Decides-eqb}
use Rattle.std.proofs.lemmas.List.{get_or-drop}
use Rattle.std.proofs.lemmas.List.Elements.{All-append, All-take, All-drop}
use Rattle.std.proofs.Math.Seq.{get_or-append_seam}
use Rattle.prof_path.specs.Views.{ViewLists}
use Rattle.prof_layer.specs.Simulates.{LayerLists}
use Rattle.prof_address.specs.Parts.{fresh}
use Rattle.prof_request.specs.declared.request.Command.{Command}
use Rattle.prof_request.specs.declared.request.Command.TheVariants as ask
use Rattle.prof_machine.specs.Known.{Known, thread_at, thread_of, intervals}
use Rattle.prof_machine.specs.Session.{Session, present, with_view, changed, changed_view, is_change}
use Rattle.prof_machine.specs.Machine.{view_refusal, content_refusal}
use Rattle.prof_machine.proofs.RuleLemmas.{accepted}
use Rattle.prof_session.specs.Seated.{Seated, IsSound, KeepsLayers, bare}

abbrev IsAccepted : Known → ViewLists → Type 0
IsAccepted p v = view_refusal p v ≡ None

one : (p : Known) (v : ViewLists) → IsAccepted p v → All (IsAccepted p) (v ∷ [])
one p v h = grind arith

-- the present view is accepted
pub present_accepted : (p : Known) (seat : Seated) → IsSound p seat → seat.session.place < length seat.session.views → view_refusal p (present seat.session) ≡ None
present_accepted p seat sound within = sound.views seat.session.place (fresh 0) within

pub put_accepted : (p : Known) (s : Session) (v : ViewLists) → All (IsAccepted p) s.views → IsAccepted p v → All (IsAccepted p) (with_view s v).views
put_accepted p s v h g =
    All-drop (IsAccepted p) _ (take (s.place + 1) s.views ++ v ∷ []) (All-append (IsAccepted p) (take (s.place + 1) s.views) (v ∷ []) (All-take (IsAccepted p) (s.place + 1) s.views h) (one p v g))

-- the views of a session that is changed
pub changed_accepted : (p : Known) (s : Session) (c : Command) → All (IsAccepted p) s.views → s.place < length s.views
    → content_refusal p (present s) s.place (length s.views) c ≡ None → All (IsAccepted p) (changed s c).views
changed_accepted p s (ask.Undo at) h within g = h
changed_accepted p s (ask.Redo at) h within g = h
changed_accepted p s c h within g = put_accepted p s (changed_view (present s) c) h (accepted p (present s) s.place (length s.views) c (h s.place (fresh 0) within) g)

pub same_or_not : (a b : ℕ) → (a ≡ b) ⊎ (a ≢ b)
same_or_not a b = (elim (a == b) as (λ c. (a == b) ≡ c → (a ≡ b) ⊎ (a ≢ b)) [ true ↦ λ t. inl ((Decides-eqb a b).0 t) | false ↦ λ f. inr (λ e. clash ((Decides-eqb a b).1 e) f) ]) refl
  where
    clash : (a == b) ≡ true → (a == b) ≡ false → ⊥
    clash t f = cc

-- layers over the present view's thread still are, with the intervals of what is settled
pub still_based : (p : Known) (old new : Seated) → old.layers.base ≡ thread_of p (present old.session) → KeepsLayers p old new → new.layers.base ≡ thread_of p (present new.session)
still_based p old new h k =
    elim (same_or_not (present new.session).thread (present old.session).thread) [
      | inl e ↦ ap (λ l. l.base) (k.stay e) ∙ h ∙ ap (λ n. thread_at p n) (sym e)
      | inr n ↦ ap (λ l. l.base) (k.anew n)
    ]

abbrev HasIntervals : LayerLists → Type 0
HasIntervals l = l.spans ≡ map (intervals l.base) l.settled

pub still_found : (p : Known) (old new : Seated) → HasIntervals old.layers → KeepsLayers p old new → HasIntervals new.layers
still_found p old new h k =
    elim (same_or_not (present new.session).thread (present old.session).thread) [
      | inl e ↦ subst HasIntervals (sym (k.stay e)) h
      | inr n ↦ subst HasIntervals (sym (k.anew n)) refl
    ]

pub sound_kept : (p : Known) (old new : Seated) → IsSound p old → All (IsAccepted p) new.session.views → KeepsLayers p old new → IsSound p new
sound_kept p old new sound views k = record {
  views = views;
  base = still_based p old new sound.base k;
  spans = still_found p old new sound.spans k;
}

-- a change keeps a session sound
pub sound_still : (p : Known) (old new : Seated) (c : Command) → IsSound p old → old.session.place < length old.session.views
    → content_refusal p (present old.session) old.session.place (length old.session.views) c ≡ None → new.session ≡ changed old.session c → KeepsLayers p old new → IsSound p new
sound_still p old new c sound within g e k =
    sound_kept p old new sound (subst (λ (s : Session). All (IsAccepted p) s.views) (sym e) (changed_accepted p old.session c sound.views within g)) k

-- nothing changed
pub layers_same : (p : Known) (seat : Seated) → KeepsLayers p seat seat
layers_same p seat = record { stay = λ e. refl; anew = λ n. absurd (n refl) }

-- the view that was put is the present one
last_is : (xs : List ViewLists) (v d : ViewLists) (k : ℕ) → k ≤ length xs → get_or (drop k (xs ++ v ∷ [])) (length (drop k (xs ++ v ∷ [])) - 1) d ≡ v
last_is xs v d k h =
    ap (λ n. get_or (drop k (xs ++ v ∷ [])) (n - 1) d) (length-drop k (xs ++ v ∷ []))
    ∙ get_or-drop k (xs ++ v ∷ []) (length (xs ++ v ∷ []) - k - 1) d
    ∙ ap (λ n. get_or (xs ++ v ∷ []) n d) (omega (arith, length-append xs (v ∷ [])))
    ∙ get_or-append_seam xs v [] d

pub present_put : (s : Session) (v : ViewLists) → present (with_view s v) ≡ v
present_put s v =
    let xs = take (s.place + 1) s.views in
    last_is xs v (fresh 0) (length (xs ++ v ∷ []) - 100) (omega (arith, length-append xs (v ∷ [])))

-- layers that were taken for a view of that thread
pub layers_kept : {E : Type 0} (p : Known) (old new : Seated) (thread : ℕ) (v : ViewLists) (o : Option LayerLists)
    → (thread ≡ (present old.session).thread → ◌≡◌ {A = Result (Option LayerLists) E} (Ok o) (Ok None)) → (thread ≢ (present old.session).thread → o ≡ Some (bare (thread_at p thread)))
    → present new.session ≡ v → v.thread ≡ thread → new.layers ≡ unwrap_or o old.layers → KeepsLayers p old new
layers_kept p old new thread v o same other shown at layers =
    let here : (present new.session).thread ≡ thread = ap (λ (w : ViewLists). w.thread) shown ∙ at in
    record {
      stay = λ e. layers ∙ ap (λ q. unwrap_or q old.layers) (none_of (same (sym here ∙ e)));
      anew = λ n. layers ∙ (ap (λ q. unwrap_or q old.layers) (other (λ e. n (here ∙ e))) ∙ ap (λ k. bare (thread_at p k)) (sym here));
    }
  where
    none_of : {E : Type 0} {o : Option LayerLists} → ◌≡◌ {A = Result (Option LayerLists) E} (Ok o) (Ok None) → o ≡ None
    none_of h = cc

-- the seat after a move to a place, and after a view was put
pub gone : (q0 q1 q2 q3 : Seated) (o : Option LayerLists) (place : ℕ) (last : Command) → q1 ≡ record q0 { layers = unwrap_or o q0.layers } → q2 ≡ record q1 { session = record q1.session { place = place } }
    → q3 ≡ record q2 { session = record q2.session { version = q2.session.version + 1; last = Some last } }
    → q3 ≡ record { session = record q0.session { place = place; version = q0.session.version + 1; last = Some last }; layers = unwrap_or o q0.layers }
gone q0 q1 q2 q3 o place last a b c =
    c ∙ ap (λ (q : Seated). let r : Seated = record q { session = record q.session { version = q.session.version + 1; last = Some last } } in r)
    (b ∙ ap (λ (q : Seated). let r : Seated = record q { session = record q.session { place = place } } in r) a)

pub set_down : (q0 q1 q2 q3 : Seated) (o : Option LayerLists) (v : ViewLists) (last : Command) → q1 ≡ record q0 { layers = unwrap_or o q0.layers } → q2 ≡ record q1 { session = with_view q1.session v }
    → q3 ≡ record q2 { session = record q2.session { version = q2.session.version + 1; last = Some last } }
    → q3 ≡ record { session = record (with_view q0.session v) { version = q0.session.version + 1; last = Some last }; layers = unwrap_or o q0.layers }
set_down q0 q1 q2 q3 o v last a b c =
    c ∙ ap (λ (q : Seated). let r : Seated = record q { session = record q.session { version = q.session.version + 1; last = Some last } } in r)
    (b ∙ ap (λ (q : Seated). let r : Seated = record q { session = with_view q.session v } in r) a)

-- a change other than a Goto leaves the thread
pub same_thread : (v : ViewLists) (c : Command) → ((at : ℕ) (address : List ℕ) → c ≡ ask.Goto at address → ⊥) → (changed_view v c).thread ≡ v.thread
same_thread v (ask.Goto at address) n = absurd (n at address refl)
same_thread v (ask.Push at t) n = refl
same_thread v (ask.PopTo at k) n = refl
same_thread v (ask.CommitRange at r) n = refl
same_thread v (ask.PopRangesTo at k) n = refl
same_thread v (ask.SetImplementation at i) n = refl
same_thread v (ask.SetSearch at text) n = refl
same_thread v c n = refl

-- the session after a view was put that a change makes
pub went_on : {E : Type 0} (r : Result (Unit {0}) E) (new s : Session) (v : ViewLists) (last c : Command) → OnOk r (new ≡ record (with_view s v) { version = s.version + 1; last = Some last }) → v ≡ changed_view (present s) c → last ≡ c
    → changed s c ≡ record (with_view s (changed_view (present s) c)) { version = s.version + 1; last = Some c } → OnOk r (new ≡ changed s c)
went_on (Err e) new s v last c h a b put = tt
went_on (Ok u) new s v last c h a b put =
    h ∙ (ap (λ w. let q : Session = record (with_view s w) { version = s.version + 1; last = Some last } in q) a
    ∙ (ap (λ k. let q : Session = record (with_view s (changed_view (present s) c)) { version = s.version + 1; last = Some k } in q) b ∙ sym put))
