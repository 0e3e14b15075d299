-- What an event of the reader does to what is open.
use Rattle.std.proofs.Common.{option_to_list, ◌≡◌, ◌≢◌, ◌<◌, List, [], ◌∷◌, ◌++◌, refl, ap, sym, ◌∙◌}
use Rattle.std.specs.Prelude.{Option, Some, None, fold}
use Rattle.std.specs.Io.KnownBytes.{IsAtEnd}
use Rattle.prof_grammar.specs.Event as told
use Rattle.prof_json.specs.Nest.{Nest, Leads, TakesValue, Occurs, array_start, object_start, str, number, yes_, no_, null, no_items, last_item, first_name, next_name, no_members, last_member, end, top, named, first, item}
use Rattle.prof_json.specs.Position.{Shows, IsLast, shown, ended}
use Rattle.prof_json.specs.Position as shows
use Rattle.prof_json.specs.Skip.{Closes, member_value, all_items, all_members}
use Rattle.prof_json.specs.declared.answer.Event.{Event}
use Rattle.prof_json.specs.declared.answer.Event.TheVariants as event
use Rattle.prof_json.specs.declared.nesting.Bracket.{Bracket}
use Rattle.prof_json.specs.declared.nesting.Bracket.TheVariants as bracket
use Rattle.prof_gather.specs.Feeding.{Frame, in_array, in_object, in_member, Told, frame, opened, due, step, after_value, opening, Gives}
use Rattle.prof_gather.specs.Keeping.{IsBehind}
use Rattle.prof_gather.specs.Reading.{Comes, Ends}

fold_snoc : (f : List Frame → Bracket → List Frame) (a : List Frame) (xs : List Bracket) (b : Bracket) → fold f a (xs ++ b ∷ []) ≡ f (fold f a xs) b
fold_snoc f a [] b = refl
fold_snoc f a (x ∷ xs) b = fold_snoc f (f a x) xs b

-- one bracket more is one frame more
pub opened_snoc : (xs : List Bracket) (b : Bracket) → opened (xs ++ b ∷ []) ≡ frame b ∷ opened xs
opened_snoc xs b = fold_snoc (λ frames b. frame b ∷ frames) [] xs b

abbrev pub frames_of : Nest → List Frame
frames_of n = due n.phase (opened n.open_)

-- where a value may begin
takes : {n : Nest} → TakesValue n → Occurs n.phase n.open_ → after_value (frames_of n) ≡ Some (opened n.open_)
takes top o = refl
takes named o = refl
takes (first {xs}) o = rw (o.is, opened_snoc o.outer bracket.Array)
takes (item xs) o = rw (opened_snoc xs bracket.Array)

pub leads_step : {n m : Nest} {e : Event} {t : told.Event} → Leads n e m → Occurs n.phase n.open_ → Shows e t → step (frames_of n) t ≡ Some (frames_of m)
leads_step (array_start {n} v) o shows.array_start = ap (opening in_array) (takes v o) ∙ ap Some (sym (opened_snoc n.open_ bracket.Array))
leads_step (object_start {n} v) o shows.object_start = ap (opening in_object) (takes v o) ∙ ap Some (sym (opened_snoc n.open_ bracket.Object))
leads_step (str v) o shows.str = takes v o
leads_step (number v) o shows.number = takes v o
leads_step (yes_ v) o shows.yes_ = takes v o
leads_step (no_ v) o shows.no_ = takes v o
leads_step (null v) o shows.null = takes v o
leads_step (no_items xs) o shows.array_end = rw (opened_snoc xs bracket.Array)
leads_step (last_item xs) o shows.array_end = rw (opened_snoc xs bracket.Array)
leads_step (first_name xs) o shows.name = rw (opened_snoc xs bracket.Object)
leads_step (next_name xs) o shows.name = rw (opened_snoc xs bracket.Object)
leads_step (no_members xs) o shows.object_end = rw (opened_snoc xs bracket.Object)
leads_step (last_member xs) o shows.object_end = rw (opened_snoc xs bracket.Object)
leads_step {t = t} end o x = elim x [ ]

pub leads_occurs : {n m : Nest} {e : Event} → Leads n e m → Occurs m.phase m.open_
leads_occurs (array_start {n} v) = record { outer = n.open_; is = refl }
leads_occurs (object_start {n} v) = record { outer = n.open_; is = refl }
leads_occurs (str v) = tt
leads_occurs (number v) = tt
leads_occurs (yes_ v) = tt
leads_occurs (no_ v) = tt
leads_occurs (null v) = tt
leads_occurs (no_items xs) = tt
leads_occurs (last_item xs) = tt
leads_occurs (first_name xs) = record { outer = xs; is = refl }
leads_occurs (next_name xs) = record { outer = xs; is = refl }
leads_occurs (no_members xs) = tt
leads_occurs (last_member xs) = tt
leads_occurs end = tt

pub leads_behind : {n m : Nest} {e : Event} {l : Option told.Event} → Leads n e m → IsLast e l → IsBehind l m.phase
leads_behind (array_start v) (shown shows.array_start) = refl
leads_behind (object_start v) (shown shows.object_start) = refl
leads_behind (str v) (shown shows.str) = tt
leads_behind (number v) (shown shows.number) = tt
leads_behind (yes_ v) (shown shows.yes_) = tt
leads_behind (no_ v) (shown shows.no_) = tt
leads_behind (null v) (shown shows.null) = tt
leads_behind (no_items xs) (shown shows.array_end) = tt
leads_behind (last_item xs) (shown shows.array_end) = tt
leads_behind (first_name xs) (shown shows.name) = refl
leads_behind (next_name xs) (shown shows.name) = refl
leads_behind (no_members xs) (shown shows.object_end) = tt
leads_behind (last_member xs) (shown shows.object_end) = tt
leads_behind end ended = tt
leads_behind end (shown x) = elim x [ ]

leads_over : {n m : Nest} → Leads n event.End m → (frames_of n ≡ []) × (frames_of m ≡ [])
leads_over end = (refl, refl)

gives_shown : {e : Event} {t : told.Event} → Shows e t → (old new : Told) → new.last ≡ Some t → step old.frames t ≡ Some new.frames → (e ≢ event.End → new.room < old.room) → Comes old.rest (t ∷ []) new.rest → Gives old e new
gives_shown shows.object_start old new l f r c = record { frames = f; last = l; room = r (λ x. cc); rest = c }
gives_shown shows.object_end old new l f r c = record { frames = f; last = l; room = r (λ x. cc); rest = c }
gives_shown shows.array_start old new l f r c = record { frames = f; last = l; room = r (λ x. cc); rest = c }
gives_shown shows.array_end old new l f r c = record { frames = f; last = l; room = r (λ x. cc); rest = c }
gives_shown (shows.name {s = n}) old new l f r c = (n, record { frames = f; last = l; room = r (λ x. cc); rest = c })
gives_shown (shows.str {s = t}) old new l f r c = (t, record { frames = f; last = l; room = r (λ x. cc); rest = c })
gives_shown (shows.number {t = t}) old new l f r c = (t, record { frames = f; last = l; room = r (λ x. cc); rest = c })
gives_shown shows.yes_ old new l f r c = record { frames = f; last = l; room = r (λ x. cc); rest = c }
gives_shown shows.no_ old new l f r c = record { frames = f; last = l; room = r (λ x. cc); rest = c }
gives_shown shows.null old new l f r c = record { frames = f; last = l; room = r (λ x. cc); rest = c }

gives_last : {e : Event} {l : Option told.Event} → IsLast e l → (n m : Nest) (old new : Told) → old.frames ≡ frames_of n → new.frames ≡ frames_of m → Leads n e m → Occurs n.phase n.open_ → new.last ≡ l
    → (e ≢ event.End → new.room < old.room) → (e ≡ event.End → IsAtEnd new.left) → new.fault ≡ None → Comes old.rest (option_to_list l) new.rest → (e ≡ event.End → Ends old.rest) → Gives old e new
gives_last (shown {told = t} s) n m old new f g leads o h r a z c w =
    gives_shown s old new h (ap (λ x. step x t) f ∙ (leads_step leads o s ∙ ap Some (sym g))) r c
gives_last ended n m old new f g leads o h r a z c w =
    let over = leads_over leads in
    record { due = f ∙ over.0; frames = g ∙ over.1; end = a refl; sound = z; whole = w refl }

pub gives : (n m : Nest) (old new : Told) (e : Event) → old.frames ≡ frames_of n → new.frames ≡ frames_of m → Leads n e m → Occurs n.phase n.open_ → IsLast e new.last
    → (e ≢ event.End → new.room < old.room) → (e ≡ event.End → IsAtEnd new.left) → new.fault ≡ None → Comes old.rest (option_to_list new.last) new.rest → (e ≡ event.End → Ends old.rest) → Gives old e new
gives n m old new e f g leads o last r a z c w = gives_last last n m old new f g leads o refl r a z c w

-- behind a value that was read over the innermost frame is gone
pub closes_passes : {l : Option told.Event} {n m : Nest} → Closes l n m → IsBehind l n.phase → (f : Frame) (frames : List Frame) → frames_of n ≡ f ∷ frames → frames_of m ≡ frames
closes_passes (member_value {s} {n}) b f frames e =
    let e' : in_member ∷ opened n.open_ ≡ f ∷ frames = ap (λ p. due p (opened n.open_)) (sym b) ∙ e in cc
closes_passes (all_items {phase = p} xs) b f frames e =
    let e' : in_array ∷ opened xs ≡ f ∷ frames = sym (opened_snoc xs bracket.Array) ∙ (ap (λ q. due q (opened (xs ++ bracket.Array ∷ []))) (sym b) ∙ e) in cc
closes_passes (all_members {phase = p} xs) b f frames e =
    let e' : in_object ∷ opened xs ≡ f ∷ frames = sym (opened_snoc xs bracket.Object) ∙ (ap (λ q. due q (opened (xs ++ bracket.Object ∷ []))) (sym b) ∙ e) in cc

pub closes_occurs : {l : Option told.Event} {n m : Nest} → Closes l n m → Occurs m.phase m.open_
closes_occurs (member_value {s} {n}) = tt
closes_occurs (all_items xs) = tt
closes_occurs (all_members xs) = tt
