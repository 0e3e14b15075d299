-- What the machine makes of a change, case by case
use Rattle.std.proofs.Common.{◌≡◌, ◌≢◌, ℕ, zero, suc, ◌+◌, ◌-◌, ◌<◌, eqb, Bool, true, false, ◌&&◌, ◌||◌, cond, List, [], ◌∷◌, map, length, get_or, Option, Some, None, refl, sym, ap, ◌∙◌, subst, arith}
use Rattle.std.specs.Prelude.{Result, Ok, Err, OnOk, nat_le, nat_lt}
use Rattle.std.specs.Result.{result_unwrap_or}
use Rattle.std.specs.Option.{option_or, option_map}
use Rattle.std.specs.List.{list_any}
use Rattle.std.proofs.lemmas.Bool.{false≢true}
use Rattle.std.proofs.lemmas.Option.{none-some, same_Some}
use Rattle.std.proofs.lemmas.Bool.Decides.{Decides-eqb}
use Rattle.prof_tables.specs.Threads.{ThreadTables}
use Rattle.prof_path.specs.declared.checking.PushRefusal.{PushRefusal}
use Rattle.prof_path.specs.declared.checking.PushRefusal.TheVariants as rule
use Rattle.prof_path.specs.declared.transform.Transform.{Transform}
use Rattle.prof_path.specs.Refusals.{rule_of}
use Rattle.prof_path.specs.Terms.{is_long_search}
use Rattle.prof_path.specs.Views.{ViewLists}
use Rattle.prof_address.specs.Parts.{fresh}
use Rattle.prof_request.specs.declared.request.Command.{Command}
use Rattle.prof_request.specs.declared.request.Command.TheVariants as ask
use Rattle.prof_machine.specs.declared.refusal.Refusal.{Refusal}
use Rattle.prof_machine.specs.declared.refusal.Refusal.TheVariants.{NoSession, KeeperFault, NoThread, FuncOut, ResourceOut, CategoryOut, EmptyPath, LongPath, TooManyTransforms, BadRange, TooManyRanges, LongSearch, VersionEnd, Stale, BadAddress, NothingToUndo, NothingToRedo}
use Rattle.prof_machine.specs.declared.refusal.Reply.{Reply}
use Rattle.prof_machine.specs.declared.refusal.Reply.TheVariants.{Done, Refused}
use Rattle.prof_machine.specs.Known.{Known, thread_of}
use Rattle.prof_machine.specs.Session.{Session, present, at_of, changed, changed_view, with_view, moved, is_last, is_change}
use Rattle.prof_machine.specs.Machine.{After, stays, acted, change, change_refusal, content_refusal, first_of, when, refused_by, transform_refusal, has_long_search, is_bad_range, view_refusal, address_refusal, asked}
use Rattle.prof_machine.specs.Memory.{is_move, is_lean, is_lean_of_goto, is_refused_lean}
use Rattle.prof_session.specs.Seated.{is_tree}
use Rattle.prof_machine.proofs.RuleLemmas.{not_when}
use Rattle.prof_address.proofs.OutcomeLemmas.{view_of}

pub same_number : (a b : ℕ) → a ≡ b → eqb a b ≡ true
same_number a b e = (Decides-eqb a b).1 e

pub other_number : (a b : ℕ) → a ≢ b → eqb a b ≡ false
other_number a b n = (elim (eqb a b) as (λ t. eqb a b ≡ t → t ≡ false) [ true ↦ λ h. absurd (n ((Decides-eqb a b).0 h)) | false ↦ λ h. refl ]) refl

abbrev own_refusal : Known → Session → Command → Option Refusal
own_refusal p s c = content_refusal p (present s) s.place (length s.views) c

-- a change that acts
pub acted_refused : (p : Known) (s : Session) (c : Command) (r : Refusal) → own_refusal p s c ≡ Some r → (kept : Option (List ℕ)) → acted s kept c (change_refusal p s c) ≡ stays (Some s) kept (Refused r)
acted_refused p s c r h kept = ap (λ o. acted s kept c (option_or o (when (eqb s.version 4294967295) VersionEnd))) h

pub acted_ended : (p : Known) (s : Session) (c : Command) → own_refusal p s c ≡ None → s.version ≡ 4294967295 → (kept : Option (List ℕ)) → acted s kept c (change_refusal p s c) ≡ stays (Some s) kept (Refused VersionEnd)
acted_ended p s c h e kept =
    ap (λ o. acted s kept c (option_or o (when (eqb s.version 4294967295) VersionEnd))) h ∙ ap (λ b. acted s kept c (when b VersionEnd)) (same_number s.version 4294967295 e)

pub acted_done : (p : Known) (s : Session) (c : Command) → own_refusal p s c ≡ None → s.version ≢ 4294967295 → (kept : Option (List ℕ)) → acted s kept c (change_refusal p s c) ≡ stays (Some (changed s c)) kept (Done (s.version + 1))
acted_done p s c h n kept =
    ap (λ o. acted s kept c (option_or o (when (eqb s.version 4294967295) VersionEnd))) h ∙ ap (λ b. acted s kept c (when b VersionEnd)) (other_number s.version 4294967295 n)

pub allowed_change : (p : Known) (s : Session) (c : Command) → own_refusal p s c ≡ None → s.version ≢ 4294967295 → change_refusal p s c ≡ None
allowed_change p s c h n = ap (λ o. option_or o (when (eqb s.version 4294967295) VersionEnd)) h ∙ ap (λ b. when b VersionEnd) (other_number s.version 4294967295 n)

-- a change at its version, one that comes again, and a stale one
pub change_acts : (p : Known) (s : Session) (c : Command) → at_of c ≡ s.version → (kept : Option (List ℕ)) → change p s kept c ≡ acted s kept c (change_refusal p s c)
change_acts p s c e kept =
    ap (λ b. cond b (acted s kept c (change_refusal p s c)) (cond (eqb (at_of c + 1) s.version && is_last s.last c) (stays (Some s) kept (Done s.version)) (stays (Some s) kept (Refused (Stale s.version))))) (same_number (at_of c) s.version e)

pub change_again : (p : Known) (s : Session) (c : Command) → at_of c + 1 ≡ s.version → is_last s.last c ≡ true → (kept : Option (List ℕ)) → change p s kept c ≡ stays (Some s) kept (Done s.version)
change_again p s c e last kept =
    ap (λ b. cond b (acted s kept c (change_refusal p s c)) (cond (eqb (at_of c + 1) s.version && is_last s.last c) (stays (Some s) kept (Done s.version)) (stays (Some s) kept (Refused (Stale s.version))))) (other_number (at_of c) s.version (λ n. absurd (omega arith)))
    ∙ (ap (λ b. cond (b && is_last s.last c) (stays (Some s) kept (Done s.version)) (stays (Some s) kept (Refused (Stale s.version)))) (same_number (at_of c + 1) s.version e)
    ∙ ap (λ b. cond b (stays (Some s) kept (Done s.version)) (stays (Some s) kept (Refused (Stale s.version)))) last)

pub change_stale : (p : Known) (s : Session) (c : Command) → at_of c ≢ s.version → (eqb (at_of c + 1) s.version && is_last s.last c) ≡ false → (kept : Option (List ℕ)) → change p s kept c ≡ stays (Some s) kept (Refused (Stale s.version))
change_stale p s c n f kept =
    ap (λ b. cond b (acted s kept c (change_refusal p s c)) (cond (eqb (at_of c + 1) s.version && is_last s.last c) (stays (Some s) kept (Done s.version)) (stays (Some s) kept (Refused (Stale s.version))))) (other_number (at_of c) s.version n)
    ∙ ap (λ b. cond b (stays (Some s) kept (Done s.version)) (stays (Some s) kept (Refused (Stale s.version)))) f

-- a change that puts a view
pub changed_put : (s : Session) (c : Command) → is_change c ≡ true → ((x : ℕ) → c ≡ ask.Undo x → ⊥) → ((x : ℕ) → c ≡ ask.Redo x → ⊥)
    → changed s c ≡ record (with_view s (changed_view (present s) c)) { version = s.version + 1; last = Some c }
changed_put s (ask.Undo at) is u r = absurd (u at refl)
changed_put s (ask.Redo at) is u r = absurd (r at refl)
changed_put s c is u r = refl

pub own_same : (p : Known) (s : Session) (c : Command) (v : ViewLists) (place count : ℕ) (o : Option Refusal) → o ≡ content_refusal p v place count c → v ≡ present s → place ≡ s.place → count ≡ length s.views → own_refusal p s c ≡ o
own_same p s c v place count o h a b d =
    ap (λ w. content_refusal p w s.place (length s.views) c) (sym a) ∙ (ap (λ k. content_refusal p v k (length s.views) c) (sym b) ∙ (ap (λ k. content_refusal p v place k c) (sym d) ∙ sym h))

-- undo and redo that nothing is wrong with
pub undo_some : (p : Known) (s : Session) (c : Command) (at : ℕ) → c ≡ ask.Undo at → own_refusal p s c ≡ None → 0 < s.place
undo_some p s c at e h = some s.place (ap (own_refusal p s) (sym e) ∙ h)
  where
    some : (k : ℕ) → when (eqb k 0) NothingToUndo ≡ None → 0 < k
    some zero h = absurd (never h)
      where
        never : Some NothingToUndo ≡ None → ⊥
        never h = cc
    some (suc k) h = omega arith

pub redo_within : (p : Known) (s : Session) (c : Command) (at : ℕ) → c ≡ ask.Redo at → own_refusal p s c ≡ None → s.place + 1 < length s.views
redo_within p s c at e h = not_le (length s.views) (s.place + 1) (not_when (nat_le (length s.views) (s.place + 1)) NothingToRedo (ap (own_refusal p s) (sym e) ∙ h))
  where
    not_le : (m n : ℕ) → nat_le m n ≡ false → n < m
    not_le m n h = grind arith

pub went_back : {E : Type 0} (r : Result (Unit {0}) E) (new s : Session) (c : Command) (at place : ℕ) → OnOk r (new ≡ record s { place = place; version = s.version + 1; last = Some (ask.Undo at) }) → place ≡ s.place - 1 → c ≡ ask.Undo at → OnOk r (new ≡ changed s c)
went_back (Err e) new s c at place h b is = tt
went_back (Ok u) new s c at place h b is = h ∙ (ap (λ k. let q : Session = record s { place = k; version = s.version + 1; last = Some (ask.Undo at) } in q) b ∙ ap (changed s) (sym is))

pub went_forth : {E : Type 0} (r : Result (Unit {0}) E) (new s : Session) (c : Command) (at place : ℕ) → OnOk r (new ≡ record s { place = place; version = s.version + 1; last = Some (ask.Redo at) }) → place ≡ s.place + 1 → c ≡ ask.Redo at → OnOk r (new ≡ changed s c)
went_forth (Err e) new s c at place h b is = tt
went_forth (Ok u) new s c at place h b is = h ∙ (ap (λ k. let q : Session = record s { place = k; version = s.version + 1; last = Some (ask.Redo at) } in q) b ∙ ap (changed s) (sym is))

-- the thread of the view to which an undo or a redo leads
pub back_thread : (s : Session) (c : Command) (at place : ℕ) → place ≡ s.place - 1 → c ≡ ask.Undo at → (present (moved s c)).thread ≡ (get_or s.views place (fresh 0)).thread
back_thread s c at place b is = ap (λ k. (present (moved s k)).thread) is ∙ ap (λ k. (get_or s.views k (fresh 0)).thread) (sym b)

pub forth_thread : (s : Session) (c : Command) (at place : ℕ) → place ≡ s.place + 1 → c ≡ ask.Redo at → (present (moved s c)).thread ≡ (get_or s.views place (fresh 0)).thread
forth_thread s c at place b is = ap (λ k. (present (moved s k)).thread) is ∙ ap (λ k. (get_or s.views k (fresh 0)).thread) (sym b)

pub no_move : (c : Command) → ((at : ℕ) → c ≡ ask.Undo at → ⊥) → ((at : ℕ) → c ≡ ask.Redo at → ⊥) → is_move c ≡ false
no_move (ask.Undo at) u r = absurd (u at refl)
no_move (ask.Redo at) u r = absurd (r at refl)
no_move c u r = refl

-- a Goto by what its address is read as
pub goto_fault : (p : Known) (s : Session) (c : Command) (at fault : ℕ) (address : List ℕ) → c ≡ ask.Goto at address → view_of address ≡ Err fault → own_refusal p s c ≡ Some (BadAddress fault)
goto_fault p s c at fault address is e = ap (own_refusal p s) is ∙ ap (address_refusal p) e

pub goto_view : (p : Known) (s : Session) (c : Command) (at : ℕ) (address : List ℕ) (v : ViewLists) → c ≡ ask.Goto at address → view_of address ≡ Ok v → own_refusal p s c ≡ view_refusal p v
goto_view p s c at address v is e = ap (own_refusal p s) is ∙ ap (address_refusal p) e

pub goto_changed : (s : Session) (c : Command) (at : ℕ) (address : List ℕ) (v : ViewLists) → c ≡ ask.Goto at address → view_of address ≡ Ok v → changed s c ≡ record (with_view s v) { version = s.version + 1; last = Some c }
goto_changed s c at address v is e =
    ap (changed s) is ∙ (ap (λ r. let q : Session = record (with_view s (result_unwrap_or r (present s))) { version = s.version + 1; last = Some (ask.Goto at address) } in q) e
    ∙ ap (λ k. let q : Session = record (with_view s v) { version = s.version + 1; last = Some k } in q) (sym is))

-- ---- which refusals a change gives of its own: none that its session isn't there, that it is stale, or that the keeper failed

abbrev pub is_own : Refusal → Bool
is_own NoSession = false
is_own (Stale v) = false
is_own KeeperFault = false
is_own r = true

pub record IsOwn (o : Option Refusal) : Type 0 where
  pub own : (r : Refusal) → o ≡ Some r → is_own r ≡ true

own_none : IsOwn None
own_none = record { own = λ r e. absurd (none-some r e) }

own_or : (a b : Option Refusal) → IsOwn a → IsOwn b → IsOwn (option_or a b)
own_or None b g h = h
own_or (Some r) b g h = g

own_one : (r : Refusal) → is_own r ≡ true → IsOwn (Some r)
own_one r e = record { own = λ q h. subst (λ k. is_own k ≡ true) (same_Some r q h) e }

own_when : (b : Bool) (r : Refusal) → is_own r ≡ true → IsOwn (when b r)
own_when true r e = own_one r e
own_when false r e = own_none

own_map : (o : Option PushRefusal) → IsOwn (option_map refused_by o)
own_map None = own_none
own_map (Some (rule.FuncOut f)) = own_one (FuncOut f) refl
own_map (Some (rule.ResourceOut f)) = own_one (ResourceOut f) refl
own_map (Some (rule.CategoryOut f)) = own_one (CategoryOut f) refl
own_map (Some rule.EmptyPath) = own_one EmptyPath refl
own_map (Some (rule.LongPath n)) = own_one (LongPath n) refl
own_map (Some rule.LongSearch) = own_one LongSearch refl

own_rules : (t : ThreadTables) (us : List Transform) → IsOwn (first_of (map (transform_refusal t) us))
own_rules t [] = own_none
own_rules t (u ∷ us) = own_or (transform_refusal t u) (first_of (map (transform_refusal t) us)) (own_map (rule_of t.shared u)) (own_rules t us)

pub own_view : (p : Known) (v : ViewLists) → IsOwn (view_refusal p v)
own_view p v =
    let a = when (nat_le (length p.threads) v.thread) (NoThread (length p.threads)) in
    let b = first_of (map (transform_refusal (thread_of p v)) v.transforms) in
    let c = when (nat_lt 32 (length v.transforms)) TooManyTransforms in
    let d = when (list_any is_bad_range v.ranges) BadRange in
    let e = when (nat_lt 16 (length v.ranges)) TooManyRanges in
    let f = when (is_long_search v.search || list_any has_long_search v.transforms) LongSearch in
    own_or a (first_of (b ∷ c ∷ d ∷ e ∷ f ∷ [])) (own_when (nat_le (length p.threads) v.thread) (NoThread (length p.threads)) refl)
    (own_or b (first_of (c ∷ d ∷ e ∷ f ∷ [])) (own_rules (thread_of p v) v.transforms)
    (own_or c (first_of (d ∷ e ∷ f ∷ [])) (own_when (nat_lt 32 (length v.transforms)) TooManyTransforms refl)
    (own_or d (first_of (e ∷ f ∷ [])) (own_when (list_any is_bad_range v.ranges) BadRange refl)
    (own_or e (first_of (f ∷ [])) (own_when (nat_lt 16 (length v.ranges)) TooManyRanges refl)
    (own_or f None (own_when (is_long_search v.search || list_any has_long_search v.transforms) LongSearch refl) own_none)))))

own_address : (p : Known) (r : Result ViewLists ℕ) → IsOwn (address_refusal p r)
own_address p (Err at) = own_one (BadAddress at) refl
own_address p (Ok v) = own_view p v

pub not_keeper : (r : Refusal) → is_own r ≡ true → ◌≡◌ {A = Reply} (Refused r) (Refused KeeperFault) → ⊥
not_keeper r e h = clash (subst (λ q. is_own q ≡ true) (named h) e)
  where
    named : ◌≡◌ {A = Reply} (Refused r) (Refused KeeperFault) → r ≡ KeeperFault
    named h = cc

    clash : false ≡ true → ⊥
    clash h = cc

pub view_quiet : (p : Known) (v : ViewLists) (r : Refusal) → view_refusal p v ≡ Some r → ◌≡◌ {A = Reply} (Refused r) (Refused KeeperFault) → ⊥
view_quiet p v r e = not_keeper r ((own_view p v).own r e)

-- a Goto at its version takes memory, whatever comes of it
lean_own : (r : Refusal) → is_own r ≡ true → is_lean_of_goto r ≡ false
lean_own NoSession e = absurd (false≢true e)
lean_own (Stale v) e = absurd (false≢true e)
lean_own r e = refl

not_lean_acted : (s : Session) (kept : Option (List ℕ)) (at : ℕ) (address : List ℕ) (o : Option Refusal) → IsOwn o → is_refused_lean (ask.Goto at address) (acted s kept (ask.Goto at address) o).reply ≡ false
not_lean_acted s kept at address None h = refl
not_lean_acted s kept at address (Some r) h = lean_own r (h.own r refl)

pub goto_not_lean : (p : Known) (s : Session) (c : Command) (at : ℕ) (address : List ℕ) (kept : Option (List ℕ)) → c ≡ ask.Goto at address → at_of c ≡ s.version → is_lean c (Some s) (change p s kept c) ≡ false
goto_not_lean p s c at address kept is same =
    ap (is_lean c (Some s)) (change_acts p s c same kept) ∙ (ap (λ k. is_lean k (Some s) (acted s kept k (change_refusal p s k))) is
    ∙ not_lean_acted s kept at address (change_refusal p s (ask.Goto at address))
    (own_or (address_refusal p (view_of address)) (when (eqb s.version 4294967295) VersionEnd) (own_address p (view_of address)) (own_when (eqb s.version 4294967295) VersionEnd refl)))

-- a change that acts takes memory, but for an undo or a redo that keeps the thread
or_false : (b : Bool) → (b || false) ≡ true → b ≡ true
or_false true h = refl
or_false false h = h

not_lean_done : (s : Session) (c : Command) (kept : Option (List ℕ)) (n : ℕ) → is_change c ≡ true → (is_move c ≡ true → (present (moved s c)).thread ≢ (present s).thread)
    → is_lean c (Some s) (stays (Some (changed s c)) kept (Done n)) ≡ true → ⊥
not_lean_done s (ask.Undo at) kept n is far h = far refl ((Decides-eqb (present (moved s (ask.Undo at))).thread (present s).thread).0 (or_false _ h))
not_lean_done s (ask.Redo at) kept n is far h = far refl ((Decides-eqb (present (moved s (ask.Redo at))).thread (present s).thread).0 (or_false _ h))
not_lean_done s ask.Close kept n is far h = false≢true is
not_lean_done s c kept n is far h = false≢true h

pub acts_not_lean : (p : Known) (s : Session) (c : Command) (kept : Option (List ℕ)) → is_change c ≡ true → at_of c ≡ s.version → change_refusal p s c ≡ None → (is_move c ≡ true → (present (moved s c)).thread ≢ (present s).thread)
    → is_lean c (Some s) (change p s kept c) ≡ true → ⊥
acts_not_lean p s c kept is same none far h =
    not_lean_done s c kept (s.version + 1) is far (sym (ap (is_lean c (Some s)) (change_acts p s c same kept ∙ ap (acted s kept c) none)) ∙ h)

-- a change is no request for a tree, and is answered as one
pub change_no_tree : (c : Command) → is_change c ≡ true → is_tree c ≡ false
change_no_tree ask.Tree h = absurd (false≢true h)
change_no_tree ask.Inverted h = absurd (false≢true h)
change_no_tree c h = refl

pub asked_change : (p : Known) (s : Session) (kept : Option (List ℕ)) (c : Command) → is_change c ≡ true → asked p s kept c ≡ change p s kept c
asked_change p s kept (ask.OpenOn q t) h = absurd (false≢true h)
asked_change p s kept (ask.LoadOn q) h = absurd (false≢true h)
asked_change p s kept ask.Close h = absurd (false≢true h)
asked_change p s kept ask.Tree h = absurd (false≢true h)
asked_change p s kept ask.Inverted h = absurd (false≢true h)
asked_change p s kept (ask.Markers text) h = absurd (false≢true h)
asked_change p s kept ask.Address h = absurd (false≢true h)
asked_change p s kept ask.Save h = absurd (false≢true h)
asked_change p s kept c h = refl
