-- Sessions that are made, and those that are refused
use Rattle.std.proofs.Common.{◌≡◌, ℕ, ◌<◌, ◌≤◌, Bool, true, false, cond, ◌&&◌, List, [], ◌∷◌, ◌++◌, length, get_or, map, Option, Some, None, is_some, unwrap_or, refl, sym, ap, ◌∙◌, subst, arith}
use Rattle.std.proofs.lemmas.Option.{none-some}
use Rattle.std.specs.Prelude.{nat_le, nat_lt, Result, Ok, Err, IfSome}
use Rattle.std.specs.Option.{option_or, option_map}
use Rattle.std.specs.List.{All}
use Rattle.prof_io.specs.Shelf.{Shelf, file_at}
use Rattle.prof_io.specs.Named.{value_at, with_own, place_of}
use Rattle.prof_io.proofs.NamedLemmas.{value_lacks, with_push, value_at-with_own, names_same}
use Rattle.prof_address.specs.Parts.{fresh}
use Rattle.prof_keep.specs.Saved.{SavedLists}
use Rattle.prof_keep.proofs.SavedLemmas.{saved_of}
use Rattle.prof_request.specs.declared.request.Command.{Command}
use Rattle.prof_request.specs.declared.request.Command.TheVariants as ask
use Rattle.prof_machine.specs.declared.refusal.Refusal.{Refusal}
use Rattle.prof_machine.specs.declared.refusal.Refusal.TheVariants.{NoThread, TooManySessions, BadSaved, OtherProfile, KeeperFault}
use Rattle.prof_machine.specs.declared.refusal.Reply.{Reply}
use Rattle.prof_machine.specs.declared.refusal.Reply.TheVariants.{Refused}
use Rattle.prof_machine.specs.Known.{Known, no_profile, thread_at, thread_of}
use Rattle.prof_machine.specs.Session.{Session, opened, present}
use Rattle.prof_machine.specs.Machine.{stays, made, open_refusal, load_refusal, text_refusal, read_refusal, first_of, when, view_refusal, profile_of, restored, saved_in}
use Rattle.prof_machine.specs.Memory.{is_refused_lean}
use Rattle.prof_session.specs.Seated.{Seated, IsSound, bare}
use Rattle.prof_session_desk.specs.Desk.{DeskLists, desk_step, Follows, IsSeated, IsText}
use Rattle.prof_session_desk.proofs.DeskLemmas.{follows, follows_still, own_lacks, step_lacking, value_here}

-- a session more at the end
pub push_seat : (es ys : List (List ℕ × Seated)) (name key : List ℕ) (seat : Seated) → key ≡ name → ys ≡ es ++ (key, seat) ∷ [] → length es ≤ place_of es name → ys ≡ with_own name (Some seat) es
push_seat es ys name key seat same push lacks = push ∙ (ap (λ (k : List ℕ). es ++ (k, seat) ∷ []) same ∙ with_push es name seat lacks)

pub made_value : (d new : DeskLists) (name : List ℕ) (seat : Seated) → length d.seats ≤ place_of d.seats name → new ≡ record d { seats = d.seats ++ (name, seat) ∷ [] } → value_at new.seats name ≡ Some seat
made_value d new name seat lacks e =
    ap (λ (n : DeskLists). value_at n.seats name) e ∙ (ap (λ l. value_at l name) (with_push d.seats name seat lacks)
    ∙ (value_at-with_own name (Some seat) d.seats name ∙ ap (λ t. cond t (Some seat) (value_at d.seats name)) (names_same name name refl)))

pub made_follows : (d new : DeskLists) (name : List ℕ) (kept : Option (List ℕ)) (c : Command) (seat : Seated) (reply : Reply) → length d.seats ≤ place_of d.seats name → new ≡ record d { seats = d.seats ++ (name, seat) ∷ [] }
    → desk_step d name kept c ≡ stays (Some seat.session) kept reply → Follows d new name (desk_step d name kept c) reply
made_follows d new name kept c seat reply lacks e step =
    follows d new name (Some seat) _ _ (ap (λ (n : DeskLists). n.profiles) e) (ap (λ (n : DeskLists). n.seats) e ∙ with_push d.seats name seat lacks) (ap (λ a. a.reply) (sym step)) (ap (λ a. a.session) step)

pub refused_follows : (d : DeskLists) (name : List ℕ) (kept : Option (List ℕ)) (c : Command) (r : Refusal) → length d.seats ≤ place_of d.seats name → desk_step d name kept c ≡ stays None kept (Refused r) → Follows d d name (desk_step d name kept c) (Refused r)
refused_follows d name kept c r lacks step = follows_still d name _ _ (ap (λ a. a.reply) (sym step)) (ap (λ a. a.session) step ∙ sym (own_lacks d name lacks))

-- the machine's steps
pub step_open : (d : DeskLists) (name : List ℕ) (kept : Option (List ℕ)) (profile : List ℕ) (thread : ℕ) (o : Option Refusal) → length d.seats ≤ place_of d.seats name → open_refusal (value_at d.profiles profile) thread (length d.seats) ≡ o
    → desk_step d name kept (ask.OpenOn profile thread) ≡ made kept (opened profile thread) o
step_open d name kept profile thread o lacks e = step_lacking d name kept (ask.OpenOn profile thread) (own_lacks d name lacks) ∙ ap (made kept (opened profile thread)) e

pub step_load : (d : DeskLists) (name : List ℕ) (kept : Option (List ℕ)) (profile : List ℕ) (o : Option Refusal) → length d.seats ≤ place_of d.seats name → load_refusal (value_at d.profiles profile) (length d.seats) kept ≡ o
    → desk_step d name kept (ask.LoadOn profile) ≡ made kept (restored profile (saved_in kept)) o
step_load d name kept profile o lacks e = step_lacking d name kept (ask.LoadOn profile) (own_lacks d name lacks) ∙ ap (made kept (restored profile (saved_in kept))) e

-- why a session isn't opened
le_true : (m n : ℕ) → m ≤ n → nat_le m n ≡ true
le_true m n h = grind arith

le_false : (m n : ℕ) → n < m → nat_le m n ≡ false
le_false m n h = grind arith

lt_true : (m n : ℕ) → m < n → nat_lt m n ≡ true
lt_true m n h = grind arith

pub no_thread_there : (p : Known) (thread count m : ℕ) → m ≡ length p.threads → m ≤ thread → open_refusal (Some p) thread count ≡ Some (NoThread m)
no_thread_there p thread count m e h =
    let le : length p.threads ≤ thread = omega arith in
    rw (le_true (length p.threads) thread le) (ap (λ k. Some (NoThread k)) (sym e))

pub no_room_there : (p : Known) (thread count m : ℕ) → m ≡ length p.threads → thread < m → 1000 ≤ count → open_refusal (Some p) thread count ≡ Some TooManySessions
no_room_there p thread count m e h many =
    let lt : thread < length p.threads = omega arith in
    rw (le_false (length p.threads) thread lt, le_true 1000 count many) refl

pub room_there : (p : Known) (thread count m : ℕ) → m ≡ length p.threads → thread < m → count < 1000 → open_refusal (Some p) thread count ≡ None
room_there p thread count m e h few =
    let lt : thread < length p.threads = omega arith in
    rw (le_false (length p.threads) thread lt, le_false 1000 count few) refl

-- why a session isn't loaded
pub full_load : (p : Known) (count : ℕ) (kept : Option (List ℕ)) → 1000 ≤ count → load_refusal (Some p) count kept ≡ Some TooManySessions
full_load p count kept many = rw (le_true 1000 count many) refl

pub asks_there : (o : Option Known) (p : Known) (count : ℕ) → o ≡ Some p → count < 1000 → (is_some o && nat_lt count 1000) ≡ true
asks_there o p count e few = ap (λ k. is_some k && nat_lt count 1000) e ∙ lt_true count 1000 few

-- a fresh view of a thread that is there breaks no rule
fresh_accepted : (p : Known) (thread : ℕ) → thread < length p.threads → view_refusal p (fresh thread) ≡ None
fresh_accepted p thread h = rw (le_false (length p.threads) thread h) refl

one_view : (p : Known) (thread : ℕ) → view_refusal p (fresh thread) ≡ None → All (λ v. view_refusal p v ≡ None) (fresh thread ∷ [])
one_view p thread h = grind arith

-- a session that is opened is sound, and so is one that is restored
pub opened_seated : (ps : List (List ℕ × Known)) (profile : List ℕ) (thread n : ℕ) (k : List ℕ × Known) (seat : Seated) → n ≡ place_of ps profile → n < length ps → k ≡ get_or ps n k → thread < length k.1.threads
    → seat ≡ record { session = opened profile thread; layers = bare (thread_at k.1 thread) } → IsSeated ps seat
opened_seated ps profile thread n k seat at within here h e = subst (λ s. IsSeated ps s) (sym e) (record {
  known = ap is_some there;
  sound = subst (λ (p : Known). IsSound p (record { session = opened profile thread; layers = bare (thread_at k.1 thread) })) (sym (ap (λ o. unwrap_or o no_profile) there))
      (record { views = one_view k.1 thread (fresh_accepted k.1 thread h); base = refl; spans = refl });
})
  where
    there : value_at ps profile ≡ Some k.1
    there = value_here ps profile n k at within here

pub restored_seated : (ps : List (List ℕ × Known)) (profile : List ℕ) (n : ℕ) (k : List ℕ × Known) (seat : Seated) (s : SavedLists) → n ≡ place_of ps profile → n < length ps → k ≡ get_or ps n k
    → seat.session ≡ restored profile s → IsSound k.1 seat → IsSeated ps seat
restored_seated ps profile n k seat s at within here e sound =
    let name : seat.session.profile ≡ profile = ap (λ (t : Session). t.profile) e in
    let there : value_at ps seat.session.profile ≡ Some k.1 = ap (value_at ps) name ∙ value_here ps profile n k at within here in
    record {
      known = ap is_some there;
      sound = subst (λ (p : Known). IsSound p seat) (sym (ap (λ o. unwrap_or o no_profile) there)) sound;
    }

-- the layers of a session that is opened
pub opened_layers : (ps : List (List ℕ × Known)) (profile : List ℕ) (thread n : ℕ) (k : List ℕ × Known) (seat : Seated) → n ≡ place_of ps profile → n < length ps → k ≡ get_or ps n k
    → seat ≡ record { session = opened profile thread; layers = bare (thread_at k.1 thread) } → seat.layers ≡ bare (thread_of (profile_of ps seat.session) (present seat.session))
opened_layers ps profile thread n k seat at within here e =
    ap (λ (s : Seated). s.layers) e ∙ (ap (λ p. bare (thread_at p thread)) (sym (ap (λ o. unwrap_or o no_profile) (value_here ps profile n k at within here)))
    ∙ ap (λ (s : Seated). bare (thread_of (profile_of ps s.session) (present s.session))) (sym e))

-- what stands under a name that had nothing
pub nothing_there : (d : DeskLists) (name : List ℕ) (new : Seated) → length d.seats ≤ place_of d.seats name → value_at d.seats name ≡ Some new → ⊥
nothing_there d name new lacks h = none-some new (sym (value_lacks d.seats name lacks) ∙ h)

pub restored_layers : (ps : List (List ℕ × Known)) (profile : List ℕ) (n : ℕ) (k : List ℕ × Known) (seat : Seated) (s : SavedLists) → n ≡ place_of ps profile → n < length ps → k ≡ get_or ps n k
    → seat.session ≡ restored profile s → seat.layers ≡ bare (thread_of k.1 (present seat.session)) → seat.layers ≡ bare (thread_of (profile_of ps seat.session) (present seat.session))
restored_layers ps profile n k seat s at within here e laid =
    let there : value_at ps seat.session.profile ≡ Some k.1 = ap (λ (t : Session). value_at ps t.profile) e ∙ value_here ps profile n k at within here in
    laid ∙ ap (λ (p : Known). bare (thread_of p (present seat.session))) (sym (ap (λ o. unwrap_or o no_profile) there))

-- no kept text is refused for the keeper's fault, and none without memory
module _ (p : Known) (size : ℕ) where
  faultless : (r : Refusal) (b : Bool) (here kept : List ℕ) (o : Option Refusal) → option_or (when b (OtherProfile kept here)) (option_or (option_map (λ _. BadSaved size) o) None) ≡ Some r → r ≡ KeeperFault → ⊥
  faultless r true here kept o h e = cc
  faultless r false here kept None h e = cc
  faultless r false here kept (Some x) h e = cc

  pub read_quiet : (t : Result SavedLists ℕ) (r : Refusal) → read_refusal p size t ≡ Some r → r ≡ KeeperFault → ⊥
  read_quiet (Err at) r h e = cc
  read_quiet (Ok s) r h e = faultless r _ p.digest s.digest (first_of (map (view_refusal p) s.views)) h e

  costly : (kept : Option (List ℕ)) (q : Session) (profile : List ℕ) (b : Bool) (here there : List ℕ) (o : Option Refusal)
      → is_refused_lean (ask.LoadOn profile) (made kept q (option_or (when b (OtherProfile there here)) (option_or (option_map (λ _. BadSaved size) o) None))).reply ≡ false
  costly kept q profile true here there o = refl
  costly kept q profile false here there None = refl
  costly kept q profile false here there (Some x) = refl

  pub read_costly : (t : Result SavedLists ℕ) (kept : Option (List ℕ)) (q : Session) (profile : List ℕ) → is_refused_lean (ask.LoadOn profile) (made kept q (read_refusal p size t)).reply ≡ false
  read_costly (Err at) kept q profile = refl
  read_costly (Ok s) kept q profile = costly kept q profile _ p.digest s.digest (first_of (map (view_refusal p) s.views))

pub text_costly : (p : Known) (text kept : Option (List ℕ)) (q : Session) (profile : List ℕ) → is_refused_lean (ask.LoadOn profile) (made kept q (text_refusal p text)).reply ≡ false
text_costly p None kept q profile = refl
text_costly p (Some text) kept q profile = read_costly p (length text) (saved_of text) kept q profile

-- a load that is refused before the keeper is asked
pub asks_nothing : (o : Option Known) (count : ℕ) → o ≡ None → (is_some o && nat_lt count 1000) ≡ false
asks_nothing o count e = ap (λ k. is_some k && nat_lt count 1000) e

lt_false : (m n : ℕ) → n ≤ m → nat_lt m n ≡ false
lt_false m n h = grind arith

pub asks_full : (o : Option Known) (p : Known) (count : ℕ) → o ≡ Some p → 1000 ≤ count → (is_some o && nat_lt count 1000) ≡ false
asks_full o p count e many = ap (λ k. is_some k && nat_lt count 1000) e ∙ lt_false count 1000 many

-- what the keeper answered
pub is_text : (o : Option Shelf) (name : List ℕ) (text : Option (List ℕ)) → IfSome o (λ shelf. text ≡ file_at shelf name) → IsText o name text
is_text None name text h = tt
is_text (Some shelf) name text h = h
