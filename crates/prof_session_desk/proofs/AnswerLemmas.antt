-- Steps of the machine, put together of what the desk's parts answer
use Rattle.std.proofs.Common.{◌≡◌, ℕ, ◌<◌, ◌≤◌, zero, suc, Bool, true, false, cond, List, [], ◌∷◌, length, get_or, arith, set, Option, Some, None, map, refl, sym, ap, ◌∙◌, subst}
use Rattle.std.specs.Str.{bytes_eq}
use Rattle.prof_io.specs.Named.{value_at, place_of}
use Rattle.prof_io.specs.Shelf.{Shelf, file_at}
use Rattle.prof_io.specs.Keep.{Puts}
use Rattle.prof_io.proofs.NamedLemmas.{same_names, value_at-with_own, value_lacks}
use Rattle.std.proofs.lemmas.Option.{none-some}
use Rattle.prof_request.specs.declared.request.Command.{Command}
use Rattle.prof_request.specs.declared.request.Command.TheVariants as ask
use Rattle.prof_request.specs.declared.request.Request.{Request}
use Rattle.prof_machine.specs.declared.refusal.Refusal.{Refusal}
use Rattle.prof_machine.specs.declared.refusal.Refusal.TheVariants.{NoSession}
use Rattle.prof_machine.specs.declared.refusal.Reply.{Reply}
use Rattle.prof_machine.specs.declared.refusal.Reply.TheVariants.{Done, Refused}
use Rattle.prof_machine.specs.Known.{Known, no_profile, thread_of}
use Rattle.prof_machine.specs.Session.{Session, present}
use Rattle.prof_machine.specs.Machine.{stays, made, unopened, profile_of, asks_keeper, asked, saved, restored, saved_in, open_refusal, text_refusal, load_refusal}
use Rattle.prof_address.specs.declared.kind.Form.TheVariants.{Second}
use Rattle.prof_keep.specs.Saved.{saved_text}
use Rattle.prof_machine.specs.Memory.{is_lean}
use Rattle.prof_session.specs.Seated.{Seated, LaysAfter, ReadsAtMost, bare, is_tree}
use Rattle.prof_session_desk.specs.Desk.{DeskLists, own_of, desk_step, Follows, IsText, Sets, Stays, is_load, IsStep, LaysOwn, LaysAt, ReadsOwn, ReadsAt}
use Rattle.prof_session_desk.proofs.DeskLemmas.{SeatAt, sessions_stay, cond_other, own_then, own_value, own_lacks, step_there, step_lacking, follows_still}
use Rattle.prof_session_desk.proofs.MakeLemmas.{step_open, step_load, refused_follows, text_costly}
use Rattle.prof_session.proofs.SoundLemmas.{layers_same}

-- the text of a name, where the keeper tells it
pub own_text : (o : Option Shelf) (name : List ℕ) → (kept : Option (List ℕ)) × IsText o name kept
own_text None name = (None, tt)
own_text (Some shelf) name = (file_at shelf name, refl)

-- texts that stay, the own one with them
pub sets_same : (o : Option Shelf) (name : List ℕ) (kept : Option (List ℕ)) → IsText o name kept → Sets o o name kept
sets_same None name kept h = tt
sets_same (Some shelf) name kept h = λ other. (elim (bytes_eq name other) as (λ b. bytes_eq name other ≡ b → file_at shelf other ≡ cond b kept (file_at shelf other)) [
  | true ↦ λ t. ap (file_at shelf) (sym (same_names name other t)) ∙ sym h
  | false ↦ λ f. refl
]) refl

-- what was put is what is kept then
pub sets_put : (before now : Option Shelf) (name text other : List ℕ) → Puts before now name text → text ≡ other → Sets before now name (Some other)
sets_put None now name text other h e = tt
sets_put (Some old) None name text other h e = h
sets_put (Some old) (Some new) name text other h e = λ k. h k ∙ ap (λ (t : List ℕ). cond (bytes_eq name k) (Some t) (file_at old k)) e

-- a step that asks no keeper
pub plain_step : (old new : DeskLists) (before now : Option Shelf) (got : Option (List ℕ)) (request : Request) (reply : Reply) → now ≡ before → is_load request.command ≡ false
    → ((kept : Option (List ℕ)) → Follows old new request.session (desk_step old request.session kept request.command) reply × ((desk_step old request.session kept request.command).kept ≡ kept))
    → IsStep old new before now got request reply
plain_step old new before now got request reply same keeper h =
    let own = own_text before request.session in
    record {
      kept = own.0;
      text = own.1;
      shown = λ is asks. absurd (clash (sym keeper ∙ is));
      follows = (h own.0).0;
      texts = subst (λ n. Sets before n request.session (desk_step old request.session own.0 request.command).kept) (sym same)
          (subst (λ k. Sets before before request.session k) (sym (h own.0).1) (sets_same before request.session own.0 own.1));
    }
  where
    clash : false ≡ true → ⊥
    clash h = cc

-- a step that saves
pub save_step : (old : DeskLists) (before now : Option Shelf) (got : Option (List ℕ)) (request : Request) (reply : Reply) → is_load request.command ≡ false
    → ((kept : Option (List ℕ)) → Follows old old request.session (desk_step old request.session kept request.command) reply × Sets before now request.session (desk_step old request.session kept request.command).kept)
    → IsStep old old before now got request reply
save_step old before now got request reply keeper h =
    let own = own_text before request.session in
    record {
      kept = own.0;
      text = own.1;
      shown = λ is asks. absurd (clash (sym keeper ∙ is));
      follows = (h own.0).0;
      texts = (h own.0).1;
    }
  where
    clash : false ≡ true → ⊥
    clash h = cc

-- a step that loads
pub load_step : (old new : DeskLists) (before now : Option Shelf) (got : Option (List ℕ)) (request : Request) (reply : Reply) (kept : Option (List ℕ)) → now ≡ before → IsText before request.session kept
    → (asks_keeper old.profiles (length old.seats) (own_of old request.session) request.command ≡ true → kept ≡ got)
    → Follows old new request.session (desk_step old request.session kept request.command) reply → (desk_step old request.session kept request.command).kept ≡ kept
    → IsStep old new before now got request reply
load_step old new before now got request reply kept same text shown follows keeps = record {
  kept = kept;
  text = text;
  shown = λ is asks. shown asks;
  follows = follows;
  texts = subst (λ n. Sets before n request.session (desk_step old request.session kept request.command).kept) (sym same)
      (subst (λ k. Sets before before request.session k) (sym keeps) (sets_same before request.session kept text));
}

-- what makes a session, or is refused, leaves the kept text
pub made_keeps : (kept : Option (List ℕ)) (s : Session) (o : Option Refusal) → (made kept s o).kept ≡ kept
made_keeps kept s (Some r) = refl
made_keeps kept s None = refl

pub no_session : (profiles : List (List ℕ × Known)) (count : ℕ) (kept : Option (List ℕ)) (c : Command) → ((p : List ℕ) (t : ℕ) → c ≡ ask.OpenOn p t → ⊥) → ((p : List ℕ) → c ≡ ask.LoadOn p → ⊥)
    → unopened profiles count kept c ≡ stays None kept (Refused NoSession)
no_session profiles count kept (ask.OpenOn p t) o l = absurd (o p t refl)
no_session profiles count kept (ask.LoadOn p) o l = absurd (l p refl)
no_session profiles count kept c o l = refl

-- the layers of a session that wasn't there
pub lays_new : (profiles : List (List ℕ × Known)) (c : Command) (reply : Reply) (o : Option Seated) → ((new : Seated) → o ≡ Some new → new.layers ≡ bare (thread_of (profile_of profiles new.session) (present new.session))) → LaysOwn profiles c reply None o
lays_new profiles c reply None h = tt
lays_new profiles c reply (Some new) h = h new refl

-- ---- the seat at the place of its name, once it has answered

module _ (ps : List (List ℕ × Known)) (es : List (List ℕ × Seated)) (name : List ℕ) (place : ℕ) (b : List ℕ × Seated) (k : Known) (s : SeatAt ps es name place b) (e : profile_of ps b.1.session ≡ k) where
  abbrev there : DeskLists
  there = record { profiles = ps; seats = es }

  abbrev then_at : Seated → DeskLists
  then_at new = record { profiles = ps; seats = set es place (b.0, new) }

  pub stays_at : (new : Seated) (before : Option Shelf) → new.session ≡ b.1.session → Stays there (then_at new) name before before
  stays_at new before same = record {
    sessions = sessions_stay ps es (set es place (b.0, new)) name place b new s refl same;
    profiles = refl;
    others = λ other apart. ap (λ l. value_at l other) (s.put new) ∙ (value_at-with_own name (Some new) es other ∙ cond_other _ _ _ apart);
    texts = refl;
  }

  pub lays_at : (new : Seated) (c : Command) (reply : Reply) → LaysAfter k c reply b.1 new → LaysAt there (then_at new) name c reply
  lays_at new c reply h =
      subst (λ o. LaysOwn ps c reply o (value_at (set es place (b.0, new)) name)) (sym s.seat)
      (subst (λ o. LaysOwn ps c reply (Some b.1) o) (sym (own_then es (set es place (b.0, new)) name place b new ps s refl))
      (subst (λ (p : Known). LaysAfter p c reply b.1 new) (sym e) h))

  pub reads_at : (c : Command) (before now : ℕ) → ReadsAtMost c b.1 before now → ReadsAt there name c before now
  reads_at c before now h = subst (λ o. ReadsOwn c o before now) (sym s.seat) h

  pub lean_at : (c : Command) (kept : Option (List ℕ)) → is_lean c (own_of there name) (desk_step there name kept c) ≡ is_lean c (Some b.1.session) (asked k b.1.session kept c)
  lean_at c kept =
      let own = own_value there name b.1 s.seat in
      ap (λ o. is_lean c o (desk_step there name kept c)) own ∙ ap (is_lean c (Some b.1.session)) (step_there there name kept b.1.session c own ∙ ap (λ p. asked p b.1.session kept c) e)

-- a session that is gone
pub lays_none : (ps : List (List ℕ × Known)) (c : Command) (reply : Reply) (x y : Option Seated) → y ≡ None → LaysOwn ps c reply x y
lays_none ps c reply None None h = tt
lays_none ps c reply (Some x) None h = tt
lays_none ps c reply x (Some y) h = absurd (none-some y (sym h))

-- a session that is there asks the keeper for no text
pub not_asked : (ps : List (List ℕ × Known)) (count : ℕ) (s : Session) (c : Command) → is_load c ≡ true → asks_keeper ps count (Some s) c ≡ true → ⊥
not_asked ps count s (ask.LoadOn profile) h asks = cc
not_asked ps count s c h asks = cc

pub step_at : (old new : DeskLists) (before : Option Shelf) (got : Option (List ℕ)) (request : Request) (reply : Reply) (s : Session) → own_of old request.session ≡ Some s
    → ((kept : Option (List ℕ)) → Follows old new request.session (desk_step old request.session kept request.command) reply × ((desk_step old request.session kept request.command).kept ≡ kept))
    → IsStep old new before before got request reply
step_at old new before got request reply s there h =
    let own = own_text before request.session in
    record {
      kept = own.0;
      text = own.1;
      shown = λ is asks. absurd (not_asked old.profiles (length old.seats) s request.command is (ap (λ o. asks_keeper old.profiles (length old.seats) o request.command) (sym there) ∙ asks));
      follows = (h own.0).0;
      texts = subst (λ k. Sets before before request.session k) (sym (h own.0).1) (sets_same before request.session own.0 own.1);
    }

-- a request that is for no tree leaves a session's layers, and reads no rows
clash : {X : Type 0} (c : Command) → is_tree c ≡ false → is_tree c ≡ true → X
clash c f t = absurd (never (sym f ∙ t))
  where
    never : false ≡ true → ⊥
    never h = cc

pub no_reads : (c : Command) (o : Option Seated) (n : ℕ) → is_tree c ≡ false → ReadsOwn c o n n
no_reads c None n f = refl
no_reads c (Some seat) n f = record { tree = λ t. clash c f t; others = λ _. refl }

pub lays_same : (ps : List (List ℕ × Known)) (c : Command) (reply : Reply) (o : Option Seated) → is_tree c ≡ false → LaysOwn ps c reply o o
lays_same ps c reply None f = tt
lays_same ps c reply (Some seat) f = record { tree = λ t. clash c f t; others = λ _. layers_same (profile_of ps seat.session) seat }

-- a session was saved
pub saves_at : (ps : List (List ℕ × Known)) (es : List (List ℕ × Seated)) (name : List ℕ) (place : ℕ) (b : List ℕ × Seated) (k : Known) (version : ℕ) (before now : Option Shelf) (text : List ℕ)
    → SeatAt ps es name place b → profile_of ps b.1.session ≡ k → version ≡ b.1.session.version → Puts before now name text → text ≡ saved_text Second (saved k b.1.session) → (kept : Option (List ℕ))
    → Follows (record { profiles = ps; seats = es }) (record { profiles = ps; seats = es }) name (desk_step (record { profiles = ps; seats = es }) name kept ask.Save) (Done version)
    × Sets before now name (desk_step (record { profiles = ps; seats = es }) name kept ask.Save).kept
saves_at ps es name place b k version before now text s e v puts is kept =
    let d : DeskLists = record { profiles = ps; seats = es } in
    let own : own_of d name ≡ Some b.1.session = own_value d name b.1 s.seat in
    let step : desk_step d name kept ask.Save ≡ stays (Some b.1.session) (Some (saved_text Second (saved k b.1.session))) (Done b.1.session.version) =
    step_there d name kept b.1.session ask.Save own ∙ ap (λ p. asked p b.1.session kept ask.Save) e in (
      follows_still d name _ _ (ap Done v ∙ ap (λ a. a.reply) (sym step)) (ap (λ a. a.session) step ∙ sym own),
      subst (λ o. Sets before now name o) (ap (λ a. a.kept) (sym step)) (sets_put before now name text _ puts is),
    )

-- what holds of a name and a command holds of the request that they are of
pub of_request : (request : Request) (name : List ℕ) (c : Command) (P : List ℕ → Command → Type 0) → name ≡ request.session → request.command ≡ c → P name c → P request.session request.command
of_request request name c P s e h = subst (λ n. P n request.command) s (subst (P name) (sym e) h)

-- a desk that nothing was changed of
pub stays_same : (old new : DeskLists) (name : List ℕ) (before now : Option Shelf) → new ≡ old → now ≡ before → Stays old new name before now
stays_same old new name before now e same = record {
  sessions = ap (λ (d : DeskLists). map (λ (s : List ℕ × Seated). (s.0, s.1.session)) d.seats) e;
  profiles = ap (λ (d : DeskLists). d.profiles) e;
  others = λ other apart. ap (λ (d : DeskLists). value_at d.seats other) e;
  texts = same;
}

-- a name whose place is within has a value
pub some_there : {X : Type 0} (es : List (List ℕ × X)) (name : List ℕ) → place_of es name < length es → (x : X) × (value_at es name ≡ Some x)
some_there [] name h = absurd (omega arith)
some_there {X = X} (e ∷ es) name h = at (bytes_eq e.0 name) h (some_there es name)
  where
    at : (b : Bool) → cond b 0 (suc (place_of es name)) < suc (length es) → (place_of es name < length es → (x : X) × (value_at es name ≡ Some x)) → (x : X) × (cond b (Some e.1) (value_at es name) ≡ Some x)
    at true k rest = (e.1, refl)
    at false k rest = rest (omega arith)

-- a request that makes no session and whose session isn't there
pub not_load : (c : Command) → ((p : List ℕ) → c ≡ ask.LoadOn p → ⊥) → is_load c ≡ false
not_load (ask.LoadOn p) l = absurd (l p refl)
not_load c l = refl

same_get : {X : Type 0} (xs : List X) (k : ℕ) (a b : X) → k < length xs → get_or xs k a ≡ get_or xs k b
same_get [] k a b h = absurd (omega arith)
same_get (x ∷ xs) zero a b h = refl
same_get (x ∷ xs) (suc k) a b h = same_get xs k a b (omega arith)

module _ (d : DeskLists) (name : List ℕ) (lacks : length d.seats ≤ place_of d.seats name) where
  pub open_keeps : (kept : Option (List ℕ)) (profile : List ℕ) (thread : ℕ) → (desk_step d name kept (ask.OpenOn profile thread)).kept ≡ kept
  open_keeps kept profile thread = ap (λ a. a.kept) (step_lacking d name kept (ask.OpenOn profile thread) (own_lacks d name lacks)) ∙ made_keeps kept _ (open_refusal (value_at d.profiles profile) thread (length d.seats))

  pub load_keeps : (kept : Option (List ℕ)) (profile : List ℕ) → (desk_step d name kept (ask.LoadOn profile)).kept ≡ kept
  load_keeps kept profile = ap (λ a. a.kept) (step_lacking d name kept (ask.LoadOn profile) (own_lacks d name lacks)) ∙ made_keeps kept _ (load_refusal (value_at d.profiles profile) (length d.seats) kept)

  -- an opened session was no lean answer
  pub lean_open : (kept : Option (List ℕ)) (profile : List ℕ) (thread : ℕ) → open_refusal (value_at d.profiles profile) thread (length d.seats) ≡ None
      → is_lean (ask.OpenOn profile thread) (own_of d name) (desk_step d name kept (ask.OpenOn profile thread)) ≡ false
  lean_open kept profile thread none = ap (is_lean (ask.OpenOn profile thread) (own_of d name)) (step_open d name kept profile thread None lacks none)

  -- nor was a loaded one, or one whose text is refused
  pub lean_load : (kept : Option (List ℕ)) (profile : List ℕ) (k : ℕ) → k < length d.profiles
      → ((e : List ℕ × Known) (kept : Option (List ℕ)) → e ≡ get_or d.profiles k e → load_refusal (value_at d.profiles profile) (length d.seats) kept ≡ text_refusal e.1 kept)
      → is_lean (ask.LoadOn profile) None (desk_step d name kept (ask.LoadOn profile)) ≡ false
  lean_load kept profile k within text =
      let e : List ℕ × Known = get_or d.profiles k ([], no_profile) in
      ap (is_lean (ask.LoadOn profile) None) (step_load d name kept profile (text_refusal e.1 kept) lacks (text e kept (same_get d.profiles k ([], no_profile) e within)))
      ∙ text_costly e.1 kept kept (restored profile (saved_in kept)) profile

  pub lays_lacking : (new : DeskLists) (c : Command) (reply : Reply) → ((x : Seated) → value_at new.seats name ≡ Some x → x.layers ≡ bare (thread_of (profile_of d.profiles x.session) (present x.session))) → LaysAt d new name c reply
  lays_lacking new c reply h = subst (λ o. LaysOwn d.profiles c reply o (value_at new.seats name)) (sym (value_lacks d.seats name lacks)) (lays_new d.profiles c reply (value_at new.seats name) h)

  -- no session is there, and the request makes none
  pub nothing_made : (kept : Option (List ℕ)) (c : Command) → ((p : List ℕ) (t : ℕ) → c ≡ ask.OpenOn p t → ⊥) → ((p : List ℕ) → c ≡ ask.LoadOn p → ⊥)
      → Follows d d name (desk_step d name kept c) (Refused NoSession) × ((desk_step d name kept c).kept ≡ kept)
  nothing_made kept c o l =
      let e : desk_step d name kept c ≡ stays None kept (Refused NoSession) = step_lacking d name kept c (own_lacks d name lacks) ∙ no_session d.profiles (length d.seats) kept c o l in
      (refused_follows d name kept c NoSession lacks e, ap (λ a. a.kept) e)

  pub reads_lacking : (c : Command) (n : ℕ) → ReadsAt d name c n n
  reads_lacking c n = subst (λ o. ReadsOwn c o n n) (sym (value_lacks d.seats name lacks)) refl

-- a saved session was no lean answer, and is asked of the keeper
module _ (d : DeskLists) (name : List ℕ) (s : Session) (own : own_of d name ≡ Some s) where
  pub lean_save : (kept : Option (List ℕ)) → is_lean ask.Save (own_of d name) (desk_step d name kept ask.Save) ≡ false
  lean_save kept = ap (is_lean ask.Save (own_of d name)) (step_there d name kept s ask.Save own)

  pub asks_save : asks_keeper d.profiles (length d.seats) (own_of d name) ask.Save ≡ true
  asks_save = ap (λ o. asks_keeper d.profiles (length d.seats) o ask.Save) own
