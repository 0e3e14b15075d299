-- The desk, and what its answers are
use Rattle.std.specs.Prelude.{◌≡◌, ℕ, ◌+◌, ◌<◌, Bool, true, false, cond, List, [], ◌∷◌, map, length, Option, Some, None, IsSome, ⊤}
use Rattle.std.specs.Str.{bytes_eq}
use Rattle.std.specs.List.{All}
use Rattle.std.specs.Option.{option_map}
use Rattle.prof_io.specs.Named.{value_at, with_own, AreNamed}
use Rattle.prof_io.specs.Shelf.{Shelf, file_at}
use Rattle.prof_tables.specs.Threads.{ThreadTables}
use Rattle.prof_tables.specs.Ties.{AreOwn, IsShared}
use Rattle.prof_path.specs.declared.transform.Transform.{Transform}
use Rattle.prof_path.specs.Refusals.{rule_of}
use Rattle.prof_path.specs.Views.{ViewLists}
use Rattle.prof_marker.specs.declared.list.Marker.{Marker}
use Rattle.prof_tree.specs.declared.node.Node.{Node}
use Rattle.prof_request.specs.declared.request.Command.{Command}
use Rattle.prof_request.specs.declared.request.Command.TheVariants as ask
use Rattle.prof_request.specs.declared.request.Request.{Request}
use Rattle.prof_machine.specs.declared.refusal.Reply.{Reply}
use Rattle.prof_machine.specs.declared.refusal.Reply.TheVariants as answered
use Rattle.prof_machine.specs.Known.{Known, thread_of}
use Rattle.prof_machine.specs.Session.{Session, present}
use Rattle.prof_machine.specs.Machine.{After, step, asks_keeper, profile_of}
use Rattle.prof_session.specs.Seated.{Seated, IsSound, LaysAfter, ReadsAtMost, bare, profile_named}

pub record DeskLists : Type 0 where
  pub profiles : List (List ℕ × Known)
  pub seats : List (List ℕ × Seated)

abbrev pub sessions_in : List (List ℕ × Seated) → List (List ℕ × Session)
sessions_in seats = map (λ e. (e.0, e.1.session)) seats

abbrev pub sessions_of : DeskLists → List (List ℕ × Session)
sessions_of d = sessions_in d.seats

-- the session of a name
abbrev pub own_of : DeskLists → List ℕ → Option Session
own_of d name = value_at (sessions_of d) name

-- a session of a profile that is known, whose views break no rule there
pub record IsSeated (profiles : List (List ℕ × Known)) (seat : Seated) : Type 0 where
  pub known : IsSome (value_at profiles seat.session.profile)
  pub sound : IsSound (profile_of profiles seat.session) seat

abbrev pub AreSeated : List (List ℕ × Known) → List (List ℕ × Seated) → Type 0
AreSeated profiles [] = ⊤
AreSeated profiles (e ∷ es) = IsSeated profiles e.1 × AreSeated profiles es

-- what holds of each desk
pub record IsDesk (profiles : List (List ℕ × Known)) (seats : List (List ℕ × Seated)) : Type 0 where
  pub named : AreNamed seats
  pub seated : AreSeated profiles seats

-- the machine's step of a request of that name, where that is the kept text
abbrev pub desk_step : DeskLists → List ℕ → Option (List ℕ) → Command → After
desk_step d name kept command = step d.profiles (length d.seats) (own_of d name) kept command

-- a desk has answered as the machine does, and has what the machine has
pub record Follows (old new : DeskLists) (name : List ℕ) (a : After) (answer : Reply) : Type 0 where
  pub reply : answer ≡ a.reply
  pub sessions : sessions_of new ≡ with_own name a.session (sessions_of old)
  pub profiles : new.profiles ≡ old.profiles
  -- the layers of the other sessions, too
  pub others : (other : List ℕ) → bytes_eq name other ≡ false → value_at new.seats other ≡ value_at old.seats other

-- the text that is kept under a name, where the keeper tells it
abbrev pub IsText : Option Shelf → List ℕ → Option (List ℕ) → Type 0
IsText None name text = ⊤
IsText (Some shelf) name text = text ≡ file_at shelf name

-- the text under a name was set to that, and those under the other names stayed, where the keeper tells them
abbrev pub Sets : Option Shelf → Option Shelf → List ℕ → Option (List ℕ) → Type 0
Sets None new name text = ⊤
Sets (Some old) None name text = ⊥
Sets (Some old) (Some new) name text = (other : List ℕ) → file_at new other ≡ cond (bytes_eq name other) text (file_at old other)

-- a request whose step depends on the kept text
abbrev pub is_load : Command → Bool
is_load (ask.LoadOn profile) = true
is_load command = false

-- A request was answered as the machine answers it, from the own session and the own kept text.
pub record IsStep (old new : DeskLists) (before now : Option Shelf) (got : Option (List ℕ)) (request : Request) (reply : Reply) : Type 0 where
  pub kept : Option (List ℕ)
  pub text : IsText before request.session kept
  -- what the keeper showed, where it was asked
  pub shown : is_load request.command ≡ true → asks_keeper old.profiles (length old.seats) (own_of old request.session) request.command ≡ true → kept ≡ got
  pub follows : Follows old new request.session (desk_step old request.session kept request.command) reply
  pub texts : Sets before now request.session (desk_step old request.session kept request.command).kept

-- nothing was changed but the layers of one session
pub record Stays (old new : DeskLists) (name : List ℕ) (before now : Option Shelf) : Type 0 where
  pub sessions : sessions_of new ≡ sessions_of old
  pub profiles : new.profiles ≡ old.profiles
  pub others : (other : List ℕ) → bytes_eq name other ≡ false → value_at new.seats other ≡ value_at old.seats other
  pub texts : now ≡ before

-- what a request leaves of the layers of its own session: a new session begins with bare ones
abbrev pub LaysOwn : List (List ℕ × Known) → Command → Reply → Option Seated → Option Seated → Type 0
LaysOwn profiles command reply None None = ⊤
LaysOwn profiles command reply None (Some new) = new.layers ≡ bare (thread_of (profile_of profiles new.session) (present new.session))
LaysOwn profiles command reply (Some old) None = ⊤
LaysOwn profiles command reply (Some old) (Some new) = LaysAfter (profile_of profiles old.session) command reply old new

abbrev pub LaysAt : DeskLists → DeskLists → List ℕ → Command → Reply → Type 0
LaysAt old new name command reply = LaysOwn old.profiles command reply (value_at old.seats name) (value_at new.seats name)

-- how many stack rows a request may read: none where its session isn't there
abbrev pub ReadsOwn : Command → Option Seated → ℕ → ℕ → Type 0
ReadsOwn command None before now = now ≡ before
ReadsOwn command (Some seat) before now = ReadsAtMost command seat before now

abbrev pub ReadsAt : DeskLists → List ℕ → Command → ℕ → ℕ → Type 0
ReadsAt d name command before now = ReadsOwn command (value_at d.seats name) before now

-- Two desks that a request of a name can't tell apart: the session of that name, the number of sessions, and the profile
-- that the session or the request names are the same.
pub record AreAlike (d e : DeskLists) (name : List ℕ) (command : Command) : Type 0 where
  pub own : own_of d name ≡ own_of e name
  pub count : length d.seats ≡ length e.seats
  pub profile : (profile : List ℕ) → profile_named (own_of d name) command ≡ Some profile → value_at d.profiles profile ≡ value_at e.profiles profile

-- the thread that the session of a name shows
abbrev pub shown_thread : DeskLists → List ℕ → Option ThreadTables
shown_thread d name = option_map (λ (s : Session). thread_of (profile_of d.profiles s) (present s)) (own_of d name)

-- nodes of functions of a thread, collapsed resources among them, and markers named by its strings
abbrev pub AreFuncs : Option ThreadTables → List Node → Type 0
AreFuncs None nodes = ⊥
AreFuncs (Some t) nodes = All (λ (n : Node). n.func < length t.shared.funcs + length t.shared.resources) nodes

abbrev pub AreStrings : Option ThreadTables → List Marker → Type 0
AreStrings None markers = ⊥
AreStrings (Some t) markers = All (λ (m : Marker). m.name < length t.shared.strings) markers

-- what a reply names is of that thread
abbrev pub IsNamed : Reply → Option ThreadTables → Type 0
IsNamed (answered.Tree tree) t = AreFuncs t tree.nodes
IsNamed (answered.Inverted tree) t = AreFuncs t tree.nodes
IsNamed (answered.Markers markers) t = AreStrings t markers
IsNamed reply t = ⊤

-- a thread as one is kept, and a view whose transforms break no rule there
pub record IsAllowed (t : ThreadTables) (v : ViewLists) : Type 0 where
  pub shared : IsShared t.shared
  pub own : AreOwn t
  pub rules : All (λ (u : Transform). rule_of t.shared u ≡ None) v.transforms
