-- A session in its seat, with its layers
use Rattle.std.specs.Prelude.{◌≡◌, ◌≢◌, ℕ, ◌+◌, ◌-◌, ◌*◌, ◌≤◌, Bool, true, false, List, [], length, map, take, Option, Some, None}
use Rattle.std.specs.List.{All}
use Rattle.prof_tables.specs.Threads.{ThreadTables}
use Rattle.prof_path.specs.Views.{ViewLists}
use Rattle.prof_layer.specs.Common.{IsCommon}
use Rattle.prof_layer.specs.Simulates.{LayerLists, own_entries}
use Rattle.prof_request.specs.declared.request.Command.{Command}
use Rattle.prof_request.specs.declared.request.Command.TheVariants as ask
use Rattle.prof_machine.specs.declared.refusal.Refusal.TheVariants as why
use Rattle.prof_machine.specs.declared.refusal.Reply.{Reply}
use Rattle.prof_machine.specs.declared.refusal.Reply.TheVariants as answered
use Rattle.prof_machine.specs.Known.{Known, thread_of, intervals}
use Rattle.prof_machine.specs.Session.{Session, present}
use Rattle.prof_machine.specs.Machine.{view_refusal}

pub record Seated : Type 0 where
  pub session : Session
  pub layers : LayerLists

-- layers over a thread of which no transform is settled
abbrev pub bare : ThreadTables → LayerLists
bare t = record { base = t; settled = []; spans = []; top = t.shared.stacks; entries = own_entries t.shared.stacks }

-- a session whose views break no rule at its profile, with layers over the thread of its present view, each settled
-- transform with its intervals
pub record IsSound (p : Known) (seat : Seated) : Type 0 where
  pub views : All (λ v. view_refusal p v ≡ None) seat.session.views
  pub base : seat.layers.base ≡ thread_of p (present seat.session)
  pub spans : seat.layers.spans ≡ map (intervals seat.layers.base) seat.layers.settled

-- the layers stay while the present view's thread does, and begin anew on another
pub record KeepsLayers (p : Known) (old new : Seated) : Type 0 where
  pub stay : (present new.session).thread ≡ (present old.session).thread → new.layers ≡ old.layers
  pub anew : (present new.session).thread ≢ (present old.session).thread → new.layers ≡ bare (thread_of p (present new.session))

-- The layers were brought towards the transforms of a view: they stand over the same thread, settled is a front of these
-- transforms, and what was settled of them before still is.
pub record Settles (v : ViewLists) (old new : LayerLists) : Type 0 where
  pub base : new.base ≡ old.base
  pub front : new.settled ≡ take (length new.settled) v.transforms
  pub kept : (k : ℕ) → IsCommon k old.settled v.transforms → k ≤ length new.settled

-- a request for a tree, and a reply that has one, or that says that it has too many nodes
abbrev pub is_tree : Command → Bool
is_tree ask.Tree = true
is_tree ask.Inverted = true
is_tree command = false

abbrev pub is_shown : Reply → Bool
is_shown (answered.Tree tree) = true
is_shown (answered.Inverted tree) = true
is_shown (answered.Refused (why.TooManyNodes limit)) = true
is_shown reply = false

-- what a request for a tree of a view leaves of the layers: with an answer the view's transforms are settled
pub record SettlesAfter (v : ViewLists) (reply : Reply) (old new : LayerLists) : Type 0 where
  pub towards : Settles v old new
  pub settled : is_shown reply ≡ true → new.settled ≡ v.transforms

-- what any request leaves of the layers
pub record LaysAfter (p : Known) (command : Command) (reply : Reply) (old new : Seated) : Type 0 where
  pub tree : is_tree command ≡ true → SettlesAfter (present old.session) reply old.layers new.layers
  pub others : is_tree command ≡ false → KeepsLayers p old new

-- one reading for each row of the base, for each transform past those that are settled, and once more
abbrev pub ReadsWithin : ViewLists → LayerLists → ℕ → ℕ → Type 0
ReadsWithin v l before now =
    (k : ℕ) → IsCommon k l.settled v.transforms → now ≤ before + (length v.transforms - k + 1) * length l.base.shared.stacks

-- how many rows a request may read
pub record ReadsAtMost (command : Command) (seat : Seated) (before now : ℕ) : Type 0 where
  pub tree : is_tree command ≡ true → ReadsWithin (present seat.session) seat.layers before now
  pub others : is_tree command ≡ false → now ≡ before

-- the profile that a request's own session, or the request itself, names
abbrev pub profile_named : Option Session → Command → Option (List ℕ)
profile_named (Some s) command = Some s.profile
profile_named None (ask.OpenOn profile thread) = Some profile
profile_named None (ask.LoadOn profile) = Some profile
profile_named None command = None
