-- One step of the machine
use Rattle.std.specs.Prelude.{ℕ, ◌+◌, ◌==◌, nat_lt, nat_le, ℤ, pos, negsuc, int_lt, Bool, true, false, not, ◌&&◌, ◌||◌, List, [], ◌∷◌, map, length, Option, Some, None, is_some, unwrap_or, Result, Ok, Err, if◌then◌else◌}
use Rattle.std.specs.Option.{option_or, option_map}
use Rattle.std.specs.List.{list_any}
use Rattle.std.specs.Result.{result_unwrap_or}
use Rattle.std.specs.Str.{bytes_eq}
use Rattle.prof_io.specs.Named.{value_at}
use Rattle.prof_tables.specs.Threads.{ThreadTables}
use Rattle.prof_path.specs.declared.checking.PushRefusal.{PushRefusal}
use Rattle.prof_path.specs.declared.checking.PushRefusal.TheVariants as rule
use Rattle.prof_path.specs.declared.transform.Range.{Range}
use Rattle.prof_path.specs.declared.transform.Transform.{Transform}
use Rattle.prof_path.specs.declared.transform.Transform.TheVariants.{FilterSamples}
use Rattle.prof_path.specs.Refusals.{rule_of}
use Rattle.prof_path.specs.Terms.{is_long_search}
use Rattle.prof_path.specs.Views.{ViewLists}
use Rattle.prof_tree.specs.Nodes.{node_limit}
use Rattle.prof_tree.specs.Trees.{TreeLists}
use Rattle.prof_address.specs.declared.kind.Form.TheVariants.{Second}
use Rattle.prof_address.specs.Views.{view_text}
use Rattle.prof_address.proofs.OutcomeLemmas.{view_of}
use Rattle.prof_keep.specs.Saved.{SavedLists, saved_text}
use Rattle.prof_keep.proofs.SavedLemmas.{saved_of}
use Rattle.prof_request.specs.declared.request.Command.{Command}
use Rattle.prof_request.specs.declared.request.Command.TheVariants as ask
use Rattle.prof_machine.specs.declared.refusal.Refusal.{Refusal}
use Rattle.prof_machine.specs.declared.refusal.Refusal.TheVariants.{NoSession, NameTaken, NoProfile, NoThread, Stale, FuncOut, ResourceOut, CategoryOut, EmptyPath, LongPath, TooManyTransforms, BadRange, TooManyRanges, DepthOut, NothingToUndo, NothingToRedo, BadAddress, TooManySessions, NotSaved, BadSaved, OtherProfile, TooManyNodes, LongSearch, VersionEnd}
use Rattle.prof_machine.specs.declared.refusal.Reply.{Reply}
use Rattle.prof_machine.specs.declared.refusal.Reply.TheVariants.{Done, Closed, Tree, Inverted, Markers, Address, Refused}
use Rattle.prof_machine.specs.Known.{Known, no_profile, thread_of, tree_of, inverted_of, markers_of}
use Rattle.prof_machine.specs.Session.{Session, opened, present, at_of, changed, is_last}

-- the first refusal that there is
abbrev pub first_of : List (Option Refusal) → Option Refusal
first_of [] = None
first_of (r ∷ rs) = option_or r (first_of rs)

abbrev pub when : Bool → Refusal → Option Refusal
when b r = if b then Some r else None

-- what a transform names isn't there, or its path is wrong
abbrev pub refused_by : PushRefusal → Refusal
refused_by (rule.FuncOut f) = FuncOut f
refused_by (rule.ResourceOut r) = ResourceOut r
refused_by (rule.CategoryOut c) = CategoryOut c
refused_by rule.EmptyPath = EmptyPath
refused_by (rule.LongPath n) = LongPath n
refused_by rule.LongSearch = LongSearch

abbrev pub transform_refusal : ThreadTables → Transform → Option Refusal
transform_refusal t u = option_map refused_by (rule_of t.shared u)

abbrev pub has_long_search : Transform → Bool
has_long_search (FilterSamples search) = is_long_search search
has_long_search t = false

-- a bound past the times that there are, and a range with such a bound, or that ends below its start
abbrev pub is_past : ℤ → Bool
is_past n = int_lt n (negsuc 8999999999999999999) || int_lt (pos 9000000000000000000) n

abbrev pub is_bad_range : Range → Bool
is_bad_range r = int_lt r.end r.start || is_past r.start || is_past r.end

-- the first rule that a whole view breaks: its thread, its first transform that breaks one, the number of these, its
-- ranges, the number of these, and its searches
abbrev pub view_refusal : Known → ViewLists → Option Refusal
view_refusal p v = first_of (
    when (nat_le (length p.threads) v.thread) (NoThread (length p.threads))
    ∷ first_of (map (transform_refusal (thread_of p v)) v.transforms)
    ∷ when (nat_lt 32 (length v.transforms)) TooManyTransforms
    ∷ when (list_any is_bad_range v.ranges) BadRange
    ∷ when (nat_lt 16 (length v.ranges)) TooManyRanges
    ∷ when (is_long_search v.search || list_any has_long_search v.transforms) LongSearch
    ∷ [])

abbrev pub address_refusal : Known → Result ViewLists ℕ → Option Refusal
address_refusal p (Err at) = Some (BadAddress at)
address_refusal p (Ok v) = view_refusal p v

-- what is wrong with a change of its own, at a view of that profile, where the present place is `place` of `count`
abbrev pub content_refusal : Known → ViewLists → ℕ → ℕ → Command → Option Refusal
content_refusal p v place count (ask.Push at t) = first_of (
    transform_refusal (thread_of p v) t
    ∷ when (nat_le 32 (length v.transforms)) TooManyTransforms
    ∷ when (has_long_search t) LongSearch
    ∷ [])
content_refusal p v place count (ask.PopTo at n) = when (nat_lt (length v.transforms) n) (DepthOut (length v.transforms))
content_refusal p v place count (ask.CommitRange at r) = first_of (when (is_bad_range r) BadRange ∷ when (nat_le 16 (length v.ranges)) TooManyRanges ∷ [])
content_refusal p v place count (ask.PopRangesTo at n) = when (nat_lt (length v.ranges) n) (DepthOut (length v.ranges))
content_refusal p v place count (ask.SetSearch at text) = when (is_long_search text) LongSearch
content_refusal p v place count (ask.Undo at) = when (place == 0) NothingToUndo
content_refusal p v place count (ask.Redo at) = when (nat_le count (place + 1)) NothingToRedo
content_refusal p v place count (ask.Goto at address) = address_refusal p (view_of address)
content_refusal p v place count command = None

-- why a change that acts is refused
abbrev pub change_refusal : Known → Session → Command → Option Refusal
change_refusal p s command = option_or (content_refusal p (present s) s.place (length s.views) command) (when (s.version == 4294967295) VersionEnd)

-- A reply, with the session and the kept text of that name as they are then.
pub record After : Type 0 where
  pub reply : Reply
  pub session : Option Session
  pub kept : Option (List ℕ)

abbrev pub stays : Option Session → Option (List ℕ) → Reply → After
stays own kept reply = record { reply = reply; session = own; kept = kept }

-- a change that acts: it is refused, or the session is changed
abbrev pub acted : Session → Option (List ℕ) → Command → Option Refusal → After
acted s kept command (Some refusal) = stays (Some s) kept (Refused refusal)
acted s kept command None = stays (Some (changed s command)) kept (Done (s.version + 1))

-- a change: it acts at its version, is answered again right after it has acted, and else is stale
abbrev pub change : Known → Session → Option (List ℕ) → Command → After
change p s kept command =
    if at_of command == s.version then acted s kept command (change_refusal p s command) else
    (if at_of command + 1 == s.version && is_last s.last command then stays (Some s) kept (Done s.version) else
    stays (Some s) kept (Refused (Stale s.version)))

-- the inverted tree, or the refusal where it has too many nodes
abbrev pub inverted_reply : Option TreeLists → Reply
inverted_reply None = Refused (TooManyNodes node_limit)
inverted_reply (Some tree) = Inverted tree

-- what is saved of a session
abbrev pub saved : Known → Session → SavedLists
saved p s = record { digest = p.digest; version = s.version; place = s.place; views = s.views }

-- a request of a session that is there
abbrev pub asked : Known → Session → Option (List ℕ) → Command → After
asked p s kept (ask.OpenOn profile thread) = stays (Some s) kept (Refused NameTaken)
asked p s kept (ask.LoadOn profile) = stays (Some s) kept (Refused NameTaken)
asked p s kept ask.Close = stays None kept Closed
asked p s kept ask.Tree = stays (Some s) kept (Tree (tree_of (thread_of p (present s)) (present s)))
asked p s kept ask.Inverted = stays (Some s) kept (inverted_reply (inverted_of (thread_of p (present s)) (present s)))
asked p s kept (ask.Markers search) =
    stays (Some s) kept (if is_long_search search then Refused LongSearch else Markers (markers_of (thread_of p (present s)) (present s) search))
asked p s kept ask.Address = stays (Some s) kept (Address (view_text (present s)))
asked p s kept ask.Save = stays (Some s) (Some (saved_text Second (saved p s))) (Done s.version)
asked p s kept command = change p s kept command

-- why a session isn't opened: the profile, the thread, and the number of sessions
abbrev pub open_refusal : Option Known → ℕ → ℕ → Option Refusal
open_refusal None thread count = Some NoProfile
open_refusal (Some p) thread count = first_of (
    when (nat_le (length p.threads) thread) (NoThread (length p.threads))
    ∷ when (nat_le 1000 count) TooManySessions
    ∷ [])

-- why a kept text isn't loaded: it isn't there, is no spelling, is of another profile, or has a view that breaks a rule
abbrev pub read_refusal : Known → ℕ → Result SavedLists ℕ → Option Refusal
read_refusal p size (Err at) = Some (BadSaved at)
read_refusal p size (Ok s) = first_of (
    when (not (bytes_eq s.digest p.digest)) (OtherProfile s.digest p.digest)
    ∷ option_map (λ _. BadSaved size) (first_of (map (view_refusal p) s.views))
    ∷ [])

abbrev pub text_refusal : Known → Option (List ℕ) → Option Refusal
text_refusal p None = Some NotSaved
text_refusal p (Some text) = read_refusal p (length text) (saved_of text)

abbrev pub load_refusal : Option Known → ℕ → Option (List ℕ) → Option Refusal
load_refusal None count kept = Some NoProfile
load_refusal (Some p) count kept = first_of (when (nat_le 1000 count) TooManySessions ∷ text_refusal p kept ∷ [])

-- the session of a kept text, where that is a spelling
abbrev pub restored : List ℕ → SavedLists → Session
restored profile s = record { profile = profile; version = s.version; views = s.views; place = s.place; last = None }

abbrev pub no_saved : SavedLists
no_saved = record { digest = []; version = 0; place = 0; views = [] }

abbrev pub saved_in : Option (List ℕ) → SavedLists
saved_in None = no_saved
saved_in (Some text) = result_unwrap_or (saved_of text) no_saved

-- a request that makes a session, where there is none of that name
abbrev pub made : Option (List ℕ) → Session → Option Refusal → After
made kept s (Some refusal) = stays None kept (Refused refusal)
made kept s None = stays (Some s) kept (Done s.version)

abbrev pub unopened : List (List ℕ × Known) → ℕ → Option (List ℕ) → Command → After
unopened profiles count kept (ask.OpenOn profile thread) = made kept (opened profile thread) (open_refusal (value_at profiles profile) thread count)
unopened profiles count kept (ask.LoadOn profile) = made kept (restored profile (saved_in kept)) (load_refusal (value_at profiles profile) count kept)
unopened profiles count kept command = stays None kept (Refused NoSession)

-- the profile of a session
abbrev pub profile_of : List (List ℕ × Known) → Session → Known
profile_of profiles s = unwrap_or (value_at profiles s.profile) no_profile

-- One step: a request, where these profiles are known, there are so many sessions, and the request's own session and kept
-- text are these.
abbrev pub step : List (List ℕ × Known) → ℕ → Option Session → Option (List ℕ) → Command → After
step profiles count None kept command = unopened profiles count kept command
step profiles count (Some s) kept command = asked (profile_of profiles s) s kept command

-- whether a request that isn't refused before asks the keeper
abbrev pub asks_keeper : List (List ℕ × Known) → ℕ → Option Session → Command → Bool
asks_keeper profiles count None (ask.LoadOn profile) = is_some (value_at profiles profile) && nat_lt count 1000
asks_keeper profiles count None command = false
asks_keeper profiles count (Some s) ask.Save = true
asks_keeper profiles count (Some s) command = false
