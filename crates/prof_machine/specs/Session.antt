-- Sessions, and what a change makes of one
use Rattle.std.specs.Prelude.{ℕ, ◌+◌, ◌-◌, ◌==◌, Bool, true, false, ◌&&◌, List, [], ◌∷◌, ◌++◌, length, get_or, take, drop, Option, Some, None}
use Rattle.std.specs.Str.{bytes_eq}
use Rattle.std.specs.Ordering.{int_eq}
use Rattle.std.specs.Result.{result_unwrap_or}
use Rattle.prof_path.specs.declared.transform.Implementation.{Implementation}
use Rattle.prof_path.specs.declared.transform.Implementation.TheVariants.{Combined, Js, Cpp}
use Rattle.prof_path.specs.declared.transform.Range.{Range}
use Rattle.prof_path.specs.declared.transform.Transform.{Transform}
use Rattle.prof_path.specs.declared.transform.Transform.TheVariants.{MergeFunction, MergeCallNode, DropFunction, FocusSubtree, FocusFunction, FocusCategory, CollapseResource, CollapseDirectRecursion, CollapseRecursion, CollapseFunctionSubtree, FilterSamples}
use Rattle.prof_path.specs.Views.{ViewLists}
use Rattle.prof_address.specs.Parts.{fresh}
use Rattle.prof_address.proofs.OutcomeLemmas.{view_of}
use Rattle.prof_request.specs.declared.request.Command.{Command}
use Rattle.prof_request.specs.declared.request.Command.TheVariants.{OpenOn, LoadOn, Close, Tree, Inverted, Markers, Address, Save, Push, PopTo, CommitRange, PopRangesTo, SetImplementation, SetSearch, Undo, Redo, Goto}

pub record Session : Type 0 where
  -- the profile's name
  pub profile : List ℕ
  pub version : ℕ
  -- one to a hundred views, the oldest first, and the place of the present one
  pub views : List ViewLists
  pub place : ℕ
  -- the last change that was accepted
  pub last : Option Command

-- the session that is opened on a thread
abbrev pub opened : List ℕ → ℕ → Session
opened profile thread = record { profile = profile; version = 0; views = fresh thread ∷ []; place = 0; last = None }

-- the view at the place
abbrev pub present : Session → ViewLists
present s = get_or s.views s.place (fresh 0)

-- whether a request is a change
abbrev pub is_change : Command → Bool
is_change (OpenOn profile thread) = false
is_change (LoadOn profile) = false
is_change Close = false
is_change Tree = false
is_change Inverted = false
is_change (Markers search) = false
is_change Address = false
is_change Save = false
is_change command = true

-- the version that a change is meant for
abbrev pub at_of : Command → ℕ
at_of (Push at t) = at
at_of (PopTo at n) = at
at_of (CommitRange at range) = at
at_of (PopRangesTo at n) = at
at_of (SetImplementation at i) = at
at_of (SetSearch at text) = at
at_of (Undo at) = at
at_of (Redo at) = at
at_of (Goto at address) = at
at_of command = 0

-- the view that a change makes of the present one
abbrev pub changed_view : ViewLists → Command → ViewLists
changed_view v (Push at t) = record v { transforms = v.transforms ++ t ∷ [] }
changed_view v (PopTo at n) = record v { transforms = take n v.transforms }
changed_view v (CommitRange at range) = record v { ranges = v.ranges ++ range ∷ [] }
changed_view v (PopRangesTo at n) = record v { ranges = take n v.ranges }
changed_view v (SetImplementation at i) = record v { implementation = i }
changed_view v (SetSearch at text) = record v { search = text }
changed_view v (Goto at address) = result_unwrap_or (view_of address) v
changed_view v command = v

-- the last so many
abbrev pub last_of : {X : Type 0} → ℕ → List X → List X
last_of n xs = drop (length xs - n) xs

-- A view put behind the present one. Those that stood there are dropped, and the oldest where there are then more than a
-- hundred. It is the present one.
abbrev pub with_view : Session → ViewLists → Session
with_view s v =
    let views = last_of 100 (take (s.place + 1) s.views ++ v ∷ []) in
    record s { views = views; place = length views - 1 }

-- where a change leads: back, forth, or to a new view
abbrev pub moved : Session → Command → Session
moved s (Undo at) = record s { place = s.place - 1 }
moved s (Redo at) = record s { place = s.place + 1 }
moved s command = with_view s (changed_view (present s) command)

-- the session after an accepted change
abbrev pub changed : Session → Command → Session
changed s command = record (moved s command) { version = s.version + 1; last = Some command }

-- whether two filters, two transforms, two changes are the same
abbrev pub same_filter : Implementation → Implementation → Bool
same_filter Combined Combined = true
same_filter Js Js = true
same_filter Cpp Cpp = true
same_filter i j = false

-- paths are compared as texts are
abbrev pub same_bool : Bool → Bool → Bool
same_bool true b = b
same_bool false true = false
same_bool false false = true

abbrev pub same_transform : Transform → Transform → Bool
same_transform (MergeFunction f) (MergeFunction g) = f == g
same_transform (MergeCallNode i q) (MergeCallNode j r) = same_filter i j && bytes_eq q r
same_transform (DropFunction f) (DropFunction g) = f == g
same_transform (FocusSubtree i q inverted) (FocusSubtree j r other) = same_filter i j && bytes_eq q r && same_bool inverted other
same_transform (FocusFunction f) (FocusFunction g) = f == g
same_transform (FocusCategory c) (FocusCategory d) = c == d
same_transform (CollapseResource i r) (CollapseResource j s) = same_filter i j && r == s
same_transform (CollapseDirectRecursion i f) (CollapseDirectRecursion j g) = same_filter i j && f == g
same_transform (CollapseRecursion f) (CollapseRecursion g) = f == g
same_transform (CollapseFunctionSubtree f) (CollapseFunctionSubtree g) = f == g
same_transform (FilterSamples text) (FilterSamples other) = bytes_eq text other
same_transform t u = false

abbrev pub same_range : Range → Range → Bool
same_range r q = int_eq r.start q.start && int_eq r.end q.end

abbrev pub same_change : Command → Command → Bool
same_change (Push a t) (Push b u) = a == b && same_transform t u
same_change (PopTo a n) (PopTo b m) = a == b && n == m
same_change (CommitRange a r) (CommitRange b q) = a == b && same_range r q
same_change (PopRangesTo a n) (PopRangesTo b m) = a == b && n == m
same_change (SetImplementation a i) (SetImplementation b j) = a == b && same_filter i j
same_change (SetSearch a text) (SetSearch b other) = a == b && bytes_eq text other
same_change (Undo a) (Undo b) = a == b
same_change (Redo a) (Redo b) = a == b
same_change (Goto a text) (Goto b other) = a == b && bytes_eq text other
same_change c d = false

-- whether a change is the last one that was accepted
abbrev pub is_last : Option Command → Command → Bool
is_last None command = false
is_last (Some last) command = same_change last command
