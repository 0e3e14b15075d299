-- What a view shows of a thread names what is the thread's: its functions, collapsed resources among them, and its strings
use Rattle.std.proofs.Common.{◌≡◌, ◌≢◌, get_or, ℕ, zero, suc, ◌+◌, ◌-◌, ◌<◌, ◌≤◌, ℤ, Bool, true, false, not, ◌&&◌, ◌||◌, ◌==◌, cond, List, [], ◌∷◌, ◌++◌, length, map, reverse, take, drop, Option, Some, None, refl, sym, ◌∙◌, subst, arith}
use Rattle.std.specs.Prelude.{slice_get, slice_set, nat_lt}
use Rattle.std.specs.Option.{option_map_or, option_map}
use Rattle.std.specs.List.{All, fold, list_any, remove, position}
use Rattle.std.proofs.lemmas.Option.{slice_get_within, slice_get-get_or, same_Some}
use Rattle.std.proofs.lemmas.List.{reverse-append}
use Rattle.std.proofs.lemmas.List.Elements.{All-nil, All-cons, All-append, All-take, All-drop, All-filter, All-map, All-weaker, All-set, All-push}
use Rattle.prof_marker.specs.declared.list.Marker.{Marker}
use Rattle.prof_marker.specs.Markers.{Draft, pair, drafts_of, after_row, after_end, closed_at, closed_by, is_open_start, last_place, instant, interval, unended, unstarted, first_time, last_time}
use Rattle.prof_tables.specs.declared.markers.RawMarker.{RawMarker}
use Rattle.prof_tables.specs.declared.rows.SampleRow.{SampleRow}
use Rattle.prof_tables.specs.declared.rows.StackRow.{StackRow}
use Rattle.prof_tables.specs.declared.rows.Step.{Step}
use Rattle.prof_tables.specs.Paths.{path, path_within, step_of}
use Rattle.prof_tables.specs.Threads.{SharedTables, ThreadTables}
use Rattle.prof_tables.specs.Ties.{IsStackRow, IsMarker}
use Rattle.prof_path.specs.declared.checking.PushRefusal.TheVariants.{ResourceOut}
use Rattle.prof_path.specs.declared.lists.Span.{Span}
use Rattle.prof_path.specs.declared.transform.Implementation.{Implementation}
use Rattle.prof_path.specs.declared.transform.Transform.{Transform}
use Rattle.prof_path.specs.declared.transform.Transform.TheVariants.{MergeFunction, MergeCallNode, DropFunction, FocusSubtree, FocusFunction, FocusCategory, CollapseResource, CollapseDirectRecursion, CollapseRecursion, CollapseFunctionSubtree, FilterSamples}
use Rattle.prof_path.specs.Finals.{final, found}
use Rattle.prof_path.specs.Refusals.{refusal_of, rule_of}
use Rattle.prof_path.specs.Rewriting.{rewrite, rewrite_all, is_func, is_hidden, end_of, has_resource, collapsed, without_repeats, after_last_of, is_during}
use Rattle.prof_path.specs.Shown.{seen, shown}
use Rattle.prof_path.specs.Terms.{is_long_search, terms_of}
use Rattle.prof_path.specs.Views.{ViewLists}
use Rattle.prof_tree.specs.declared.node.Node.{Node}
use Rattle.prof_tree.specs.Nodes.{Weighed, nodes_of, reversed, at_roots}
use Rattle.prof_tree.specs.Trees.{TreeLists}
use Rattle.prof_view_tree.specs.Views.{finals, plain_tree, inverted_tree, selected_samples}
use Rattle.prof_tree.proofs.Known.{nodes_of-known}
use Rattle.prof_marker.specs.Found.{is_found}
use Rattle.prof_io.specs.Named.{value_at}
use Rattle.prof_io.specs.Shelf.{Shelf}
use Rattle.prof_address.specs.Parts.{fresh}
use Rattle.prof_request.specs.declared.request.Command.{Command}
use Rattle.prof_request.specs.declared.request.Command.TheVariants as ask
use Rattle.prof_request.specs.declared.request.Request.{Request}
use Rattle.prof_machine.specs.declared.refusal.Refusal.{Refusal}
use Rattle.prof_machine.specs.declared.refusal.Refusal.TheVariants.{KeeperFault, LongSearch, Stale}
use Rattle.prof_machine.specs.declared.refusal.Reply.{Reply}
use Rattle.prof_machine.specs.declared.refusal.Reply.TheVariants.{Done, Inverted, Markers, NoMemory, Refused, Tree}
use Rattle.prof_machine.specs.Known.{Known, intervals, markers_of, thread_of}
use Rattle.prof_machine.specs.Session.{Session, at_of, is_last, opened, present}
use Rattle.prof_machine.specs.Machine.{After, acted, asked, change, change_refusal, inverted_reply, load_refusal, made, open_refusal, profile_of, restored, saved_in, stays, unopened, view_refusal}
use Rattle.prof_machine.proofs.RuleLemmas.{all_allowed}
use Rattle.prof_session_desk.specs.Desk.{DeskLists, IsAllowed, IsNamed, IsStep, desk_step, own_of, shown_thread}
use Rattle.prof_session_desk.proofs.DeskLemmas.{step_lacking, step_there}
use Rattle.prof_session_desk.proofs.DeskLaws.{own_after}

module _ (bound : ℕ) where
  abbrev pub Below : Step → Type 0
  Below s = s.func < bound

  abbrev pub AllBelow : List Step → Type 0
  AllBelow x = All Below x

  none : AllBelow []
  none = All-nil Below

  chosen : (b : Bool) (x : List Step) → AllBelow x → AllBelow (cond b x [])
  chosen true x h = h
  chosen false x h = none

  dropped : (b : Bool) (x : List Step) → AllBelow x → AllBelow (cond b [] x)
  dropped true x h = none
  dropped false x h = h

  from : (o : Option ℕ) (x : List Step) → AllBelow x → AllBelow (option_map_or (λ k. drop k x) o [])
  from None x h = none
  from (Some k) x h = All-drop Below k x h

  within : (o : Option ℕ) (n : ℕ) (x : List Step) → AllBelow x → AllBelow (option_map_or (λ k. take (n - k) x) o [])
  within None n x h = none
  within (Some k) n x h = All-take Below (n - k) x h

  without : (o : Option ℕ) (x : List Step) → AllBelow x → AllBelow (option_map_or (remove x) o x)
  without None x h = h
  without (Some k) x h = All-append Below (take k x) (drop (suc k) x) (All-take Below k x h) (All-drop Below (suc k) x h)

  cut : (o : Option ℕ) (x : List Step) → AllBelow x → AllBelow (option_map_or (λ k. take (k + 1) x) o x)
  cut None x h = h
  cut (Some k) x h = All-take Below (k + 1) x h

  after : (f : ℕ) (x : List Step) → AllBelow x → AllBelow (after_last_of f x)
  after f [] h = h
  after f (s ∷ x) h = at (list_any (is_func f) (s ∷ x)) (after f x (All-drop Below 1 (s ∷ x) h))
    where
      at : (b : Bool) → AllBelow (after_last_of f x) → AllBelow (cond b (after_last_of f x) (s ∷ x))
      at true k = k
      at false k = h

  joined : (o : Option ℕ) (f : ℕ) (x : List Step) → AllBelow x → AllBelow (option_map_or (λ k. take (k + 1) x ++ after_last_of f x) o x)
  joined None f x h = h
  joined (Some k) f x h = All-append Below (take (k + 1) x) (after_last_of f x) (All-take Below (k + 1) x h) (after f x h)

  repeats : (t : SharedTables) (i : Implementation) (f : ℕ) (called : Bool) (x : List Step) → AllBelow x → AllBelow (without_repeats t i f called x)
  repeats t i f called [] h = h
  repeats t i f called (s ∷ x) h =
      at (is_func f s) called (repeats t i f true x rest) (repeats t i f (called && is_hidden t i s) x rest)
    where
      rest : AllBelow x
      rest = All-drop Below 1 (s ∷ x) h

      first : Below s
      first = h 0 s (omega arith)

      at : (b c : Bool) → AllBelow (without_repeats t i f true x) → AllBelow (without_repeats t i f (called && is_hidden t i s) x)
          → AllBelow (cond b (cond c [] (s ∷ []) ++ without_repeats t i f true x) (s ∷ without_repeats t i f (called && is_hidden t i s) x))
      at true true k l = k
      at true false k l = All-cons Below s _ first k
      at false c k l = All-cons Below s _ first l

  collapses : (t : SharedTables) (i : Implementation) (r : ℕ) (inside : Bool) (x : List Step) → length t.funcs + r < bound → AllBelow x → AllBelow (collapsed t i r inside x)
  collapses t i r inside [] fits h = h
  collapses t i r inside (s ∷ x) fits h =
      at (has_resource t r s || (is_hidden t i s && inside)) inside (collapses t i r true x fits rest) (collapses t i r false x fits rest)
    where
      rest : AllBelow x
      rest = All-drop Below 1 (s ∷ x) h

      at : (b c : Bool) → AllBelow (collapsed t i r true x) → AllBelow (collapsed t i r false x)
          → AllBelow (cond b (cond c [] ((record s { func = length t.funcs + r }) ∷ []) ++ collapsed t i r true x) (s ∷ collapsed t i r false x))
      at true true k l = k
      at true false k l = All-cons Below _ _ fits k
      at false c k l = All-cons Below s _ (h 0 s (omega arith)) l

abbrev bound_of : SharedTables → ℕ
bound_of t = length t.funcs + length t.resources

fitting : (t : SharedTables) (i : Implementation) (r : ℕ) → rule_of t (CollapseResource i r) ≡ None → length t.funcs + r < bound_of t
fitting t i r h = at (nat_lt r (length t.resources)) refl h
  where
    at : (b : Bool) → nat_lt r (length t.resources) ≡ b → cond b None (Some (ResourceOut r)) ≡ None → length t.funcs + r < bound_of t
    at true e k = grind arith
    at false e k = cc

-- what a transform makes of steps of the thread's functions
pub rewrite-known : (t : SharedTables) (u : Transform) (spans : List Span) (x : List Step) (m : ℤ) → rule_of t u ≡ None → AllBelow (bound_of t) x → AllBelow (bound_of t) (rewrite t u spans x m)
rewrite-known t (MergeFunction f) spans x m r h = All-filter (λ s. not (is_func f s)) (Below (bound_of t)) x h
rewrite-known t (MergeCallNode i q) spans x m r h = without (bound_of t) (end_of t i q x) x h
rewrite-known t (DropFunction f) spans x m r h = dropped (bound_of t) (list_any (is_func f) x) x h
rewrite-known t (FocusSubtree i q false) spans x m r h = from (bound_of t) (end_of t i q x) x h
rewrite-known t (FocusSubtree i q true) spans x m r h = within (bound_of t) (end_of t i q (reverse x)) (length x) x h
rewrite-known t (FocusFunction f) spans x m r h = from (bound_of t) (position (is_func f) x) x h
rewrite-known t (FocusCategory c) spans x m r h = All-filter (λ s. s.category == c) (Below (bound_of t)) x h
rewrite-known t (CollapseResource i n) spans x m r h = collapses (bound_of t) t i n false x (fitting t i n r) h
rewrite-known t (CollapseDirectRecursion i f) spans x m r h = repeats (bound_of t) t i f false x h
rewrite-known t (CollapseRecursion f) spans x m r h = joined (bound_of t) (position (is_func f) x) f x h
rewrite-known t (CollapseFunctionSubtree f) spans x m r h = cut (bound_of t) (position (is_func f) x) x h
rewrite-known t (FilterSamples text) spans x m r h = chosen (bound_of t) (list_any (is_during m) spans) x h

pub rewrite_all-known : (t : SharedTables) (us : List Transform) (spans : List (List Span)) (x : List Step) (m : ℤ) → All (λ u. rule_of t u ≡ None) us → AllBelow (bound_of t) x → AllBelow (bound_of t) (rewrite_all t us spans x m)
rewrite_all-known t [] spans x m r h = h
rewrite_all-known t (u ∷ us) [] x m r h = rewrite_all-known t us [] (rewrite t u [] x m) m (All-drop (λ u. rule_of t u ≡ None) 1 (u ∷ us) r) (rewrite-known t u [] x m (r 0 u (omega arith)) h)
rewrite_all-known t (u ∷ us) (found ∷ spans) x m r h = rewrite_all-known t us spans (rewrite t u found x m) m (All-drop (λ u. rule_of t u ≡ None) 1 (u ∷ us) r) (rewrite-known t u found x m (r 0 u (omega arith)) h)

path-known : (t : SharedTables) (n : ℕ) (stack : Option ℕ) → All (IsStackRow (length t.funcs) t.categories) t.stacks → AllBelow (bound_of t) (path_within t.stacks n stack)
path-known t zero stack h = none (bound_of t)
path-known t (suc n) None h = none (bound_of t)
path-known t (suc n) (Some r) h = over (slice_get t.stacks r) refl (λ p. path-known t n p h)
  where
    at : (row : StackRow) → slice_get t.stacks r ≡ Some row → row.func < bound_of t
    at row is =
        let here : IsStackRow (length t.funcs) t.categories row = subst (IsStackRow (length t.funcs) t.categories) (same_Some _ _ (sym (slice_get-get_or t.stacks r row (slice_get_within t.stacks r row is)) ∙ is)) (h r row (slice_get_within t.stacks r row is)) in
        let low : row.func < length t.funcs = here.func in
        omega arith

    over : (o : Option StackRow) → slice_get t.stacks r ≡ o → ((p : Option ℕ) → AllBelow (bound_of t) (path_within t.stacks n p))
        → AllBelow (bound_of t) (option_map_or (λ (row : StackRow). path_within t.stacks n row.prefix ++ step_of row ∷ []) o [])
    over None is before = none (bound_of t)
    over (Some row) is before =
        All-append (Below (bound_of t)) (path_within t.stacks n row.prefix) (step_of row ∷ []) (before row.prefix)
        (All-cons (Below (bound_of t)) (step_of row) [] (at row is) (none (bound_of t)))

abbrev shown_of : ThreadTables → ViewLists → List (List Span) → SampleRow → List Step
shown_of t v spans s = final t.shared v.transforms spans v.implementation (terms_of v.search) (path t.shared.stacks s.stack) s.time

final-known : (t : ThreadTables) (v : ViewLists) (spans : List (List Span)) (s : SampleRow) → All (IsStackRow (length t.shared.funcs) t.shared.categories) t.shared.stacks → All (λ u. rule_of t.shared u ≡ None) v.transforms
    → AllBelow (bound_of t.shared) (shown_of t v spans s)
final-known t v spans s rows fit =
    chosen (bound_of t.shared) (found t.shared (terms_of v.search) seen_steps) seen_steps
    (All-filter (λ (s : Step). shown t.shared v.implementation s.func) (Below (bound_of t.shared)) _ (rewrite_all-known t.shared v.transforms spans (path t.shared.stacks s.stack) s.time fit (path-known t.shared (length t.shared.stacks) s.stack rows)))
  where
    seen_steps : List Step
    seen_steps = seen t.shared v.implementation (rewrite_all t.shared v.transforms spans (path t.shared.stacks s.stack) s.time)

pub finals-known : (t : ThreadTables) (v : ViewLists) (spans : List (List Span)) → All (IsStackRow (length t.shared.funcs) t.shared.categories) t.shared.stacks → All (λ u. rule_of t.shared u ≡ None) v.transforms
    → All (λ (x : Weighed). AllBelow (bound_of t.shared) x.steps) (finals t v spans)
finals-known t v spans rows fit = each (selected_samples v.ranges t.samples)
  where
    each : (ss : List SampleRow) → All (λ (x : Weighed). AllBelow (bound_of t.shared) x.steps) (map (λ (s : SampleRow). record { steps = shown_of t v spans s; weight = s.weight }) ss)
    each [] = All-nil (λ (x : Weighed). AllBelow (bound_of t.shared) x.steps)
    each (s ∷ ss) = All-cons (λ (x : Weighed). AllBelow (bound_of t.shared) x.steps) _ _ (final-known t v spans s rows fit) (each ss)

-- the nodes of both trees
pub plain-known : (t : ThreadTables) (v : ViewLists) (spans : List (List Span)) → All (IsStackRow (length t.shared.funcs) t.shared.categories) t.shared.stacks → All (λ u. rule_of t.shared u ≡ None) v.transforms
    → All (λ (node : Node). node.func < bound_of t.shared) (plain_tree t v spans)
plain-known t v spans rows fit = nodes_of-known (bound_of t.shared) t.shared.default (finals t v spans) (finals-known t v spans rows fit)

All-reverse : {X : Type 0} (P : X → Type 0) (xs : List X) → All P xs → All P (reverse xs)
All-reverse P [] h = All-nil P
All-reverse P (x ∷ xs) h = subst (All P) (sym (reverse-append (x ∷ []) xs)) (All-push P (reverse xs) x (All-reverse P xs (All-drop P 1 (x ∷ xs) h)) (h 0 x (omega arith)))

turned : (bound : ℕ) (xs : List Weighed) → All (λ (x : Weighed). AllBelow bound x.steps) xs → All (λ (x : Weighed). AllBelow bound x.steps) (map reversed xs)
turned bound xs h =
    All-map (λ (x : Weighed). AllBelow bound x.steps) reversed xs
    (All-weaker (λ (x : Weighed). AllBelow bound x.steps) (λ (x : Weighed). AllBelow bound (reverse x.steps)) (λ x k. All-reverse (Below bound) x.steps k) xs h)

pub inverted-known : (t : ThreadTables) (v : ViewLists) (spans : List (List Span)) → All (IsStackRow (length t.shared.funcs) t.shared.categories) t.shared.stacks → All (λ u. rule_of t.shared u ≡ None) v.transforms
    → All (λ (node : Node). node.func < bound_of t.shared) (inverted_tree t v spans)
inverted-known t v spans rows fit =
    All-map (λ (node : Node). node.func < bound_of t.shared) at_roots (nodes_of t.shared.default (map reversed (finals t v spans)))
    (nodes_of-known (bound_of t.shared) t.shared.default (map reversed (finals t v spans)) (turned (bound_of t.shared) (finals t v spans) (finals-known t v spans rows fit)))

-- the names of markers
module _ (bound : ℕ) where
  abbrev IsNamedDraft : Draft → Type 0
  IsNamedDraft d = d.marker.name < bound

  closes : (m : RawMarker) (ds : List Draft) (k : ℕ) → All IsNamedDraft ds → All IsNamedDraft (closed_at m ds k)
  closes m ds k h = at (slice_get ds k) refl
    where
      named : (d : Draft) → slice_get ds k ≡ Some d → IsNamedDraft d
      named d e = subst IsNamedDraft (same_Some _ _ (sym (slice_get-get_or ds k d (slice_get_within ds k d e)) ∙ e)) (h k d (slice_get_within ds k d e))

      at : (o : Option Draft) → slice_get ds k ≡ o → All IsNamedDraft (option_map_or (λ d. slice_set ds k (closed_by m d)) o ds)
      at None e = h
      at (Some d) e = All-set IsNamedDraft ds k (closed_by m d) (named d e) h

  ends : (strings : List (List ℕ)) (first : Option ℤ) (ds : List Draft) (m : RawMarker) → m.name < bound → All IsNamedDraft ds → All IsNamedDraft (after_end strings first ds m)
  ends strings first ds m n h = at (last_place (is_open_start strings m.name) ds)
    where
      at : (o : Option ℕ) → All IsNamedDraft (option_map_or (closed_at m ds) o (ds ++ unstarted first m ∷ []))
      at None = All-push IsNamedDraft ds (unstarted first m) h n
      at (Some k) = closes m ds k h

  row-named : (strings : List (List ℕ)) (first last : Option ℤ) (ds : List Draft) (m : RawMarker) → m.name < bound → All IsNamedDraft ds → All IsNamedDraft (after_row strings first last ds m)
  row-named strings first last ds m n h = at (m.phase == 0) (m.phase == 1) (m.phase == 2)
    where
      at : (x y z : Bool) → All IsNamedDraft (cond x (ds ++ instant m ∷ []) (cond y (ds ++ interval m ∷ []) (cond z (ds ++ unended last m ∷ []) (after_end strings first ds m))))
      at true y z = All-push IsNamedDraft ds (instant m) h n
      at false true z = All-push IsNamedDraft ds (interval m) h n
      at false false true = All-push IsNamedDraft ds (unended last m) h n
      at false false false = ends strings first ds m n h

  rows-named : (strings : List (List ℕ)) (first last : Option ℤ) (ds : List Draft) (ms : List RawMarker) → All (λ (m : RawMarker). m.name < bound) ms → All IsNamedDraft ds → All IsNamedDraft (fold (after_row strings first last) ds ms)
  rows-named strings first last ds [] n h = h
  rows-named strings first last ds (m ∷ ms) n h =
      rows-named strings first last (after_row strings first last ds m) ms (All-drop (λ (m : RawMarker). m.name < bound) 1 (m ∷ ms) n) (row-named strings first last ds m (n 0 m (omega arith)) h)

pub pair-named : (t : ThreadTables) → All (λ (m : RawMarker). m.name < length t.shared.strings) t.markers.rows → All (λ (m : Marker). m.name < length t.shared.strings) (pair t)
pair-named t h =
    All-map (λ (m : Marker). m.name < length t.shared.strings) (λ (d : Draft). d.marker) (drafts_of t.shared.strings (first_time t.samples) (last_time t.samples) t.markers.rows)
    (rows-named (length t.shared.strings) t.shared.strings (first_time t.samples) (last_time t.samples) [] t.markers.rows h (All-nil (IsNamedDraft (length t.shared.strings))))

-- ---- replies

-- the rules of the present view's transforms
rule_kept : (t : SharedTables) (u : Transform) → refusal_of t u ≡ None → rule_of t u ≡ None
rule_kept t (FilterSamples text) h = refl
rule_kept t u h = h

past_end : {X : Type 0} (xs : List X) (k : ℕ) (d : X) → length xs ≤ k → get_or xs k d ≡ d
past_end [] k d h = refl
past_end (x ∷ xs) zero d h = absurd (omega arith)
past_end (x ∷ xs) (suc k) d h = past_end xs k d (omega arith)

pub present_rules : (p : Known) (s : Session) → All (λ v. view_refusal p v ≡ None) s.views → All (λ (u : Transform). rule_of (thread_of p (present s)).shared u ≡ None) (present s).transforms
present_rules p s h = at (nat_lt s.place (length s.views)) refl
  where
    at : (b : Bool) → nat_lt s.place (length s.views) ≡ b → All (λ (u : Transform). rule_of (thread_of p (present s)).shared u ≡ None) (present s).transforms
    at true e =
        let within : s.place < length s.views = grind arith in
        let t = (thread_of p (present s)).shared in
        All-weaker (λ (u : Transform). refusal_of t u ≡ None) (λ (u : Transform). rule_of t u ≡ None) (rule_kept t) (present s).transforms (all_allowed p (present s) (h s.place (fresh 0) within))
    at false e =
        let past : length s.views ≤ s.place = grind arith in
        subst (λ (v : ViewLists). All (λ (u : Transform). rule_of (thread_of p v).shared u ≡ None) v.transforms) (sym (past_end s.views s.place (fresh 0) past))
        (All-nil (λ (u : Transform). rule_of (thread_of p (fresh 0)).shared u ≡ None))

made_named : (t : Option ThreadTables) (kept : Option (List ℕ)) (s : Session) (o : Option Refusal) → IsNamed (made kept s o).reply t
made_named t kept s None = tt
made_named t kept s (Some r) = tt

unopened_named : (t : Option ThreadTables) (profiles : List (List ℕ × Known)) (count : ℕ) (kept : Option (List ℕ)) (c : Command) → IsNamed (unopened profiles count kept c).reply t
unopened_named t profiles count kept (ask.OpenOn profile thread) = made_named t kept (opened profile thread) (open_refusal (value_at profiles profile) thread count)
unopened_named t profiles count kept (ask.LoadOn profile) = made_named t kept (restored profile (saved_in kept)) (load_refusal (value_at profiles profile) count kept)
unopened_named t profiles count kept c = tt

change_named : (t : Option ThreadTables) (p : Known) (s : Session) (kept : Option (List ℕ)) (c : Command) → IsNamed (change p s kept c).reply t
change_named t p s kept c = at (at_of c == s.version) (at_of c + 1 == s.version && is_last s.last c) (change_refusal p s c)
  where
    at : (x y : Bool) (o : Option Refusal) → IsNamed (cond x (acted s kept c o) (cond y (stays (Some s) kept (Done s.version)) (stays (Some s) kept (Refused (Stale s.version))))).reply t
    at true y (Some r) = tt
    at true y None = tt
    at false true o = tt
    at false false o = tt

inverted_named : (t : ThreadTables) (b : Bool) (tree : TreeLists) → All (λ (node : Node). node.func < bound_of t.shared) tree.nodes → IsNamed (inverted_reply (cond b None (Some tree))) (Some t)
inverted_named t true tree h = tt
inverted_named t false tree h = h

markers_named : (t : ThreadTables) (b : Bool) (markers : List Marker) → All (λ (m : Marker). m.name < length t.shared.strings) markers → IsNamed (cond b (Refused LongSearch) (Markers markers)) (Some t)
markers_named t true markers h = tt
markers_named t false markers h = h

-- the thread of the present view of a session
abbrev of_session : List (List ℕ × Known) → Option Session → Option ThreadTables
of_session profiles o = option_map (λ (s : Session). thread_of (profile_of profiles s) (present s)) o

asked_named : (profiles : List (List ℕ × Known)) (s : Session) (kept : Option (List ℕ)) (c : Command) → IsAllowed (thread_of (profile_of profiles s) (present s)) (present s)
    → IsNamed (asked (profile_of profiles s) s kept c).reply (of_session profiles (asked (profile_of profiles s) s kept c).session)
asked_named profiles s kept (ask.OpenOn profile thread) h = tt
asked_named profiles s kept (ask.LoadOn profile) h = tt
asked_named profiles s kept ask.Close h = tt
asked_named profiles s kept ask.Tree h =
    let t = thread_of (profile_of profiles s) (present s) in
    plain-known t (present s) (map (intervals t) (present s).transforms) h.shared.tied.stacks h.rules
asked_named profiles s kept ask.Inverted h =
    let t = thread_of (profile_of profiles s) (present s) in
    inverted_named t _ _ (inverted-known t (present s) (map (intervals t) (present s).transforms) h.shared.tied.stacks h.rules)
asked_named profiles s kept (ask.Markers search) h =
    let t = thread_of (profile_of profiles s) (present s) in
    markers_named t (is_long_search search) (markers_of t (present s) search)
    (All-filter (is_found t.shared.strings t.markers.texts (terms_of search) (present s).ranges) (λ (m : Marker). m.name < length t.shared.strings) (pair t)
    (pair-named t (All-weaker (IsMarker (length t.shared.strings) (length t.markers.texts)) (λ (m : RawMarker). m.name < length t.shared.strings) (λ m k. k.name) t.markers.rows h.own.markers)))
asked_named profiles s kept ask.Address h = tt
asked_named profiles s kept ask.Save h = tt
asked_named profiles s kept c h = change_named (of_session profiles (change (profile_of profiles s) s kept c).session) (profile_of profiles s) s kept c

-- what a step replies
pub step_named : (old new : DeskLists) (before now : Option Shelf) (got : Option (List ℕ)) (request : Request) (reply : Reply)
    → ((s : Session) → own_of old request.session ≡ Some s → IsAllowed (thread_of (profile_of old.profiles s) (present s)) (present s))
    → IsStep old new before now got request reply → IsNamed reply (shown_thread new request.session)
step_named old new before now got request reply allowed h =
    let name = request.session in
    let c = request.command in
    let after = desk_step old name h.kept c in
    let there : own_of new name ≡ after.session = own_after old new name after reply h.follows in
    subst (λ (r : Reply). IsNamed r (shown_thread new name)) (sym h.follows.reply)
    (subst (λ (o : Option Session). IsNamed after.reply (of_session new.profiles o)) (sym there)
    (subst (λ (ps : List (List ℕ × Known)). IsNamed after.reply (of_session ps after.session)) (sym h.follows.profiles)
    (at (own_of old name) refl)))
  where
    at : (o : Option Session) → own_of old request.session ≡ o → IsNamed (desk_step old request.session h.kept request.command).reply (of_session old.profiles (desk_step old request.session h.kept request.command).session)
    at None e =
        subst (λ (a : After). IsNamed a.reply (of_session old.profiles a.session)) (sym (step_lacking old request.session h.kept request.command e))
        (unopened_named _ old.profiles (length old.seats) h.kept request.command)
    at (Some s) e =
        subst (λ (a : After). IsNamed a.reply (of_session old.profiles a.session)) (sym (step_there old request.session h.kept s request.command e))
        (asked_named old.profiles s h.kept request.command (allowed s e))

-- a reply without a step names nothing
pub reply_named : (r : Reply) (t : Option ThreadTables) → (r ≢ NoMemory → r ≢ Refused KeeperFault → IsNamed r t) → IsNamed r t
reply_named (Tree tree) t h = h (λ e. cc) (λ e. cc)
reply_named (Inverted tree) t h = h (λ e. cc) (λ e. cc)
reply_named (Markers markers) t h = h (λ e. cc) (λ e. cc)
reply_named r t h = tt
