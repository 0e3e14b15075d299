-- The rules of a view, one by one, and that an accepted change of an accepted view makes an accepted one
use Rattle.std.proofs.Common.{◌≡◌, ℕ, ◌+◌, ◌<◌, ◌≤◌, nat_lt, nat_le, Bool, true, false, ◌||◌, cond, List, [], ◌∷◌, ◌++◌, map, length, take, get_or, Option, Some, None, Result, Ok, Err, refl, arith, sym, ap, zero, suc, length-append, length-take, drop, add-one, drop-cons}
use Rattle.std.specs.Option.{option_or, option_map}
use Rattle.std.specs.List.{All, list_any}
use Rattle.std.specs.Result.{result_unwrap_or}
use Rattle.prof_tables.specs.Threads.{SharedTables}
use Rattle.prof_path.specs.declared.checking.PushRefusal.{PushRefusal}
use Rattle.prof_path.specs.declared.checking.PushRefusal.TheVariants as rule
use Rattle.prof_path.specs.declared.transform.Implementation.{Implementation}
use Rattle.prof_path.specs.declared.transform.Range.{Range}
use Rattle.prof_path.specs.declared.transform.Transform.{Transform}
use Rattle.prof_path.specs.declared.transform.Transform.TheVariants.{MergeCallNode, FocusSubtree, FilterSamples}
use Rattle.prof_path.specs.Refusals.{rule_of, refusal_of}
use Rattle.prof_path.specs.Terms.{is_long_search}
use Rattle.prof_path.specs.Views.{ViewLists}
use Rattle.prof_spell.specs.Pieces.{EachFits}
use Rattle.prof_address.specs.Transforms.{HasPath}
use Rattle.prof_address.specs.Views.{HasPaths}
use Rattle.prof_request.specs.declared.request.Command.{Command}
use Rattle.prof_request.specs.declared.request.Command.TheVariants as ask
use Rattle.prof_machine.specs.declared.refusal.Refusal.{Refusal}
use Rattle.prof_machine.specs.Known.{Known, thread_of}
use Rattle.prof_machine.specs.Session.{changed_view}
use Rattle.prof_machine.specs.Machine.{first_of, when, refused_by, transform_refusal, has_long_search, is_bad_range, view_refusal, address_refusal, content_refusal}
use Rattle.prof_address.proofs.OutcomeLemmas.{view_of}

pub neither : {X : Type 0} (a b : Option X) → option_or a b ≡ None → (a ≡ None) × (b ≡ None)
neither None b h = (refl, h)
neither (Some x) b h = cc

pub both_none : {X : Type 0} (a b : Option X) → a ≡ None → b ≡ None → option_or a b ≡ None
both_none None b g h = h
both_none (Some x) b g h = cc

pub not_when : (b : Bool) (r : Refusal) → when b r ≡ None → b ≡ false
not_when true r h = cc
not_when false r h = refl

pub when_not : (b : Bool) (r : Refusal) → b ≡ false → when b r ≡ None
when_not true r h = cc
when_not false r h = refl

nor : (a b : Bool) → (a || b) ≡ false → (a ≡ false) × (b ≡ false)
nor false b h = (refl, h)
nor true b h = cc

or_not : (a b : Bool) → a ≡ false → b ≡ false → (a || b) ≡ false
or_not false b g h = h
or_not true b g h = cc

not_le : (m n : ℕ) → nat_le m n ≡ false → n < m
not_le m n h = grind arith

not_lt : (m n : ℕ) → nat_lt m n ≡ false → n ≤ m
not_lt m n h = grind arith

lt_not : (m n : ℕ) → n ≤ m → nat_lt m n ≡ false
lt_not m n h = grind arith

-- the first refusal of those from a place on
pub next_refusal : {X : Type 0} (f : X → Option Refusal) (xs : List X) (i : ℕ) (x : X) → i < length xs → x ≡ get_or xs i x → first_of (map f (drop i xs)) ≡ option_or (f x) (first_of (map f (drop (i + 1) xs)))
next_refusal f xs i x h e = rw (add-one, drop-cons xs i x) (ap (λ y. option_or (f y) (first_of (map f (drop (suc i) xs)))) (sym e))

-- what an accepted view keeps
pub record Keeps (p : Known) (v : ViewLists) : Type 0 where
  pub thread : nat_le (length p.threads) v.thread ≡ false
  pub rules : first_of (map (transform_refusal (thread_of p v)) v.transforms) ≡ None
  pub few : nat_lt 32 (length v.transforms) ≡ false
  pub bad : list_any is_bad_range v.ranges ≡ false
  pub ranges : nat_lt 16 (length v.ranges) ≡ false
  pub search : is_long_search v.search ≡ false
  pub searches : list_any has_long_search v.transforms ≡ false

pub keeps : (p : Known) (v : ViewLists) → view_refusal p v ≡ None → Keeps p v
keeps p v h =
    let a = neither _ _ h in
    let b = neither _ _ a.1 in
    let c = neither _ _ b.1 in
    let d = neither _ _ c.1 in
    let e = neither _ _ d.1 in
    let f = neither _ _ e.1 in
    let s = nor _ _ (not_when _ _ f.0) in
    record {
      thread = not_when _ _ a.0;
      rules = b.0;
      few = not_when _ _ c.0;
      bad = not_when _ _ d.0;
      ranges = not_when _ _ e.0;
      search = s.0;
      searches = s.1;
    }

pub kept : (p : Known) (v : ViewLists) → Keeps p v → view_refusal p v ≡ None
kept p v k =
    both_none _ _ (when_not _ _ k.thread)
    (both_none _ _ k.rules
    (both_none _ _ (when_not _ _ k.few)
    (both_none _ _ (when_not _ _ k.bad)
    (both_none _ _ (when_not _ _ k.ranges)
    (both_none _ _ (when_not _ _ (or_not _ _ k.search k.searches)) refl)))))

-- the thread of an accepted view is there
pub thread_within : (p : Known) (v : ViewLists) → view_refusal p v ≡ None → v.thread < length p.threads
thread_within p v h = not_le (length p.threads) v.thread (keeps p v h).thread

-- an accepted view has at most 32 transforms and 16 ranges
pub few_transforms : (p : Known) (v : ViewLists) → view_refusal p v ≡ None → length v.transforms ≤ 32
few_transforms p v h = not_lt 32 (length v.transforms) (keeps p v h).few

pub few_ranges : (p : Known) (v : ViewLists) → view_refusal p v ≡ None → length v.ranges ≤ 32
few_ranges p v h = let few : length v.ranges ≤ 16 = not_lt 16 (length v.ranges) (keeps p v h).ranges in omega arith

-- one item more, and fewer
more_rules : (f : Transform → Option Refusal) (ts : List Transform) (t : Transform) → first_of (map f ts) ≡ None → f t ≡ None → first_of (map f (ts ++ t ∷ [])) ≡ None
more_rules f [] t h g = both_none _ _ g refl
more_rules f (u ∷ us) t h g = let n = neither _ _ h in both_none _ _ n.0 (more_rules f us t n.1 g)

fewer_rules : (f : Transform → Option Refusal) (ts : List Transform) (n : ℕ) → first_of (map f ts) ≡ None → first_of (map f (take n ts)) ≡ None
fewer_rules f [] zero h = refl
fewer_rules f [] (suc n) h = refl
fewer_rules f (u ∷ us) zero h = refl
fewer_rules f (u ∷ us) (suc n) h = let g = neither _ _ h in both_none _ _ g.0 (fewer_rules f us n g.1)

module _ {X : Type 0} (f : X → Bool) where
  more_any : (xs : List X) (x : X) → list_any f xs ≡ false → f x ≡ false → list_any f (xs ++ x ∷ []) ≡ false
  more_any [] x h g = or_not _ _ g refl
  more_any (y ∷ ys) x h g = let n = nor _ _ h in or_not _ _ n.0 (more_any ys x n.1 g)

  fewer_any : (xs : List X) (n : ℕ) → list_any f xs ≡ false → list_any f (take n xs) ≡ false
  fewer_any [] zero h = refl
  fewer_any [] (suc n) h = refl
  fewer_any (y ∷ ys) zero h = refl
  fewer_any (y ∷ ys) (suc n) h = let g = nor _ _ h in or_not _ _ g.0 (fewer_any ys n g.1)

  one_more : (xs : List X) (x : X) (most : ℕ) → length xs < most → nat_lt most (length (xs ++ x ∷ [])) ≡ false
  one_more xs x most h = lt_not most (length (xs ++ x ∷ [])) (omega (arith, length-append xs (x ∷ [])))

  not_more : (xs : List X) (n most : ℕ) → length xs ≤ most → nat_lt most (length (take n xs)) ≡ false
  not_more xs n most h = lt_not most (length (take n xs)) (omega (arith, length-take n xs))

pushed : (p : Known) (v : ViewLists) (place count at : ℕ) (t : Transform) → Keeps p v → content_refusal p v place count (ask.Push at t) ≡ None → Keeps p (changed_view v (ask.Push at t))
pushed p v place count at t k h =
    let a = neither _ _ h in
    let b = neither _ _ a.1 in
    let c = neither _ _ b.1 in
    let room : length v.transforms < 32 = not_le 32 (length v.transforms) (not_when _ _ b.0) in
    record {
      thread = k.thread;
      rules = more_rules _ v.transforms t k.rules a.0;
      few = one_more has_long_search v.transforms t 32 room;
      bad = k.bad;
      ranges = k.ranges;
      search = k.search;
      searches = more_any has_long_search v.transforms t k.searches (not_when _ _ c.0);
    }

popped : (p : Known) (v : ViewLists) (at n : ℕ) → Keeps p v → Keeps p (changed_view v (ask.PopTo at n))
popped p v at n k = record {
  thread = k.thread;
  rules = fewer_rules _ v.transforms n k.rules;
  few = not_more has_long_search v.transforms n 32 (not_lt 32 (length v.transforms) k.few);
  bad = k.bad;
  ranges = k.ranges;
  search = k.search;
  searches = fewer_any has_long_search v.transforms n k.searches;
}

committed : (p : Known) (v : ViewLists) (place count at : ℕ) (r : Range) → Keeps p v → content_refusal p v place count (ask.CommitRange at r) ≡ None → Keeps p (changed_view v (ask.CommitRange at r))
committed p v place count at r k h =
    let a = neither _ _ h in
    let b = neither _ _ a.1 in
    let room : length v.ranges < 16 = not_le 16 (length v.ranges) (not_when _ _ b.0) in
    record {
      thread = k.thread;
      rules = k.rules;
      few = k.few;
      bad = more_any is_bad_range v.ranges r k.bad (not_when _ _ a.0);
      ranges = one_more is_bad_range v.ranges r 16 room;
      search = k.search;
      searches = k.searches;
    }

unranged : (p : Known) (v : ViewLists) (at n : ℕ) → Keeps p v → Keeps p (changed_view v (ask.PopRangesTo at n))
unranged p v at n k = record {
  thread = k.thread;
  rules = k.rules;
  few = k.few;
  bad = fewer_any is_bad_range v.ranges n k.bad;
  ranges = not_more is_bad_range v.ranges n 16 (not_lt 16 (length v.ranges) k.ranges);
  search = k.search;
  searches = k.searches;
}

filtered : (p : Known) (v : ViewLists) (at : ℕ) (i : Implementation) → Keeps p v → Keeps p (changed_view v (ask.SetImplementation at i))
filtered p v at i k = record {
  thread = k.thread;
  rules = k.rules;
  few = k.few;
  bad = k.bad;
  ranges = k.ranges;
  search = k.search;
  searches = k.searches;
}

searched : (p : Known) (v : ViewLists) (at : ℕ) (text : List ℕ) → Keeps p v → is_long_search text ≡ false → Keeps p (changed_view v (ask.SetSearch at text))
searched p v at text k short = record {
  thread = k.thread;
  rules = k.rules;
  few = k.few;
  bad = k.bad;
  ranges = k.ranges;
  search = short;
  searches = k.searches;
}

-- the view of an accepted address
addressed : (p : Known) (v : ViewLists) (r : Result ViewLists ℕ) → view_refusal p v ≡ None → address_refusal p r ≡ None → view_refusal p (result_unwrap_or r v) ≡ None
addressed p v (Ok w) h g = g
addressed p v (Err at) h g = h

-- a change that nothing is wrong with makes an accepted view of one
pub accepted : (p : Known) (v : ViewLists) (place count : ℕ) (c : Command) → view_refusal p v ≡ None → content_refusal p v place count c ≡ None → view_refusal p (changed_view v c) ≡ None
accepted p v place count (ask.Push at t) h g = kept p (changed_view v (ask.Push at t)) (pushed p v place count at t (keeps p v h) g)
accepted p v place count (ask.PopTo at n) h g = kept p (changed_view v (ask.PopTo at n)) (popped p v at n (keeps p v h))
accepted p v place count (ask.CommitRange at r) h g = kept p (changed_view v (ask.CommitRange at r)) (committed p v place count at r (keeps p v h) g)
accepted p v place count (ask.PopRangesTo at n) h g = kept p (changed_view v (ask.PopRangesTo at n)) (unranged p v at n (keeps p v h))
accepted p v place count (ask.SetImplementation at i) h g = kept p (changed_view v (ask.SetImplementation at i)) (filtered p v at i (keeps p v h))
accepted p v place count (ask.SetSearch at text) h g = kept p (changed_view v (ask.SetSearch at text)) (searched p v at text (keeps p v h) (not_when _ _ g))
accepted p v place count (ask.Goto at address) h g = addressed p v (view_of address) h g
accepted p v place count c h g = h

-- ---- what the layers and the texts need of an accepted view

unmapped : (o : Option PushRefusal) → option_map refused_by o ≡ None → o ≡ None
unmapped None h = refl
unmapped (Some r) h = cc

allowed : (t : SharedTables) (u : Transform) → option_map refused_by (rule_of t u) ≡ None → has_long_search u ≡ false → refusal_of t u ≡ None
allowed t (FilterSamples text) h g = ap (λ b. cond b (Some rule.LongSearch) None) g
allowed t u h g = unmapped (rule_of t u) h

each_allowed : (t : SharedTables) (us : List Transform) → first_of (map (λ u. option_map refused_by (rule_of t u)) us) ≡ None → list_any has_long_search us ≡ false
    → (k : ℕ) (d : Transform) → k < length us → refusal_of t (get_or us k d) ≡ None
each_allowed t [] h g k d lt = absurd (omega arith)
each_allowed t (u ∷ us) h g zero d lt = let a = neither _ _ h in let b = nor _ _ g in allowed t u a.0 b.0
each_allowed t (u ∷ us) h g (suc k) d lt = let a = neither _ _ h in let b = nor _ _ g in each_allowed t us a.1 b.1 k d (omega arith)

pub all_allowed : (p : Known) (v : ViewLists) → view_refusal p v ≡ None → All (λ (u : Transform). refusal_of (thread_of p v).shared u ≡ None) v.transforms
all_allowed p v h = each_allowed (thread_of p v).shared v.transforms (keeps p v h).rules (keeps p v h).searches

has_path : (t : SharedTables) (u : Transform) → rule_of t u ≡ None → HasPath u
has_path t (MergeCallNode i []) h = cc
has_path t (MergeCallNode i (f ∷ q)) h = λ e. cc
has_path t (FocusSubtree i [] inverted) h = cc
has_path t (FocusSubtree i (f ∷ q) inverted) h = λ e. cc
has_path t u h = tt

each_path : (t : SharedTables) (us : List Transform) → first_of (map (λ u. option_map refused_by (rule_of t u)) us) ≡ None → EachFits HasPath us
each_path t [] h = tt
each_path t (u ∷ us) h = let a = neither _ _ h in (has_path t u (unmapped (rule_of t u) a.0), each_path t us a.1)

pub has_paths : (p : Known) (v : ViewLists) → view_refusal p v ≡ None → HasPaths v
has_paths p v h = each_path (thread_of p v).shared v.transforms (keeps p v h).rules
