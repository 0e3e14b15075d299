-- The profile of a value, and the first check that it fails, by what was gathered of its members.
use Rattle.std.proofs.Common.{◌≡◌, ℕ, suc, Option, None, Some, List, Bool, false, Err, length, map, take, refl, sym, subst, ap, arith, inl, inr}
use Rattle.prof_raw.specs.declared.limits.TheConstants.{MOST_THREADS}
use Rattle.std.specs.Prelude.{codes, unwrap_or, nat_le}
use Rattle.std.specs.Option.{option_map}
use Rattle.std.proofs.lemmas.Bool.{cases_Bool}
use Rattle.std.proofs.lemmas.List.{take_all}
use Rattle.prof_grammar.specs.Value.{Value, field, items}
use Rattle.prof_raw.specs.declared.rule.Table.TheVariants as table
use Rattle.prof_raw.specs.declared.rule.Column.TheVariants as column
use Rattle.prof_raw.specs.declared.rule.ListFault.{ListFault}
use Rattle.prof_raw.specs.Checks.{named}
use Rattle.prof_tables.specs.Threads.{ThreadTables}
use Rattle.prof_tables.specs.Profiles.{ProfileTables}
use Rattle.prof_layout.specs.Lists.{is_object, items_of, first_unfit, wrong_kind, list_fault, needed_list_fault}
use Rattle.prof_layout.specs.Profile.{is_processed, categories_member, category_names, default_category, threads_member, threads_broken, thread_tables, unknown_format, broken, profile_of}
use Rattle.prof_layout.proofs.Checking.{broken-format, not-processed, threads-few}
use Rattle.prof_gather.specs.declared.objects.Found.{Found}
use Rattle.prof_gather.specs.declared.objects.Found.TheVariants as found
use Rattle.prof_gather.specs.Taking.{IsFound, IsFoundIn}
use Rattle.prof_read.specs.declared.refusal.ReadRefusal.{ReadRefusal}
use Rattle.prof_read.specs.declared.refusal.ReadRefusal.TheVariants as refusal
use Rattle.prof_members.specs.declared.threads.ThreadParts.{ThreadParts}
use Rattle.prof_members.specs.declared.parts.Meta.{Meta}
use Rattle.prof_members.specs.declared.parts.ProfileParts.{ProfileParts}
use Rattle.prof_members.specs.Gathered.{AreShared, AreThreads, IsCategoryList, IsThreadList, AreMeta, AreParts}
use Rattle.prof_read.specs.Built.{ReadsAs}
use Rattle.prof_read.proofs.Standing.{object_found, none_found, no_field}
use Rattle.prof_read.proofs.Refusing.{fault_none}

-- what was gathered of the value's own members
pub record HasParts (v : Value) (p : ProfileParts) : Type 0 where
  pub meta : IsFoundIn AreMeta (field (codes "meta") v) p.meta
  pub shared : IsFoundIn AreShared (field (codes "shared") v) p.shared
  pub threads : IsThreadList (threads_member v) p.threads

-- and of its `meta`
pub record HasMeta (v : Value) (m : Meta) : Type 0 where
  pub processed : m.processed ≡ is_processed v
  pub categories : IsCategoryList (categories_member v) m.categories

pub has_parts : (v : Value) (f : Found ProfileParts) (p : ProfileParts) → f ≡ found.Object p → IsFound AreParts v f → HasParts v p
has_parts v f p e h =
    let o = object_found AreParts (Some v) f p e h in
    let is : v ≡ Value.object o.0 = cc (o.1) in
    subst (λ (w : Value). HasParts w p) (sym is) (record { meta = o.2.meta; shared = o.2.shared; threads = o.2.threads })

pub has_meta : (v : Value) (f : Found Meta) (m : Meta) → f ≡ found.Object m → IsFoundIn AreMeta (field (codes "meta") v) f → HasMeta v m
has_meta v f m e h =
    let o = object_found AreMeta (field (codes "meta") v) f m e h in
    record {
      processed = rw o.1 o.2.processed;
      categories = rw o.1 o.2.categories;
    }

-- ---- what is no processed profile

pub no_profile : {X : Type 0} (Is : X → Type 0) (r : ReadRefusal) (v : Value) → r ≡ refusal.Broken unknown_format → is_processed v ≡ false → ReadsAs Is (Err r) (broken v)
no_profile Is r v e h = rw e (broken-format v h)

pub no_parts : (v : Value) (f : Found ProfileParts) → ((p : ProfileParts) → f ≡ found.Object p → ⊥) → IsFound AreParts v f → is_processed v ≡ false
no_parts v f none h = not-processed v (none_found AreParts (Some v) f none h)

pub no_meta : (v : Value) (f : Found Meta) → ((m : Meta) → f ≡ found.Object m → ⊥) → IsFoundIn AreMeta (field (codes "meta") v) f → is_processed v ≡ false
no_meta v f none h = rw (no_field (codes "preprocessedProfileVersion") (unwrap_or (field (codes "meta") v) Value.null) (none_found AreMeta (field (codes "meta") v) f none h)) refl

-- ---- the threads of a list that breaks nothing

map_none : {X Y : Type 0} (f : X → Y) (o : Option X) → option_map f o ≡ None → o ≡ None
map_none f None h = refl
map_none f (Some x) h = cc

list_fits : (fits : Value → Bool) (most : ℕ) (vs : List Value) → list_fault fits most vs ≡ None → first_unfit fits vs ≡ None
list_fits fits most vs h = elim (cases_Bool (nat_le (length vs) most)) [
  | inl t ↦ map_none wrong_kind (first_unfit fits vs) (rw t at h)
  | inr f ↦ (let k = rw f at h in cc (k))
]

pub needed_fits : (fits : Value → Bool) (most : ℕ) (member : Option Value) → needed_list_fault fits most member ≡ None → first_unfit fits (items_of member) ≡ None
needed_fits fits most None h = cc
needed_fits fits most (Some Value.null) h = cc
needed_fits fits most (Some (Value.boolean b)) h = cc
needed_fits fits most (Some (Value.number t)) h = cc
needed_fits fits most (Some (Value.string t)) h = cc
needed_fits fits most (Some (Value.array vs)) h = list_fits fits most (items vs) h
needed_fits fits most (Some (Value.object ms)) h = cc

pub threads_fit : (v : Value) → threads_broken v ≡ None → first_unfit is_object (items_of (threads_member v)) ≡ None
unfolding threads_broken
threads_fit v h = needed_fits is_object MOST_THREADS (threads_member v) (fault_none None table.Threads column.List (needed_list_fault is_object MOST_THREADS (threads_member v)) h)

pub threads_checked : (v : Value) (fault : Option ListFault) → fault ≡ needed_list_fault is_object MOST_THREADS (threads_member v) → threads_broken v ≡ named None table.Threads column.List fault
unfolding threads_broken
threads_checked v fault e = ap (named None table.Threads column.List) (sym e)

pub threads_kept : (v : Value) (ts : List ThreadParts) → threads_broken v ≡ None → AreThreads (take (suc MOST_THREADS) (items_of (threads_member v))) ts → AreThreads (items_of (threads_member v)) ts
threads_kept v ts h are =
    let few = threads-few v h in
    subst (λ (vs : List Value). AreThreads vs ts) (take_all (suc MOST_THREADS) (items_of (threads_member v)) (omega arith)) are

-- ---- the profile

pub parted : {X Y : Type 0} (a c : X) (b d : Y) → ◌≡◌ {A = X × Y} (a, b) (c, d) → (a ≡ c) × (b ≡ d)
parted {X = X} {Y = Y} a c b d e = (ap (λ (p : X × Y). p.0) e, ap (λ (p : X × Y). p.1) e)

pub profile_is : (v : Value) (threads : List ThreadTables) (names : List (List ℕ)) (default : ℕ) → threads ≡ map (thread_tables v) (items_of (threads_member v)) → names ≡ category_names v → default ≡ default_category v →
    ◌≡◌ {A = ProfileTables} (record { threads = threads; categories = names; default = default }) (profile_of v)
unfolding profile_of
profile_is v threads names default t n d = rw (t, n, d) refl
