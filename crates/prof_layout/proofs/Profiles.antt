-- A profile that stands keeps what profiles keep.
use Rattle.std.proofs.Common.{◌≡◌, ℕ, ◌<◌, ◌≤◌, Option, None, Some, List, [], ◌∷◌, length, refl, sym, subst, arith, inl, inr, length-append}
use Rattle.std.specs.Prelude.{map, unwrap_or, codes}
use Rattle.std.proofs.lemmas.Bool.{cases_Bool}
use Rattle.std.proofs.lemmas.List.{length-map}
use Rattle.std.proofs.lemmas.List.Elements.{All-map}
use Rattle.prof_grammar.specs.Value.{Value}
use Rattle.prof_tables.specs.Profiles.{ProfileTables, CountsIn, IsProfile}
use Rattle.prof_layout.specs.Lists.{first_where, items_of}
use Rattle.prof_layout.specs.Profile.{is_processed, is_grey, categories_member, category_name, names_with, first_grey, category_names, default_category, is_shared, shared_tables, threads_member, checks, processed_broken, unknown_format, broken, thread_tables, profile_of, Stands}
use Rattle.prof_layout.proofs.Kept.{all_pass}
use Rattle.prof_layout.proofs.Items.{first_where-below}
use Rattle.prof_layout.proofs.Checking.{threads-few}
use Rattle.prof_raw.specs.declared.limits.TheConstants.{MOST_THREADS}

below-names : (rows : List Value) (grey : Option ℕ) → first_where is_grey 0 rows ≡ grey → unwrap_or grey (length rows) < length (names_with (map category_name rows) grey)
below-names rows (Some n) e = let l = first_where-below is_grey 0 rows n e in let m = length-map rows category_name in omega arith
below-names rows None e = let a = length-append (map category_name rows) (codes "Other" ∷ []) in let m = length-map rows category_name in omega arith

-- the default is one of the categories
pub default-below : (v : Value) → default_category v < length (category_names v)
unfolding default_category category_names
default-below v = below-names (items_of (categories_member v)) (first_grey v) refl

counts : (v thread : Value) → CountsIn (length (category_names v)) (default_category v) (thread_tables v thread)
unfolding thread_tables shared_tables
counts v thread = elim (cases_Bool (is_shared v)) [
  | inl t ↦ rw t (refl, refl)
  | inr f ↦ rw f (refl, refl)
]

-- where nothing breaks, no check fails
passed : (v : Value) → broken v ≡ None → processed_broken v ≡ None
unfolding broken
passed v h = elim (cases_Bool (is_processed v)) [
  | inl t ↦ rw t at h
  | inr f ↦ (let k : Some unknown_format ≡ None = rw f at h in cc)
]

few : (v : Value) → processed_broken v ≡ None → length (items_of (threads_member v)) ≤ MOST_THREADS
unfolding processed_broken
few v h = threads-few v (all_pass (checks v) h).1.1.0

pub is_profile : (v : Value) → broken v ≡ None → IsProfile (profile_of v)
unfolding profile_of
is_profile v h =
    let threads = items_of (threads_member v) in
    record {
      few = (let e = length-map threads (thread_tables v) in let l : length threads ≤ MOST_THREADS = few v (passed v h) in omega arith);
      default = default-below v;
      threads = All-map (CountsIn (length (category_names v)) (default_category v)) (thread_tables v) threads (λ k d lt. counts v _);
    }

pub stands_profile : (text : List ℕ) (p : ProfileTables) → Stands text p → IsProfile p
stands_profile text p h = subst IsProfile (sym h.is) (is_profile h.value h.whole)
