-- A profile that stands keeps what profiles keep.
use Rattle.std.proofs.Common.{◌≡◌, ℕ, ◌+◌, ◌≤◌, Option, None, Some, List, [], ◌∷◌, length, refl, sym, subst, arith, inl, inr, ◌∙◌, length-append}
use Rattle.std.specs.Prelude.{ℤ, true, false}
use Rattle.std.specs.Option.{option_or}
use Rattle.std.proofs.lemmas.Bool.{cases_Bool}
use Rattle.prof_grammar.specs.Value.{Value}
use Rattle.prof_raw.specs.Checks.{named}
use Rattle.prof_raw.specs.declared.limits.TheConstants.{MOST_CATEGORIES}
use Rattle.prof_raw.specs.declared.rule.Broken.{Broken}
use Rattle.prof_raw.specs.declared.rule.Column.TheVariants as column
use Rattle.prof_raw.specs.declared.rule.Table.TheVariants as table
use Rattle.prof_tables.specs.Profiles.{ProfileTables, IsProfile}
use Rattle.prof_layout.specs.Profile.{is_processed, is_category, categories_member, category_names, default_category, unknown_format}
use Rattle.prof_layout.specs.Lists.{optional_list_fault}
use Rattle.prof_layout.proofs.Kept.{none_of}
use Rattle.prof_layout.proofs.Profiles.{default-below, is_profile}
use Rattle.prof_gecko.specs.Gathered.{Entry, process, fault}
use Rattle.prof_gecko.specs.Processes.{process_broken, process_threads, entries_broken, entries_threads, root_start}
use Rattle.prof_gecko.specs.Processes as gecko
use Rattle.prof_gecko.proofs.Walking.{process_few, process_count, entries_count}
use Rattle.prof_gecko_layout.specs.GeckoProfile.{is_gecko, entries, profile_cells, gecko_broken, gecko_profile, broken_of, profile_in}
use Rattle.prof_read.specs.Texts.{Stands}
use Rattle.prof_read.proofs.Texts.{broken-processed, profile-processed}

few_threads : (categories default : ℕ) (root : ℤ) (number : ℕ) (es : List Entry) → number ≤ 1024 → entries_broken categories root number es ≡ None →
    number + length (entries_threads categories default root es) ≤ 1024
few_threads categories default root number [] few h = omega (arith, few)
few_threads categories default root number (process p ∷ es) few h =
    let both = none_of (process_broken categories root number p) (entries_broken categories root (number + length p.threads) es) h in
    let here = process_few categories number root p both.0 in
    let rest = few_threads categories default root (number + length p.threads) es here both.1 in
    let count = process_count categories default root p in
    let all = length-append (process_threads categories default root p) (entries_threads categories default root es) in
    omega (arith, rest, count, all)
few_threads categories default root number (fault f ∷ es) few h = omega (arith, few)

second : (a b : Option Broken) → option_or a (option_or b None) ≡ None → b ≡ None
second None None h = refl
second None (Some x) h = h
second (Some x) b h = cc

entries_pass : (v : Value) → gecko_broken v ≡ None → entries_broken (length (category_names v)) (root_start (entries v)) 0 (entries v) ≡ None
unfolding gecko.profile_broken profile_cells
entries_pass v h =
    second (named None table.Meta column.Categories (optional_list_fault is_category MOST_CATEGORIES (categories_member v)))
    (entries_broken (length (category_names v)) (root_start (entries v)) 0 (entries v)) h

gecko_is : (v : Value) → gecko_broken v ≡ None → IsProfile (gecko_profile v)
unfolding gecko.profile_of profile_cells
gecko_is v h = record {
  few = (let few = few_threads (length (category_names v)) (default_category v) (root_start (entries v)) 0 (entries v) (omega arith) (entries_pass v h) in omega (arith, few));
  default = default-below v;
  threads = entries_count (length (category_names v)) (default_category v) (root_start (entries v)) (entries v);
}

-- what breaks nothing and isn't processed is a Gecko profile
pub broken-gecko : (v : Value) → is_processed v ≡ false → is_gecko v ≡ true → broken_of v ≡ gecko_broken v
unfolding broken_of
broken-gecko v e g = rw (e, g) refl

pub broken-unknown : (v : Value) → is_processed v ≡ false → is_gecko v ≡ false → broken_of v ≡ Some unknown_format
unfolding broken_of
broken-unknown v e g = rw (e, g) refl

pub profile-gecko : (v : Value) → is_processed v ≡ false → profile_in v ≡ gecko_profile v
unfolding profile_in
profile-gecko v e = rw e refl

other_profile : (v : Value) → is_processed v ≡ false → broken_of v ≡ None → IsProfile (profile_in v)
other_profile v p h = elim (cases_Bool (is_gecko v)) [
  | inl t ↦ subst IsProfile (sym (profile-gecko v p)) (gecko_is v (sym (broken-gecko v p t) ∙ h))
  | inr f ↦ (let k : Some unknown_format ≡ None = sym (broken-unknown v p f) ∙ h in cc)
]

in_profile : (v : Value) → broken_of v ≡ None → IsProfile (profile_in v)
in_profile v h = elim (cases_Bool (is_processed v)) [
  | inl t ↦ subst IsProfile (sym (profile-processed v t)) (is_profile v (sym (broken-processed v t) ∙ h))
  | inr f ↦ other_profile v f h
]

pub stands_profile : (text : List ℕ) (p : ProfileTables) → Stands text p → IsProfile p
stands_profile text p h = subst IsProfile (sym h.is) (in_profile h.value h.whole)
