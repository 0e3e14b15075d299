-- The categories of a written profile are read as its categories.
use Rattle.std.proofs.Common.{◌≡◌, ◌∙◌, ℕ, suc, ◌+◌, ◌<◌, ◌≤◌, List, [], ◌∷◌, Option, None, Some, length, refl, ap, subst, arith, Bool, true, false}
use Rattle.std.specs.Prelude.{◌==◌, map}
use Rattle.std.specs.List.{AllByRecursion, enumerate_from}
use Rattle.std.proofs.lemmas.Bool.Decides.{nat_tests}
use Rattle.std.proofs.lemmas.List.FromFn.{length-enumerate_from}
use Rattle.prof_grammar.specs.Value.{Value, items}
use Rattle.prof_raw.specs.declared.limits.TheConstants.{MOST_CATEGORIES}
use Rattle.prof_raw.specs.declared.rule.Table.TheVariants as table
use Rattle.prof_raw.specs.declared.rule.Column.TheVariants as column
use Rattle.prof_raw.specs.Checks.{named}
use Rattle.prof_tables.specs.Profiles.{ProfileTables}
use Rattle.prof_layout.specs.Lists.{first_where, list_fault}
use Rattle.prof_layout.specs.Profile.{is_processed, is_category, is_grey, category_name, names_with, categories_broken, category_names, default_category}
use Rattle.prof_write.specs.Compact.{values_of}
use Rattle.prof_write.specs.Cells.{category_value}
use Rattle.prof_write.specs.Written.{profile_value}
use Rattle.prof_back.proofs.Columns.{items_back, list_passes, length_map}

-- the values of the categories from a number on
abbrev rows_from : ℕ → ℕ → List (List ℕ) → List Value
rows_from default from names = map (category_value default) (enumerate_from from names)

all_categories : (default from : ℕ) (names : List (List ℕ)) → AllByRecursion (λ v. is_category v ≡ true) (rows_from default from names)
all_categories default from [] = tt
all_categories default from (name ∷ names) = (refl, all_categories default (from + 1) names)

names_back : (default from : ℕ) (names : List (List ℕ)) → map category_name (rows_from default from names) ≡ names
names_back default from [] = refl
names_back default from (name ∷ names) = ap (λ (l : List (List ℕ)). name ∷ l) (names_back default (from + 1) names)

-- the default one is the first grey one
grey_back : (default from : ℕ) (names : List (List ℕ)) → from ≤ default → default < from + length names → first_where is_grey from (rows_from default from names) ≡ Some default
grey_back default from [] low high = absurd (omega arith)
grey_back default from (name ∷ names) low high = at (from == default) refl (λ less. grey_back default (from + 1) names less (omega arith))
  where
    at : (t : Bool) → (from == default) ≡ t → (from + 1 ≤ default → first_where is_grey (from + 1) (rows_from default (from + 1) names) ≡ Some default) →
        first_where is_grey from (rows_from default from (name ∷ names)) ≡ Some default
    at true e others =
        let same : from ≡ default = grind (arith, nat_tests) in
        rw e (ap (λ (n : ℕ). let o : Option ℕ = Some n in o) same)
    at false e others =
        let less : from + 1 ≤ default = grind (arith, nat_tests) in
        let next : from + 1 ≡ suc from = omega arith in
        let P : ℕ → Type 0 = λ n. first_where is_grey n (rows_from default (from + 1) names) ≡ Some default in
        rw e (subst P next (others less))

first_back : (p : ProfileTables) → p.default < length p.categories → first_where is_grey 0 (items (values_of (rows_from p.default 0 p.categories))) ≡ Some p.default
first_back p h =
    ap (first_where is_grey 0) (items_back (rows_from p.default 0 p.categories)) ∙ grey_back p.default 0 p.categories (omega arith) (omega arith)

pub is_processed_back : (p : ProfileTables) → is_processed (profile_value p) ≡ true
is_processed_back p = refl

pub category_names_back : (p : ProfileTables) → p.default < length p.categories → category_names (profile_value p) ≡ p.categories
unfolding category_names
category_names_back p h =
    let rows = rows_from p.default 0 p.categories in
    ap (names_with (map category_name (items (values_of rows)))) (first_back p h) ∙ (ap (map category_name) (items_back rows) ∙ names_back p.default 0 p.categories)

pub default_back : (p : ProfileTables) → p.default < length p.categories → default_category (profile_value p) ≡ p.default
unfolding default_category
default_back p h = rw (first_back p h) refl

pub categories_pass : (p : ProfileTables) → length p.categories ≤ MOST_CATEGORIES → categories_broken (profile_value p) ≡ None
unfolding categories_broken
categories_pass p few =
    let rows = rows_from p.default 0 p.categories in
    let many = length_map (category_value p.default) (enumerate_from 0 p.categories) in
    let each = length-enumerate_from 0 p.categories in
    ap (named None table.Meta column.Categories) (ap (list_fault is_category MOST_CATEGORIES) (items_back rows)
    ∙ list_passes is_category MOST_CATEGORIES rows (omega arith) (all_categories p.default 0 p.categories))
