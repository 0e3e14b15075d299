-- What profile a JSON value is, or the first check that it fails.
use Rattle.std.specs.Prelude.{◌≡◌, ℕ, suc, List, [], ◌∷◌, ◌++◌, Bool, true, false, if◌then◌else◌, Option, None, Some, length, map, codes, is_some, unwrap_or}
use Rattle.std.specs.Option.{option_or}
use Rattle.prof_grammar.specs.Value.{Value, field, same_text}
use Rattle.prof_grammar.specs.Accepted.{IsAccepted}
use Rattle.prof_raw.specs.declared.rule.Rule.TheVariants as rule
use Rattle.prof_raw.specs.declared.rule.Table.TheVariants as table
use Rattle.prof_raw.specs.declared.rule.Column.TheVariants as column
use Rattle.prof_raw.specs.declared.rule.Broken.{Broken}
use Rattle.prof_tables.specs.Threads.{SharedTables, ThreadTables}
use Rattle.prof_tables.specs.Profiles.{ProfileTables}
use Rattle.prof_raw.specs.Checks.{first_of, named, shared_broken, own_broken, thread_broken}
use Rattle.prof_tables.specs.Rows.{shared_of, thread_of}
use Rattle.prof_layout.specs.Lists.{first_where, unless_null, items_of, texts_of, member_text, is_object, is_text, needed_list_fault, optional_list_fault}
use Rattle.prof_layout.specs.Tables.{raw_shared, raw_tables, raw_own, raw_thread}
use Rattle.prof_raw.specs.declared.limits.TheConstants.{MOST_CATEGORIES, MOST_STRINGS, MOST_THREADS}

-- the value of a member, and null where it is absent
abbrev pub member_value : List ℕ → Value → Value
member_value name v = unwrap_or (field name v) Value.null

abbrev pub meta_of : Value → Value
meta_of v = member_value (codes "meta") v

-- A processed profile is an object whose `meta` is an object that says so, whatever it says.
abbrev pub is_processed : Value → Bool
is_processed v = is_some (field (codes "preprocessedProfileVersion") (meta_of v))

abbrev pub categories_member : Value → Option Value
categories_member v = field (codes "categories") (meta_of v)

abbrev pub is_string : Option Value → Bool
is_string (Some (Value.string text)) = true
is_string _ = false

-- a category is an object with a string `name`
abbrev pub is_category : Value → Bool
is_category v = is_string (field (codes "name") v)

abbrev pub category_name : Value → List ℕ
category_name v = member_text (field (codes "name") v)

abbrev pub is_grey : Value → Bool
is_grey v = same_text (member_text (field (codes "color") v)) (codes "grey")

unfoldable pub categories_broken : Value → Option Broken
categories_broken v = named None table.Meta column.Categories (optional_list_fault is_category MOST_CATEGORIES (categories_member v))

-- the first grey category is the default; where none is grey, `Other` stands behind the last and is the default
abbrev pub names_with : List (List ℕ) → Option ℕ → List (List ℕ)
names_with names (Some grey) = names
names_with names None = names ++ codes "Other" ∷ []

abbrev pub first_grey : Value → Option ℕ
first_grey v = first_where is_grey 0 (items_of (categories_member v))

unfoldable pub category_names : Value → List (List ℕ)
category_names v = names_with (map category_name (items_of (categories_member v))) (first_grey v)

unfoldable pub default_category : Value → ℕ
default_category v = unwrap_or (first_grey v) (length (items_of (categories_member v)))

-- what threads share
abbrev pub shared_member : Value → Value
shared_member v = member_value (codes "shared") v

-- The shared layout: `shared` has a stack table that isn't null.
unfoldable pub is_shared : Value → Bool
is_shared v = is_some (unless_null (field (codes "stackTable") (shared_member v)))

-- the tables that all threads share, in that layout
unfoldable pub shared_tables : Value → SharedTables
shared_tables v = shared_of (length (category_names v)) (default_category v) (raw_shared (shared_member v))

-- the strings that all threads share, in the older layout
abbrev pub common_member : Value → Option Value
common_member v = field (codes "stringArray") (shared_member v)

abbrev pub common_of : Option Value → Option (List (List ℕ))
common_of None = None
common_of (Some strings) = Some (texts_of (Some strings))

abbrev pub threads_member : Value → Option Value
threads_member v = field (codes "threads") v

-- these strings are checked where they are there
abbrev pub common_broken : Option Value → Option Broken
common_broken None = None
common_broken member = named None table.StringArray column.List (needed_list_fault is_text MOST_STRINGS member)

-- what breaks of `shared`
unfoldable pub base_broken : Value → Option Broken
base_broken v =
    if is_shared v then shared_broken None (length (category_names v)) (raw_shared (shared_member v))
    else common_broken (common_member v)

unfoldable pub threads_broken : Value → Option Broken
threads_broken v = named None table.Threads column.List (needed_list_fault is_object MOST_THREADS (threads_member v))

-- what a thread of a profile breaks: its samples and markers, and where the tables aren't shared also its own tables
unfoldable pub thread_fails : Value → ℕ → Value → Option Broken
thread_fails v number thread =
    if is_shared v then own_broken (Some number) (length (shared_tables v).strings) (length (shared_tables v).stacks) (raw_own thread)
    else thread_broken number (length (category_names v)) (raw_thread (common_of (common_member v)) thread)

-- the first thread that breaks a rule, of threads whose first has a number
abbrev pub first_thread : (ℕ → Value → Option Broken) → ℕ → List Value → Option Broken
first_thread fails number [] = None
first_thread fails number (thread ∷ threads) = option_or (fails number thread) (first_thread fails (suc number) threads)

-- the checks of a processed profile, in their order
abbrev pub checks : Value → List (Option Broken)
checks v =
    (categories_broken v
    ∷ base_broken v
    ∷ threads_broken v
    ∷ first_thread (thread_fails v) 0 (items_of (threads_member v))
    ∷ [])

-- the first check that a processed profile fails
unfoldable pub processed_broken : Value → Option Broken
processed_broken v = first_of (checks v)

-- what is no processed profile
abbrev pub unknown_format : Broken
unknown_format = record { rule = rule.UnknownFormat; thread = None; table = table.Meta; column = column.Version; row = None }

-- The first check that a value fails: the format is the first of all.
unfoldable pub broken : Value → Option Broken
broken v = if is_processed v then processed_broken v else Some unknown_format

-- a thread's tables
unfoldable pub thread_tables : Value → Value → ThreadTables
thread_tables v thread =
    if is_shared v then thread_of (shared_tables v) (raw_own thread)
    else thread_of (shared_of (length (category_names v)) (default_category v) (raw_tables (common_of (common_member v)) thread)) (raw_own thread)

-- the profile that a value is which breaks nothing
unfoldable pub profile_of : Value → ProfileTables
profile_of v = record {
  threads = map (thread_tables v) (items_of (threads_member v));
  categories = category_names v;
  default = default_category v;
}

-- the text is accepted, and is this processed profile
pub record Stands (text : List ℕ) (p : ProfileTables) : Type 0 where
  pub value : Value
  pub reads : IsAccepted text value
  pub whole : broken value ≡ None
  pub is : p ≡ profile_of value

-- the text is accepted, and this is the first check that it fails
pub record Breaks (text : List ℕ) (b : Broken) : Type 0 where
  pub value : Value
  pub reads : IsAccepted text value
  pub first : broken value ≡ Some b
