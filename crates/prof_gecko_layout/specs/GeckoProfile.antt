-- What Gecko profile a JSON value is, or the first check that it fails.
use Rattle.std.specs.Prelude.{ℕ, suc, ◌^◌, ℤ, pos, negsuc, unsigned_abs, List, [], ◌∷◌, ◌++◌, Bool, ◌&&◌, if◌then◌else◌, Option, None, Some, nat_lt, nat_le, map, codes, is_some}
use Rattle.std.specs.Option.{option_map, option_or}
use Rattle.prof_grammar.specs.Value.{Value, Values, Members, no_values, value, no_members, member, field, last_named, same_text, items}
use Rattle.prof_raw.specs.declared.rule.Rule.{Rule}
use Rattle.prof_raw.specs.declared.rule.Rule.TheVariants as rule
use Rattle.prof_raw.specs.declared.rule.ListFault.{ListFault}
use Rattle.prof_raw.specs.declared.rule.Broken.{Broken}
use Rattle.prof_raw.specs.declared.limits.TheConstants.{GREATEST, MOST_CATEGORIES, MOST_THREADS}
use Rattle.prof_raw.specs.Rules.{whole_fault}
use Rattle.prof_tables.specs.Profiles.{ProfileTables}
use Rattle.prof_layout.specs.Numbers.{whole_of, scaled_of}
use Rattle.prof_layout.specs.Lists.{is_object, items_of, needed_list_fault, optional_list_fault, wrong_kind, member_text}
use Rattle.prof_layout.specs.Profile.{member_value, is_string, is_category, categories_member, category_names, default_category, is_processed, processed_broken, unknown_format, profile_of}
use Rattle.prof_gecko.specs.Gathered.{Lib, ProcessCells, ProfileCells, Entry, process, fault}
use Rattle.prof_gecko.specs.Processes as gecko
use Rattle.prof_gecko_layout.specs.GeckoTables.{gecko_cells}

-- ---- libraries

-- a whole number of 64 bits
abbrev pub bound_within : Option ℤ → Option ℕ
bound_within (Some (pos n)) = if nat_lt n (2 ^ 64) then Some n else None
bound_within (Some (negsuc n)) = None
bound_within None = None

-- the bound that a member is
abbrev pub bound_of : Option Value → Option ℕ
bound_of (Some (Value.number text)) = bound_within (whole_of text)
bound_of _ = None

-- what an entry of the libraries breaks: an object with a string name is wanted, and then the bounds
abbrev pub lib_rule : Value → Option Rule
lib_rule v =
    if is_string (field (codes "name") v)
    then (if is_some (bound_of (field (codes "start") v)) && is_some (bound_of (field (codes "end") v)) then None
    else Some rule.NumberRange)
    else Some rule.WrongKind

-- the first entry that breaks a rule, of entries whose first stands at a row
abbrev pub first_lib_fault : ℕ → List Value → Option ListFault
first_lib_fault row [] = None
first_lib_fault row (v ∷ vs) = option_or
    (option_map (λ r. record { rule = r; row = Some row }) (lib_rule v))
    (first_lib_fault (suc row) vs)

-- what the libraries break
abbrev pub libs_fault : Option Value → Option ListFault
libs_fault None = None
libs_fault (Some (Value.array vs)) = first_lib_fault 0 (items vs)
libs_fault (Some _) = Some (whole_fault rule.WrongKind)

-- a bound that isn't there is 0
abbrev pub number_or_zero : Option ℕ → ℕ
number_or_zero None = 0
number_or_zero (Some n) = n

-- a library
abbrev pub lib_of : Value → Lib
lib_of v = record {
  name = member_text (field (codes "name") v);
  start = number_or_zero (bound_of (field (codes "start") v));
  end = number_or_zero (bound_of (field (codes "end") v));
}

-- ---- the start of a process, which is 0 where it isn't said

abbrev pub start_rule : Option Value → Option Rule
start_rule None = None
start_rule (Some (Value.number text)) =
    if nat_le (unsigned_abs (scaled_of text 6)) GREATEST then None else Some rule.NumberRange
start_rule (Some _) = Some rule.WrongKind

-- the start
abbrev pub start_value : Option Value → ℤ
start_value (Some (Value.number text)) = scaled_of text 6
start_value _ = pos 0

-- an entry whose `meta` is absent or no object has none
abbrev pub start_member : Value → Option Value
start_member v = field (codes "startTime") (member_value (codes "meta") v)

-- ---- processes

-- a process by itself
unfoldable pub process_cells : Value → ProcessCells
process_cells v = record {
  start = start_value (start_member v);
  start_fault = start_rule (start_member v);
  libs = map lib_of (items_of (field (codes "libs") v));
  libs_fault = libs_fault (field (codes "libs") v);
  threads = map gecko_cells (items_of (field (codes "threads") v));
  threads_fault = needed_list_fault is_object MOST_THREADS (field (codes "threads") v);
}

-- The processes below a process, in the order of their checks: those of the last member `processes`.
abbrev mutual
  pub below : Members → List Entry
  below no_members = []
  below (member n v ms) =
      if is_some (last_named (codes "processes") ms) then below ms
      else (if same_text n (codes "processes") then listed v else [])

  pub listed : Value → List Entry
  listed (Value.array vs) = listed_items 0 vs
  listed Value.null = fault (whole_fault rule.WrongKind) ∷ []
  listed (Value.boolean b) = fault (whole_fault rule.WrongKind) ∷ []
  listed (Value.number text) = fault (whole_fault rule.WrongKind) ∷ []
  listed (Value.string text) = fault (whole_fault rule.WrongKind) ∷ []
  listed (Value.object ms) = fault (whole_fault rule.WrongKind) ∷ []

  -- an entry that is null is passed over
  pub listed_items : ℕ → Values → List Entry
  listed_items row no_values = []
  listed_items row (value v vs) = item_entries row v ++ listed_items (suc row) vs

  pub item_entries : ℕ → Value → List Entry
  item_entries row Value.null = []
  item_entries row (Value.object ms) = process (process_cells (Value.object ms)) ∷ below ms
  item_entries row (Value.boolean b) = fault (wrong_kind row) ∷ []
  item_entries row (Value.number text) = fault (wrong_kind row) ∷ []
  item_entries row (Value.string text) = fault (wrong_kind row) ∷ []
  item_entries row (Value.array vs) = fault (wrong_kind row) ∷ []

-- the root and all processes below it
unfoldable pub entries : Value → List Entry
entries v = item_entries 0 v

-- ---- the profile

-- A Gecko profile is an object whose `meta` is an object that has a version and doesn't say that it is processed.
abbrev pub is_gecko : Value → Bool
is_gecko v = is_some (field (codes "version") (member_value (codes "meta") v))

-- what is gathered of a Gecko profile
unfoldable pub profile_cells : Value → ProfileCells
profile_cells v = record {
  categories = category_names v;
  default = default_category v;
  category_fault = optional_list_fault is_category MOST_CATEGORIES (categories_member v);
  entries = entries v;
}

-- the first check that it fails
abbrev pub gecko_broken : Value → Option Broken
gecko_broken v = gecko.profile_broken (profile_cells v)

-- the profile that it is
abbrev pub gecko_profile : Value → ProfileTables
gecko_profile v = gecko.profile_of (profile_cells v)

-- the first check that a value of either form fails
unfoldable pub broken_of : Value → Option Broken
broken_of v =
    if is_processed v then processed_broken v
    else (if is_gecko v then gecko_broken v else Some unknown_format)

-- the profile that a value of either form is
unfoldable pub profile_in : Value → ProfileTables
profile_in v = if is_processed v then profile_of v else gecko_profile v
