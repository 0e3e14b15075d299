-- The lists of a thread that grow with its functions.
use Rattle.std.specs.Prelude.{ℕ, List, [], ◌∷◌, ◌++◌, Bool, false, if◌then◌else◌, Option, None, Some, nat_eq, unwrap_or}
use Rattle.std.specs.List.{list_any, position_or_len}
use Rattle.std.specs.Option.{option_map}
use Rattle.prof_raw.specs.Texts.{first_place, with_text}
use Rattle.prof_gecko_names.specs.Naming.{Resource, Named}
use Rattle.prof_gecko_names.specs.declared.func.Func.{Func}
use Rattle.prof_gecko_names.specs.declared.func.ResourceKey.{ResourceKey}
use Rattle.prof_gecko_names.specs.declared.func.ResourceKey.TheVariants as key

-- the strings; what each resource stands for, and the place of its name; and the functions
pub record Lists : Type 0 where
  pub strings : List (List ℕ)
  pub keys : List ResourceKey
  pub resources : List ℕ
  pub funcs : List Func

-- the place of a text that the strings have
abbrev pub place_in : List (List ℕ) → List ℕ → ℕ
place_in strings text = unwrap_or (first_place strings text) 0

abbrev pub maybe_place : List (List ℕ) → Option (List ℕ) → Option ℕ
maybe_place strings text = option_map (place_in strings) text

-- the strings with a text that may be absent
abbrev pub with_maybe : List (List ℕ) → Option (List ℕ) → List (List ℕ)
with_maybe strings None = strings
with_maybe strings (Some text) = with_text strings text

abbrev pub same_resource : ResourceKey → ResourceKey → Bool
same_resource (key.Lib l) (key.Lib m) = nat_eq l m
same_resource (key.Lib l) (key.Name q) = false
same_resource (key.Name p) (key.Lib m) = false
same_resource (key.Name p) (key.Name q) = nat_eq p q

-- one resource stands for each library, and one for each name of JavaScript files, which has its first place
abbrev pub resource_key : Option ℕ → ℕ → ResourceKey
resource_key (Some l) place = key.Lib l
resource_key None place = key.Name place

-- what a resource stands for, once its name has a place in the strings
abbrev pub key_in : List (List ℕ) → Resource → ResourceKey
key_in strings r = resource_key r.lib (place_in strings r.name)

-- A resource's name goes behind the strings where it isn't there already, and then the resource behind the others.
abbrev pub with_resource : Lists → Option Resource → Lists
with_resource d None = d
with_resource d (Some r) =
    let strings = with_text d.strings r.name in
    let key = key_in strings r in
    let known = list_any (same_resource key) d.keys in
    record {
      strings = strings;
      keys = if known then d.keys else d.keys ++ key ∷ [];
      resources = if known then d.resources else d.resources ++ place_in strings r.name ∷ [];
      funcs = d.funcs;
    }

-- the number of a resource: that which it has, or the next one
abbrev pub resource_number : Lists → Option Resource → Option ℕ
resource_number d None = None
resource_number d (Some r) =
    Some (position_or_len (same_resource (key_in (with_text d.strings r.name) r)) d.keys)

-- the lists with other strings
abbrev pub on_strings : Lists → List (List ℕ) → Lists
on_strings d strings = record d { strings = strings }

-- One more function, with its flag `relevantForJS`. Its name goes behind the strings where it isn't there already, then its
-- file, then its resource's name.
abbrev pub add_func : Lists → Named → Bool → Lists
add_func d f relevant =
    let named = with_text d.strings f.name in
    let filed = with_maybe named f.file in
    let before = on_strings d filed in
    let used = with_resource before f.resource in
    record used {
      funcs = used.funcs ++ record {
        name = place_in named f.name;
        is_js = f.is_js;
        relevant_for_js = relevant;
        resource = resource_number before f.resource;
        file = maybe_place filed f.file;
      } ∷ [];
    }

-- the lists before the first function
abbrev pub lists_over : List (List ℕ) → Lists
lists_over strings = record { strings = strings; keys = []; resources = []; funcs = [] }
