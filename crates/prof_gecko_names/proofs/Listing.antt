-- The lists that the code makes are those of the definitions.
use Rattle.std.proofs.Common.{◌≡◌, ℕ, Bool, true, false, List, [], ◌∷◌, ◌++◌, Option, Some, refl, sym, ◌∙◌, ap}
use Rattle.std.specs.Prelude.{if◌then◌else◌, not}
use Rattle.std.specs.List.{list_any, position_or_len}
use Rattle.prof_raw.specs.Texts.{with_text}
use Rattle.prof_gecko_names.specs.declared.func.Func.{Func}
use Rattle.prof_gecko_names.specs.declared.func.ResourceKey.{ResourceKey}
use Rattle.prof_gecko_names.specs.Naming.{Named, Resource}
use Rattle.prof_gecko_names.specs.Lists.{Lists, place_in, maybe_place, with_maybe, same_resource, resource_key, key_in, with_resource, resource_number, on_strings, add_func}
use Rattle.prof_gecko_names.proofs.Alike.{resource_eq, resources_alike}

-- ---- one more resource

-- what a resource stands for
key_is : (d used : Lists) (r : Resource) (key : ResourceKey) (place : ℕ) → used ≡ on_strings d (with_text d.strings r.name) → key ≡ resource_key r.lib place → place ≡ place_in used.strings r.name → key ≡ key_in (with_text d.strings r.name) r
key_is d used r key place on is at =
    is ∙ ap (resource_key r.lib) (at ∙ ap (λ (l : Lists). place_in l.strings r.name) on)

-- its number
pub number_is : (d used : Lists) (r : Resource) (o : Option Resource) (number : ℕ) (key : ResourceKey) (place : ℕ) → o ≡ Some r → used ≡ on_strings d (with_text d.strings r.name) → key ≡ resource_key r.lib place → place ≡ place_in used.strings r.name
    → number ≡ position_or_len (resource_eq key) used.keys → Some number ≡ resource_number d o
number_is d used r o number key place some on is at found =
    let same = key_is d used r key place on is at in
    let alike : position_or_len (resource_eq key) used.keys ≡ position_or_len (same_resource key) used.keys = ap (λ (eq : ResourceKey → ResourceKey → Bool). position_or_len (eq key) used.keys) resources_alike in
    let keyed : position_or_len (same_resource key) used.keys ≡ position_or_len (same_resource (key_in (with_text d.strings r.name) r)) used.keys = ap (λ k. position_or_len (same_resource k) used.keys) same in
    let keys : position_or_len (same_resource (key_in (with_text d.strings r.name) r)) used.keys ≡ position_or_len (same_resource (key_in (with_text d.strings r.name) r)) d.keys = ap (λ (l : Lists). position_or_len (same_resource (key_in (with_text d.strings r.name) r)) l.keys) on in
    ap Some (found ∙ alike ∙ keyed ∙ keys) ∙ ap (resource_number d) (sym some)

-- the lists after it, by whether it is new
after_by : (strings : List (List ℕ)) (keys : List ResourceKey) (resources : List ℕ) (funcs : List Func) (key : ResourceKey) (place : ℕ) (known is_new : Bool) → is_new ≡ not known →
    ◌≡◌ {A = Lists} (record { strings = strings; keys = if known then keys else keys ++ key ∷ []; resources = if is_new then resources ++ place ∷ [] else resources; funcs = funcs })
    (record { strings = strings; keys = if known then keys else keys ++ key ∷ []; resources = if known then resources else resources ++ place ∷ []; funcs = funcs })
after_by strings keys resources funcs key place true is_new e = rw e refl
after_by strings keys resources funcs key place false is_new e = rw e refl

-- the lists after a resource, with what it stands for and its place given
abbrev with_key : Lists → List (List ℕ) → ResourceKey → ℕ → Lists
with_key l strings key place = record {
  strings = strings;
  keys = if list_any (same_resource key) l.keys then l.keys else l.keys ++ key ∷ [];
  resources = if list_any (same_resource key) l.keys then l.resources else l.resources ++ place ∷ [];
  funcs = l.funcs;
}

pub after_is : (d used final : Lists) (r : Resource) (o : Option Resource) (key : ResourceKey) (place : ℕ) (is_new : Bool) → o ≡ Some r → used ≡ on_strings d (with_text d.strings r.name) → key ≡ resource_key r.lib place → place ≡ place_in used.strings r.name
    → is_new ≡ not (list_any (resource_eq key) used.keys)
    → final ≡ record {
      strings = used.strings;
      keys = if list_any (resource_eq key) used.keys then used.keys else used.keys ++ key ∷ [];
      resources = if is_new then used.resources ++ place ∷ [] else used.resources;
      funcs = used.funcs;
    }
    → final ≡ with_resource d o
after_is d used final r o key place is_new some on is at new made =
    let strings = with_text d.strings r.name in
    let same = key_is d used r key place on is at in
    let placed : place ≡ place_in strings r.name = at ∙ ap (λ (l : Lists). place_in l.strings r.name) on in
    made
    ∙ after_by used.strings used.keys used.resources used.funcs key place (list_any (resource_eq key) used.keys) is_new new
    ∙ ap (λ (eq : ResourceKey → ResourceKey → Bool). let l : Lists = record {
      strings = used.strings;
      keys = if list_any (eq key) used.keys then used.keys else used.keys ++ key ∷ [];
      resources = if list_any (eq key) used.keys then used.resources else used.resources ++ place ∷ [];
      funcs = used.funcs;
    } in l) resources_alike
    ∙ ap (λ (l : Lists). with_key l l.strings key place) on
    ∙ ap (λ k. with_key d strings k place) same
    ∙ ap (λ n. with_key d strings (key_in strings r) n) placed
    ∙ ap (with_resource d) (sym some)

-- the lists whose resource is new, and those whose isn't
pub made_new : (used : Lists) (keys wanted : List ResourceKey) (resources : List ℕ) (place : ℕ) (is_new : Bool) → keys ≡ wanted → is_new ≡ true → resources ≡ used.resources ++ place ∷ [] →
    ◌≡◌ {A = Lists} (record { strings = used.strings; keys = keys; resources = resources; funcs = used.funcs })
    (record { strings = used.strings; keys = wanted; resources = if is_new then used.resources ++ place ∷ [] else used.resources; funcs = used.funcs })
made_new used keys wanted resources place is_new e f g = rw (e, f, g) refl

pub made_old : (used : Lists) (keys wanted : List ResourceKey) (place : ℕ) (is_new : Bool) → keys ≡ wanted → is_new ≡ false →
    ◌≡◌ {A = Lists} (record { strings = used.strings; keys = keys; resources = used.resources; funcs = used.funcs })
    (record { strings = used.strings; keys = wanted; resources = if is_new then used.resources ++ place ∷ [] else used.resources; funcs = used.funcs })
made_old used keys wanted place is_new e f = rw (e, f) refl

-- ---- one more function

pub func_added : (d d1 d2 d3 : Lists) (f : Named) (relevant : Bool) (name : ℕ) (file resource : Option ℕ) (funcs : List Func) → d1 ≡ on_strings d (with_text d.strings f.name) → name ≡ place_in d1.strings f.name
    → d2 ≡ on_strings d1 (with_maybe d1.strings f.file) → file ≡ maybe_place d2.strings f.file → d3 ≡ with_resource d2 f.resource → resource ≡ resource_number d2 f.resource
    → funcs ≡ d3.funcs ++ record { name = name; is_js = f.is_js; relevant_for_js = relevant; resource = resource; file = file } ∷ []
    → ◌≡◌ {A = Lists} (record { strings = d3.strings; keys = d3.keys; resources = d3.resources; funcs = funcs }) (add_func d f relevant)
func_added d d1 d2 d3 f relevant name file resource funcs e1 en e2 ef e3 er ex = rw (ex, er, e3, ef, e2, en, e1) refl
