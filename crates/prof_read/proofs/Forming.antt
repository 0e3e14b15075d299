-- The profile of a value of either form, by what was gathered of its members.
use Rattle.std.proofs.Common.{◌≡◌, ℕ, Option, None, Some, List, Err, false, refl, sym, ◌∙◌, ap}
use Rattle.std.specs.Prelude.{codes}
use Rattle.prof_raw.specs.declared.limits.TheConstants.{MOST_CATEGORIES}
use Rattle.prof_raw.specs.declared.rule.Broken.{Broken}
use Rattle.prof_raw.specs.declared.rule.Column.TheVariants as column
use Rattle.prof_raw.specs.declared.rule.ListFault.{ListFault}
use Rattle.prof_raw.specs.declared.rule.Table.TheVariants as table
use Rattle.prof_grammar.specs.Value.{Value, Members}
use Rattle.prof_gather.specs.Taking.{IsFound}
use Rattle.prof_gather.specs.declared.objects.Found.{Found}
use Rattle.prof_gather.specs.declared.objects.Found.TheVariants as found
use Rattle.prof_layout.specs.Lists.{is_object, optional_list_fault}
use Rattle.prof_layout.specs.Profile.{is_category, categories_member, category_names, default_category, categories_broken, unknown_format}
use Rattle.prof_layout.proofs.Checking.{not-processed}
use Rattle.prof_gecko.specs.Gathered.{Entry, ProfileCells}
use Rattle.prof_gecko.specs.Processes.{profile_broken, profile_of}
use Rattle.prof_gecko_layout.specs.GeckoProfile.{is_gecko, entries, profile_cells, gecko_broken, gecko_profile, broken_of}
use Rattle.prof_processes.specs.Processes.{KeepEntries}
use Rattle.prof_either.specs.Parts.{AreParts}
use Rattle.prof_either.specs.declared.gathered.EitherParts.{EitherParts}
use Rattle.prof_either.proofs.KeptProfiles.{check_kept, profile_kept}
use Rattle.prof_read.specs.Built.{ReadsAs}
use Rattle.prof_read.specs.declared.refusal.ReadRefusal.{ReadRefusal}
use Rattle.prof_read.specs.declared.refusal.ReadRefusal.TheVariants as refusal
use Rattle.prof_read.proofs.Profiles.{broken-unknown}
use Rattle.prof_read.proofs.Refusing.{fault_none}
use Rattle.prof_read.proofs.Standing.{object_found, none_found, no_field}

-- what is no object has no `meta`
no_gecko : (v : Value) → is_object v ≡ false → is_gecko v ≡ false
no_gecko v h = rw (no_field (codes "meta") v h) refl

-- where no object was found the form is unknown
pub no_object : (v : Value) (f : Found EitherParts) → ((p : EitherParts) → f ≡ found.Object p → ⊥) → IsFound AreParts v f → broken_of v ≡ Some unknown_format
no_object v f none h =
    let object = none_found AreParts (Some v) f none h in
    broken-unknown v (not-processed v object) (no_gecko v object)

-- the check is named that the format is unknown
pub unknown_named : {X : Type 0} (Is : X → Type 0) (r : ReadRefusal) (check : Option Broken) → r ≡ refusal.Broken unknown_format → check ≡ Some unknown_format → ReadsAs Is (Err r) check
unknown_named Is r check e h = rw e h

-- the members that were found
pub record HasMembers (v : Value) (p : EitherParts) : Type 0 where
  pub members : Members
  pub is : v ≡ Value.object members
  pub are : AreParts members p

pub members_found : (v : Value) (f : Found EitherParts) (p : EitherParts) → f ≡ found.Object p → IsFound AreParts v f → HasMembers v p
members_found v f p e h =
    let o = object_found AreParts (Some v) f p e h in
    let is : v ≡ Value.object o.0 = cc (o.1) in
    record { members = o.0; is = is; are = o.2 }

-- ---- Gecko profiles

-- the categories come first
pub gecko-categories : (v : Value) (b : Broken) → categories_broken v ≡ Some b → gecko_broken v ≡ Some b
unfolding categories_broken profile_broken profile_cells
gecko-categories v b h = rw h refl

-- what is gathered of a profile whose categories break nothing
pub gathered_is : (v : Value) (names : List (List ℕ)) (default : ℕ) (kept : List Entry) → names ≡ category_names v → default ≡ default_category v → categories_broken v ≡ None →
    ◌≡◌ {A = ProfileCells} (record { categories = names; default = default; category_fault = None; entries = kept }) (record (profile_cells v) { entries = kept })
unfolding categories_broken profile_cells
gathered_is v names default kept n d none =
    let fault : optional_list_fault is_category MOST_CATEGORIES (categories_member v) ≡ None = fault_none None table.Meta column.Categories (optional_list_fault is_category MOST_CATEGORIES (categories_member v)) none in
    ap (λ (ns : List (List ℕ)). let g : ProfileCells = record { categories = ns; default = default; category_fault = None; entries = kept } in g) n
    ∙ ap (λ (k : ℕ). let g : ProfileCells = record { categories = category_names v; default = k; category_fault = None; entries = kept } in g) d
    ∙ ap (λ (f : Option ListFault). let g : ProfileCells = record { categories = category_names v; default = default_category v; category_fault = f; entries = kept } in g) (sym fault)

keeps : (v : Value) (kept : List Entry) → KeepEntries (entries v) kept → KeepEntries (profile_cells v).entries kept
unfolding profile_cells
keeps v kept h = h

-- what it breaks is what the value breaks
pub gathered-broken : (v : Value) (g : ProfileCells) (kept : List Entry) → g ≡ record (profile_cells v) { entries = kept } → KeepEntries (entries v) kept → profile_broken g ≡ gecko_broken v
gathered-broken v g kept e h = ap profile_broken e ∙ check_kept v kept (keeps v kept h)

-- and where nothing breaks it is the same profile
pub gathered-profile : (v : Value) (g : ProfileCells) (kept : List Entry) → g ≡ record (profile_cells v) { entries = kept } → KeepEntries (entries v) kept → profile_broken g ≡ None → profile_of g ≡ gecko_profile v
gathered-profile v g kept e h none =
    let k = keeps v kept h in
    ap profile_of e ∙ profile_kept v kept k (sym (check_kept v kept k) ∙ sym (ap profile_broken e) ∙ none)
