-- What threads stand on, and why a profile wasn't built.
use Rattle.std.specs.Prelude.{◌≡◌, ℕ, true, false, None, length, ⊤}
use Rattle.std.specs.Option.{option_map}
use Rattle.prof_grammar.specs.Value.{Value}
use Rattle.prof_layout.specs.Profile.{is_shared, shared_tables, common_member, common_of, category_names, default_category, base_broken}
use Rattle.prof_read.specs.declared.building.Base.{Base}
use Rattle.prof_read.specs.declared.building.Base.TheVariants as base
use Rattle.prof_read.specs.declared.refusal.ReadRefusal.{ReadRefusal}
use Rattle.prof_read.specs.declared.refusal.ReadRefusal.TheVariants as refusal

-- shared tables count in so many categories, with this default
abbrev pub IsBase : ℕ → ℕ → Base → Type 0
IsBase categories default (base.Own strings) = ⊤
IsBase categories default (base.Shared shared) = (shared.value.categories ≡ categories) × (shared.value.default ≡ default)

-- so many categories are the value's, with this default
pub record AreCounts (v : Value) (categories default : ℕ) : Type 0 where
  pub categories_are : categories ≡ length (category_names v)
  pub default_is : default ≡ default_category v

-- the shared tables of the value, or the strings that its threads share
abbrev pub IsBaseOf : Value → Base → Type 0
IsBaseOf v (base.Own strings) = (is_shared v ≡ false) × (option_map (λ s. s.value) strings ≡ common_of (common_member v))
IsBaseOf v (base.Shared shared) = (is_shared v ≡ true) × (shared.value ≡ shared_tables v)

-- the base of a value of which nothing breaks so far
pub record StandsOn (v : Value) (categories default : ℕ) (b : Base) : Type 0 where
  pub counts : AreCounts v categories default
  pub whole : base_broken v ≡ None
  pub base_is : IsBaseOf v b

-- a check fails, or memory ran out
abbrev pub IsBuilding : ReadRefusal → Type 0
IsBuilding (refusal.Broken b) = ⊤
IsBuilding refusal.NoMemory = ⊤
IsBuilding (refusal.Json f) = ⊥
IsBuilding refusal.ReadFault = ⊥
