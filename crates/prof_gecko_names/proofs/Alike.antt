-- The tests of equality that the code derives are those of the definitions.
use Rattle.std.proofs.Common.{◌≡◌, Bool, refl}
use mathlib.Core.Path.{fun_ext}
use Rattle.prof_gecko_names.specs.declared.func.FuncKey.{FuncKey}
use Rattle.prof_gecko_names.specs.declared.func.FuncKey.TheVariants as key
use Rattle.prof_gecko_names.specs.declared.func.ResourceKey.{ResourceKey}
use Rattle.prof_gecko_names.specs.declared.func.ResourceKey.TheVariants as resource
use Rattle.prof_gecko_names.specs.contracts.func.FuncKeyPartialEq.TheImpl.{eq-value as derived_key}
use Rattle.prof_gecko_names.specs.contracts.func.ResourceKeyPartialEq.TheImpl.{eq-value as derived_resource}
use Rattle.prof_gecko_names.specs.Keys.{same_key}
use Rattle.prof_gecko_names.specs.Lists.{same_resource}

abbrev pub key_eq : FuncKey → FuncKey → Bool
key_eq = derived_key.it

abbrev pub resource_eq : ResourceKey → ResourceKey → Bool
resource_eq = derived_resource.it

keys_by : (a b : FuncKey) → key_eq a b ≡ same_key a b
keys_by (key.Lib l o) (key.Lib m p) = refl
keys_by (key.Lib l o) (key.Text q) = refl
keys_by (key.Text p) (key.Lib m o) = refl
keys_by (key.Text p) (key.Text q) = refl

pub keys_alike : key_eq ≡ same_key
keys_alike = fun_ext (λ a. fun_ext (λ b. keys_by a b))

pub resources_by : (a b : ResourceKey) → resource_eq a b ≡ same_resource a b
resources_by (resource.Lib l) (resource.Lib m) = refl
resources_by (resource.Lib l) (resource.Name q) = refl
resources_by (resource.Name p) (resource.Lib m) = refl
resources_by (resource.Name p) (resource.Name q) = refl

pub resources_alike : resource_eq ≡ same_resource
resources_alike = fun_ext (λ a. fun_ext (λ b. resources_by a b))
