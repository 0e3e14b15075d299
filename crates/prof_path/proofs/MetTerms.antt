-- Where one term of a search is met
use Rattle.std.proofs.Common.{◌≡◌, ℕ, Bool, true, false, ◌||◌, List, [], ◌∷◌, Option, Some, None, ap, ◌∙◌, refl}
use Rattle.std.specs.Option.{option_map_or}
use Rattle.std.specs.Str.{str_to_ascii_lowercase}
use Rattle.prof_tables.specs.Threads.{SharedTables, func_name, file_name, resource_of, resource_name}
use Rattle.prof_path.specs.Terms.{has_term}
use Rattle.prof_path.specs.Finals.{occurs_in}
use Rattle.prof_path.specs.Lowered.{has_lowered, has_in_own, has_in_resource}

or-none : (b : Bool) → (b || false) ≡ b
or-none true = refl
or-none false = refl

module _ (term : List ℕ) where
  abbrev one : List (List ℕ)
  one = str_to_ascii_lowercase term ∷ []

  one-lowered : (text : List ℕ) → has_lowered one text ≡ has_term term text
  one-lowered text = or-none (has_term term text)

  one-option : {A : Type 0} (text : A → List ℕ) (o : Option A) → option_map_or (λ a. has_lowered one (text a)) o false ≡ option_map_or (λ a. has_term term (text a)) o false
  one-option text None = refl
  one-option text (Some a) = one-lowered (text a)

  -- a search of one term, in lower case
  pub met_is : (t : SharedTables) (f : ℕ) (terms : List (List ℕ)) → terms ≡ one → (has_in_own t terms f || has_in_resource t terms f) ≡ occurs_in t term f
  met_is t f terms e =
      ap (λ ts. has_in_own t ts f || has_in_resource t ts f) e
      ∙ (ap (λ b. (b || option_map_or (has_lowered one) (file_name t f) false) || has_in_resource t one f) (one-lowered (func_name t f))
      ∙ (ap (λ b. (has_term term (func_name t f) || b) || has_in_resource t one f) (one-option (λ x. x) (file_name t f))
      ∙ ap (λ b. (has_term term (func_name t f) || option_map_or (has_term term) (file_name t f) false) || b) (one-option (resource_name t) (resource_of t f))))
