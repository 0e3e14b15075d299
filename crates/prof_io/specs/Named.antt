-- Values by their names: a finite map as a list of entries.
use Rattle.std.specs.Prelude.{◌≡◌, ℕ, suc, cond, List, [], ◌∷◌, Option, Some, None, ⊤}
use Rattle.std.specs.Str.{bytes_eq}

module _ {X : Type 0} where
  -- the value under a name, where the first of one name counts
  abbrev pub value_at : List (List ℕ × X) → List ℕ → Option X
  value_at [] name = None
  value_at (entry ∷ entries) name = cond (bytes_eq entry.0 name) (Some entry.1) (value_at entries name)

  -- what stands under a name set to a value, or taken away; what stands under the other names stays
  abbrev pub with_own : List ℕ → Option X → List (List ℕ × X) → List (List ℕ × X)
  with_own name (Some x) [] = (name, x) ∷ []
  with_own name (Some x) (entry ∷ entries) = cond (bytes_eq entry.0 name) ((entry.0, x) ∷ entries) (entry ∷ with_own name (Some x) entries)
  with_own name None [] = []
  with_own name None (entry ∷ entries) = cond (bytes_eq entry.0 name) (with_own name None entries) (entry ∷ with_own name None entries)

  -- no two entries have one name
  abbrev pub AreNamed : List (List ℕ × X) → Type 0
  AreNamed [] = ⊤
  AreNamed (entry ∷ entries) = (value_at entries entry.0 ≡ None) × AreNamed entries

  -- the place of the first entry of that name, or their number where there is none
  abbrev pub place_of : List (List ℕ × X) → List ℕ → ℕ
  place_of [] name = 0
  place_of (entry ∷ entries) name = cond (bytes_eq entry.0 name) 0 (suc (place_of entries name))
