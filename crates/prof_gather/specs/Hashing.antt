-- What a hasher has taken of a text.
use Rattle.std.specs.Prelude.{◌≡◌, ℕ, List, ◌++◌, Some, None, ⊤}
use Rattle.std.specs.declared.option.Option.{Option}
use Rattle.sha2.specs.Hashers.{Holds256}
use Rattle.sha2.specs.declared.Sha256.{Sha256}

-- the hasher holds what stands before the bytes that are left
abbrev pub IsBefore : Option (List ℕ) → Option (List ℕ) → List ℕ → Type 0
IsBefore None left taken = ⊤
IsBefore (Some text) None taken = ⊥
IsBefore (Some text) (Some left) taken = text ≡ taken ++ left

abbrev pub HoldsFront : Option (List ℕ) → Option (List ℕ) → Sha256 → Type 0
HoldsFront text left hasher = (taken : List ℕ) × Holds256 hasher taken × IsBefore text left taken
