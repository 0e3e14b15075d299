-- A number, and then bytes where there are any.
use Rattle.std.specs.Prelude.{ℕ, List, [], ◌∷◌, Some, None}
use Rattle.std.specs.declared.option.Option.{Option}

abbrev pub told : Option (List ℕ) → List ℕ
told None = []
told (Some bytes) = 1 ∷ bytes

abbrev pub marked : ℕ → Option (List ℕ) → List ℕ
marked name bytes = name ∷ told bytes
