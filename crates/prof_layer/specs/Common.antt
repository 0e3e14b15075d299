-- Lists that begin alike
use Rattle.std.specs.Prelude.{◌≡◌, ℕ, ◌≤◌, List, length, take}

-- the first k items of both lists are the same
pub record IsCommon {A : Type 0} (k : ℕ) (xs ys : List A) : Type 0 where
  pub first : k ≤ length xs
  pub second : k ≤ length ys
  pub same : take k xs ≡ take k ys
