-- The text of an event, as far as it was read.
use Rattle.std.specs.Prelude.{◌≡◌, ℕ, Bool, List, ◌++◌, if◌then◌else◌}

-- its bytes, where they are kept
pub record Kept : Type 0 where
  pub bytes : List ℕ
  pub keeping : Bool

-- the text with these bytes behind it
unfoldable pub with : Kept → List ℕ → Kept
with k more = record { bytes = if k.keeping then k.bytes ++ more else k.bytes; keeping = k.keeping }

-- these bytes were added
pub record Gains (old : Kept) (piece : List ℕ) (new : Kept) : Type 0 where
  pub is : new ≡ with old piece

-- a piece of this kind was added
pub record Adds (Kind : List ℕ → Type 0) (old new : Kept) : Type 0 where
  pub piece : List ℕ
  pub is : Kind piece
  pub text : Gains old piece new
