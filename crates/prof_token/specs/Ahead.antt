-- Bytes that were taken from a source and not yet read.
use Rattle.std.specs.Prelude.{◌≡◌, ℕ, ◌+◌, ◌<◌, ◌≤◌, List, [], ◌∷◌, ◌++◌, drop, length, Option, Some, None, ⊤}
use Rattle.std.specs.Io.KnownBytes.{IsAtEnd}

-- with the place of the first of them in the text, and the text's limit
pub record Ahead : Type 0 where
  pub bytes : List ℕ
  pub place : ℕ
  pub limit : ℕ

-- so many bytes were passed over
pub record Passes (n : ℕ) (old new : Ahead) : Type 0 where
  pub bytes : new.bytes ≡ drop n old.bytes
  pub place : new.place ≡ old.place + n
  pub limit : new.limit ≡ old.limit
  pub here : n ≤ length old.bytes
  pub within : old.place + n ≤ old.limit

-- the byte is the next one, and stands below the limit
pub record IsNext (byte : ℕ) (a : Ahead) : Type 0 where
  pub rest : List ℕ
  pub bytes : a.bytes ≡ byte ∷ rest
  pub room : a.place < a.limit

-- what holds of the bytes left before and after, where the source tells them
abbrev pub Knows : (List ℕ → List ℕ → Type 0) → Option (List ℕ) → Option (List ℕ) → Type 0
Knows P None new = ⊤
Knows P (Some left) None = ⊥
Knows P (Some left) (Some left') = P left left'

-- the same is to be read, from the same place
pub record IsSame (a : Ahead) (left : Option (List ℕ)) (b : Ahead) (left' : Option (List ℕ)) : Type 0 where
  pub bytes : Knows (λ l m. a.bytes ++ l ≡ b.bytes ++ m) left left'
  pub place : b.place ≡ a.place
  pub limit : b.limit ≡ a.limit

-- the byte is shown, or none is left
abbrev pub IsShown : Option ℕ → Ahead → Option (List ℕ) → Type 0
IsShown None a left = (a.bytes ≡ []) × IsAtEnd left
IsShown (Some byte) a left = IsNext byte a
