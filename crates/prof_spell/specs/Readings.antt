-- What the reading of a text comes to, as a function.
use Rattle.std.specs.Prelude.{ℕ, ◌-◌, List, [], ◌∷◌, length, Result, Ok, Err}
use Rattle.prof_spell.specs.Spelling.{Language, IsTaken, IsStuck, IsFault, Spells}

-- the text of a value was read from the front of the bytes, or the reading came to a fault
pub data Reading {V : Type 0} (L : Language V) (bytes : List ℕ) : Type 0 where
  taken : (v : V) (left : List ℕ) → IsTaken L bytes v left → Reading L bytes
  stuck : (left : List ℕ) → IsStuck L bytes left → Reading L bytes

-- all bytes are read to one of these ends
abbrev pub Readable : {V : Type 0} → Language V → Type 0
Readable L = (bytes : List ℕ) → Reading L bytes

-- the value of the whole text, or the place of its fault
abbrev pub outcome : {V : Type 0} (L : Language V) (bytes : List ℕ) → Reading L bytes → Result V ℕ
outcome L bytes (taken v [] t) = Ok v
outcome L bytes (taken v (b ∷ left) t) = Err (length bytes - length (b ∷ left))
outcome L bytes (stuck left s) = Err (length bytes - length left)

-- This is the value that has the text, or the place of the text's fault.
abbrev pub Tells : {V : Type 0} → Language V → List ℕ → Result V ℕ → Type 0
Tells L bytes (Ok v) = Spells L bytes v
Tells L bytes (Err at) = IsFault L bytes at
