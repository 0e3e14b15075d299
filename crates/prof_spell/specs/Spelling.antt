-- Texts with one spelling: what a reading of one of them comes to.
use Rattle.std.specs.Prelude.{◌≡◌, ℕ, ◌+◌, ◌<◌, ◌≤◌, Bool, false, List, [], ◌∷◌, ◌++◌, length, take, Option, Some, None, Result, Ok, Err, ⊤}
use Rattle.prof_spell.specs.declared.cursor.Stop.{Stop}
use Rattle.prof_spell.specs.declared.cursor.Stop.TheVariants.{Fault, NoMemory}

-- A kind of texts: the one text of a value, which values there are, and which byte may not stand behind a value's
-- text, since that text would go on with it.
pub record Language (V : Type 0) : Type 1 where
  pub text : V → List ℕ
  pub Fits : V → Type 0
  pub goes : V → ℕ → Bool

-- some value's text begins with these bytes
abbrev pub Begins : {V : Type 0} → Language V → List ℕ → Type 0
Begins {V} L front = (v : V) × L.Fits v × ((more : List ℕ) × (L.text v ≡ front ++ more))

-- No value has this text, and its first `at` bytes are the longest front of it with which some value's text begins.
pub record IsFault {V : Type 0} (L : Language V) (bytes : List ℕ) (at : ℕ) : Type 0 where
  pub within : at ≤ length bytes
  pub begins : Begins L (take at bytes)
  pub longest : at < length bytes → Begins L (take (at + 1) bytes) → ⊥
  pub none : (v : V) → L.Fits v → L.text v ≡ bytes → ⊥

-- These bytes are the text of `v`, and of no other value.
pub record Spells {V : Type 0} (L : Language V) (bytes : List ℕ) (v : V) : Type 0 where
  pub fits : L.Fits v
  pub same : L.text v ≡ bytes
  pub only : (w : V) → L.Fits w → L.text w ≡ bytes → w ≡ v

-- ---- a part of a text

-- the first byte, where there is one
abbrev pub first : List ℕ → Option ℕ
first [] = None
first (b ∷ bs) = Some b

-- the bytes are none, or the first of them doesn't pass
abbrev pub Apart : (ℕ → Bool) → List ℕ → Type 0
Apart goes [] = ⊤
Apart goes (b ∷ bs) = goes b ≡ false

-- The text of `v` was read, and what is left doesn't go on with it.
pub record IsTaken {V : Type 0} (L : Language V) (bytes : List ℕ) (v : V) (left : List ℕ) : Type 0 where
  pub fits : L.Fits v
  pub split : bytes ≡ L.text v ++ left
  pub apart : Apart (L.goes v) left

-- As much was read as some value's text begins with, and the next byte, or the end, can't stand there, whatever comes
-- behind the value's text.
pub record IsStuck {V : Type 0} (L : Language V) (bytes : List ℕ) (left : List ℕ) : Type 0 where
  pub front : List ℕ
  pub split : bytes ≡ front ++ left
  pub begins : Begins L front
  pub none : (v : V) (behind seen : List ℕ) → L.Fits v → Apart (L.goes v) behind → first seen ≡ first left → L.text v ++ behind ≡ front ++ seen → ⊥

-- What a reading of one part gives, from these bytes on, and what it leaves.
abbrev pub Reads : {V : Type 0} → Language V → List ℕ → Result V Stop → List ℕ → Type 0
Reads L bytes (Ok v) left = IsTaken L bytes v left
Reads L bytes (Err Fault) left = IsStuck L bytes left
Reads L bytes (Err NoMemory) left = ⊤

-- Two texts that begin alike are of one value.
pub record Splits {V : Type 0} (L : Language V) : Type 0 where
  pub same : (v w : V) (m n : List ℕ) → L.Fits v → L.Fits w → Apart (L.goes v) m → Apart (L.goes w) n → L.text v ++ m ≡ L.text w ++ n → v ≡ w
