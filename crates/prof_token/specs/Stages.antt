-- How far a number has come.
use Rattle.std.specs.Prelude.{◌≡◌, ℕ, Bool, true, false, ◌||◌, ◌==◌, List, ◌∷◌, Option, Some, None, is_some, IfSome, if◌then◌else◌}
use Rattle.prof_grammar.specs.Machine.{Part, digits, class, step, finish, Stage, next_stage, may_end, after_zero, in_whole, in_fraction, in_exponent}
use Rattle.prof_token.specs.Ahead.{Ahead}
use Rattle.prof_token.specs.Bytes.{is_digit, is_e}
use Rattle.prof_token.specs.Kept.{Kept}
use Rattle.prof_token.specs.Writes.{Writes, silent}
use Rattle.prof_token.specs.declared.fault.JsonFault.{JsonFault}

-- within digits
pub data IsRunning : Stage → Type 0 where
  whole : IsRunning in_whole
  fraction : IsRunning in_fraction
  exponent : IsRunning in_exponent

-- A digit must come, and takes the number to the second stage. The byte is the one that is shown.
pub record Wants (n : Stage) (byte : ℕ) (n' : Stage) : Type 0 where
  pub on : is_digit byte ≡ true → next_stage n (class byte) ≡ Some n'
  pub off : is_digit byte ≡ false → next_stage n (class byte) ≡ None
  pub more : may_end n ≡ false

-- The number may end here. The byte that is shown doesn't go on with it, unless it passes the test.
pub record MayEnd (n : Stage) (test : ℕ → Bool) (shown : Option ℕ) : Type 0 where
  pub ends : may_end n ≡ true
  pub over : IfSome shown (λ b. test b ≡ false → next_stage n (class b) ≡ None)

-- the byte begins a fraction or an exponent
abbrev pub goes_further : ℕ → Bool
goes_further b = (b == 46) || is_e b

abbrev pub no_byte : ℕ → Bool
no_byte b = false

-- the stage behind the first digit
abbrev pub whole_stage : ℕ → Stage
whole_stage b = if b == 48 then after_zero else in_whole

-- the stage behind a fraction, or where the byte that is shown begins none
abbrev pub behind_fraction : Option ℕ → Stage → Stage
behind_fraction None n = n
behind_fraction (Some b) n = if b == 46 then in_fraction else n

-- the stage behind an exponent, or where the byte that is shown begins none
abbrev pub behind_exponent : Option ℕ → Stage → Stage
behind_exponent None n = n
behind_exponent (Some b) n = if is_e b then in_exponent else n

-- a fraction, or an exponent, may come behind the stage
pub data TakesFraction : Stage → Type 0 where
  zero : TakesFraction after_zero
  whole : TakesFraction in_whole

pub data TakesExponent : Stage → Type 0 where
  zero : TakesExponent after_zero
  whole : TakesExponent in_whole
  fraction : TakesExponent in_fraction

-- the sign of an exponent was read, if there was no fault, and this byte is shown behind it
pub record Signs (fault : Option JsonFault) (begun : Kept) (a : Ahead) (l : Option (List ℕ)) (ps : List Part) (b : Ahead) (m : Option (List ℕ)) (k : Kept) (shown : ℕ) (qs : List Part) : Type 0 where
  pub stage : Stage
  pub wants : fault ≡ None → Wants stage shown in_exponent
  pub writes : Writes fault begun a l ps silent b m k (λ text. digits stage text ∷ qs)

-- a whole number was read, if there was no fault, and this byte is shown behind it
pub record Counts (fault : Option JsonFault) (begun : Kept) (a : Ahead) (l : Option (List ℕ)) (ps : List Part) (b : Ahead) (m : Option (List ℕ)) (k : Kept) (shown : Option ℕ) (qs : List Part) : Type 0 where
  pub stage : Stage
  pub over : fault ≡ None → MayEnd stage no_byte shown
  pub writes : Writes fault begun a l ps silent b m k (λ text. digits stage text ∷ qs)

-- the byte that is shown, or the end of the text, may come where these parts are still to come
abbrev pub may_come : List Part → Option ℕ → Bool
may_come ps None = is_some (finish ps)
may_come ps (Some b) = is_some (step ps (class b) b)
