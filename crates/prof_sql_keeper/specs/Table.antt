-- The table of texts, and what its statements do to what a connection shows.
use Rattle.std.specs.Prelude.{◌≡◌, ◌≢◌, ◌⊎◌, ◌<◌, ℕ, List, [], ◌∷◌, length, codes, false, Result, Ok, Err, OnOk, IfErr, IsOk, IsTrue, IsUtf8, Some, None}
use Rattle.std.specs.declared.option.Option.{Option}
use Rattle.sqlite.specs.declared.types.Value.{Value}
use Rattle.sqlite.specs.declared.types.Value.TheVariants.{Text}
use Rattle.sqlite.specs.declared.error.ErrorCode.TheVariants.{OutOfMemory}
use Rattle.sqlite.specs.declared.error.Error.{Error}
use Rattle.sqlite.specs.declared.error.Error.TheVariants.{SqliteFailure, QueryReturnedNoRows}
use Rattle.sqlite.specs.Order.{Row, column}
use Rattle.sqlite.specs.State.{State, Executes, QueriesRow}

-- makes the table, where it isn't there
abbrev pub making : List ℕ
making = codes "CREATE TABLE IF NOT EXISTS kept (name TEXT PRIMARY KEY NOT NULL, text TEXT NOT NULL)"

-- sets the text of the first parameter to the second
abbrev pub setting : List ℕ
setting = codes "INSERT INTO kept (name, text) VALUES (?1, ?2) ON CONFLICT (name) DO UPDATE SET text = excluded.text"

-- asks for the text of the parameter
abbrev pub asking : List ℕ
asking = codes "SELECT text FROM kept WHERE name = ?1"

-- a text of SQL that is one here
abbrev pub IsText : Value → Type 0
IsText value = (text : List ℕ) × (value ≡ Text text) × IsUtf8 text

module _ (old new : State) where
  -- the table is there
  pub record MakesTable : Type 0 where
    pub count : ℕ
    pub ran : Executes making [] old new (Ok count)

  -- One statement sets a text. Where the answer is Ok it did so, and what is shown is committed. Else it was refused with that
  -- error, or isn't committed.
  pub record SetsText (key text : List ℕ) (result : Result (Unit {0}) Error) : Type 0 where
    pub answer : Result ℕ Error
    pub ran : Executes setting (Text key ∷ Text text ∷ []) old new answer
    pub done : OnOk result (IsOk answer)
    pub committed : OnOk result (IsTrue new.is_open → new.now ≡ new.committed)
    pub refused : IfErr result (λ error. (answer ≡ Err error) ⊎ (new.in_transaction ≢ false))

  -- the text of a key, by the first row of the query
  abbrev pub FindsText : List ℕ → Option (List ℕ) → Type 0
  FindsText key (Some text) = (row : Row) × QueriesRow asking (Text key ∷ []) old new (Ok row) × (0 < length row) × (column row 0 ≡ Text text)
  FindsText key None = QueriesRow asking (Text key ∷ []) old new (Err QueryReturnedNoRows)

  -- The query for the text of a key was refused with that error, though not for want of a row; or what it found is no text, or
  -- there was no memory for it.
  abbrev pub FailsToFind : List ℕ → Error → Type 0
  FailsToFind key error =
      (QueriesRow asking (Text key ∷ []) old new (Err error) × (error ≢ QueryReturnedNoRows))
      ⊎ ((row : Row) × QueriesRow asking (Text key ∷ []) old new (Ok row) × (error ≢ SqliteFailure OutOfMemory → 0 < length row → ¬ IsText (column row 0)))
