-- What a keeper over a database shows to its own contracts.
use Rattle.std.specs.Prelude.{◌≡◌, ◌⊎◌, ℕ, List, Result, Ok, Err, MatchResult}
use Rattle.std.specs.declared.option.Option.{Option}
use Rattle.sqlite.specs.declared.error.Error.{Error}
use Rattle.prof_io.specs.declared.outside.KeepRefusal.{KeepRefusal}
use Rattle.prof_io.specs.declared.outside.KeepRefusal.TheVariants.{Failed, NoMemory}
use Rattle.prof_sql_keeper.specs.declared.sql_keeper.SqlKeeper.{SqlKeeper}
use Rattle.prof_sql_keeper.specs.Bases.{OnBase, Begins}
use Rattle.prof_sql_keeper.specs.Refusals.{refusal_of}
use Rattle.prof_sql_keeper.specs.Table.{SetsText, FindsText, FailsToFind}

-- the answer tells of what the database answered
abbrev pub Tells : Result (Unit {0}) KeepRefusal → Result (Unit {0}) Error → Type 0
Tells result (Ok done) = result ≡ Ok done
Tells result (Err error) = result ≡ Err (refusal_of error)

module _ (old new : SqlKeeper) where
  -- what is kept under a name is begun, or the database is as before
  abbrev pub BeginsName : List ℕ → Result (Unit {0}) KeepRefusal → Type 0
  BeginsName name result = MatchResult result (λ _. Begins name old.base new.base) (λ _. new.base ≡ old.base)

  -- one statement sets the text, if a database is begun, and the answer tells of it
  abbrev pub PutsByStatement : List ℕ → List ℕ → Result (Unit {0}) KeepRefusal → Type 0
  PutsByStatement key text result =
      (told : Result (Unit {0}) Error) × Tells result told × OnBase old.base new.base (result ≡ Err Failed) (λ before after. SetsText before after key text told)

  -- one query finds the text that is answered, or was refused, unless there was no memory
  abbrev pub GetsByQuery : List ℕ → Result (Option (List ℕ)) KeepRefusal → Type 0
  GetsByQuery key result = MatchResult result
      (λ text. OnBase old.base new.base ⊥ (λ before after. FindsText before after key text))
      (λ refusal. (refusal ≡ NoMemory) ⊎ ((error : Error) × (refusal ≡ refusal_of error) × OnBase old.base new.base (refusal ≡ Failed) (λ before after. FailsToFind before after key error)))
