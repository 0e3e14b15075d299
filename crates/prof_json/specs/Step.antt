-- What reading one event gives.
use Rattle.std.specs.Prelude.{◌≡◌, ◌≢◌, ℕ, ◌+◌, ◌<◌, ◌≤◌, List, [], ◌∷◌, ◌++◌, length, take, true, Some}
use Rattle.prof_token.specs.Ahead.{Ahead, IsNext, Passes}
use Rattle.prof_grammar.specs.Machine.{Part}
use Rattle.prof_token.specs.Kept.{Kept, Gains}
use Rattle.prof_token.specs.Numbers.{IsPlain}
use Rattle.prof_token.specs.Stages.{may_come}
use Rattle.prof_token.specs.Writes.{ReadsString}
use Rattle.prof_json.specs.Nest.{Nest, Leads, phase_after}
use Rattle.prof_json.specs.Position.{IsSound}
use Rattle.prof_json.specs.declared.nesting.Bracket.{Bracket}
use Rattle.prof_json.specs.declared.nesting.Bracket.TheVariants.{Array, Object}
use Rattle.prof_json.specs.declared.answer.Event.{Event}
use Rattle.prof_json.specs.declared.answer.Event.TheVariants as e

-- the event begins a value, and these brackets are open behind it
pub data Begins : List Bracket → Event → List Bracket → Type 0 where
  array_start : {xs : List Bracket} → Begins xs e.ArrayStart (xs ++ Array ∷ [])
  object_start : {xs : List Bracket} → Begins xs e.ObjectStart (xs ++ Object ∷ [])
  str : {xs : List Bracket} → Begins xs e.Str xs
  number : {xs : List Bracket} → Begins xs e.Number xs
  yes_ : {xs : List Bracket} → Begins xs e.True xs
  no_ : {xs : List Bracket} → Begins xs e.False xs
  null : {xs : List Bracket} → Begins xs e.Null xs

-- a text that was kept from its beginning on is that of the event
abbrev pub Keeps : Event → Kept → Kept → Type 0
Keeps event old new = old.bytes ≡ [] → old.keeping ≡ true → IsSound (Some event) new.bytes

-- a value was begun
pub record BeginsValue (xs : List Bracket) (event : Event) (ys : List Bracket) (old new : Ahead) (k m : Kept) : Type 0 where
  pub begins : Begins xs event ys
  pub few : length ys ≤ 256
  pub further : old.place < new.place
  pub keeps : Keeps event k m

-- from the nest the event led to these brackets
pub record IsStep (nest : Nest) (event : Event) (ys : List Bracket) (old new : Ahead) (k m : Kept) : Type 0 where
  pub leads : Leads nest event (record { open_ = ys; phase = phase_after event })
  pub few : length ys ≤ 256
  pub further : event ≢ e.End → old.place < new.place
  pub keeps : Keeps event k m

-- So many bytes and a plain number were passed. The byte that is shown behind them may come where these parts are still to
-- come.
pub record ReadsNumber (before : ℕ) (ps : List Part) (old : Ahead) (k : Kept) (new : Ahead) (m : Kept) : Type 0 where
  pub text : List ℕ
  pub plain : IsPlain text
  pub ahead : old.bytes ≡ take before old.bytes ++ (text ++ new.bytes)
  pub passed : Passes (before + length text) old new
  pub kept : Gains k text m
  pub shown : ℕ
  pub next : IsNext shown new
  pub comes : may_come ps (Some shown) ≡ true

-- this byte was passed, and behind it the event, a plain string or a plain number
pub data ReadsPlain (mark : ℕ) (ps : List Part) (old : Ahead) (k : Kept) (new : Ahead) (m : Kept) : Event → Type 0 where
  string : take 2 old.bytes ≡ mark ∷ 34 ∷ [] → ReadsString 2 old k new m → ReadsPlain mark ps old k new m e.Str
  number : take 1 old.bytes ≡ mark ∷ [] → ReadsNumber 1 ps old k new m → ReadsPlain mark ps old k new m e.Number
