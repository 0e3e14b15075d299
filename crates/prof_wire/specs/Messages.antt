-- The messages of a connection.
use Rattle.std.specs.Prelude.{◌≡◌, ◌≢◌, ◌⊎◌, ℕ, ◌+◌, ◌<◌, ◌≤◌, Bool, true, false, nat_le, List, [], ◌∷◌, ◌++◌, length, map, take, drop, if◌then◌else◌, Result, Ok, Err, IsTrue, IsFalse}
use Rattle.httparse.specs.Grammar.{RequestHead}
use Rattle.httparse.specs.Spans.{name_and_value}
use Rattle.prof_wire.specs.Heads.{BeginsWith, HasNoHead, NeverHasHead, decide, is_last, verb_of}
use Rattle.prof_wire.specs.declared.messages.WireEnd.{WireEnd}
use Rattle.prof_wire.specs.declared.messages.WireEnd.TheVariants.{End, Bad, HeadTooLong}
use Rattle.prof_wire.specs.declared.messages.Why.{Why}
use Rattle.prof_wire.specs.declared.messages.Why.TheVariants.{Head, Cut}
use Rattle.prof_wire.specs.declared.messages.Verb.{Verb}

-- a message
pub record Asked : Type 0 where
  pub method : Verb
  pub target : List ℕ
  pub body : List ℕ
  pub last : Bool

-- what comes next: a message with the bytes behind it, or no message
pub data Next : Type 0 where
  message : Asked → List ℕ → Next
  ending : WireEnd → Next

-- a body of that size, out of the bytes behind a head
abbrev pub with_body : Result ℕ WireEnd → ℕ → RequestHead → List ℕ → Next
with_body (Err end) given head rest = ending end
with_body (Ok size) given head rest =
    if nat_le size (length rest)
    then message (record {
      method = verb_of head.method;
      target = head.target;
      body = take size rest;
      last = is_last given head.minor (map name_and_value head.fields);
    }) (drop size rest)
    else ending (Bad Cut)

-- what comes where the bytes begin with a head, after so many messages of the connection
abbrev pub after_head : ℕ → RequestHead → List ℕ → Next
after_head given head rest = with_body (decide head.minor (map name_and_value head.fields)) given head rest

-- why there is no head at the front: the parser's reading decides where two of these fit
abbrev pub IsHeadless : List ℕ → WireEnd → Type 0
IsHeadless bytes (Bad Head) = (front : List ℕ) × (rest : List ℕ) × (bytes ≡ front ++ rest) × NeverHasHead front
IsHeadless bytes HeadTooLong = 65536 ≤ length bytes
IsHeadless bytes (Bad Cut) = length bytes < 65536
IsHeadless bytes _ = ⊥

-- what comes next on a connection that gave so many messages, and of which these bytes aren't used
pub data Comes (given : ℕ) (bytes : List ℕ) (next : Next) : Type 0 where
  at_end : bytes ≡ [] → next ≡ ending End → Comes given bytes next
  headed : (head : RequestHead) (rest : List ℕ) → BeginsWith bytes head rest → next ≡ after_head given head rest → Comes given bytes next
  headless : (end : WireEnd) → bytes ≢ [] → HasNoHead bytes → IsHeadless bytes end → next ≡ ending end → Comes given bytes next

-- how a connection ends: after its last message, or where no message comes
pub data Finish : Type 0 where
  after_last : Finish
  ended : WireEnd → Finish

-- the messages of a connection of which these bytes aren't used, and how it ends
abbrev pub AreMessages : ℕ → List ℕ → List Asked → Finish → Type 0
AreMessages given bytes [] after_last = ⊥
AreMessages given bytes [] (ended end) = Comes given bytes (ending end)
AreMessages given bytes (asked ∷ more) finish =
    (rest : List ℕ) × Comes given bytes (message asked rest)
    × ((IsTrue asked.last × (more ≡ []) × (finish ≡ after_last)) ⊎ (IsFalse asked.last × AreMessages (given + 1) rest more finish))
