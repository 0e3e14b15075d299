-- A connection that is served.
use Rattle.std.specs.Prelude.{◌≡◌, ℕ, ◌+◌, ◌≤◌, Bool, true, List, [], ◌∷◌, ◌++◌, map, length, IfSome, IsTrue, Result, Ok, Err, ⊤}
use Rattle.prof_io.specs.Bytes.{AppendsPart, FitsRoom}
use Rattle.prof_io.specs.Causes.{Rose, RoseBy}
use Rattle.prof_io.specs.Outside.{Seen}
use Rattle.prof_io.specs.Sinks.{Wrote}
use Rattle.prof_machine.specs.Known.{Known}
use Rattle.prof_machine.specs.Play.{Held, held_after_all, shown_in}
use Rattle.prof_script.specs.Playing.{IsHeld, Stage, failed_count}
use Rattle.prof_script.specs.Readings.{AreLaid, Laid}
use Rattle.prof_wire.specs.Messages.{Asked, message, ending, Comes, Finish, after_last, ended, AreMessages}
use Rattle.prof_wire.specs.Responses.{refusal_bytes}
use Rattle.prof_wire.specs.declared.messages.WireEnd.TheVariants.{End, HallFault, Bad, HeadTooLong, BodyTooLong, Coded, Expect}
use Rattle.prof_serve.specs.declared.serving.ConnEnd.{ConnEnd}
use Rattle.prof_serve.specs.declared.serving.ConnEnd.TheVariants.{Ended, Refused, Faulted}
use Rattle.prof_serve.specs.Answers.{Handled, asked_in, played, AreMet, responses}
use Rattle.prof_serve.specs.Readings.{AreSettled, laid_behind_all, messages_readings}

-- these are the first messages of a connection that gave so many before, and these bytes aren't used behind them
abbrev pub AreFirst : ℕ → List ℕ → List Asked → List ℕ → Type 0
AreFirst given bytes [] rest = rest ≡ bytes
AreFirst given bytes (asked ∷ more) rest =
    (behind : List ℕ) × Comes given bytes (message asked behind) × (IsTrue asked.last → more ≡ []) × AreFirst (given + 1) behind more rest

-- what answers the end of a connection: a message that the wire refused has an answer
abbrev pub closing : Finish → List ℕ
closing after_last = []
closing (ended end) = refusal_bytes end

abbrev pub end_of : Finish → ConnEnd
end_of after_last = Ended
end_of (ended End) = Ended
end_of (ended HallFault) = Faulted
end_of (ended (Bad why)) = Refused
end_of (ended HeadTooLong) = Refused
end_of (ended BodyTooLong) = Refused
end_of (ended Coded) = Refused
end_of (ended Expect) = Refused

-- what the hall showed before, but for the bytes that were read since
abbrev pub since : Seen → Seen → Seen
since old new = record old { left = new.left }

-- the end comes behind so many messages, if it is none of a last message
abbrev pub ComesThen : ℕ → List ℕ → Finish → Type 0
ComesThen given rest after_last = ⊤
ComesThen given rest (ended end) = Comes given rest (ending end)

module _ (profiles : List (List ℕ × Known)) (held : Held) where
  -- All messages of the connection were answered, and so was its end.
  pub record IsWhole (handled : List Handled) (old new : Seen) (end : ConnEnd) : Type 0 where
    pub finish : Finish
    pub messages : IfSome old.left (λ bytes. AreMessages 0 bytes (map asked_in handled) finish)
    pub same : end_of finish ≡ end
    pub written : Wrote {T = ⊤} {E = ⊤} (since old new) new (Ok tt) (responses profiles held handled ++ closing finish)

  -- The hall failed: the first messages were handled, and a front of what answers them was written.
  pub record IsCut (handled : List Handled) (old new : Seen) : Type 0 where
    pub finish : Finish
    pub messages : IfSome old.left (λ bytes. (rest : List ℕ) × AreFirst 0 bytes (map asked_in handled) rest × ComesThen (length handled) rest finish)
    pub part : AppendsPart old.written new.written (responses profiles held handled ++ closing finish)
    pub place : new.place ≡ old.place
    -- where no call but a write without room can fail, the answers are more than there was room for
    pub fits : old.sure → FitsRoom {T = ⊤} {E = ⊤} old.room new.room (Err tt) (length (responses profiles held handled ++ closing finish))
    pub sure : old.sure → new.sure
    pub rose : Rose old.faults new.faults

  abbrev pub Ends : ConnEnd → List Handled → Seen → Seen → Type 0
  Ends Ended handled old new = IsWhole handled old new Ended
  Ends Refused handled old new = IsWhole handled old new Refused
  Ends Faulted handled old new = IsCut handled old new

module _ (profiles : List (List ℕ × Known)) (told : Bool) (held : Held) (laid : List (List ℕ × Laid)) where
  -- Messages were handled one after another: the desk has what is held behind them, and so has a keeper that tells its texts.
  pub record Handles (handled : List Handled) (old new : Stage) : Type 0 where
    pub met : AreMet profiles held handled
    pub state : IsHeld profiles told new.desk new.keeper.texts (held_after_all profiles held (played handled))
    -- where the keeper tells its texts, no text is taken from it in their place
    pub shown : told ≡ true → shown_in (map (λ l. l.1) (played handled)) ≡ []
    -- the keeper's count rose for each request in which it failed, and for nothing else
    pub failed : RoseBy (failed_count (played handled)) old.keeper.faults new.keeper.faults
    pub quiet : failed_count (played handled) ≡ 0 → new.keeper.faults ≡ old.keeper.faults
    pub steady : old.keeper.sure → (failed_count (played handled) ≡ 0) × new.keeper.sure
    -- how the layers stand then, and how many stack rows were read
    pub settled : AreSettled profiles held laid handled
    pub lies : AreLaid new.desk (laid_behind_all profiles held laid handled)
    pub readings : new.reads ≤ old.reads + messages_readings profiles held laid handled

  -- A connection was served: the first of its messages were handled, and all of them where the hall didn't fail.
  abbrev pub Serves : Stage → Stage → ConnEnd → Type 0
  Serves old new end = (handled : List Handled) × Handles handled old new × Ends profiles held end handled old.out new.out

  -- A message was answered.
  abbrev pub Answers : {T E : Type 0} → Asked → Stage → Stage → Result T E → Type 0
  Answers asked old new result =
      (one : Handled) × (one.0 ≡ asked) × Handles (one ∷ []) old new × Wrote old.out new.out result (responses profiles held (one ∷ []))
