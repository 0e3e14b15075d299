-- Requests one after another
use Rattle.std.specs.Prelude.{ℕ, List, [], ◌∷◌, length, Option, Result, Ok, Err}
use Rattle.prof_io.specs.Named.{value_at, with_own}
use Rattle.prof_io.specs.Shelf.{Shelf, file_at}
use Rattle.prof_request.specs.declared.request.Request.{Request}
use Rattle.prof_machine.specs.declared.refusal.Refusal.TheVariants.{KeeperFault, BadText}
use Rattle.prof_machine.specs.declared.refusal.Reply.{Reply}
use Rattle.prof_machine.specs.declared.refusal.Reply.TheVariants.{Refused, NoMemory}
use Rattle.prof_machine.specs.Known.{Known}
use Rattle.prof_machine.specs.Session.{Session}
use Rattle.prof_machine.specs.Machine.{After, step}

-- the sessions, and the kept texts
pub record Held : Type 0 where
  pub sessions : List (List ℕ × Session)
  pub kept : Shelf

-- How a request fares: it is answered by the machine, from the kept text or from the one that the keeper showed; it finds no
-- memory; or the keeper fails in it.
pub data Fate : Type 0 where
  Answered : Fate
  Shown : Option (List ℕ) → Fate
  Starved : Fate
  Failed : Fate

-- the texts that the keeper showed, in order
abbrev pub shown_in : List Fate → List (Option (List ℕ))
shown_in [] = []
shown_in (Answered ∷ fates) = shown_in fates
shown_in (Shown text ∷ fates) = text ∷ shown_in fates
shown_in (Starved ∷ fates) = shown_in fates
shown_in (Failed ∷ fates) = shown_in fates

-- a step of the request's own session, where that is its kept text
abbrev pub step_from : List (List ℕ × Known) → Held → Request → Option (List ℕ) → After
step_from profiles held request kept =
    step profiles (length held.sessions) (value_at held.sessions request.session) kept request.command

-- a step of the request's own session and kept text
abbrev pub own_step : List (List ℕ × Known) → Held → Request → After
own_step profiles held request = step_from profiles held request (file_at held.kept request.session)

-- what is held after a step of the request's own session and kept text
abbrev pub held_by : Held → Request → After → Held
held_by held request after =
    record { sessions = with_own request.session after.session held.sessions; kept = with_own request.session after.kept held.kept }

-- a line: a request, or no request from that place on
abbrev pub Line : Type 0
Line = Result Request ℕ

abbrev pub reply_to : List (List ℕ × Known) → Held → Line → Fate → Reply
reply_to profiles held (Err at) fate = Refused (BadText at)
reply_to profiles held (Ok request) Answered = (own_step profiles held request).reply
reply_to profiles held (Ok request) (Shown text) = (step_from profiles held request text).reply
reply_to profiles held (Ok request) Starved = NoMemory
reply_to profiles held (Ok request) Failed = Refused KeeperFault

abbrev pub held_after : List (List ℕ × Known) → Held → Line → Fate → Held
held_after profiles held (Err at) fate = held
held_after profiles held (Ok request) Answered = held_by held request (own_step profiles held request)
held_after profiles held (Ok request) (Shown text) = held_by held request (step_from profiles held request text)
held_after profiles held (Ok request) Starved = held
held_after profiles held (Ok request) Failed = held

-- the replies to lines, each with its fate, and what is held after them
abbrev pub play : List (List ℕ × Known) → Held → List (Line × Fate) → List Reply
play profiles held [] = []
play profiles held (l ∷ ls) = reply_to profiles held l.0 l.1 ∷ play profiles (held_after profiles held l.0 l.1) ls

abbrev pub held_after_all : List (List ℕ × Known) → Held → List (Line × Fate) → Held
held_after_all profiles held [] = held
held_after_all profiles held (l ∷ ls) = held_after_all profiles (held_after profiles held l.0 l.1) ls
