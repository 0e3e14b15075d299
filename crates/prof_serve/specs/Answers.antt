-- What answers messages: responses by the machine's play of their requests.
use Rattle.std.specs.Prelude.{◌≡◌, ℕ, Bool, true, false, List, [], ◌∷◌, ◌++◌, codes, Option, Some, None, ⊤}
use Rattle.prof_tables.specs.Threads.{ThreadTables}
use Rattle.prof_machine.specs.declared.refusal.Reply.{Reply}
use Rattle.prof_machine.specs.declared.refusal.Reply.TheVariants.{Done, Closed, NoMemory}
use Rattle.prof_machine.specs.Known.{Known}
use Rattle.prof_machine.specs.Play.{Fate, Starved, Held, Line, held_after, held_after_all, reply_to}
use Rattle.prof_request.proofs.OutcomeLemmas.{line_of}
use Rattle.prof_reply.specs.Replies.{reply_bytes}
use Rattle.prof_script.specs.Playing.{IsFated, thread_shown}
use Rattle.prof_wire.specs.Messages.{Asked}
use Rattle.prof_wire.specs.Responses.{response_bytes}
use Rattle.prof_serve.specs.Statuses.{status_of}
use Rattle.prof_serve.specs.Errands.{Errand, asks, no_route, no_method, AsksFor}

-- a reply that tells of a change
abbrev pub is_change : Reply → Bool
is_change (Done version) = true
is_change Closed = true
is_change reply = false

-- a reply is told, or memory ran out for its text, which that of a change doesn't take
abbrev pub Tells : Reply → Bool → Type 0
Tells reply true = ⊤
Tells reply false = is_change reply ≡ false

abbrev pub reply_told : Reply → Bool → Reply
reply_told reply true = reply
reply_told reply false = NoMemory

-- the response that tells a reply
abbrev pub reply_response : Bool → Option ThreadTables → Reply → List ℕ
reply_response last thread reply = response_bytes (status_of reply) None last (reply_bytes thread reply)

-- a message, with what it asks for
abbrev pub Handled : Type 0
Handled = Asked × Errand

abbrev pub asked_in : Handled → Asked
asked_in one = one.0

-- the lines that messages have the machine play, each with its fate
abbrev pub played : List Handled → List (Line × Fate)
played [] = []
played ((asked, asks line fate said settled) ∷ more) = (line_of line, fate) ∷ played more
played ((asked, no_route) ∷ more) = played more
played ((asked, no_method get) ∷ more) = played more

module _ (profiles : List (List ℕ × Known)) where
  -- the reply to a request's line, where want of memory is one
  abbrev pub reply_of : Held → List ℕ → Fate → Reply
  reply_of held line Starved = NoMemory
  reply_of held line fate = reply_to profiles held (line_of line) fate

  -- the response to a message
  abbrev pub response : Held → Handled → List ℕ
  response held (asked, asks line fate said settled) =
      let thread = thread_shown profiles (held_after profiles held (line_of line) fate) (line_of line) in
      reply_response asked.last thread (reply_told (reply_of held line fate) said)
  response held (asked, no_route) = response_bytes 404 None asked.last (codes "refused NoRoute\n")
  response held (asked, no_method get) = response_bytes 405 (Some get) asked.last (codes "refused NoMethod\n")

  -- what is held behind a message
  abbrev pub held_behind : Held → Handled → Held
  held_behind held one = held_after_all profiles held (played (one ∷ []))

  -- the responses to messages, one after another
  abbrev pub responses : Held → List Handled → List ℕ
  responses held [] = []
  responses held (one ∷ more) = response held one ++ responses (held_behind held one) more

  -- Memory runs out for a request, or it is answered, from a text that the keeper showed only where it asks for one, or the
  -- keeper fails where it is asked.
  abbrev pub Fares : Held → List ℕ → Fate → Type 0
  Fares held line Starved = ⊤
  Fares held line fate = IsFated profiles held (line_of line) fate

  abbrev pub IsMet : Held → Errand → Type 0
  IsMet held (asks line fate said settled) = Fares held line fate × Tells (reply_of held line fate) said
  IsMet held no_route = ⊤
  IsMet held (no_method get) = ⊤

  -- messages with what they ask for, and that may be so
  abbrev pub AreMet : Held → List Handled → Type 0
  AreMet held [] = ⊤
  AreMet held (one ∷ more) = AsksFor one.0 one.1 × IsMet held one.1 × AreMet (held_behind held one) more
