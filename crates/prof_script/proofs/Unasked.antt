-- A step that loads no kept text replies the same, and makes the same of the session, whatever is kept.
use Rattle.std.proofs.Common.{◌≡◌, ℕ, ◌+◌, ◌==◌, ◌≤◌, ◌&&◌, Bool, true, false, cond, List, Option, Some, None, is_some, refl, sym, ap, ◌∙◌}
use Rattle.std.specs.Prelude.{nat_lt}
use Rattle.std.proofs.lemmas.Bool.{ltb-false}
use Rattle.prof_io.specs.Named.{value_at}
use Rattle.prof_request.specs.declared.request.Command.{Command}
use Rattle.prof_request.specs.declared.request.Command.TheVariants as ask
use Rattle.prof_machine.specs.declared.refusal.Refusal.{Refusal}
use Rattle.prof_machine.specs.declared.refusal.Refusal.TheVariants.{Stale}
use Rattle.prof_machine.specs.declared.refusal.Reply.{Reply}
use Rattle.prof_machine.specs.declared.refusal.Reply.TheVariants.{Done, Refused}
use Rattle.prof_machine.specs.Known.{Known}
use Rattle.prof_machine.specs.Session.{Session, at_of, is_last, opened}
use Rattle.prof_machine.specs.Machine.{After, acted, asked, asks_keeper, change, change_refusal, load_refusal, made, open_refusal, profile_of, restored, saved_in, stays, step, unopened}
use Rattle.prof_session_desk.specs.Desk.{is_load}
use Rattle.prof_session_desk.proofs.MakeLemmas.{full_load}

-- two steps have the same reply, and leave the same session
pub record Alike (a b : After) : Type 0 where
  pub reply : a.reply ≡ b.reply
  pub session : a.session ≡ b.session

-- whether a request has the keeper show a text
abbrev pub is_shown_text : List (List ℕ × Known) → ℕ → Option Session → Command → Bool
is_shown_text profiles count own command = is_load command && asks_keeper profiles count own command

pub same_alike : (a b : After) → a ≡ b → Alike a b
same_alike a b e = record { reply = ap (λ (x : After). x.reply) e; session = ap (λ (x : After). x.session) e }

either : (b : Bool) (w x y z : After) → Alike w x → Alike y z → Alike (cond b w y) (cond b x z)
either true w x y z h k = h
either false w x y z h k = k

module _ (kept other : Option (List ℕ)) where
  stays_alike : (own : Option Session) (reply : Reply) → Alike (stays own kept reply) (stays own other reply)
  stays_alike own reply = record { reply = refl; session = refl }

  acted_alike : (s : Session) (command : Command) (r : Option Refusal) → Alike (acted s kept command r) (acted s other command r)
  acted_alike s command (Some refusal) = record { reply = refl; session = refl }
  acted_alike s command None = record { reply = refl; session = refl }

  made_alike : (s : Session) (r : Option Refusal) → Alike (made kept s r) (made other s r)
  made_alike s (Some refusal) = record { reply = refl; session = refl }
  made_alike s None = record { reply = refl; session = refl }

  change_alike : (p : Known) (s : Session) (command : Command) → Alike (change p s kept command) (change p s other command)
  change_alike p s command =
      either (at_of command == s.version) _ _ _ _ (acted_alike s command (change_refusal p s command))
      (either (at_of command + 1 == s.version && is_last s.last command) _ _ _ _ (stays_alike (Some s) (Done s.version)) (stays_alike (Some s) (Refused (Stale s.version))))

  asked_alike : (p : Known) (s : Session) (command : Command) → Alike (asked p s kept command) (asked p s other command)
  asked_alike p s (ask.OpenOn profile thread) = record { reply = refl; session = refl }
  asked_alike p s (ask.LoadOn profile) = record { reply = refl; session = refl }
  asked_alike p s ask.Close = record { reply = refl; session = refl }
  asked_alike p s ask.Tree = record { reply = refl; session = refl }
  asked_alike p s ask.Inverted = record { reply = refl; session = refl }
  asked_alike p s (ask.Markers search) = record { reply = refl; session = refl }
  asked_alike p s ask.Address = record { reply = refl; session = refl }
  asked_alike p s ask.Save = record { reply = refl; session = refl }
  asked_alike p s command = change_alike p s command

  -- a load that is refused before the keeper is asked
  load_alike : (o : Option Known) (count : ℕ) (profile : List ℕ) → (is_some o && nat_lt count 1000) ≡ false
      → Alike (made kept (restored profile (saved_in kept)) (load_refusal o count kept)) (made other (restored profile (saved_in other)) (load_refusal o count other))
  load_alike None count profile h = record { reply = refl; session = refl }
  load_alike (Some p) count profile h =
      let many : 1000 ≤ count = ltb-false count 1000 h in
      let one = full_load p count kept many in
      let two = full_load p count other many in
      record {
        reply = ap (λ r. (made kept (restored profile (saved_in kept)) r).reply) one ∙ sym (ap (λ r. (made other (restored profile (saved_in other)) r).reply) two);
        session = ap (λ r. (made kept (restored profile (saved_in kept)) r).session) one ∙ sym (ap (λ r. (made other (restored profile (saved_in other)) r).session) two);
      }

  unopened_alike : (profiles : List (List ℕ × Known)) (count : ℕ) (command : Command) → is_shown_text profiles count None command ≡ false → Alike (unopened profiles count kept command) (unopened profiles count other command)
  unopened_alike profiles count (ask.OpenOn profile thread) h = made_alike (opened profile thread) (open_refusal (value_at profiles profile) thread count)
  unopened_alike profiles count (ask.LoadOn profile) h = load_alike (value_at profiles profile) count profile h
  unopened_alike profiles count command h = record { reply = refl; session = refl }

  pub step_alike : (profiles : List (List ℕ × Known)) (count : ℕ) (own : Option Session) (command : Command) → is_shown_text profiles count own command ≡ false → Alike (step profiles count own kept command) (step profiles count own other command)
  step_alike profiles count None command h = unopened_alike profiles count command h
  step_alike profiles count (Some s) command h = asked_alike (profile_of profiles s) s command
