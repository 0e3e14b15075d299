-- Requests that are answered whatever memory there is
use Rattle.std.specs.Prelude.{◌==◌, Bool, true, false, ◌||◌, Option, Some}
use Rattle.prof_request.specs.declared.request.Command.{Command}
use Rattle.prof_request.specs.declared.request.Command.TheVariants as ask
use Rattle.prof_machine.specs.declared.refusal.Refusal.{Refusal}
use Rattle.prof_machine.specs.declared.refusal.Refusal.TheVariants.{NoSession, Stale, BadAddress, NotSaved, BadSaved, OtherProfile, TooManyNodes, KeeperFault, BadText}
use Rattle.prof_machine.specs.declared.refusal.Reply.{Reply}
use Rattle.prof_machine.specs.declared.refusal.Reply.TheVariants.{Refused}
use Rattle.prof_machine.specs.Session.{Session, present}
use Rattle.prof_machine.specs.Machine.{After}

-- a change that goes back or forth
abbrev pub is_move : Command → Bool
is_move (ask.Undo at) = true
is_move (ask.Redo at) = true
is_move command = false

-- a refusal of a Goto, and one of another request, for which no memory is taken
abbrev pub is_lean_of_goto : Refusal → Bool
is_lean_of_goto NoSession = true
is_lean_of_goto (Stale version) = true
is_lean_of_goto refusal = false

abbrev pub is_lean_refusal : Refusal → Bool
is_lean_refusal (BadAddress at) = false
is_lean_refusal NotSaved = false
is_lean_refusal (BadSaved at) = false
is_lean_refusal (OtherProfile kept here) = false
is_lean_refusal (TooManyNodes limit) = false
is_lean_refusal KeeperFault = false
is_lean_refusal (BadText at) = false
is_lean_refusal refusal = true

abbrev pub is_refused_lean : Command → Reply → Bool
is_refused_lean (ask.Goto at address) (Refused refusal) = is_lean_of_goto refusal
is_refused_lean command (Refused refusal) = is_lean_refusal refusal
is_refused_lean command reply = false

-- whether both sessions show the same thread
abbrev pub keeps_thread : Option Session → Option Session → Bool
keeps_thread (Some old) (Some new) = (present new).thread == (present old).thread
keeps_thread old new = false

-- A request that never finds no memory, by the machine's answer to it: a Close, an Undo or Redo that keeps the present
-- view's thread, and one that is refused before memory is taken.
abbrev pub is_lean : Command → Option Session → After → Bool
is_lean ask.Close own a = true
is_lean (ask.Undo at) own a = keeps_thread own a.session || is_refused_lean (ask.Undo at) a.reply
is_lean (ask.Redo at) own a = keeps_thread own a.session || is_refused_lean (ask.Redo at) a.reply
is_lean command own a = is_refused_lean command a.reply
