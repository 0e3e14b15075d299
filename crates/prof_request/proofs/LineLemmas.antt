-- Lines of any length.
use Rattle.std.proofs.Common.{ℕ, List, refl}
use Rattle.std.specs.Prelude.{Err}
use Rattle.prof_spell.specs.Spelling.{Language, IsTaken, Reads, Splits}
use Rattle.prof_spell.specs.declared.cursor.Stop.{Stop}
use Rattle.prof_spell.specs.Readings.{Readable}
use Rattle.prof_spell.specs.Sequences.{followed_by}
use Rattle.prof_spell.proofs.Parts.{Built, err_built, taken_built, splits_built}
use Rattle.prof_spell.proofs.Readings.{reading_built}
use Rattle.prof_spell.proofs.SequenceLemmas.{Meets, err_front, err_back, taken_pair, splits_pair, reading_pair}
use Rattle.prof_request.specs.declared.request.Command.{Command}
use Rattle.prof_request.specs.declared.request.Command.TheVariants.{Close}
use Rattle.prof_request.specs.declared.request.Request.{Request}
use Rattle.prof_request.specs.Requests.{lines}
use Rattle.prof_request.specs.Reading.{names, before_space, commands}
use Rattle.prof_request.proofs.SpacedLemmas.{meets_behind, splits_session, reading_session}
use Rattle.prof_request.proofs.CommandLemmas.{splits_commands, reading_command}

-- a session's name with its space, and a command
abbrev pub line_parts : Language (List ℕ × Command)
line_parts = followed_by (before_space names) (λ session. commands)

abbrev pub request_of : List ℕ × Command → Request
request_of p = record { session = p.0; command = p.1 }

line_built : Built lines line_parts request_of
line_built = record {
  into = λ p f. (record { session = f.0; command = f.1 }, refl);
  from = λ r f. ((r.session, r.command), refl, (f.session, f.command), λ m a. a);
}

line_meets : Meets (before_space names) (λ session. commands)
line_meets = meets_behind names commands Close tt

pub splits_lines : Splits lines
splits_lines = splits_built lines line_parts request_of line_built
    (splits_pair (before_space names) (λ session. commands) line_meets splits_session (λ session f. splits_commands))

pub reading_line : Readable lines
reading_line = reading_built lines line_parts request_of line_built (λ p left f a. a)
    (reading_pair (before_space names) (λ session. commands) line_meets splits_session reading_session (λ session f. reading_command))

pub err_session : (bytes left : List ℕ) (stop : Stop) → Reads (before_space names) bytes (Err stop) left → Reads lines bytes (Err stop) left
err_session bytes left stop s = err_built lines line_parts request_of bytes left stop line_built (err_front (before_space names) (λ session. commands) bytes left stop line_meets s)

pub err_command : (bytes mid left session : List ℕ) (stop : Stop) → IsTaken (before_space names) bytes session mid → Reads commands mid (Err stop) left → Reads lines bytes (Err stop) left
err_command bytes mid left session stop t s = err_built lines line_parts request_of bytes left stop line_built
    (err_back (before_space names) (λ name. commands) bytes mid left session stop line_meets splits_session t s)

pub line_taken : (bytes mid left session : List ℕ) (command : Command) → IsTaken (before_space names) bytes session mid → IsTaken commands mid command left → IsTaken lines bytes (request_of (session, command)) left
line_taken bytes mid left session command t u = taken_built lines line_parts request_of bytes left (session, command) line_built (λ a. a)
    (taken_pair (before_space names) (λ name. commands) bytes mid left session command line_meets t u)
