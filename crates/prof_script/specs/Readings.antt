-- How many stack rows the lines of a script may read.
use Rattle.std.specs.Prelude.{◌≡◌, ℕ, suc, ◌+◌, ◌-◌, ◌*◌, ◌==◌, List, [], ◌∷◌, length, Option, Some, None, Ok, Err, if◌then◌else◌}
use Rattle.std.specs.Option.{option_map}
use Rattle.prof_io.specs.Named.{value_at, with_own}
use Rattle.prof_path.specs.declared.transform.Transform.{Transform}
use Rattle.prof_request.specs.declared.request.Command.{Command}
use Rattle.prof_machine.specs.Known.{Known, thread_of}
use Rattle.prof_machine.specs.Session.{Session, present, same_transform}
use Rattle.prof_machine.specs.Machine.{profile_of}
use Rattle.prof_machine.specs.Play.{Fate, Held, Line, held_after}
use Rattle.prof_session.specs.Seated.{Seated, is_tree}
use Rattle.prof_session_desk.specs.Desk.{DeskLists}

-- how a session's layers stand: the transforms that are settled, and how many stack rows their base has
pub record Laid : Type 0 where
  pub settled : List Transform
  pub rows : ℕ

abbrev pub laid_of : Seated → Laid
laid_of seat = record { settled = seat.layers.settled; rows = length seat.layers.base.shared.stacks }

-- the layers of the sessions of a desk stand so
abbrev pub AreLaid : DeskLists → List (List ℕ × Laid) → Type 0
AreLaid desk laid = (name : List ℕ) → option_map laid_of (value_at desk.seats name) ≡ value_at laid name

-- layers over the thread of the present view, of which no transform is settled
abbrev pub laid_anew : Known → Session → Laid
laid_anew p s = record { settled = []; rows = length (thread_of p (present s)).shared.stacks }

-- The layers of a request's own session, by how they and it stood before, and how it stands then: a tree settles the
-- present view's transforms, and where the present view's thread is another, they begin anew.
abbrev pub relaid : List (List ℕ × Known) → Command → Option Session → Option Session → Option Laid → Option Laid
relaid profiles command own None laid = None
relaid profiles command None (Some new) laid = Some (laid_anew (profile_of profiles new) new)
relaid profiles command (Some old) (Some new) laid =
    if is_tree command then option_map (λ (l : Laid). record l { settled = (present old).transforms }) laid else
    (if (present new).thread == (present old).thread then laid else Some (laid_anew (profile_of profiles old) new))

abbrev pub laid_after : List (List ℕ × Known) → Held → Held → List (List ℕ × Laid) → Line → List (List ℕ × Laid)
laid_after profiles held after laid (Err at) = laid
laid_after profiles held after laid (Ok request) =
    let name = request.session in
    with_own name (relaid profiles request.command (value_at held.sessions name) (value_at after.sessions name) (value_at laid name)) laid

-- how many transforms stand alike at the front of both lists
abbrev pub common_length : List Transform → List Transform → ℕ
common_length (t ∷ ts) (u ∷ us) = if same_transform t u then suc (common_length ts us) else 0
common_length ts us = 0

-- a tree reads each stack row once, and once more for each transform of the present view that isn't settled yet
abbrev pub readings_at : Command → Option Session → Option Laid → ℕ
readings_at command (Some s) (Some l) =
    if is_tree command then (length (present s).transforms - common_length l.settled (present s).transforms + 1) * l.rows else 0
readings_at command own laid = 0

abbrev pub line_readings : Held → List (List ℕ × Laid) → Line → ℕ
line_readings held laid (Err at) = 0
line_readings held laid (Ok request) = readings_at request.command (value_at held.sessions request.session) (value_at laid request.session)

-- the readings of lines, each with its fate, and how the layers stand after them
abbrev pub lines_readings : List (List ℕ × Known) → Held → List (List ℕ × Laid) → List (Line × Fate) → ℕ
lines_readings profiles held laid [] = 0
lines_readings profiles held laid (l ∷ ls) =
    let after = held_after profiles held l.0 l.1 in
    line_readings held laid l.0 + lines_readings profiles after (laid_after profiles held after laid l.0) ls

abbrev pub laid_after_all : List (List ℕ × Known) → Held → List (List ℕ × Laid) → List (Line × Fate) → List (List ℕ × Laid)
laid_after_all profiles held laid [] = laid
laid_after_all profiles held laid (l ∷ ls) =
    let after = held_after profiles held l.0 l.1 in
    laid_after_all profiles after (laid_after profiles held after laid l.0) ls
