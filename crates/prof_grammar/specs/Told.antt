-- What the machine tells of a text, and how it ends.
use Rattle.std.specs.Prelude.{ℕ, ◌+◌, ◌==◌, nat_lt, List, [], ◌∷◌, ◌++◌, Option, Some, None, if◌then◌else◌}
use Rattle.prof_grammar.specs.Event.{Event}
use Rattle.prof_grammar.specs.Grammar.{items, more_items, members, more_members, value, member}
use Rattle.prof_grammar.specs.Machine.{Part, mark, blank, symbol, word, digits, chars, Next, class, step, finish}
use Rattle.prof_grammar.specs.Reading.{Ending, finished, not_json, too_deep, too_long, max_depth}

-- the events, and how the reading ends behind them
pub record Reading : Type 0 where
  pub events : List Event
  pub ending : Ending

-- no more events
abbrev pub stop : Ending → Reading
stop e = record { events = []; ending = e }

-- these events, and then the reading
abbrev pub tell : List Event → Reading → Reading
tell es r = record { events = es ++ r.events; ending = r.ending }

-- how many brackets are open where these parts are still to come
abbrev pub depth : List Part → ℕ
depth [] = 0
depth (symbol items ∷ ps) = depth ps + 1
depth (symbol more_items ∷ ps) = depth ps + 1
depth (symbol members ∷ ps) = depth ps + 1
depth (symbol more_members ∷ ps) = depth ps + 1
depth (symbol value ∷ ps) = depth ps
depth (symbol member ∷ ps) = depth ps
depth (mark ∷ ps) = depth ps
depth (blank ∷ ps) = depth ps
depth (word cs w ∷ ps) = depth ps
depth (digits n s ∷ ps) = depth ps
depth (chars k s p g ∷ ps) = depth ps

abbrev pub at_end : ℕ → Option (List Event) → Reading
at_end at None = stop (not_json at)
at_end at (Some es) = record { events = es; ending = finished }

abbrev pub go_on : ℕ → Next → (List Part → Reading) → Reading
go_on at None k = stop (not_json at)
go_on at (Some n) k = if nat_lt max_depth (depth n.1) then stop (too_deep at) else tell n.0 (k n.1)

-- what is read from place `at` on, where these parts are still to come and these bytes are there
unfoldable pub reading : ℕ → ℕ → List Part → List ℕ → Reading
reading limit at ps [] = at_end at (finish ps)
reading limit at ps (b ∷ bs) = if at == limit then stop too_long else (go_on at (step ps (class b) b) (λ qs. reading limit (at + 1) qs bs))
