-- What a reader reads of its text.
use Rattle.std.proofs.Common.{◌≡◌, ◌++◌, ℕ, true, List, [], refl, sym, subst, ap, ◌∙◌}
use Rattle.std.proofs.lemmas.List.{append-nil}
use Rattle.prof_grammar.specs.Event as t
use Rattle.prof_grammar.specs.Reading.{Ending, IsReading}
use Rattle.prof_grammar.specs.Told.{Reading, tell, stop}
use Rattle.prof_grammar.proofs.Ended.{reads_right}
use Rattle.std.specs.Prelude.{Option, Some, None}
use Rattle.std.specs.Option.{option_to_list}
use Rattle.prof_grammar.specs.Machine.{Part}
use Rattle.prof_token.specs.Ahead.{Ahead}
use Rattle.prof_token.specs.Goes.{Answers}
use Rattle.prof_json.specs.Nest.{phase_after}
use Rattle.prof_json.specs.Parts.{parts_in, parts_of, behind}
use Rattle.prof_json.specs.declared.nesting.Bracket.{Bracket}
use Rattle.prof_json.specs.declared.nesting.Phase.{Phase}
use Rattle.prof_json.specs.declared.answer.Event.{Event}
use Rattle.prof_token.proofs.Machines.{told_trans}
use Rattle.prof_token.specs.Kept.{Kept, Gains, with}
use Rattle.prof_json.specs.Position.{Position, fresh, last_of}
use Rattle.prof_json.specs.Tells.{Tells, Ends, rest, window}

-- a new reader reads of a text what the text tells
pub fresh_reads : (limit : ℕ) (p : Position) → p ≡ fresh limit → (text : List ℕ) → IsReading limit text (rest p text).events (rest p text).ending
fresh_reads limit p e text = subst (λ (q : Position). IsReading limit text (rest q text).events (rest q text).ending) (sym e) (reads_right limit text)

-- a text that was kept from its beginning on is all that was read
pub kept_all : (k m : Kept) (text : List ℕ) → k ≡ record { bytes = []; keeping = true } → Gains k text m → m.bytes ≡ text
unfolding with
kept_all k m text e g = ap (λ (x : Kept). x.bytes) g.is ∙ ap (λ (x : Kept). (with x text).bytes) e

-- the event with the text that was kept, and what may come behind it
pub event_told : (a b : Ahead) (l m : Option (List ℕ)) (ps : List Part) (xs : List Bracket) (event : Event) (text bytes : List ℕ) (phase : Phase) → bytes ≡ text → phase ≡ phase_after event →
    Answers None a l ps (option_to_list (last_of (Some event) text)) b m (parts_in (phase_after event) (behind xs)) → Answers None a l ps (option_to_list (last_of (Some event) bytes)) b m (parts_in phase (behind xs))
event_told a b l m ps xs event text bytes phase e f h = rw (e, f) h

-- what is told one after the other
pub tells_on : (p q r : Position) (l m n : Option (List ℕ)) (es fs : List t.Event) → Tells p l es q m → Tells q m fs r n → Tells p l (es ++ fs) r n
tells_on p q r l m n es fs h k = told_trans (window p) (window q) (window r) l m n (parts_of p.nest) (parts_of q.nest) (parts_of r.nest) es fs h k

-- what a new reader tells, up to where the reading ends
pub tells_all : (limit : ℕ) (text : List ℕ) (es : List t.Event) (p : Position) (left : Option (List ℕ)) (ending : Ending) → Tells (fresh limit) (Some text) es p left → Ends ending p left → IsReading limit text es ending
tells_all limit text es p None ending h k = absurd h
tells_all limit text es p (Some left) ending h k =
    let all : rest (fresh limit) text ≡ tell es (stop ending) = h ∙ ap (tell es) k in
    let reads = fresh_reads limit (fresh limit) refl text in
    let events : (rest (fresh limit) text).events ≡ es = ap (λ (r : Reading). r.events) all ∙ append-nil es in
    let ends : (rest (fresh limit) text).ending ≡ ending = ap (λ (r : Reading). r.ending) all in
    subst (λ (fs : List t.Event). IsReading limit text fs ending) events (subst (λ (e : Ending). IsReading limit text (rest (fresh limit) text).events e) ends reads)
