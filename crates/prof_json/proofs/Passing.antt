-- What is told while a value is read over.
use Rattle.std.proofs.Common.{◌≡◌, ◌<◌, ◌≤◌, ℕ, List, [], ◌++◌, length, take, sym, subst, arith}
use Rattle.std.specs.Prelude.{Option, Some, None}
use Rattle.std.specs.Option.{option_to_list}
use Rattle.std.proofs.lemmas.List.{append_assoc, length-take}
use Rattle.prof_grammar.specs.Event.{Event}
use Rattle.prof_token.specs.Ahead.{Ahead}
use Rattle.prof_token.specs.Goes.{Goes}
use Rattle.prof_json.specs.Nest.{Leads, Occurs, phase_after}
use Rattle.prof_json.specs.Parts.{behind, parts_in}
use Rattle.prof_json.specs.Position.{last_of}
use Rattle.prof_json.specs.Skip.{IsRest, IsAround}
use Rattle.prof_json.specs.declared.nesting.Bracket.{Bracket}
use Rattle.prof_json.specs.declared.nesting.Phase.{Phase}
use Rattle.prof_json.specs.declared.nesting.Phase.TheVariants.{AfterValue}
use Rattle.prof_json.specs.declared.answer.Event as r
use Rattle.prof_token.proofs.Machines.{goes_here, goes_more}
use Rattle.prof_json.proofs.Skipping.{Progress, Has, GoesOn, first_of, begun_has, event_has, still_on, is_over, rest_is}

-- these events were told, and this is how far the value has come
pub record Passed (a : Ahead) (l : Option (List ℕ)) (begun : Phase) (xs : List Bracket) (opened : ℕ) (b : Ahead) (m : Option (List ℕ)) (phase : Phase) (ys : List Bracket) : Type 0 where
  pub told : List Event
  pub goes : Goes None a l (parts_in begun (behind xs)) told b m (parts_in phase (behind ys))
  pub progress : Progress
  pub on : GoesOn progress
  pub has : Has (take opened xs) (first_of begun ++ told) ys phase progress

pub passed_none : (a : Ahead) (l : Option (List ℕ)) (begun : Phase) (xs : List Bracket) (opened : ℕ) → IsAround begun opened xs → Occurs begun xs → Passed a l begun xs opened a l begun xs
passed_none a l begun xs opened h o =
    let p = begun_has begun opened xs h o in
    record { told = []; goes = goes_here a l (parts_in begun (behind xs)); progress = p.0; on = p.1; has = p.2 }

-- one event more
has_more : {a b : Ahead} {l m : Option (List ℕ)} {begun phase : Phase} {xs ys us : List Bracket} {opened : ℕ} {event : r.Event} (text : List ℕ) (p : Passed a l begun xs opened b m phase ys) → Leads (record { open_ = ys; phase = phase }) event (record { open_ = us; phase = phase_after event }) →
    (q : Progress) × Has (take opened xs) (first_of begun ++ (p.told ++ option_to_list (last_of (Some event) text))) us (phase_after event) q
has_more {begun = begun} {phase} {xs} {ys} {us} {opened} {event} text p leads =
    let q = event_has (take opened xs) leads p.progress (first_of begun ++ p.told) text p.on p.has in
    (q.0, subst (λ (es : List Event). Has (take opened xs) es us (phase_after event) q.0) (append_assoc (first_of begun) p.told (option_to_list (last_of (Some event) text))) q.1)

outside_len : (opened : ℕ) (xs : List Bracket) → opened ≤ length xs → length (take opened xs) ≡ opened
outside_len opened xs h = simp length-take (omega arith)

-- the value isn't over
pub passed_more : {a b c : Ahead} {l m n : Option (List ℕ)} {begun phase next : Phase} {xs ys us : List Bracket} {opened : ℕ} {event : r.Event} (text : List ℕ) → Passed a l begun xs opened b m phase ys → Leads (record { open_ = ys; phase = phase }) event (record { open_ = us; phase = phase_after event }) → next ≡ phase_after event →
    Goes None b m (parts_in phase (behind ys)) (option_to_list (last_of (Some event) text)) c n (parts_in (phase_after event) (behind us)) → opened ≤ length xs → opened < length us → Passed a l begun xs opened c n next us
passed_more {a = a} {c = c} {l = l} {n = n} {begun} {phase} {next} {xs} {ys} {us} {opened} {event} text p leads e g few more =
    let q = has_more text p leads in
    let len = outside_len opened xs few in
    subst (λ (phase : Phase). Passed a l begun xs opened c n phase us) (sym e)
    (record { told = p.told ++ option_to_list (last_of (Some event) text); goes = goes_more p.goes g; progress = q.0; on = still_on q.0 q.1 (omega arith); has = q.1 })

-- the value is over
pub passed_all : {a b c : Ahead} {l m n : Option (List ℕ)} {begun phase : Phase} {xs ys us : List Bracket} {opened : ℕ} {event : r.Event} (text : List ℕ) → Passed a l begun xs opened b m phase ys → Leads (record { open_ = ys; phase = phase }) event (record { open_ = us; phase = phase_after event }) →
    Goes None b m (parts_in phase (behind ys)) (option_to_list (last_of (Some event) text)) c n (parts_in (phase_after event) (behind us)) → IsAround begun opened xs → opened ≤ length xs → length us ≤ opened → phase_after event ≡ AfterValue →
    (es : List Event) × IsRest begun es × Goes None a l (parts_in begun (behind xs)) es c n (behind us)
passed_all {a = a} {c = c} {l = l} {n = n} {begun} {phase} {xs} {ys} {us} {opened} {event} text p leads g around few over is =
    let es = p.told ++ option_to_list (last_of (Some event) text) in
    let q = has_more text p leads in
    let len = outside_len opened xs few in
    let h : Has (take opened xs) (first_of begun ++ es) us AfterValue q.0 = subst (λ (phase : Phase). Has (take opened xs) (first_of begun ++ es) us phase q.0) is q.1 in
    let x = is_over q.0 h (omega arith) in
    (es, rest_is begun opened xs es x.0 around x.1, subst (λ (phase : Phase). Goes None a l (parts_in begun (behind xs)) es c n (parts_in phase (behind us))) is (goes_more p.goes g))
