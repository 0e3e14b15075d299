-- A message whose request the desk answered.
use Rattle.std.proofs.Common.{◌≡◌, ◌≢◌, ◌⊎◌, inl, inr, ◌∙◌, ℕ, ◌+◌, ◌≤◌, List, [], ◌∷◌, map, Bool, true, false, Option, None, Result, Ok, Err, refl, sym, ap, subst, arith, append-nil}
use Rattle.prof_io.specs.Outside.{Kept, Seen}
use Rattle.prof_io.specs.Sinks.{Wrote}
use Rattle.prof_tables.specs.Threads.{ThreadTables}
use Rattle.prof_machine.specs.declared.refusal.Reply.{Reply}
use Rattle.prof_machine.specs.declared.refusal.Refusal.TheVariants.{KeeperFault}
use Rattle.prof_machine.specs.declared.refusal.Reply.TheVariants.{Refused, NoMemory}
use Rattle.prof_machine.specs.Known.{Known}
use Rattle.prof_machine.specs.Play.{Answered, Shown, Starved, Failed, Fate, Held, Line, held_after, held_after_all, reply_to, shown_in}
use Rattle.prof_request.proofs.OutcomeLemmas.{line_of}
use Rattle.prof_writer.proofs.Outputs.{writes_as}
use Rattle.prof_session_desk.specs.Desk.{DeskLists}
use Rattle.prof_script.specs.Playing.{IsFated, IsHeld, failed_count, thread_shown}
use Rattle.prof_script.specs.Readings.{AreLaid, Laid, laid_after, line_readings}
use Rattle.prof_script.proofs.Turns.{Turn}
use Rattle.prof_wire.specs.Messages.{Asked}
use Rattle.prof_serve.specs.Errands.{Errand, asks, AsksFor, AsksLine}
use Rattle.prof_serve.specs.Answers.{Fares, IsMet, Tells, played, reply_of, reply_response, reply_told, response}
use Rattle.prof_serve.specs.Readings.{IsSettled, laid_behind}
use Rattle.prof_serve.specs.Serving.{Answers}
use Rattle.prof_serve.proofs.Handlings.{fate_in}
use Rattle.prof_serve.proofs.Shorts.{ShortLine}

-- ---- a reply that is told

pub is_starved : (r : Reply) → (r ≡ NoMemory) ⊎ (r ≢ NoMemory)
is_starved NoMemory = inl refl
is_starved reply = inr (λ e. cc)

pub no_fault : (r : Reply) → r ≡ NoMemory → r ≢ Refused KeeperFault
no_fault r e = λ f. let g : NoMemory ≡ Refused KeeperFault = sym e ∙ f in absurd (cc)

told_none : (said : Bool) → reply_told NoMemory said ≡ NoMemory
told_none true = refl
told_none false = refl

starved_held : (profiles : List (List ℕ × Known)) (held : Held) (l : Line) → held_after profiles held l Starved ≡ held
starved_held profiles held (Err at) = refl
starved_held profiles held (Ok request) = refl

module _ (profiles : List (List ℕ × Known)) (told : Bool) (held : Held) (laid : List (List ℕ × Laid)) where
  fares : (line : List ℕ) (fate : Fate) → IsFated profiles held (line_of line) fate → Fares profiles held line fate
  fares line Answered f = tt
  fares line (Shown text) f = f
  fares line Starved f = tt
  fares line Failed f = f

  -- a line that isn't starved is replied to as the machine does, and its layers stand as the machine tells
  replied : (line : List ℕ) (fate : Fate) → IsFated profiles held (line_of line) fate → reply_to profiles held (line_of line) fate ≡ reply_of profiles held line fate
  replied line Answered f = refl
  replied line (Shown text) f = refl
  replied line Starved f = absurd f
  replied line Failed f = refl

  settles : (asked : Asked) (line : List ℕ) (fate : Fate) (said : Bool) → IsFated profiles held (line_of line) fate → IsSettled profiles held laid (asked, asks line fate said None)
  settles asked line Answered said f = refl
  settles asked line (Shown text) said f = refl
  settles asked line Starved said f = absurd f
  settles asked line Failed said f = refl

  laid_so : (asked : Asked) (line : List ℕ) (fate : Fate) (said : Bool) → IsFated profiles held (line_of line) fate
      → laid_behind profiles held laid (asked, asks line fate said None) ≡ laid_after profiles held (held_after profiles held (line_of line) fate) laid (line_of line)
  laid_so asked line Answered said f = refl
  laid_so asked line (Shown text) said f = refl
  laid_so asked line Starved said f = absurd f
  laid_so asked line Failed said f = refl

  pub answers_at : {T E : Type 0} (asked : Asked) (line : List ℕ) (reply : Reply) (said last : Bool) (thread : Option ThreadTables) (d e : DeskLists) (k l : Kept) (o p : Seen) (m n : ℕ) (r : Result T E)
      → AsksLine asked line → asked.last ≡ last → Tells reply said → Wrote o p r (reply_response last thread (reply_told reply said))
      → (turn : Turn profiles told held laid (line_of line) reply d e k l m n) → thread ≡ thread_shown profiles (held_after profiles held (line_of line) turn.fate) (line_of line)
      → Answers profiles told held laid asked (record { desk = d; keeper = k; out = o; reads = m }) (record { desk = e; keeper = l; out = p; reads = n }) r
  answers_at asked line reply said last thread d e k l o p m n r goes is_last tells wrote turn shown =
      let same : reply ≡ reply_of profiles held line turn.fate = turn.same ∙ replied line turn.fate turn.fated in
      let after = held_after profiles held (line_of line) turn.fate in (
        (asked, asks line turn.fate said None),
        refl,
        record {
          met = (goes, (fares line turn.fate turn.fated, subst (λ x. Tells x said) same tells), tt);
          state = turn.state;
          shown = turn.shown;
          failed = turn.failed;
          quiet = turn.quiet;
          steady = turn.steady;
          settled = (settles asked line turn.fate said turn.fated, tt);
          lies = subst (λ x. AreLaid e x) (sym (laid_so asked line turn.fate said turn.fated)) turn.lies;
          readings = within n m (line_readings held laid (line_of line)) turn.reads;
        },
        writes_as (
            ap (λ b. reply_response b thread (reply_told reply said)) (sym is_last)
            ∙ ap (λ t. reply_response asked.last t (reply_told reply said)) shown
            ∙ ap (λ x. reply_response asked.last (thread_shown profiles after (line_of line)) (reply_told x said)) same
            ∙ sym (append-nil (response profiles held (asked, asks line turn.fate said None)))) wrote,
      )
    where
      within : (n m few : ℕ) → n ≤ m + few → n ≤ m + (few + 0)
      within n m few h = omega (arith, h)

  -- the same of a line by what it is read as
  pub answers_line : {T E : Type 0} (asked : Asked) (line : List ℕ) (read : Line) (reply : Reply) (said last : Bool) (thread : Option ThreadTables) (d e : DeskLists) (k l : Kept) (o p : Seen) (m n : ℕ) (r : Result T E)
      → AsksLine asked line → asked.last ≡ last → Tells reply said → Wrote o p r (reply_response last thread (reply_told reply said)) → line_of line ≡ read
      → (turn : Turn profiles told held laid read reply d e k l m n) → thread ≡ thread_shown profiles (held_after profiles held read turn.fate) read
      → Answers profiles told held laid asked (record { desk = d; keeper = k; out = o; reads = m }) (record { desk = e; keeper = l; out = p; reads = n }) r
  answers_line {T = T} {E = E} asked line read reply said last thread d e k l o p m n r goes is_last tells wrote is =
      subst (λ (x : Line). (turn : Turn profiles told held laid x reply d e k l m n) → thread ≡ thread_shown profiles (held_after profiles held x turn.fate) x
      → Answers profiles told held laid {T = T} {E = E} asked (record { desk = d; keeper = k; out = o; reads = m }) (record { desk = e; keeper = l; out = p; reads = n }) r) is
      (answers_at {T = T} {E = E} asked line reply said last thread d e k l o p m n r goes is_last tells wrote)

  -- memory ran out for a request, which changed nothing but layers
  pub answers_starved : {T E : Type 0} (asked : Asked) (line : List ℕ) (said last : Bool) (thread : Option ThreadTables) (reply : Reply) (d e : DeskLists) (k l : Kept) (o p : Seen) (m n : ℕ) (r : Result T E)
      → AsksLine asked line → asked.last ≡ last → reply ≡ NoMemory → Wrote o p r (reply_response last thread (reply_told reply said))
      → IsHeld profiles told e l.texts held → l.faults ≡ k.faults → (k.sure → l.sure) → ShortLine held laid (line_of line) e → n ≤ m + line_readings held laid (line_of line)
      → Answers profiles told held laid asked (record { desk = d; keeper = k; out = o; reads = m }) (record { desk = e; keeper = l; out = p; reads = n }) r
  answers_starved asked line said last thread reply d e k l o p m n r goes is_last none wrote state calm sure short few = (
    (asked, asks line Starved true short.settled),
    refl,
    record {
      met = (goes, (tt, tt), tt);
      state = subst (λ h. IsHeld profiles told e l.texts h) (sym (starved_held profiles held (line_of line))) state;
      shown = λ tells. refl;
      failed = omega (arith, calm);
      quiet = λ zero. calm;
      steady = λ s. (refl, sure s);
      settled = (short.settles, tt);
      lies = short.lies;
      readings = omega (arith, few);
    },
    writes_as (
        ap (λ x. reply_response last thread (reply_told x said)) none
        ∙ ap (λ x. reply_response last thread x) (told_none said)
        ∙ ap (λ b. reply_response b thread NoMemory) (sym is_last)
        ∙ sym (append-nil (response profiles held (asked, asks line Starved true short.settled)))) wrote,
  )

  -- a message that asks for nothing here
  pub answers_else : {T E : Type 0} (asked : Asked) (errand : Errand) (d : DeskLists) (k : Kept) (o p : Seen) (m : ℕ) (r : Result T E) → AsksFor asked errand → IsMet profiles held errand
      → IsHeld profiles told d k.texts held → AreLaid d laid → played ((asked, errand) ∷ []) ≡ [] → IsSettled profiles held laid (asked, errand) → laid_behind profiles held laid (asked, errand) ≡ laid
      → Wrote o p r (response profiles held (asked, errand))
      → Answers profiles told held laid asked (record { desk = d; keeper = k; out = o; reads = m }) (record { desk = d; keeper = k; out = p; reads = m }) r
  answers_else asked errand d k o p m r goes met state lies none settled same wrote = (
    (asked, errand),
    refl,
    record {
      met = (goes, met, tt);
      state = subst (λ h. IsHeld profiles told d k.texts h) (sym (ap (held_after_all profiles held) none)) state;
      shown = λ tells. ap (λ l. shown_in (map fate_in l)) none;
      failed = let zero_failed : failed_count (played ((asked, errand) ∷ [])) ≡ 0 = ap failed_count none in omega (arith, zero_failed);
      quiet = λ zero. refl;
      steady = λ s. (ap failed_count none, s);
      settled = (settled, tt);
      lies = subst (λ x. AreLaid d x) (sym same) lies;
      readings = omega arith;
    },
    writes_as (sym (append-nil (response profiles held (asked, errand)))) wrote,
  )
