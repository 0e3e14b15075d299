-- A line that was answered is a turn of what is held.
use Rattle.std.proofs.Common.{◌≡◌, ◌≢◌, ◌∙◌, ℕ, suc, ◌+◌, ◌≤◌, ◌&&◌, Bool, List, [], ◌∷◌, length, true, false, cond, ◌⊎◌, inl, inr, None, Some, Option, Ok, Err, refl, sym, ap, subst, arith}
use Rattle.std.specs.Str.{bytes_eq}
use Rattle.std.specs.Option.{option_map}
use Rattle.std.proofs.lemmas.Bool.{false≢true}
use Rattle.std.proofs.lemmas.Slice.Eq.{bytes_eq-Decides}
use Rattle.prof_io.specs.Causes.{Rose, RoseBy}
use Rattle.prof_io.specs.Named.{value_at, with_own}
use Rattle.prof_io.specs.Outside.{Kept}
use Rattle.prof_io.specs.Shelf.{Shelf, file_at}
use Rattle.prof_io.proofs.NamedLemmas.{value_at-with_own}
use Rattle.prof_request.specs.declared.request.Request.{Request}
use Rattle.prof_machine.specs.declared.refusal.Refusal.TheVariants.{KeeperFault, BadText}
use Rattle.prof_machine.specs.declared.refusal.Reply.{Reply}
use Rattle.prof_machine.specs.declared.refusal.Reply.TheVariants.{Refused, NoMemory}
use Rattle.prof_machine.specs.Known.{Known}
use Rattle.prof_machine.specs.Session.{Session}
use Rattle.prof_machine.specs.Machine.{After, asks_keeper, step}
use Rattle.prof_machine.specs.Play.{Answered, Failed, Shown, Fate, Held, Line, held_after, held_by, own_step, reply_to, shown_in, step_from}
use Rattle.prof_session.specs.Seated.{Seated, is_shown, is_tree}
use Rattle.prof_session_desk.specs.Desk.{DeskLists, IsStep, IsText, LaysAt, ReadsAt, Sets, Stays, desk_step, is_load, own_of, sessions_in, sessions_of}
use Rattle.prof_session_desk.proofs.DeskLemmas.{value_in}
use Rattle.prof_script.specs.Playing.{IsFated, IsHeld, Keeps, failed_count}
use Rattle.prof_script.specs.Readings.{AreLaid, Laid, laid_of, laid_after, line_readings, readings_at, relaid}
use Rattle.prof_script.proofs.Layers.{asks_no_tree, own_laid, own_readings, session_of, shows}
use Rattle.prof_script.proofs.Unasked.{Alike, is_shown_text, same_alike, step_alike}

-- What a line that was handled does: how it fared and what was replied, what is held and how the layers stand then, what
-- the keeper counted, and what was read.
pub record Turn (profiles : List (List ℕ × Known)) (told : Bool) (held : Held) (laid : List (List ℕ × Laid)) (line : Line) (reply : Reply) (d e : DeskLists) (k l : Kept) (m n : ℕ) : Type 0 where
  pub fate : Fate
  pub fated : IsFated profiles held line fate
  pub same : reply ≡ reply_to profiles held line fate
  pub state : IsHeld profiles told e l.texts (held_after profiles held line fate)
  pub shown : told ≡ true → shown_in (fate ∷ []) ≡ []
  pub failed : RoseBy (failed_count ((line, fate) ∷ [])) k.faults l.faults
  pub quiet : failed_count ((line, fate) ∷ []) ≡ 0 → l.faults ≡ k.faults
  pub steady : k.sure → (failed_count ((line, fate) ∷ []) ≡ 0) × l.sure
  pub lies : AreLaid e (laid_after profiles held (held_after profiles held line fate) laid line)
  pub reads : n ≤ m + line_readings held laid line

count_in : (es : List (List ℕ × Seated)) → length (sessions_in es) ≡ length es
count_in [] = refl
count_in (e ∷ es) = ap (λ n. suc n) (count_in es)

own_text : (before : Option Shelf) (kept : Shelf) (name : List ℕ) (text : Option (List ℕ)) → IsText before name text → Keeps before kept → text ≡ file_at kept name
own_text None kept name text is keeps = absurd keeps
own_text (Some shelf) kept name text is keeps = is ∙ keeps name

sets_keeps : (before now : Option Shelf) (kept : Shelf) (name : List ℕ) (text : Option (List ℕ)) → Keeps before kept → Sets before now name text → Keeps now (with_own name text kept)
sets_keeps None now kept name text keeps sets = absurd keeps
sets_keeps (Some old) None kept name text keeps sets = absurd sets
sets_keeps (Some old) (Some new) kept name text keeps sets = λ other.
    sets other ∙ ap (λ o. cond (bytes_eq name other) text o) (keeps other) ∙ sym (value_at-with_own name text kept other)

both : (a b : Bool) → (a && b) ≡ true → (a ≡ true) × (b ≡ true)
both true b h = (refl, h)
both false b h = absurd (false≢true h)

is_fault : (r : Reply) → (r ≡ Refused KeeperFault) ⊎ (r ≢ Refused KeeperFault)
is_fault (Refused KeeperFault) = inl refl
is_fault (Refused refusal) = inr (λ e. cc)
is_fault reply = inr (λ e. cc)

-- the desk's profiles stay
pub profiles_stay : (old new : DeskLists) (k l : Kept) (request : Request) (reply : Reply) → reply ≢ NoMemory
    → (reply ≢ NoMemory → reply ≢ Refused KeeperFault → IsStep old new k.texts l.texts l.got request reply)
    → (reply ≡ Refused KeeperFault → Stays old new request.session k.texts l.texts × (asks_keeper old.profiles (length old.seats) (own_of old request.session) request.command ≡ true) × Rose k.faults l.faults)
    → new.profiles ≡ old.profiles
profiles_stay old new k l request reply some steps fails =
    elim (is_fault reply) [ inl f ↦ (fails f).0.profiles | inr g ↦ (steps some g).follows.profiles ]

module _ (profiles : List (List ℕ × Known)) (told : Bool) where
  -- the machine's step from what is held is the desk's
  same_step : (old : DeskLists) (texts : Option Shelf) (held : Held) (request : Request) (kept : Option (List ℕ)) → IsHeld profiles told old texts held
      → desk_step old request.session kept request.command ≡ step_from profiles held request kept
  same_step old texts held request kept is =
      let count : length old.seats ≡ length held.sessions = sym (count_in old.seats) ∙ ap length is.sessions in
      ap (λ p. step p (length old.seats) (value_at (sessions_of old) request.session) kept request.command) is.known
      ∙ ap (λ n. step profiles n (value_at (sessions_of old) request.session) kept request.command) count
      ∙ ap (λ l. step profiles (length held.sessions) (value_at l request.session) kept request.command) is.sessions

  -- a step of the desk is one of what is held that is alike
  stepped : (old new : DeskLists) (before now : Option Shelf) (got : Option (List ℕ)) (held : Held) (request : Request) (answer : Reply) (after : After) → IsHeld profiles told old before held
      → (taken : IsStep old new before now got request answer) → Alike (step_from profiles held request taken.kept) after → (told ≡ true → Keeps now (with_own request.session after.kept held.kept))
      → (answer ≡ after.reply) × IsHeld profiles told new now (held_by held request after)
  stepped old new before now got held request answer after is taken alike keeps =
      let same = same_step old before held request taken.kept is in (
        taken.follows.reply ∙ ap (λ (a : After). a.reply) same ∙ alike.reply,
        record {
          known = taken.follows.profiles ∙ is.known;
          sessions = taken.follows.sessions ∙ ap (λ (a : After). with_own request.session a.session (sessions_of old)) same
              ∙ ap (λ s. with_own request.session s (sessions_of old)) alike.session ∙ ap (λ l. with_own request.session after.session l) is.sessions;
          kept = keeps;
        },
      )

  pub still_held : (old new : DeskLists) (name : List ℕ) (before now : Option Shelf) (held : Held) → IsHeld profiles told old before held → Stays old new name before now → IsHeld profiles told new now held
  still_held old new name before now held is stays = record {
    known = stays.profiles ∙ is.known;
    sessions = stays.sessions ∙ is.sessions;
    kept = λ tells. subst (λ t. Keeps t held.kept) (sym stays.texts) (is.kept tells);
  }

  -- the sessions of a desk are those that are held
  own_held : (d : DeskLists) (texts : Option Shelf) (held : Held) (name : List ℕ) → IsHeld profiles told d texts held → option_map session_of (value_at d.seats name) ≡ value_at held.sessions name
  own_held d texts held name is = sym (value_in d.seats name) ∙ ap (λ l. value_at l name) is.sessions

  -- the layers stand as is told
  lies_after : (old new : DeskLists) (texts now : Option Shelf) (held after : Held) (laid : List (List ℕ × Laid)) (request : Request) (reply : Reply)
      → IsHeld profiles told old texts held → IsHeld profiles told new now after → AreLaid old laid
      → ((other : List ℕ) → bytes_eq request.session other ≡ false → value_at new.seats other ≡ value_at old.seats other)
      → LaysAt old new request.session request.command reply
      → ((s : Session) → value_at held.sessions request.session ≡ Some s → is_tree request.command ≡ true → is_shown reply ≡ true)
      → AreLaid new (laid_after profiles held after laid (Ok request))
  lies_after old new texts now held after laid request reply is then lies others lays shown = λ other.
      (elim (bytes_eq request.session other) as (λ b. bytes_eq request.session other ≡ b → option_map laid_of (value_at new.seats other) ≡ cond b own (value_at laid other)) [
        | true ↦ λ t. subst (λ x. option_map laid_of (value_at new.seats x) ≡ own) ((bytes_eq-Decides request.session other).0 t) here
        | false ↦ λ f. ap (option_map laid_of) (others other f) ∙ lies other
      ]) refl ∙ sym (value_at-with_own request.session own laid other)
    where
      own : Option Laid
      own = relaid profiles request.command (value_at held.sessions request.session) (value_at after.sessions request.session) (value_at laid request.session)

      here : option_map laid_of (value_at new.seats request.session) ≡ own
      here =
          own_laid old.profiles request.command reply (value_at old.seats request.session) (value_at new.seats request.session) (value_at laid request.session) (lies request.session) lays
          (λ s e. shown s (sym (own_held old texts held request.session is) ∙ e))
          ∙ ap (λ p. relaid p request.command (option_map session_of (value_at old.seats request.session)) (option_map session_of (value_at new.seats request.session)) (value_at laid request.session)) is.known
          ∙ ap (λ s. relaid profiles request.command s (option_map session_of (value_at new.seats request.session)) (value_at laid request.session)) (own_held old texts held request.session is)
          ∙ ap (λ s. relaid profiles request.command (value_at held.sessions request.session) s (value_at laid request.session)) (own_held new now after request.session then)

  -- a request reads at most what it may
  pub reads_within : (old : DeskLists) (texts : Option Shelf) (held : Held) (laid : List (List ℕ × Laid)) (request : Request) (m n : ℕ)
      → IsHeld profiles told old texts held → AreLaid old laid → ReadsAt old request.session request.command m n → n ≤ m + line_readings held laid (Ok request)
  reads_within old texts held laid request m n is lies reads =
      subst (λ (s : Option Session). n ≤ m + readings_at request.command s (value_at laid request.session)) (own_held old texts held request.session is)
      (own_readings request.command (value_at old.seats request.session) (value_at laid request.session) m n (lies request.session) reads)

  -- the keeper was asked as the machine asks it
  asked_by : (old : DeskLists) (texts : Option Shelf) (held : Held) (request : Request) → IsHeld profiles told old texts held
      → asks_keeper old.profiles (length old.seats) (own_of old request.session) request.command ≡ true
      → asks_keeper profiles (length held.sessions) (value_at held.sessions request.session) request.command ≡ true
  asked_by old texts held request is asks =
      let count : length old.seats ≡ length held.sessions = sym (count_in old.seats) ∙ ap length is.sessions in
      sym (ap (λ p. asks_keeper p (length old.seats) (value_at (sessions_of old) request.session) request.command) is.known
      ∙ ap (λ n. asks_keeper profiles n (value_at (sessions_of old) request.session) request.command) count
      ∙ ap (λ l. asks_keeper profiles (length held.sessions) (value_at l request.session) request.command) is.sessions) ∙ asks

  shown_by : (held : Held) (request : Request) (text : Option (List ℕ)) (reply : Reply) (s : Session) → reply ≡ (step_from profiles held request text).reply → value_at held.sessions request.session ≡ Some s
      → is_tree request.command ≡ true → is_shown reply ≡ true
  shown_by held request text reply s same e t =
      subst (λ r. is_shown r ≡ true) (sym same)
      (subst (λ o. is_shown (step profiles (length held.sessions) o text request.command).reply ≡ true) (sym e)
      (shows profiles (length held.sessions) s text request.command t))

  failed_turn : (old new : DeskLists) (k l : Kept) (held : Held) (laid : List (List ℕ × Laid)) (request : Request) (reply : Reply) (m n : ℕ) → IsHeld profiles told old k.texts held → AreLaid old laid
      → reply ≡ Refused KeeperFault → Stays old new request.session k.texts l.texts → asks_keeper old.profiles (length old.seats) (own_of old request.session) request.command ≡ true
      → Rose k.faults l.faults → (k.sure → reply ≢ Refused KeeperFault) → LaysAt old new request.session request.command reply → ReadsAt old request.session request.command m n
      → Turn profiles told held laid (Ok request) reply old new k l m n
  failed_turn old new k l held laid request reply m n is lies same stays asks rose sure lays reads =
      let then = still_held old new request.session k.texts l.texts held is stays in
      record {
        fate = Failed;
        fated = asked_by old k.texts held request is asks;
        same = same;
        state = then;
        shown = λ tells. refl;
        failed = rose;
        quiet = λ none. absurd (omega arith);
        steady = λ s. absurd (sure s same);
        lies = lies_after old new k.texts l.texts held held laid request reply is then lies stays.others lays
            (λ s e t. absurd (asks_no_tree old.profiles (length old.seats) (own_of old request.session) request.command asks t));
        reads = reads_within old k.texts held laid request m n is lies reads;
      }

  -- a request was answered by the step from the kept text
  kept_turn : (old new : DeskLists) (k l : Kept) (held : Held) (laid : List (List ℕ × Laid)) (request : Request) (reply : Reply) (m n : ℕ) → IsHeld profiles told old k.texts held → AreLaid old laid
      → (reply ≡ (own_step profiles held request).reply) × IsHeld profiles told new l.texts (held_by held request (own_step profiles held request))
      → IsStep old new k.texts l.texts l.got request reply → l.faults ≡ k.faults → (k.sure → l.sure) → LaysAt old new request.session request.command reply → ReadsAt old request.session request.command m n
      → Turn profiles told held laid (Ok request) reply old new k l m n
  kept_turn old new k l held laid request reply m n is lies then taken calm sure lays reads = record {
    fate = Answered;
    fated = tt;
    same = then.0;
    state = then.1;
    shown = λ tells. refl;
    failed = omega arith;
    quiet = λ none. calm;
    steady = λ s. (refl, sure s);
    lies = lies_after old new k.texts l.texts held (held_after profiles held (Ok request) Answered) laid request reply is then.1 lies taken.follows.others lays
        (λ s e t. shown_by held request (file_at held.kept request.session) reply s then.0 e t);
    reads = reads_within old k.texts held laid request m n is lies reads;
  }

  -- a load was answered by the step from the text that the keeper showed
  shown_turn : (old new : DeskLists) (k l : Kept) (held : Held) (laid : List (List ℕ × Laid)) (request : Request) (reply : Reply) (m n : ℕ) → IsHeld profiles told old k.texts held → AreLaid old laid
      → told ≡ false → is_shown_text profiles (length held.sessions) (value_at held.sessions request.session) request.command ≡ true
      → IsStep old new k.texts l.texts l.got request reply → l.faults ≡ k.faults → (k.sure → l.sure) → LaysAt old new request.session request.command reply → ReadsAt old request.session request.command m n
      → Turn profiles told held laid (Ok request) reply old new k l m n
  shown_turn old new k l held laid request reply m n is lies untold asks taken calm sure lays reads =
      let text = taken.kept in
      let then = stepped old new k.texts l.texts l.got held request reply (step_from profiles held request text) is taken (same_alike _ _ refl) (λ tells. absurd (false≢true (sym untold ∙ tells))) in
      record {
        fate = Shown text;
        fated = both (is_load request.command) (asks_keeper profiles (length held.sessions) (value_at held.sessions request.session) request.command) asks;
        same = then.0;
        state = then.1;
        shown = λ tells. absurd (false≢true (sym untold ∙ tells));
        failed = omega arith;
        quiet = λ none. calm;
        steady = λ s. (refl, sure s);
        lies = lies_after old new k.texts l.texts held (held_after profiles held (Ok request) (Shown text)) laid request reply is then.1 lies taken.follows.others lays
            (λ s e t. shown_by held request text reply s then.0 e t);
        reads = reads_within old k.texts held laid request m n is lies reads;
      }

  answered_turn : (old new : DeskLists) (k l : Kept) (held : Held) (laid : List (List ℕ × Laid)) (request : Request) (reply : Reply) (m n : ℕ) → IsHeld profiles told old k.texts held → AreLaid old laid
      → IsStep old new k.texts l.texts l.got request reply → l.faults ≡ k.faults → (k.sure → l.sure) → LaysAt old new request.session request.command reply → ReadsAt old request.session request.command m n
      → Turn profiles told held laid (Ok request) reply old new k l m n
  answered_turn old new k l held laid request reply m n is lies taken calm sure lays reads =
      at told (is_shown_text profiles (length held.sessions) (value_at held.sessions request.session) request.command) refl refl
    where
      own : Option (List ℕ)
      own = file_at held.kept request.session

      -- the text is the kept one, where the keeper tells it
      own_taken : told ≡ true → taken.kept ≡ own
      own_taken tells = own_text k.texts held.kept request.session taken.kept taken.text (is.kept tells)

      at : (b c : Bool) → told ≡ b → is_shown_text profiles (length held.sessions) (value_at held.sessions request.session) request.command ≡ c → Turn profiles told held laid (Ok request) reply old new k l m n
      at true c tells e =
          let same : step_from profiles held request taken.kept ≡ own_step profiles held request = ap (step_from profiles held request) (own_taken tells) in
          let sets : Sets k.texts l.texts request.session (own_step profiles held request).kept =
          subst (λ (a : After). Sets k.texts l.texts request.session a.kept) (same_step old k.texts held request taken.kept is ∙ same) taken.texts in
          kept_turn old new k l held laid request reply m n is lies
          (stepped old new k.texts l.texts l.got held request reply (own_step profiles held request) is taken (same_alike _ _ same)
          (λ _. sets_keeps k.texts l.texts held.kept request.session (own_step profiles held request).kept (is.kept tells) sets))
          taken calm sure lays reads
      at false true untold e = shown_turn old new k l held laid request reply m n is lies untold e taken calm sure lays reads
      at false false untold e =
          kept_turn old new k l held laid request reply m n is lies
          (stepped old new k.texts l.texts l.got held request reply (own_step profiles held request) is taken
          (step_alike taken.kept own profiles (length held.sessions) (value_at held.sessions request.session) request.command e) (λ tells. absurd (false≢true (sym untold ∙ tells))))
          taken calm sure lays reads

  -- a request that was answered
  pub turn_of : (old new : DeskLists) (k l : Kept) (held : Held) (laid : List (List ℕ × Laid)) (request : Request) (reply : Reply) (m n : ℕ) → IsHeld profiles told old k.texts held → AreLaid old laid
      → reply ≢ NoMemory → (reply ≢ NoMemory → reply ≢ Refused KeeperFault → IsStep old new k.texts l.texts l.got request reply)
      → (reply ≡ Refused KeeperFault → Stays old new request.session k.texts l.texts × (asks_keeper old.profiles (length old.seats) (own_of old request.session) request.command ≡ true) × Rose k.faults l.faults)
      → (reply ≢ Refused KeeperFault → l.faults ≡ k.faults) → (k.sure → (reply ≢ Refused KeeperFault) × l.sure)
      → LaysAt old new request.session request.command reply → ReadsAt old request.session request.command m n
      → Turn profiles told held laid (Ok request) reply old new k l m n
  turn_of old new k l held laid request reply m n is lies some steps fails calm sure lays reads =
      elim (is_fault reply) [
        | inl f ↦ let h = fails f in failed_turn old new k l held laid request reply m n is lies f h.0 h.1 h.2 (λ s. (sure s).0) lays reads
        | inr g ↦ answered_turn old new k l held laid request reply m n is lies (steps some g) (calm g) (λ s. (sure s).1) lays reads
      ]

  -- a line that is no request
  pub turn_bad : (d : DeskLists) (k : Kept) (held : Held) (laid : List (List ℕ × Laid)) (line : Line) (at m : ℕ) → IsHeld profiles told d k.texts held → AreLaid d laid → line ≡ Err at
      → Turn profiles told held laid line (Refused (BadText at)) d d k k m m
  turn_bad d k held laid line at m is lies e = subst (λ (x : Line). Turn profiles told held laid x (Refused (BadText at)) d d k k m m) (sym e) (record {
    fate = Answered;
    fated = tt;
    same = refl;
    state = is;
    shown = λ tells. refl;
    failed = omega arith;
    quiet = λ none. refl;
    steady = λ s. (refl, s);
    lies = lies;
    reads = omega arith;
  })
