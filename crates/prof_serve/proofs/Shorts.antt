-- How layers stand behind a request that found no memory.
use Rattle.std.proofs.Common.{◌≡◌, ◌∙◌, ℕ, ◌≤◌, List, length, take, Bool, true, false, cond, Option, None, Some, Ok, Err, refl, sym, ap, subst, arith}
use Rattle.std.specs.Str.{bytes_eq}
use Rattle.std.specs.Option.{option_map}
use Rattle.std.proofs.lemmas.List.{length-take}
use Rattle.std.proofs.lemmas.Slice.Eq.{bytes_eq-Decides}
use Rattle.prof_io.specs.Named.{value_at}
use Rattle.prof_io.specs.Shelf.{Shelf}
use Rattle.prof_io.proofs.NamedLemmas.{value_at-with_own}
use Rattle.prof_path.specs.declared.transform.Transform.{Transform}
use Rattle.prof_layer.specs.Simulates.{LayerLists}
use Rattle.prof_request.specs.declared.request.Command.{Command}
use Rattle.prof_request.specs.declared.request.Request.{Request}
use Rattle.prof_machine.specs.declared.refusal.Reply.{Reply}
use Rattle.prof_machine.specs.Known.{Known}
use Rattle.prof_machine.specs.Session.{Session, present}
use Rattle.prof_machine.specs.Play.{Held, Line}
use Rattle.prof_session.specs.Seated.{Seated, is_tree}
use Rattle.prof_session_desk.specs.Desk.{DeskLists, LaysAt, LaysOwn, Stays}
use Rattle.prof_session_desk.proofs.DeskLemmas.{value_in}
use Rattle.prof_script.specs.Playing.{IsHeld}
use Rattle.prof_script.specs.Readings.{AreLaid, Laid, laid_of}
use Rattle.prof_script.proofs.Layers.{session_of}
use Rattle.prof_serve.specs.Readings.{IsTowards, SettlesShort, laid_short, laid_towards}

-- ---- layers that weren't touched

kept_towards : (own : Option Session) (laid : Option Laid) → laid_towards own laid None ≡ laid
kept_towards None laid = refl
kept_towards (Some s) None = refl
kept_towards (Some s) (Some l) = refl

-- what stands under a name is what stood there, if it is set to that
same_own : {X : Type 0} (name other : List ℕ) (own : Option X) (es : List (List ℕ × X)) → own ≡ value_at es name → cond (bytes_eq name other) own (value_at es other) ≡ value_at es other
same_own {X = X} name other own es e =
    (elim (bytes_eq name other) as (λ b. bytes_eq name other ≡ b → ◌≡◌ {A = Option X} (cond b own (value_at es other)) (value_at es other)) [
      | true ↦ λ t. e ∙ ap (value_at es) ((bytes_eq-Decides name other).0 t)
      | false ↦ λ f. refl
    ]) refl

pub still_settled : (held : Held) (laid : List (List ℕ × Laid)) (line : Line) → SettlesShort held laid line None
still_settled held laid (Err at) = refl
still_settled held laid (Ok request) = tt

pub still_laid : (d : DeskLists) (held : Held) (laid : List (List ℕ × Laid)) (line : Line) → AreLaid d laid → AreLaid d (laid_short held laid line None)
still_laid d held laid (Err at) lies = lies
still_laid d held laid (Ok request) lies = λ other.
    lies other
    ∙ sym (same_own request.session other _ laid (kept_towards (value_at held.sessions request.session) (value_at laid request.session)))
    ∙ sym (value_at-with_own request.session (laid_towards (value_at held.sessions request.session) (value_at laid request.session) None) laid other)

-- ---- layers that were brought towards the present view

-- how the layers of the own session stand then: so many transforms are settled, if any were
pub record Short (command : Command) (own : Option Session) (laid now : Option Laid) : Type 0 where
  pub settled : Option ℕ
  pub towards : IsTowards command own laid settled
  pub same : now ≡ laid_towards own laid settled

settled_by : (v : List Transform) (old new : LayerLists) → new.base ≡ old.base → new.settled ≡ take (length new.settled) v
    → ◌≡◌ {A = Laid} (record { settled = new.settled; rows = length new.base.shared.stacks }) (record { settled = take (length new.settled) v; rows = length old.base.shared.stacks })
settled_by v old new b s =
    ap (λ (t : List Transform). let l : Laid = record { settled = t; rows = length new.base.shared.stacks } in l) s
    ∙ ap (λ base. let l : Laid = record { settled = take (length new.settled) v; rows = length base.shared.stacks } in l) b

few : (v : List Transform) (settled : List Transform) → settled ≡ take (length settled) v → length settled ≤ length v
few v settled e =
    let n : length settled ≡ length (take (length settled) v) = ap length e in
    let m = length-take (length settled) v in
    omega (arith, n, m)

own_short : (profiles : List (List ℕ × Known)) (command : Command) (reply : Reply) (o n : Option Seated) (l : Option Laid)
    → option_map laid_of o ≡ l → option_map session_of n ≡ option_map session_of o → LaysOwn profiles command reply o n
    → Short command (option_map session_of o) l (option_map laid_of n)
own_short profiles command reply None None l e same lays = record { settled = None; towards = tt; same = e }
own_short profiles command reply None (Some new) l e same lays = absurd (cc)
own_short profiles command reply (Some old) None l e same lays = absurd (cc)
own_short profiles command reply (Some old) (Some new) l e same lays =
    subst (λ x. Short command (Some old.session) x (Some (laid_of new))) e
    ((elim (is_tree command) as (λ b. is_tree command ≡ b → Short command (Some old.session) (Some (laid_of old)) (Some (laid_of new))) [
      | true ↦ λ t.
          let k = (lays.tree t).towards in
          let ts = (present old.session).transforms in
          record {
            settled = Some (length new.layers.settled);
            towards = (t, few ts new.layers.settled k.front, k.kept);
            same = ap (λ x. Some x) (settled_by ts old.layers new.layers k.base k.front);
          }
      | false ↦ λ f.
          let alike : new.session ≡ old.session = cc in
          let stay = (lays.others f).stay (ap (λ s. (present s).thread) alike) in
          record {
            settled = None;
            towards = tt;
            same = ap (λ (y : LayerLists). Some (let x : Laid = record { settled = y.settled; rows = length y.base.shared.stacks } in x)) stay;
          }
    ]) refl)

-- how all layers stand behind a line in which memory ran out
pub record ShortLine (held : Held) (laid : List (List ℕ × Laid)) (line : Line) (new : DeskLists) : Type 0 where
  pub settled : Option ℕ
  pub settles : SettlesShort held laid line settled
  pub lies : AreLaid new (laid_short held laid line settled)

pub untouched : (held : Held) (laid : List (List ℕ × Laid)) (line : Line) (d : DeskLists) → AreLaid d laid → ShortLine held laid line d
untouched held laid line d lies = record { settled = None; settles = still_settled held laid line; lies = still_laid d held laid line lies }

pub short_line : (profiles : List (List ℕ × Known)) (told : Bool) (held : Held) (laid : List (List ℕ × Laid)) (request : Request) (reply : Reply) (old new : DeskLists) (before now texts : Option Shelf)
    → IsHeld profiles told old texts held → AreLaid old laid → Stays old new request.session before now → LaysAt old new request.session request.command reply
    → ShortLine held laid (Ok request) new
short_line profiles told held laid request reply old new before now texts is lies stays lays = record {
  settled = short.settled;
  settles = short.towards;
  lies = λ other.
      (elim (bytes_eq name other) as (λ b. bytes_eq name other ≡ b → option_map laid_of (value_at new.seats other) ≡ cond b own (value_at laid other)) [
        | true ↦ λ t. subst (λ x. option_map laid_of (value_at new.seats x) ≡ own) ((bytes_eq-Decides name other).0 t) short.same
        | false ↦ λ f. ap (option_map laid_of) (stays.others other f) ∙ lies other
      ]) refl ∙ sym (value_at-with_own name own laid other);
}
  where
    name : List ℕ
    name = request.session

    own_session : option_map session_of (value_at old.seats name) ≡ value_at held.sessions name
    own_session = sym (value_in old.seats name) ∙ ap (λ l. value_at l name) is.sessions

    same_session : option_map session_of (value_at new.seats name) ≡ option_map session_of (value_at old.seats name)
    same_session = sym (value_in new.seats name) ∙ ap (λ l. value_at l name) stays.sessions ∙ value_in old.seats name

    short : Short request.command (value_at held.sessions name) (value_at laid name) (option_map laid_of (value_at new.seats name))
    short =
        subst (λ s. Short request.command s (value_at laid name) (option_map laid_of (value_at new.seats name))) own_session
        (own_short old.profiles request.command reply (value_at old.seats name) (value_at new.seats name) (value_at laid name) (lies name) same_session lays)

    own : Option Laid
    own = laid_towards (value_at held.sessions name) (value_at laid name) short.settled
