-- What a change of the desk's seats comes to
use Rattle.std.proofs.Common.{◌≡◌, ℕ, ◌<◌, ◌≤◌, zero, suc, List, [], ◌∷◌, ◌++◌, length, get_or, set, true, false, Bool, None, Some, Option, IsSome, unwrap_or, cond, refl, sym, ap, ◌∙◌, subst, arith}
use Rattle.std.specs.Str.{bytes_eq}
use Rattle.std.specs.Option.{option_map}
use Rattle.std.specs.List.{remove}
use Rattle.std.specs.List.{position_or_len}
use Rattle.std.proofs.lemmas.Option.{none-some, same_Some}
use Rattle.std.proofs.lemmas.List.{map-append, length-map}
use Rattle.prof_io.specs.Named.{value_at, with_own, place_of}
use Rattle.prof_io.proofs.NamedLemmas.{names_same, value_there, value_lacks, with_set, with_removed, value_at-with_own, named_still}
use Rattle.prof_named.specs.Names.{names_of}
use Rattle.prof_named.proofs.NameLemmas.{place-named, removed-mapped}
use Rattle.prof_request.specs.declared.request.Command.{Command}
use Rattle.prof_machine.specs.declared.refusal.Reply.{Reply}
use Rattle.prof_machine.specs.Known.{Known, no_profile}
use Rattle.prof_machine.specs.Session.{Session}
use Rattle.prof_machine.specs.Machine.{After, stays, step, asked, unopened, profile_of}
use Rattle.prof_session.specs.Seated.{Seated, IsSound}
use Rattle.prof_session_desk.specs.Desk.{DeskLists, sessions_in, sessions_of, own_of, IsSeated, AreSeated, IsDesk, desk_step, Follows}

pub value_in : (es : List (List ℕ × Seated)) (name : List ℕ) → value_at (sessions_in es) name ≡ option_map (λ (s : Seated). s.session) (value_at es name)
value_in [] name = refl
value_in (e ∷ es) name =
    elim (bytes_eq e.0 name) as (λ b. cond b (Some e.1.session) (value_at (sessions_in es) name) ≡ option_map (λ (s : Seated). s.session) (cond b (Some e.1) (value_at es name)))
    [ true ↦ refl | false ↦ value_in es name ]

with_own_in : (name : List ℕ) (own : Option Seated) (es : List (List ℕ × Seated)) → sessions_in (with_own name own es) ≡ with_own name (option_map (λ (s : Seated). s.session) own) (sessions_in es)
with_own_in name (Some x) [] = refl
with_own_in name None [] = refl
with_own_in name (Some x) (e ∷ es) =
    elim (bytes_eq e.0 name) as (λ b. sessions_in (cond b ((e.0, x) ∷ es) (e ∷ with_own name (Some x) es)) ≡ cond b ((e.0, x.session) ∷ sessions_in es) ((e.0, e.1.session) ∷ with_own name (Some x.session) (sessions_in es)))
    [ true ↦ refl | false ↦ ap (λ l. (e.0, e.1.session) ∷ l) (with_own_in name (Some x) es) ]
with_own_in name None (e ∷ es) =
    elim (bytes_eq e.0 name) as (λ b. sessions_in (cond b (with_own name None es) (e ∷ with_own name None es)) ≡ cond b (with_own name None (sessions_in es)) ((e.0, e.1.session) ∷ with_own name None (sessions_in es)))
    [ true ↦ with_own_in name None es | false ↦ ap (λ l. (e.0, e.1.session) ∷ l) (with_own_in name None es) ]

pub cond_other : {X : Type 0} (b : Bool) (x y : X) → b ≡ false → cond b x y ≡ y
cond_other true x y h = cc
cond_other false x y h = refl

-- a desk whose seats are the old ones but for the own one follows a step that leaves that session
pub follows : (old new : DeskLists) (name : List ℕ) (own : Option Seated) (a : After) (reply : Reply) → new.profiles ≡ old.profiles → new.seats ≡ with_own name own old.seats
    → reply ≡ a.reply → a.session ≡ option_map (λ (s : Seated). s.session) own → Follows old new name a reply
follows old new name own a reply profiles seats same session = record {
  reply = same;
  sessions = ap sessions_in seats ∙ with_own_in name own old.seats ∙ ap (λ o. with_own name o (sessions_of old)) (sym session);
  profiles = profiles;
  others = λ other apart. ap (λ l. value_at l other) seats ∙ value_at-with_own name own old.seats other ∙ cond_other _ _ _ apart;
}

-- what stands under a name put there again
pub still : {X : Type 0} (es : List (List ℕ × X)) (name : List ℕ) → with_own name (value_at es name) es ≡ es
still [] name = refl
still (e ∷ es) name =
    (elim (bytes_eq e.0 name) as (λ b. bytes_eq e.0 name ≡ b → with_own name (cond b (Some e.1) (value_at es name)) (e ∷ es) ≡ e ∷ es) [
      | true ↦ λ t. ap (λ b. cond b ((e.0, e.1) ∷ es) (e ∷ with_own name (Some e.1) es)) t
      | false ↦ λ f. under e es name (value_at es name) f ∙ ap (λ l. e ∷ l) (still es name)
    ]) refl
  where
    under : {X : Type 0} (e : List ℕ × X) (es : List (List ℕ × X)) (name : List ℕ) (own : Option X) → bytes_eq e.0 name ≡ false → with_own name own (e ∷ es) ≡ e ∷ with_own name own es
    under e es name (Some x) f = ap (λ b. cond b ((e.0, x) ∷ es) (e ∷ with_own name (Some x) es)) f
    under e es name None f = ap (λ b. cond b (with_own name None es) (e ∷ with_own name None es)) f

-- nothing of the desk was changed, and the machine leaves the own session
pub follows_still : (d : DeskLists) (name : List ℕ) (a : After) (reply : Reply) → reply ≡ a.reply → a.session ≡ own_of d name → Follows d d name a reply
follows_still d name a reply same session = record {
  reply = same;
  sessions = sym (still (sessions_of d) name) ∙ ap (λ o. with_own name o (sessions_of d)) (sym session);
  profiles = refl;
  others = λ other apart. refl;
}

-- sound seats
seated_there : (profiles : List (List ℕ × Known)) (es : List (List ℕ × Seated)) (i : ℕ) (d : List ℕ × Seated) → AreSeated profiles es → i < length es → IsSeated profiles (get_or es i d).1
seated_there profiles [] i d all h = absurd (omega arith)
seated_there profiles (e ∷ es) zero d all h = all.0
seated_there profiles (e ∷ es) (suc i) d all h = seated_there profiles es i d all.1 (omega arith)

seated_with : (profiles : List (List ℕ × Known)) (name : List ℕ) (x : Seated) (es : List (List ℕ × Seated)) → AreSeated profiles es → IsSeated profiles x → AreSeated profiles (with_own name (Some x) es)
seated_with profiles name x [] all one = (one, tt)
seated_with profiles name x (e ∷ es) all one =
    elim (bytes_eq e.0 name) as (λ b. AreSeated profiles (cond b ((e.0, x) ∷ es) (e ∷ with_own name (Some x) es)))
    [ true ↦ (one, all.1) | false ↦ (all.0, seated_with profiles name x es all.1 one) ]

seated_without : (profiles : List (List ℕ × Known)) (name : List ℕ) (es : List (List ℕ × Seated)) → AreSeated profiles es → AreSeated profiles (with_own name None es)
seated_without profiles name [] all = tt
seated_without profiles name (e ∷ es) all =
    elim (bytes_eq e.0 name) as (λ b. AreSeated profiles (cond b (with_own name None es) (e ∷ with_own name None es)))
    [ true ↦ seated_without profiles name es all.1 | false ↦ (all.0, seated_without profiles name es all.1) ]

pub desk_with : (profiles : List (List ℕ × Known)) (es ys : List (List ℕ × Seated)) (name : List ℕ) (x : Seated) → IsDesk profiles es → IsSeated profiles x → ys ≡ with_own name (Some x) es → IsDesk profiles ys
desk_with profiles es ys name x is one e = subst (λ l. IsDesk profiles l) (sym e) (record { named = named_still name (Some x) es is.named; seated = seated_with profiles name x es is.seated one })

pub desk_without : (profiles : List (List ℕ × Known)) (es ys : List (List ℕ × Seated)) (name : List ℕ) → IsDesk profiles es → ys ≡ with_own name None es → IsDesk profiles ys
desk_without profiles es ys name is e = subst (λ l. IsDesk profiles l) (sym e) (record { named = named_still name None es is.named; seated = seated_without profiles name es is.seated })

-- a name that has a value stands before the end
pub known_within : (ps : List (List ℕ × Known)) (name : List ℕ) → IsSome (value_at ps name) → place_of ps name < length ps
known_within [] name = λ h. absurd (nothing h)
  where
    nothing : false ≡ true → ⊥
    nothing h = cc
known_within (p ∷ ps) name =
    elim (bytes_eq p.0 name) as (λ b. IsSome (cond b (Some p.1) (value_at ps name)) → cond b 0 (suc (place_of ps name)) < suc (length ps))
    [ true ↦ λ h. omega arith | false ↦ λ h. let k : place_of ps name < length ps = known_within ps name h in omega arith ]

-- the value at the place that was found
pub value_here : {X : Type 0} (es : List (List ℕ × X)) (name : List ℕ) (n : ℕ) (e : List ℕ × X) → n ≡ place_of es name → n < length es → e ≡ get_or es n e → value_at es name ≡ Some e.1
value_here es name n e at within is =
    value_there es name e (subst (λ k. k < length es) at within) ∙ (ap (λ k. Some (get_or es k e).1) (sym at) ∙ ap (λ (f : List ℕ × _). Some f.1) (sym is))

-- the session under a name
pub own_value : (d : DeskLists) (name : List ℕ) (seat : Seated) → value_at d.seats name ≡ Some seat → own_of d name ≡ Some seat.session
own_value d name seat h = value_in d.seats name ∙ ap (option_map (λ (s : Seated). s.session)) h

pub own_none : (d : DeskLists) (name : List ℕ) → value_at d.seats name ≡ None → own_of d name ≡ None
own_none d name h = value_in d.seats name ∙ ap (option_map (λ (s : Seated). s.session)) h

pub own_lacks : (d : DeskLists) (name : List ℕ) → length d.seats ≤ place_of d.seats name → own_of d name ≡ None
own_lacks d name past = value_in d.seats name ∙ ap (option_map (λ (s : Seated). s.session)) (value_lacks d.seats name past)

-- the machine's step where the own session is known
pub step_there : (d : DeskLists) (name : List ℕ) (kept : Option (List ℕ)) (s : Session) (c : Command) → own_of d name ≡ Some s → desk_step d name kept c ≡ asked (profile_of d.profiles s) s kept c
step_there d name kept s c own = ap (λ o. step d.profiles (length d.seats) o kept c) own

pub step_lacking : (d : DeskLists) (name : List ℕ) (kept : Option (List ℕ)) (c : Command) → own_of d name ≡ None → desk_step d name kept c ≡ unopened d.profiles (length d.seats) kept c
step_lacking d name kept c own = ap (λ o. step d.profiles (length d.seats) o kept c) own

-- a profile more
more_value : {X : Type 0} (ps : List (List ℕ × X)) (e : List ℕ × X) (name : List ℕ) → IsSome (value_at ps name) → value_at (ps ++ e ∷ []) name ≡ value_at ps name
more_value [] e name = λ h. absurd (nothing h)
  where
    nothing : false ≡ true → ⊥
    nothing h = cc
more_value (p ∷ ps) e name =
    elim (bytes_eq p.0 name) as (λ b. IsSome (cond b (Some p.1) (value_at ps name)) → cond b (Some p.1) (value_at (ps ++ e ∷ []) name) ≡ cond b (Some p.1) (value_at ps name))
    [ true ↦ λ h. refl | false ↦ λ h. more_value ps e name h ]

more_seated : (ps : List (List ℕ × Known)) (e : List ℕ × Known) (seat : Seated) → IsSeated ps seat → IsSeated (ps ++ e ∷ []) seat
more_seated ps e seat is =
    let same = more_value ps e seat.session.profile is.known in
    record {
      known = subst (λ o. IsSome o) (sym same) is.known;
      sound = subst (λ o. IsSound (unwrap_or o no_profile) seat) (sym same) is.sound;
    }

all_more : (ps : List (List ℕ × Known)) (e : List ℕ × Known) (es : List (List ℕ × Seated)) → AreSeated ps es → AreSeated (ps ++ e ∷ []) es
all_more ps e [] all = tt
all_more ps e (s ∷ es) all = (more_seated ps e s.1 all.0, all_more ps e es all.1)

pub desk_more : (ps qs : List (List ℕ × Known)) (e : List ℕ × Known) (es : List (List ℕ × Seated)) → IsDesk ps es → qs ≡ ps ++ e ∷ [] → IsDesk qs es
desk_more ps qs e es is same = subst (λ l. IsDesk l es) (sym same) (record { named = is.named; seated = all_more ps e es is.seated })

-- ---- a seat at the place of its name

pub record SeatAt (ps : List (List ℕ × Known)) (es : List (List ℕ × Seated)) (name : List ℕ) (place : ℕ) (b : List ℕ × Seated) : Type 0 where
  pub seated : IsSeated ps b.1
  pub seat : value_at es name ≡ Some b.1
  pub put : (new : Seated) → set es place (b.0, new) ≡ with_own name (Some new) es
  pub without : remove es place ≡ with_own name None es

pub seat_at : (ps : List (List ℕ × Known)) (es : List (List ℕ × Seated)) (name : List ℕ) (place : ℕ) (b : List ℕ × Seated) → IsDesk ps es → place_of es name ≡ place → place < length es → b ≡ get_or es place b → SeatAt ps es name place b
seat_at ps es name place b is at within y =
    let there : place_of es name < length es = subst (λ k. k < length es) (sym at) within in
    record {
      seated = subst (λ (e : List ℕ × Seated). IsSeated ps e.1) (sym y) (seated_there ps es place b is.seated within);
      seat = value_here es name place b (sym at) within y;
      put = λ new. ap (λ (q : List ℕ × Seated). set es place (q.0, new)) y ∙ (ap (λ k. set es k ((get_or es k b).0, new)) (sym at) ∙ with_set es name b new there);
      without = ap (remove es) (sym at) ∙ with_removed es name is.named there;
    }

-- the profile that stands at the place of a seat's
pub is_profile : (ps : List (List ℕ × Known)) (seat : Seated) (n : ℕ) (k : List ℕ × Known) → IsSeated ps seat → n ≡ place_of ps seat.session.profile → k ≡ get_or ps n k → profile_of ps seat.session ≡ k.1
is_profile ps seat n k is e y =
    ap (λ o. unwrap_or o no_profile) (value_here ps seat.session.profile n k e (subst (λ j. j < length ps) (sym e) (known_within ps seat.session.profile is.known)) y)

pub profile_within : (ps : List (List ℕ × Known)) (seat : Seated) (n : ℕ) → IsSeated ps seat → n ≡ place_of ps seat.session.profile → n < length ps
profile_within ps seat n is e = subst (λ k. k < length ps) (sym e) (known_within ps seat.session.profile is.known)

-- a seat that still stands on its profile
pub seated_new : (ps : List (List ℕ × Known)) (old new : Seated) (k : Known) → IsSeated ps old → profile_of ps old.session ≡ k → new.session.profile ≡ old.session.profile → IsSound k new → IsSeated ps new
seated_new ps old new k is e same sound = record {
  known = subst (λ q. IsSome (value_at ps q)) (sym same) is.known;
  sound = subst (λ (p : Known). IsSound p new) (sym (ap (λ q. unwrap_or (value_at ps q) no_profile) same ∙ e)) sound;
}

pub seated_at : (ps : List (List ℕ × Known)) (es : List (List ℕ × Seated)) (place : ℕ) (b : List ℕ × Seated) → IsDesk ps es → place < length es → b ≡ get_or es place b → IsSeated ps b.1
seated_at ps es place b is within y = subst (λ (e : List ℕ × Seated). IsSeated ps e.1) (sym y) (seated_there ps es place b is.seated within)

-- a request of a seat was answered
pub answered : (ps : List (List ℕ × Known)) (es ys : List (List ℕ × Seated)) (name : List ℕ) (place : ℕ) (b : List ℕ × Seated) (k : Known) (new : Seated) (c : Command) (reply : Reply) (kept : Option (List ℕ))
    → SeatAt ps es name place b → profile_of ps b.1.session ≡ k → ys ≡ set es place (b.0, new) → asked k b.1.session kept c ≡ stays (Some new.session) kept reply
    → Follows (record { profiles = ps; seats = es }) (record { profiles = ps; seats = ys }) name (desk_step (record { profiles = ps; seats = es }) name kept c) reply
    × ((desk_step (record { profiles = ps; seats = es }) name kept c).kept ≡ kept)
answered ps es ys name place b k new c reply kept s e y h =
    let d : DeskLists = record { profiles = ps; seats = es } in
    let step : desk_step d name kept c ≡ stays (Some new.session) kept reply = step_there d name kept b.1.session c (own_value d name b.1 s.seat) ∙ (ap (λ p. asked p b.1.session kept c) e ∙ h) in
    (follows d (record { profiles = ps; seats = ys }) name (Some new) _ _ refl (y ∙ s.put new) (ap (λ a. a.reply) (sym step)) (ap (λ a. a.session) step), ap (λ a. a.kept) step)

-- what stands under the own name then
pub own_then : (es ys : List (List ℕ × Seated)) (name : List ℕ) (place : ℕ) (b : List ℕ × Seated) (new : Seated) (ps : List (List ℕ × Known)) → SeatAt ps es name place b → ys ≡ set es place (b.0, new) → value_at ys name ≡ Some new
own_then es ys name place b new ps s y =
    ap (λ l. value_at l name) (y ∙ s.put new) ∙ (value_at-with_own name (Some new) es name ∙ ap (λ t. cond t (Some new) (value_at es name)) (names_same name name refl))

-- the sessions where the own one has stayed
pub sessions_stay : (ps : List (List ℕ × Known)) (es ys : List (List ℕ × Seated)) (name : List ℕ) (place : ℕ) (b : List ℕ × Seated) (new : Seated) → SeatAt ps es name place b → ys ≡ set es place (b.0, new) → new.session ≡ b.1.session → sessions_in ys ≡ sessions_in es
sessions_stay ps es ys name place b new s y same =
    ap sessions_in (y ∙ s.put new) ∙ (with_own_in name (Some new) es ∙ (ap (λ x. with_own name (Some x) (sessions_in es)) same
    ∙ (ap (λ o. with_own name o (sessions_in es)) (sym (own_value (record { profiles = ps; seats = es }) name b.1 s.seat)) ∙ still (sessions_in es) name)))

-- ---- the same for a desk as its parts show it

pub seat_of : (ps : List (List ℕ × Known)) (es : List (List ℕ × Seated)) (d : DeskLists) (name : List ℕ) (place : ℕ) (b : List ℕ × Seated) → record { profiles = ps; seats = es } ≡ d → IsDesk ps es
    → place_of d.seats name ≡ place → place < length d.seats → b ≡ get_or es place b → SeatAt ps es name place b
seat_of ps es d name place b view is at within y =
    seat_at ps es name place b is (ap (λ (e : DeskLists). place_of e.seats name) view ∙ at) (subst (λ (e : DeskLists). place < length e.seats) (sym view) within) y

pub profile_is : (ps : List (List ℕ × Known)) (es : List (List ℕ × Seated)) (d : DeskLists) (name : List ℕ) (place : ℕ) (b : List ℕ × Seated) (n : ℕ) (k : List ℕ × Known) → record { profiles = ps; seats = es } ≡ d
    → SeatAt ps es name place b → b ≡ get_or es place b → ((e : List ℕ × Seated) → e ≡ get_or d.seats place e → n ≡ place_of d.profiles e.1.session.profile) → k ≡ get_or ps n k → profile_of ps b.1.session ≡ k.1
profile_is ps es d name place b n k view s y found at =
    is_profile ps b.1 n k s.seated
    (found b (y ∙ ap (λ (e : DeskLists). get_or e.seats place b) view) ∙ ap (λ (e : DeskLists). place_of e.profiles b.1.session.profile) (sym view)) at

pub sound_at : (ps : List (List ℕ × Known)) (b : Seated) (k : Known) → IsSeated ps b → profile_of ps b.session ≡ k → IsSound k b
sound_at ps b k is e = subst (λ (p : Known). IsSound p b) e is.sound

-- the session under a name is sound
pub seated_value : (ps : List (List ℕ × Known)) (es : List (List ℕ × Seated)) (name : List ℕ) (x : Seated) → AreSeated ps es → value_at es name ≡ Some x → IsSeated ps x
seated_value ps [] name x all = λ h. absurd (none-some x h)
seated_value ps (e ∷ es) name x all =
    elim (bytes_eq e.0 name) as (λ b. cond b (Some e.1) (value_at es name) ≡ Some x → IsSeated ps x)
    [ true ↦ λ h. subst (λ s. IsSeated ps s) (same_Some e.1 x h) all.0 | false ↦ λ h. seated_value ps es name x all.1 h ]

pub desk_of : (ps : List (List ℕ × Known)) (es : List (List ℕ × Seated)) (d : DeskLists) → record { profiles = ps; seats = es } ≡ d → IsDesk ps es → IsDesk d.profiles d.seats
desk_of ps es d view is = subst (λ (e : DeskLists). IsDesk e.profiles e.seats) view is

-- ---- the index of names

module _ {X : Type 0} (names : List (List ℕ)) (es : List (List ℕ × X)) (is : names ≡ names_of es) where
  pub place_by_name : (name : List ℕ) → position_or_len (bytes_eq name) names ≡ place_of es name
  place_by_name name = ap (position_or_len (bytes_eq name)) is ∙ place-named es name

  pub many_names : length names ≡ length es
  many_names = ap length is ∙ length-map es (λ (e : List ℕ × X). e.0)

  pub name_lacks : (name : List ℕ) → length es ≤ place_of es name → length names ≤ position_or_len (bytes_eq name) names
  name_lacks name h = let many : length names ≡ length es = many_names in let at : position_or_len (bytes_eq name) names ≡ place_of es name = place_by_name name in omega arith

  pub name_pushed : (name : List ℕ) (x : X) → names ++ name ∷ [] ≡ names_of (es ++ (name, x) ∷ [])
  name_pushed name x = ap (λ l. l ++ name ∷ []) is ∙ sym (map-append (λ (e : List ℕ × X). e.0) es ((name, x) ∷ []))

  pub name_removed : (place : ℕ) → remove names place ≡ names_of (remove es place)
  name_removed place = ap (λ l. remove l place) is ∙ sym (removed-mapped (λ (e : List ℕ × X). e.0) es place)

pub name_set : {X : Type 0} (es : List (List ℕ × X)) (place : ℕ) (b : List ℕ × X) (x : X) → place < length es → b ≡ get_or es place b → names_of (set es place (b.0, x)) ≡ names_of es
name_set [] place b x h y = absurd (omega arith)
name_set (e ∷ es) zero b x h y = ap (λ (q : List ℕ × _). q.0 ∷ names_of es) y
name_set (e ∷ es) (suc place) b x h y = ap (λ l. e.0 ∷ l) (name_set es place b x (omega arith) y)
