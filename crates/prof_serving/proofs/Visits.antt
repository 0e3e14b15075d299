-- The connections of a hall, one after another.
use Rattle.std.proofs.Common.{◌≡◌, inl, inr, ℕ, ◌≤◌, Bool, List, [], ◌∷◌, ◌++◌, map, take, length, None, Some, IfSome, refl, sym, ap, ◌∙◌, subst, ◌+◌, arith, append_assoc, append-nil, length-append}
use Rattle.std.specs.Option.{option_map, option_and_then}
use Rattle.std.specs.Io.KnownBytes.{Appends}
use Rattle.std.specs.declared.option.Option.{Option}
use Rattle.prof_io.specs.Bytes.{AppendsPart}
use Rattle.prof_io.specs.Connections.{served, closed, stayed, GivesNext}
use Rattle.prof_io.specs.Outside.{Seen}
use Rattle.prof_io.specs.Shelf.{Place, Present, Served}
use Rattle.prof_machine.specs.Known.{Known}
use Rattle.prof_machine.specs.Play.{Held, held_after_all}
use Rattle.prof_serve.specs.Answers.{Handled, played, responses}
use Rattle.prof_serve.specs.Serving.{Ends, Handles, Serves, closing}
use Rattle.prof_serve.specs.declared.serving.ConnEnd.{ConnEnd}
use Rattle.prof_serve.specs.declared.serving.ConnEnd.TheVariants.{Ended, Refused, Faulted}
use Rattle.prof_serve.specs.Readings.{laid_behind_all}
use Rattle.prof_serve.proofs.Handlings.{held_both, handles_none, handles_then, handles_with}
use Rattle.prof_script.specs.Playing.{IsHeld, Stage}
use Rattle.prof_script.specs.Readings.{AreLaid, Laid}
use Rattle.prof_serving.specs.Halls.{all_of, all_served, AllServed, AreGiven, IsServed, ServesAll, ServesTold}

-- ---- what a `next` does to the connections that are told

served_closed : (earlier : List Served) (present : Option Present) (answered : List ℕ) (before now : ℕ)
    → served earlier (closed before present) answered now ≡ served earlier present answered before
served_closed earlier None answered before now = refl
served_closed earlier (Some p) answered before now = refl

-- a `next` that gives no connection changes none
pub same_served : (earlier : Option (List Served)) (present : Option Present) (written : Option (List ℕ)) (before now : ℕ)
    → option_and_then (λ e. option_map (λ a. served e (closed before present) a now) written) earlier
    ≡ option_and_then (λ e. option_map (λ a. served e present a before) written) earlier
same_served None present written before now = refl
same_served (Some e) present None before now = refl
same_served (Some e) present (Some a) before now = ap (λ l. Some l) (served_closed e present a before now)

-- what is told of the connections is told of their parts
parts : (earlier : Option (List Served)) (present : Option Present) (written : Option (List ℕ)) (now : ℕ) (all : List Served)
    → option_and_then (λ e. option_map (λ a. served e present a now) written) earlier ≡ Some all
    → (e : List Served) × (a : List ℕ) × (earlier ≡ Some e) × (written ≡ Some a) × (served e present a now ≡ all)
parts None present written now all h = absurd (cc)
parts (Some e) present None now all h = absurd (cc)
parts (Some e) present (Some a) now all h = (e, a, refl, refl, cc)

-- the connection that is given
pick : (coming0 coming1 : Option (List (List ℕ))) (rest0 : List (List ℕ)) (earlier0 : Option (List Served)) (e : List Served) (present1 : Option Present) (left : Option (List ℕ)) (now : ℕ)
    → coming0 ≡ Some rest0 → earlier0 ≡ Some e
    → ((came : List ℕ) × IfSome coming0 (λ coming. (rest : List (List ℕ)) × (coming ≡ came ∷ rest) × (coming1 ≡ Some rest) × (left ≡ Some came))
    × IfSome earlier0 (λ _. present1 ≡ Some (record { came = came; first = now; second = None })))
    → (came : List ℕ) × (rest : List (List ℕ)) × (rest0 ≡ came ∷ rest) × (coming1 ≡ Some rest) × (left ≡ Some came) × (present1 ≡ Some (record { came = came; first = now; second = None }))
pick None coming1 rest0 earlier0 e present1 left now p q h = absurd (cc)
pick (Some c) coming1 rest0 None e present1 left now p q h = absurd (cc)
pick (Some c) coming1 rest0 (Some e') e present1 left now p q (came, (rest, ci, ni, li), pi) = (came, rest, cc, ni, li, pi)

keep : (earlier0 earlier1 : Option (List Served)) (e : List Served) (present0 : Option Present) (written0 : Option (List ℕ)) (a : List ℕ) (before : ℕ)
    → earlier0 ≡ Some e → written0 ≡ Some a
    → IfSome earlier0 (λ earlier. IfSome written0 (λ answered. earlier1 ≡ Some (served earlier present0 answered before)))
    → earlier1 ≡ Some (served e present0 a before)
keep None earlier1 e present0 written0 a before p q h = absurd (cc)
keep (Some e') earlier1 e present0 None a before p q h = absurd (cc)
keep (Some e') earlier1 e present0 (Some a') a before p q h =
    let pe : e' ≡ e = cc in
    let pa : a' ≡ a = cc in
    h ∙ ap (λ x. Some (served x present0 a' before)) pe ∙ ap (λ x. Some (served e present0 x before)) pa

refresh : (written0 written1 : Option (List ℕ)) (a : List ℕ) → written0 ≡ Some a → IfSome written0 (λ answered. written1 ≡ Some []) → written1 ≡ Some []
refresh None written1 a p h = absurd (cc)
refresh (Some a') written1 a p h = h

join : (earlier : Option (List Served)) (present : Option Present) (written : Option (List ℕ)) (now : ℕ) (e : List Served) (p : Present) (a : List ℕ)
    → earlier ≡ Some e → present ≡ Some p → written ≡ Some a
    → option_and_then (λ x. option_map (λ y. served x present y now) written) earlier ≡ Some (served e (Some p) a now)
join earlier present written now e p a u v w = rw (u, v, w) refl

came_more : (xs : List Served) (x : Served) → map (λ (one : Served). one.came) (xs ++ x ∷ []) ≡ map (λ (one : Served). one.came) xs ++ x.came ∷ []
came_more [] x = refl
came_more (y ∷ ys) x = ap (λ l. y.came ∷ l) (came_more ys x)

pub all_more : (hs : List (List Handled)) (h : List Handled) → all_of (hs ++ h ∷ []) ≡ all_of hs ++ h
all_more [] h = append-nil h
all_more (x ∷ hs) h = ap (λ l. x ++ l) (all_more hs h) ∙ sym (append_assoc x (all_of hs) h)

-- ---- how many were given

pub given_none : (coming : Option (List (List ℕ))) → AreGiven coming coming 0
given_none None = tt
given_none (Some coming) = (coming, refl, omega arith)

more_given : (a b : Option (List (List ℕ))) (came : List ℕ) (left : Option (List ℕ)) (rest : List (List ℕ)) (count all : ℕ) → a ≡ Some rest → all ≡ count + length rest
    → IfSome a (λ coming. (rest : List (List ℕ)) × (coming ≡ came ∷ rest) × (b ≡ Some rest) × (left ≡ Some came))
    → (rest : List (List ℕ)) × (b ≡ Some rest) × (all ≡ (count + 1) + length rest)
more_given None b came left rest count all is many h = absurd (cc)
more_given (Some r) b came left rest count all is many (more, first, then, l) =
    let same : r ≡ rest = cc in
    let size : length rest ≡ length (came ∷ more) = ap length (sym same ∙ first) in
    (more, then, omega (arith, many, size))

pub given_on : (coming : Option (List (List ℕ))) (a b : Place) (left written_old written_new : Option (List ℕ)) (before now count : ℕ) → AreGiven coming a.coming count
    → GivesNext a b left written_old written_new before now → AreGiven coming b.coming (count + 1)
given_on None a b left written_old written_new before now count given next = tt
given_on (Some coming) a b left written_old written_new before now count (rest, is, many) next =
    more_given a.coming b.coming next.given.0 left rest count (length coming) is many next.given.1

-- ---- one connection

-- what was written to a fresh connection
fresh_all : (old new : Option (List ℕ)) (text : List ℕ) → old ≡ Some [] → Appends old new text → new ≡ Some text
fresh_all None new text e h = absurd (cc)
fresh_all (Some []) None text e h = absurd h
fresh_all (Some []) (Some a) text e h = ap (λ l. Some l) h
fresh_all (Some (x ∷ xs)) new text e h = absurd (cc)

fresh_part : (old new : Option (List ℕ)) (text : List ℕ) → old ≡ Some [] → AppendsPart old new text → (n : ℕ) × (n ≤ length text) × (new ≡ Some (take n text))
fresh_part old new text e (n, le, h) = (n, le, fresh_all old new (take n text) e h)

at_some : {X : Type 0} (P : X → Type 0) (o : Option X) (x : X) → o ≡ Some x → IfSome o P → P x
at_some P None x e h = absurd (cc)
at_some P (Some y) x e h = let same : y ≡ x = cc in subst P same h

module _ (profiles : List (List ℕ × Known)) where
  -- a connection that was just given was served
  ends_served : (held : Held) (handled : List Handled) (old new : Seen) (end : ConnEnd) (came : List ℕ) → old.left ≡ Some came → old.written ≡ Some [] → Ends profiles held end handled old new
      → (answered : List ℕ) × (new.written ≡ Some answered) × IsServed profiles held (record { came = came; answered = answered; first = old.faults; second = new.faults }) handled
  ends_served held handled old new Ended came l w h = (
    responses profiles held handled ++ closing h.finish,
    fresh_all old.written new.written _ w h.written.whole,
    inl (h.finish, at_some _ old.left came l h.messages, refl, h.written.cause.kept),
  )
  ends_served held handled old new Refused came l w h = (
    responses profiles held handled ++ closing h.finish,
    fresh_all old.written new.written _ w h.written.whole,
    inl (h.finish, at_some _ old.left came l h.messages, refl, h.written.cause.kept),
  )
  ends_served held handled old new Faulted came l w h =
      let text = responses profiles held handled ++ closing h.finish in
      let part = fresh_part old.written new.written text w h.part in
      (take part.0 text, part.2, inr (h.finish, at_some _ old.left came l h.messages, (part.0, part.1, refl), h.rose))

  served_more : (held : Held) (ones : List Served) (hss : List (List Handled)) (one : Served) (handled : List Handled) → AllServed profiles held ones hss
      → IsServed profiles (held_after_all profiles held (played (all_of hss))) one handled → AllServed profiles held (ones ++ one ∷ []) (hss ++ handled ∷ [])
  served_more held [] [] one handled all is = (is, tt)
  served_more held [] (hs ∷ hss) one handled all is = absurd all
  served_more held (o ∷ ones) [] one handled all is = absurd all
  served_more held (o ∷ ones) (hs ∷ hss) one handled (first, all) is = (
    first,
    served_more (held_after_all profiles held (played hs)) ones hss one handled all
        (subst (λ h. IsServed profiles h one handled) (held_both profiles held hs (all_of hss)) is),
  )

  -- none is served yet
  pub none_yet : (held : Held) (now : Option (List Served)) (coming : Option (List (List ℕ))) → ServesTold profiles held now coming now coming []
  none_yet held None coming = tt
  none_yet held (Some old) None = tt
  none_yet held (Some old) (Some coming) = record {
    before = old;
    added = [];
    rest = coming;
    whole = ap (λ l. Some l) (sym (append-nil old));
    same = refl;
    came = refl;
    left_is = refl;
    each = tt;
  }

  -- one more connection is given, and is served
  pub goes_on : (held : Held) (old : Option (List Served)) (coming : Option (List (List ℕ))) (a b c : Seen) (hss : List (List Handled)) (end : ConnEnd) (handled : List Handled)
      → ServesTold profiles held old coming (all_served a) a.place.coming hss
      → GivesNext a.place b.place b.left a.written b.written a.faults b.faults
      → Ends profiles (held_after_all profiles held (played (all_of hss))) end handled b c → c.place ≡ b.place
      → ServesTold profiles held old coming (all_served c) c.place.coming (hss ++ handled ∷ [])
  goes_on held None coming a b c hss end handled told gives ends place = tt
  goes_on held (Some old) None a b c hss end handled told gives ends place = tt
  goes_on held (Some old) (Some coming) a b c hss end handled told gives ends place =
      let (e, answered0, earlier_is, written_is, all_is) = parts a.place.earlier a.place.present a.written a.faults _ told.whole in
      let (came, rest, rest_is, coming_is, left_is, present_is) = pick a.place.coming b.place.coming told.rest a.place.earlier e b.place.present b.left b.faults told.left_is earlier_is gives.given in
      let kept = keep a.place.earlier b.place.earlier e a.place.present a.written answered0 a.faults earlier_is written_is gives.kept in
      let fresh = refresh a.written b.written answered0 written_is gives.fresh in
      let (answered, now_is, one_is) = ends_served (held_after_all profiles held (played (all_of hss))) handled b c end came left_is fresh ends in
      let one : Served = record { came = came; answered = answered; first = b.faults; second = c.faults } in
      let all : option_and_then (λ x. option_map (λ y. served x c.place.present y c.faults) c.written) c.place.earlier ≡ Some (served (served e a.place.present answered0 a.faults) (Some (record { came = came; first = b.faults; second = None })) answered c.faults) =
      join c.place.earlier c.place.present c.written c.faults _ _ answered (ap (λ (p : Place). p.earlier) place ∙ kept) (ap (λ (p : Place). p.present) place ∙ present_is) now_is in
      record {
        before = told.before;
        added = told.added ++ one ∷ [];
        rest = rest;
        whole = all ∙ (ap (λ l. Some (l ++ one ∷ [])) all_is ∙ ap (λ l. Some l) (append_assoc told.before told.added (one ∷ [])));
        same = told.same;
        came = told.came ∙ ap (λ l. map (λ (x : Served). x.came) told.added ++ l) rest_is
            ∙ sym (append_assoc (map (λ (x : Served). x.came) told.added) (came ∷ []) rest)
            ∙ ap (λ l. l ++ rest) (sym (came_more told.added one));
        left_is = ap (λ (p : Place). p.coming) place ∙ coming_is;
        each = served_more held told.added hss one handled told.each one_is;
      }

  -- ---- with what the desk and the keeper have

  module _ (told : Bool) (held : Held) (laid : List (List ℕ × Laid)) where
    pub serves_none : (s : Stage) → IsHeld profiles told s.desk s.keeper.texts held → AreLaid s.desk laid → ServesAll profiles told held laid s s 0
    serves_none s is lies = ([], refl, handles_none profiles told held laid s is lies, none_yet held (all_served s.out) s.out.place.coming)

    -- a `next` that gives no connection
    pub serves_still : (a b : Stage) (n : Seen) (count : ℕ) → ServesAll profiles told held laid a b count → n.place ≡ stayed b.out.place b.out.faults n.faults → n.written ≡ b.out.written
        → ServesAll profiles told held laid a (record b { out = n }) count
    serves_still a b n count (hss, size, h, so) place written =
        let all : all_served n ≡ all_served b.out =
        ap (λ (p : Place). option_and_then (λ e. option_map (λ y. served e p.present y n.faults) n.written) p.earlier) place
        ∙ ap (λ w. option_and_then (λ e. option_map (λ y. served e (closed b.out.faults b.out.place.present) y n.faults) w) b.out.place.earlier) written
        ∙ same_served b.out.place.earlier b.out.place.present b.out.written b.out.faults n.faults in
        let coming : n.place.coming ≡ b.out.place.coming = ap (λ (p : Place). p.coming) place in (
          hss,
          size,
          handles_with profiles told held laid (all_of hss) a b n h,
          subst (λ l. ServesTold profiles held (all_served a.out) a.out.place.coming l n.place.coming hss) (sym all)
              (subst (λ l. ServesTold profiles held (all_served a.out) a.out.place.coming (all_served b.out) l hss) (sym coming) so),
        )

    -- a connection was given, and served
    pub serves_on : (a b c : Stage) (n : Seen) (count : ℕ) (end : ConnEnd) → ServesAll profiles told held laid a b count
        → GivesNext b.out.place n.place n.left b.out.written n.written b.out.faults n.faults
        → ((mid : Held) (lays : List (List ℕ × Laid)) → IsHeld profiles told b.desk b.keeper.texts mid → AreLaid b.desk lays → Serves profiles told mid lays (record b { out = n }) c end)
        → c.out.place ≡ n.place
        → ServesAll profiles told held laid a c (count + 1)
    serves_on a b c n count end (hss, size, h, so) gives serves place =
        let mid = held_after_all profiles held (played (all_of hss)) in
        let lays = laid_behind_all profiles held laid (all_of hss) in
        let (handled, then, ends) = serves mid lays h.state h.lies in (
          hss ++ handled ∷ [],
          omega (arith, size, length-append hss (handled ∷ [])),
          subst (λ l. Handles profiles told held laid l a c) (sym (all_more hss handled))
              (handles_then profiles told held laid (all_of hss) handled a (record b { out = n }) c (handles_with profiles told held laid (all_of hss) a b n h) then),
          goes_on held (all_served a.out) a.out.place.coming b.out n c.out hss end handled so gives ends place,
        )
