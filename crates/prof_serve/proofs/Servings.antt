-- The messages of a connection, answered one after another.
use Rattle.std.proofs.Common.{◌≡◌, ◌≢◌, ◌∙◌, ℕ, ◌+◌, ◌<◌, ◌≤◌, Bool, List, [], ◌∷◌, ◌++◌, map, length, Option, Some, None, IfSome, Ok, Err, refl, sym, ap, subst, arith, append-nil, IsTrue, length-append}
use Rattle.std.specs.Prelude.{IsFalse}
use Rattle.std.specs.Io.KnownBytes.{prepend_known}
use Rattle.std.proofs.lemmas.List.{map-append, length-map}
use Rattle.prof_io.specs.Bytes.{AppendsPart}
use Rattle.prof_io.specs.Causes.{Rose}
use Rattle.prof_io.specs.Outside.{Seen}
use Rattle.prof_io.specs.Sinks.{Wrote}
use Rattle.prof_machine.specs.Known.{Known}
use Rattle.prof_machine.specs.Play.{Held, held_after_all}
use Rattle.prof_script.specs.Playing.{IsHeld, Stage}
use Rattle.prof_script.specs.Readings.{AreLaid, Laid}
use Rattle.prof_wire.specs.Messages.{Asked, message, ending, Comes, Finish, after_last, ended, AreMessages}
use Rattle.prof_wire.specs.Responses.{refusal_bytes}
use Rattle.prof_wire.specs.Taking.{unused, ComesOut, EndsSo}
use Rattle.prof_wire.specs.Waiting.{Waiting}
use Rattle.prof_wire.specs.declared.messages.WireEnd.{WireEnd}
use Rattle.prof_wire.specs.declared.messages.WireEnd.TheVariants.{End, HallFault, Bad, HeadTooLong, BodyTooLong, Coded, Expect}
use Rattle.prof_serve.specs.declared.serving.ConnEnd.TheVariants.{Ended, Refused, Faulted}
use Rattle.prof_serve.specs.Answers.{Handled, asked_in, played, responses}
use Rattle.prof_serve.specs.Readings.{laid_behind_all}
use Rattle.prof_serve.specs.Serving.{Answers, AreFirst, ComesThen, Handles, IsCut, IsWhole, Serves, closing, end_of}
use Rattle.prof_serve.proofs.Fronts.{AreGoing, below, going_end, going_first, going_last, going_more, going_one}
use Rattle.prof_serve.proofs.Handlings.{handles_none, handles_then, handles_with, responses_append}
use Rattle.prof_serve.proofs.Writings.{Reads, Stopped, Told, stopped_as, told_as, told_none, told_read, told_stop, told_then}

-- these messages came, none of them the last, and the wire stands behind them
abbrev pub CameSo : Option (List ℕ) → ℕ → Option (List ℕ) → List Handled → Type 0
CameSo left count ahead handled = IfSome left (λ bytes.
    (rest : List ℕ) × (ahead ≡ Some rest) × AreGoing 0 bytes (map asked_in handled) rest × (count ≤ 999))

-- and this message came behind them
abbrev pub CameThen : Option (List ℕ) → ℕ → Option (List ℕ) → List Handled → Asked → Type 0
CameThen left count ahead handled asked = IfSome left (λ bytes.
    (rest : List ℕ) × (after : List ℕ) × (ahead ≡ Some after) × AreGoing 0 bytes (map asked_in handled) rest × Comes count rest (message asked after))

-- the number of the messages is that of what was handled
counted : (handled : List Handled) (count : ℕ) → length handled ≡ count → count ≡ 0 + length (map asked_in handled)
counted handled count n = let m : length (map asked_in handled) ≡ length handled = length-map handled asked_in in omega (arith, n, m)

came_then : (left : Option (List ℕ)) (count : ℕ) (ahead now : Option (List ℕ)) (handled : List Handled) (asked : Asked) → CameSo left count ahead handled → ComesOut count ahead asked now
    → CameThen left count now handled asked
came_then None count ahead now handled asked s c = tt
came_then (Some bytes) count None now handled asked (rest, e, g, few) c = absurd (cc)
came_then (Some bytes) count (Some all) now handled asked (rest, e, g, few) (after, is, comes) =
    let same : all ≡ rest = cc in
    (rest, after, is, g, subst (λ (l : List ℕ). Comes count l (message asked after)) same comes)

asked_behind : (handled : List Handled) (one : Handled) (asked : Asked) → one.0 ≡ asked → map asked_in handled ++ asked ∷ [] ≡ map asked_in (handled ++ one ∷ [])
asked_behind handled one asked e = ap (λ a. map asked_in handled ++ a ∷ []) (sym e) ∙ sym (map-append asked_in handled (one ∷ []))

came_more : (left : Option (List ℕ)) (count : ℕ) (ahead : Option (List ℕ)) (handled : List Handled) (one : Handled) (asked : Asked) → one.0 ≡ asked → length handled ≡ count → IsFalse asked.last
    → CameThen left count ahead handled asked → CameSo left (count + 1) ahead (handled ++ one ∷ [])
came_more None count ahead handled one asked e n f c = tt
came_more (Some bytes) count ahead handled one asked e n f (rest, after, is, g, comes) =
    let few : count < 999 = below count rest after asked comes f in (
      after,
      is,
      subst (λ xs. AreGoing 0 bytes xs after) (asked_behind handled one asked e) (going_more 0 count bytes (map asked_in handled) rest asked after g (counted handled count n) comes f),
      omega (arith, few),
    )

came_last : (left : Option (List ℕ)) (count : ℕ) (ahead : Option (List ℕ)) (handled : List Handled) (one : Handled) (asked : Asked) → one.0 ≡ asked → length handled ≡ count → IsTrue asked.last
    → CameThen left count ahead handled asked → IfSome left (λ bytes. AreMessages 0 bytes (map asked_in (handled ++ one ∷ [])) after_last)
came_last None count ahead handled one asked e n t c = tt
came_last (Some bytes) count ahead handled one asked e n t (rest, after, is, g, comes) =
    subst (λ xs. AreMessages 0 bytes xs after_last) (asked_behind handled one asked e) (going_last 0 count bytes (map asked_in handled) rest asked after g (counted handled count n) comes t)

came_one : (left : Option (List ℕ)) (count : ℕ) (ahead : Option (List ℕ)) (handled : List Handled) (one : Handled) (asked : Asked) → one.0 ≡ asked → length handled ≡ count
    → CameThen left count ahead handled asked
    → IfSome left (λ bytes. (rest : List ℕ) × AreFirst 0 bytes (map asked_in (handled ++ one ∷ [])) rest × ComesThen (length (handled ++ one ∷ [])) rest after_last)
came_one None count ahead handled one asked e n c = tt
came_one (Some bytes) count ahead handled one asked e n (rest, after, is, g, comes) =
    (after, subst (λ xs. AreFirst 0 bytes xs after) (asked_behind handled one asked e) (going_one 0 count bytes (map asked_in handled) rest asked after g (counted handled count n) comes), tt)

came_end : (left : Option (List ℕ)) (count : ℕ) (ahead : Option (List ℕ)) (handled : List Handled) (end : WireEnd) → length handled ≡ count → end ≢ HallFault
    → CameSo left count ahead handled → EndsSo count ahead end → IfSome left (λ bytes. AreMessages 0 bytes (map asked_in handled) (ended end))
came_end None count ahead handled end n other s ends = tt
came_end (Some bytes) count None handled end n other (rest, e, g, few) ends = absurd (cc)
came_end (Some bytes) count (Some all) handled end n other (rest, e, g, few) ends =
    let same : all ≡ rest = cc in
    going_end 0 count bytes (map asked_in handled) rest end g (counted handled count n) (subst (λ (l : List ℕ). Comes count l (ending end)) same (ends other))

came_cut : (left : Option (List ℕ)) (count : ℕ) (ahead : Option (List ℕ)) (handled : List Handled) (end : WireEnd) → length handled ≡ count → end ≢ HallFault
    → CameSo left count ahead handled → EndsSo count ahead end
    → IfSome left (λ bytes. (rest : List ℕ) × AreFirst 0 bytes (map asked_in handled) rest × ComesThen (length handled) rest (ended end))
came_cut None count ahead handled end n other s ends = tt
came_cut (Some bytes) count None handled end n other (rest, e, g, few) ends = absurd (cc)
came_cut (Some bytes) count (Some all) handled end n other (rest, e, g, few) ends =
    let same : all ≡ rest = cc in (
      rest,
      going_first 0 bytes (map asked_in handled) rest g,
      subst (λ m. Comes m rest (ending end)) (sym n) (subst (λ (l : List ℕ). Comes count l (ending end)) same (ends other)),
    )

came_so : (left : Option (List ℕ)) (count : ℕ) (ahead : Option (List ℕ)) (handled : List Handled) → CameSo left count ahead handled
    → IfSome left (λ bytes. (rest : List ℕ) × AreFirst 0 bytes (map asked_in handled) rest × ComesThen (length handled) rest after_last)
came_so None count ahead handled s = tt
came_so (Some bytes) count ahead handled (rest, e, g, few) = (rest, going_first 0 bytes (map asked_in handled) rest g, tt)

-- more than 1,000 messages never come
over : (left : Option (List ℕ)) (count : ℕ) (ahead : Option (List ℕ)) (handled : List Handled) (finish : Finish) → 1000 ≤ count → CameSo left count ahead handled
    → IfSome left (λ bytes. AreMessages 0 bytes (map asked_in handled) finish)
over None count ahead handled finish most s = tt
over (Some bytes) count ahead handled finish most (rest, e, g, few) = absurd (omega (arith, few, most))

one_more : (xs : List Handled) (one : Handled) (count : ℕ) → length xs ≡ count → length (xs ++ one ∷ []) ≡ count + 1
one_more xs one count n = omega (arith, length-append xs (one ∷ []), n)

pub refused_end : (end : WireEnd) → end ≢ End → end ≢ HallFault → end_of (ended end) ≡ Refused
refused_end End some other = absurd (some refl)
refused_end HallFault some other = absurd (other refl)
refused_end (Bad why) some other = refl
refused_end HeadTooLong some other = refl
refused_end BodyTooLong some other = refl
refused_end Coded some other = refl
refused_end Expect some other = refl

module _ (profiles : List (List ℕ × Known)) (told : Bool) (held : Held) (laid : List (List ℕ × Laid)) where
  -- so many messages were answered, none of them the last
  pub record HasServed (a b : Stage) (wire : Waiting) (count : ℕ) : Type 0 where
    pub handled : List Handled
    pub handles : Handles profiles told held laid handled a b
    pub count_is : length handled ≡ count
    pub came : CameSo a.out.left count (unused wire b.out.left) handled
    pub written : Told a.out b.out (responses profiles held handled)

  came_none : (left : Option (List ℕ)) → CameSo left 0 (prepend_known [] left) []
  came_none None = tt
  came_none (Some bytes) = (bytes, refl, refl, omega arith)

  pub served_none : (s : Stage) (wire : Waiting) → wire.ahead ≡ [] → IsHeld profiles told s.desk s.keeper.texts held → AreLaid s.desk laid → HasServed s s wire 0
  served_none s wire e is lies = record {
    handled = [];
    handles = handles_none profiles told held laid s is lies;
    count_is = refl;
    came = subst (λ ahead. CameSo s.out.left 0 (prepend_known ahead s.out.left) []) (sym e) (came_none s.out.left);
    written = told_none s.out;
  }

  -- what the desk and the keeper have once messages were handled
  abbrev pub behind : (a b : Stage) (wire : Waiting) (count : ℕ) → HasServed a b wire count → Held
  behind a b wire count s = held_after_all profiles held (played s.handled)

  -- how the layers stand then
  abbrev pub lays_behind : (a b : Stage) (wire : Waiting) (count : ℕ) → HasServed a b wire count → List (List ℕ × Laid)
  lays_behind a b wire count s = laid_behind_all profiles held laid s.handled

  texts : (xs : List Handled) (one : Handled) → responses profiles held xs ++ responses profiles (held_after_all profiles held (played xs)) (one ∷ []) ≡ responses profiles held (xs ++ one ∷ [])
  texts xs one = sym (responses_append profiles held xs (one ∷ []))

  -- a message more came, and was answered
  pub served_more : {T E : Type 0} (a b c : Stage) (o : Seen) (w v : Waiting) (count : ℕ) (asked : Asked) (x : T) → (s : HasServed a b w count) → Reads b.out o
      → ComesOut count (unused w b.out.left) asked (unused v o.left) → IsFalse asked.last
      → Answers profiles told (behind a b w count s) (lays_behind a b w count s) {T = T} {E = E} asked (record b { out = o }) c (Ok x)
      → HasServed a c v (count + 1)
  served_more {T = T} {E = E} a b c o w v count asked x s reads comes goes (one, is, h, wrote) = record {
    handled = s.handled ++ one ∷ [];
    handles = handles_then profiles told held laid s.handled (one ∷ []) a (record b { out = o }) c (handles_with profiles told held laid s.handled a b o s.handles) h;
    count_is = one_more s.handled one count s.count_is;
    came = subst (λ l. CameSo a.out.left (count + 1) (unused v l) (s.handled ++ one ∷ [])) (sym wrote.left)
        (came_more a.out.left count (unused v o.left) s.handled one asked is s.count_is goes (came_then a.out.left count (unused w b.out.left) (unused v o.left) s.handled asked s.came comes));
    written = told_as a.out c.out _ _ (texts s.handled one) (told_then a.out o c.out x _ _ (told_read a.out b.out o _ s.written reads) wrote);
  }

  pub served_last : {T E : Type 0} (a b c : Stage) (o : Seen) (w v : Waiting) (count : ℕ) (asked : Asked) (x : T) → (s : HasServed a b w count) → Reads b.out o
      → ComesOut count (unused w b.out.left) asked (unused v o.left) → IsTrue asked.last
      → Answers profiles told (behind a b w count s) (lays_behind a b w count s) {T = T} {E = E} asked (record b { out = o }) c (Ok x)
      → Serves profiles told held laid a c Ended
  served_last {T = T} {E = E} a b c o w v count asked x s reads comes ends (one, is, h, wrote) = (
    s.handled ++ one ∷ [],
    handles_then profiles told held laid s.handled (one ∷ []) a (record b { out = o }) c
        (handles_with profiles told held laid s.handled a b o s.handles) h,
    record {
      finish = after_last;
      messages = came_last a.out.left count (unused v o.left) s.handled one asked is s.count_is ends (came_then a.out.left count (unused w b.out.left) (unused v o.left) s.handled asked s.came comes);
      same = refl;
      written = told_as a.out c.out _ _ (texts s.handled one ∙ sym (append-nil (responses profiles held (s.handled ++ one ∷ []))))
          (told_then a.out o c.out x _ _ (told_read a.out b.out o _ s.written reads) wrote);
    },
  )

  cut_of : (handled : List Handled) (old new : Seen) (finish : Finish) → IfSome old.left (λ bytes. (rest : List ℕ) × AreFirst 0 bytes (map asked_in handled) rest × ComesThen (length handled) rest finish)
      → Stopped old new (responses profiles held handled ++ closing finish) → IsCut profiles held handled old new
  cut_of handled old new finish came w = record {
    finish = finish;
    messages = came;
    part = w.part;
    place = w.place;
    fits = λ s. w.fits;
    sure = w.sure;
    rose = w.cause.failed;
  }

  pub cut_in_answer : {T E : Type 0} (a b c : Stage) (o : Seen) (w v : Waiting) (count : ℕ) (asked : Asked) (e : E) → (s : HasServed a b w count) → Reads b.out o
      → ComesOut count (unused w b.out.left) asked (unused v o.left)
      → Answers profiles told (behind a b w count s) (lays_behind a b w count s) {T = T} {E = E} asked (record b { out = o }) c (Err e)
      → Serves profiles told held laid a c Faulted
  cut_in_answer {T = T} {E = E} a b c o w v count asked e s reads comes (one, is, h, wrote) = (
    s.handled ++ one ∷ [],
    handles_then profiles told held laid s.handled (one ∷ []) a (record b { out = o }) c
        (handles_with profiles told held laid s.handled a b o s.handles) h,
    cut_of (s.handled ++ one ∷ []) a.out c.out after_last
        (came_one a.out.left count (unused v o.left) s.handled one asked is s.count_is (came_then a.out.left count (unused w b.out.left) (unused v o.left) s.handled asked s.came comes))
        (stopped_as a.out c.out _ _ (texts s.handled one ∙ sym (append-nil (responses profiles held (s.handled ++ one ∷ []))))
        (told_stop a.out o c.out e _ _ (told_read a.out b.out o _ s.written reads) wrote)),
  )

  -- no message came
  pub served_end : {T E : Type 0} (a b : Stage) (o p : Seen) (w : Waiting) (count : ℕ) (end : WireEnd) (x : T) → HasServed a b w count → Reads b.out o
      → EndsSo count (unused w b.out.left) end → end ≢ HallFault → Wrote {T = T} {E = E} o p (Ok x) (refusal_bytes end)
      → (handled : List Handled) × Handles profiles told held laid handled a (record b { out = p }) × IsWhole profiles held handled a.out p (end_of (ended end))
  served_end {T = T} {E = E} a b o p w count end x s reads ends other wrote = (
    s.handled,
    handles_with profiles told held laid s.handled a b p s.handles,
    record {
      finish = ended end;
      messages = came_end a.out.left count (unused w b.out.left) s.handled end s.count_is other s.came ends;
      same = refl;
      written = told_then a.out o p x _ _ (told_read a.out b.out o _ s.written reads) wrote;
    },
  )

  pub cut_in_refusal : {T E : Type 0} (a b : Stage) (o p : Seen) (w : Waiting) (count : ℕ) (end : WireEnd) (e : E) → HasServed a b w count → Reads b.out o
      → EndsSo count (unused w b.out.left) end → end ≢ HallFault → Wrote {T = T} {E = E} o p (Err e) (refusal_bytes end)
      → Serves profiles told held laid a (record b { out = p }) Faulted
  cut_in_refusal {T = T} {E = E} a b o p w count end e s reads ends other wrote = (
    s.handled,
    handles_with profiles told held laid s.handled a b p s.handles,
    cut_of s.handled a.out p (ended end) (came_cut a.out.left count (unused w b.out.left) s.handled end s.count_is other s.came ends)
        (told_stop a.out o p e _ _ (told_read a.out b.out o _ s.written reads) wrote),
  )

  -- a read failed
  pub cut_in_read : (a b : Stage) (o : Seen) (w : Waiting) (count : ℕ) → HasServed a b w count → o.written ≡ b.out.written → o.place ≡ b.out.place
      → (b.out.sure → ⊥) → Rose b.out.faults o.faults → Serves profiles told held laid a (record b { out = o }) Faulted
  cut_in_read a b o w count s written place unsure rose = (
    s.handled,
    handles_with profiles told held laid s.handled a b o s.handles,
    record {
      finish = after_last;
      messages = came_so a.out.left count (unused w b.out.left) s.handled s.came;
      part = subst (λ l. AppendsPart a.out.written l (responses profiles held s.handled ++ [])) (sym written)
          (subst (λ l. AppendsPart a.out.written b.out.written l) (sym (append-nil (responses profiles held s.handled))) s.written.part);
      place = place ∙ s.written.place;
      fits = λ sure. absurd (unsure (s.written.sure sure));
      sure = λ sure. absurd (unsure (s.written.sure sure));
      rose = subst (λ n. Rose n o.faults) s.written.cause.kept rose;
    },
  )

  -- the loop is over
  pub served_over : (a b : Stage) (w : Waiting) (count : ℕ) → 1000 ≤ count → HasServed a b w count → Serves profiles told held laid a b Ended
  served_over a b w count most s = (
    s.handled,
    s.handles,
    record {
      finish = after_last;
      messages = over a.out.left count (unused w b.out.left) s.handled after_last most s.came;
      same = refl;
      written = told_as a.out b.out _ _ (sym (append-nil (responses profiles held s.handled))) s.written;
    },
  )
