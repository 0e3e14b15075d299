-- Messages that were handled one behind another.
use Rattle.std.proofs.Common.{◌≡◌, ◌∙◌, ℕ, ◌+◌, ◌≤◌, Bool, List, [], ◌∷◌, ◌++◌, map, refl, sym, ap, subst, arith, append_assoc}
use Rattle.prof_io.specs.Causes.{RoseBy}
use Rattle.prof_machine.specs.Known.{Known}
use Rattle.prof_machine.specs.Play.{Answered, Shown, Starved, Failed, Fate, Held, Line, held_after, held_after_all, shown_in}
use Rattle.prof_request.proofs.OutcomeLemmas.{line_of}
use Rattle.prof_io.specs.Outside.{Seen}
use Rattle.prof_script.specs.Playing.{IsHeld, Stage, failed_count}
use Rattle.prof_script.specs.Readings.{AreLaid, Laid}
use Rattle.prof_serve.specs.Errands.{asks, no_route, no_method}
use Rattle.prof_serve.specs.Answers.{Handled, played, response, responses, held_behind, AreMet}
use Rattle.prof_serve.specs.Readings.{AreSettled, laid_behind, laid_behind_all, message_readings, messages_readings}
use Rattle.prof_serve.specs.Serving.{Handles}

played_append : (xs ys : List Handled) → played (xs ++ ys) ≡ played xs ++ played ys
played_append [] ys = refl
played_append ((asked, asks line fate said settled) ∷ xs) ys = ap (λ l. (line_of line, fate) ∷ l) (played_append xs ys)
played_append ((asked, no_route) ∷ xs) ys = played_append xs ys
played_append ((asked, no_method get) ∷ xs) ys = played_append xs ys

count_append : (xs ys : List (Line × Fate)) → failed_count (xs ++ ys) ≡ failed_count xs + failed_count ys
count_append [] ys = omega arith
count_append ((line, Answered) ∷ xs) ys = count_append xs ys
count_append ((line, Shown text) ∷ xs) ys = count_append xs ys
count_append ((line, Starved) ∷ xs) ys = count_append xs ys
count_append ((line, Failed) ∷ xs) ys = let e = count_append xs ys in omega arith

count_both : (xs ys : List Handled) → failed_count (played (xs ++ ys)) ≡ failed_count (played xs) + failed_count (played ys)
count_both xs ys = ap failed_count (played_append xs ys) ∙ count_append (played xs) (played ys)

abbrev pub fate_in : Line × Fate → Fate
fate_in l = l.1

none_shown : (xs ys : List (Line × Fate)) → shown_in (map fate_in xs) ≡ [] → shown_in (map fate_in ys) ≡ [] → shown_in (map fate_in (xs ++ ys)) ≡ []
none_shown [] ys f g = g
none_shown ((line, Answered) ∷ xs) ys f g = none_shown xs ys f g
none_shown ((line, Shown text) ∷ xs) ys f g = absurd (cc)
none_shown ((line, Starved) ∷ xs) ys f g = none_shown xs ys f g
none_shown ((line, Failed) ∷ xs) ys f g = none_shown xs ys f g

rose_then : (a b n x y z : ℕ) → n ≡ a + b → RoseBy a x y → RoseBy b y z → RoseBy n x z
rose_then a b n x y z e h k = omega (arith, e, h, k)

none_first : (n a b : ℕ) → n ≡ a + b → n ≡ 0 → a ≡ 0
none_first n a b e z = omega arith

none_second : (n a b : ℕ) → n ≡ a + b → n ≡ 0 → b ≡ 0
none_second n a b e z = omega arith

none_both : (n a b : ℕ) → n ≡ a + b → a ≡ 0 → b ≡ 0 → n ≡ 0
none_both n a b e y z = omega arith

module _ (profiles : List (List ℕ × Known)) where
  held_append : (held : Held) (xs ys : List (Line × Fate)) → held_after_all profiles held (xs ++ ys) ≡ held_after_all profiles (held_after_all profiles held xs) ys
  held_append held [] ys = refl
  held_append held (x ∷ xs) ys = held_append (held_after profiles held x.0 x.1) xs ys

  pub held_both : (held : Held) (xs ys : List Handled) → held_after_all profiles held (played (xs ++ ys)) ≡ held_after_all profiles (held_after_all profiles held (played xs)) (played ys)
  held_both held xs ys = ap (held_after_all profiles held) (played_append xs ys) ∙ held_append held (played xs) (played ys)

  -- what is held behind one message and others
  held_on : (held : Held) (x : Handled) (xs : List Handled) → held_after_all profiles held (played (x ∷ xs)) ≡ held_after_all profiles (held_behind profiles held x) (played xs)
  held_on held (asked, asks line fate said settled) xs = refl
  held_on held (asked, no_route) xs = refl
  held_on held (asked, no_method get) xs = refl

  pub responses_append : (held : Held) (xs ys : List Handled) → responses profiles held (xs ++ ys) ≡ responses profiles held xs ++ responses profiles (held_after_all profiles held (played xs)) ys
  responses_append held [] ys = refl
  responses_append held (x ∷ xs) ys =
      let first = response profiles held x in
      let then = held_behind profiles held x in
      ap (λ l. first ++ l) (responses_append then xs ys)
      ∙ sym (append_assoc first (responses profiles then xs) (responses profiles (held_after_all profiles then (played xs)) ys))
      ∙ ap (λ h. (first ++ responses profiles then xs) ++ responses profiles h ys) (sym (held_on held x xs))

  met_append : (held : Held) (xs ys : List Handled) → AreMet profiles held xs → AreMet profiles (held_after_all profiles held (played xs)) ys → AreMet profiles held (xs ++ ys)
  met_append held [] ys m n = n
  met_append held (x ∷ xs) ys (goes, met, more) n =
      (goes, met, met_append (held_behind profiles held x) xs ys more (subst (λ h. AreMet profiles h ys) (held_on held x xs) n))

  pub laid_append : (held : Held) (laid : List (List ℕ × Laid)) (xs ys : List Handled)
      → laid_behind_all profiles held laid (xs ++ ys) ≡ laid_behind_all profiles (held_after_all profiles held (played xs)) (laid_behind_all profiles held laid xs) ys
  laid_append held laid [] ys = refl
  laid_append held laid (x ∷ xs) ys =
      let then = held_behind profiles held x in
      let lays = laid_behind profiles held laid x in
      laid_append then lays xs ys ∙ ap (λ h. laid_behind_all profiles h (laid_behind_all profiles then lays xs) ys) (sym (held_on held x xs))

  settled_append : (held : Held) (laid : List (List ℕ × Laid)) (xs ys : List Handled) → AreSettled profiles held laid xs
      → AreSettled profiles (held_after_all profiles held (played xs)) (laid_behind_all profiles held laid xs) ys → AreSettled profiles held laid (xs ++ ys)
  settled_append held laid [] ys f g = g
  settled_append held laid (x ∷ xs) ys (is, more) g =
      let then = held_behind profiles held x in
      let lays = laid_behind profiles held laid x in
      (is, settled_append then lays xs ys more (subst (λ h. AreSettled profiles h (laid_behind_all profiles then lays xs) ys) (held_on held x xs) g))

  readings_append : (held : Held) (laid : List (List ℕ × Laid)) (xs ys : List Handled)
      → messages_readings profiles held laid (xs ++ ys) ≡ messages_readings profiles held laid xs + messages_readings profiles (held_after_all profiles held (played xs)) (laid_behind_all profiles held laid xs) ys
  readings_append held laid [] ys = omega arith
  readings_append held laid (x ∷ xs) ys =
      let then = held_behind profiles held x in
      let lays = laid_behind profiles held laid x in
      let second = laid_behind_all profiles then lays xs in
      let e : messages_readings profiles then lays (xs ++ ys) ≡ messages_readings profiles then lays xs + messages_readings profiles (held_after_all profiles then (played xs)) second ys = readings_append then lays xs ys in
      let f : messages_readings profiles (held_after_all profiles held (played (x ∷ xs))) second ys ≡ messages_readings profiles (held_after_all profiles then (played xs)) second ys =
      ap (λ h. messages_readings profiles h second ys) (held_on held x xs) in
      summed (message_readings held laid x) _ _ _ _ e f
    where
      summed : (m all one two two' : ℕ) → all ≡ one + two → two' ≡ two → m + all ≡ (m + one) + two'
      summed m all one two two' e f = omega (arith, e, f)

  -- no message was handled
  pub handles_none : (told : Bool) (held : Held) (laid : List (List ℕ × Laid)) (s : Stage) → IsHeld profiles told s.desk s.keeper.texts held → AreLaid s.desk laid → Handles profiles told held laid [] s s
  handles_none told held laid s is lies = record {
    met = tt;
    state = is;
    shown = λ tells. refl;
    failed = omega arith;
    quiet = λ none. refl;
    steady = λ sure. (refl, sure);
    settled = tt;
    lies = lies;
    readings = omega arith;
  }

  -- a hall that is read or written meanwhile changes nothing of it
  pub handles_with : (told : Bool) (held : Held) (laid : List (List ℕ × Laid)) (xs : List Handled) (a b : Stage) (o : Seen) → Handles profiles told held laid xs a b → Handles profiles told held laid xs a (record b { out = o })
  handles_with told held laid xs a b o h = record {
    met = h.met;
    state = h.state;
    shown = h.shown;
    failed = h.failed;
    quiet = h.quiet;
    steady = h.steady;
    settled = h.settled;
    lies = h.lies;
    readings = h.readings;
  }

  -- some were handled, and then others
  pub handles_then : (told : Bool) (held : Held) (laid : List (List ℕ × Laid)) (xs ys : List Handled) (a b c : Stage) → Handles profiles told held laid xs a b
      → Handles profiles told (held_after_all profiles held (played xs)) (laid_behind_all profiles held laid xs) ys b c
      → Handles profiles told held laid (xs ++ ys) a c
  handles_then told held laid xs ys a b c h k =
      let n = count_both xs ys in
      record {
        met = met_append held xs ys h.met k.met;
        state = subst (λ x. IsHeld profiles told c.desk c.keeper.texts x) (sym (held_both held xs ys)) k.state;
        shown = λ tells. ap (λ l. shown_in (map fate_in l)) (played_append xs ys) ∙ none_shown (played xs) (played ys) (h.shown tells) (k.shown tells);
        failed = rose_then (failed_count (played xs)) (failed_count (played ys)) (failed_count (played (xs ++ ys))) a.keeper.faults b.keeper.faults c.keeper.faults n h.failed k.failed;
        quiet = λ none. k.quiet (none_second (failed_count (played (xs ++ ys))) (failed_count (played xs)) (failed_count (played ys)) n none)
            ∙ h.quiet (none_first (failed_count (played (xs ++ ys))) (failed_count (played xs)) (failed_count (played ys)) n none);
        steady = λ sure.
            let f = h.steady sure in
            let g = k.steady f.1 in
            (none_both (failed_count (played (xs ++ ys))) (failed_count (played xs)) (failed_count (played ys)) n f.0 g.0, g.1);
        settled = settled_append held laid xs ys h.settled k.settled;
        lies = subst (λ l. AreLaid c.desk l) (sym (laid_append held laid xs ys)) k.lies;
        readings = within a.reads b.reads c.reads _ _ _ (readings_append held laid xs ys) h.readings k.readings;
      }
    where
      within : (a b c all one two : ℕ) → all ≡ one + two → b ≤ a + one → c ≤ b + two → c ≤ a + all
      within a b c all one two e f g = omega (arith, e, f, g)
