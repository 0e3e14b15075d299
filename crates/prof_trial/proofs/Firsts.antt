-- One line that is answered.
use Rattle.std.proofs.Common.{◌≡◌, ◌∙◌, ℕ, ◌≤◌, List, [], ◌∷◌, ◌++◌, map, true, Option, Some, Result, Ok, Err, OnOk, refl, sym, ap, subst, arith, append-nil}
use Rattle.std.specs.Prelude.{⊤}
use Rattle.std.specs.Io.KnownBytes.{Appends}
use Rattle.prof_io.specs.Outside.{Kept, Seen}
use Rattle.prof_machine.specs.Known.{Known}
use Rattle.prof_machine.specs.Play.{Answered, Shown, Starved, Failed, Fate, Held, Line, held_after_all, shown_in}
use Rattle.prof_script.specs.declared.playing.PlayEnd.{PlayEnd}
use Rattle.prof_script.specs.declared.playing.PlayEnd.TheVariants as play_end
use Rattle.prof_script.specs.Playing.{AreFated, IsHeld, Plays, failed_count, output, starved}
use Rattle.prof_script.specs.Readings.{AreLaid, Laid, laid_after, laid_after_all, line_readings, lines_readings}
use Rattle.prof_session_desk.specs.Desk.{DeskLists}
use Rattle.prof_writer.proofs.Outputs.{writes_none}
use Rattle.prof_trial.specs.Firsts.{first_line}
use Rattle.prof_trial.specs.Trial.{PlaysFirsts, Puts, after, first_lines, reply_of}

abbrev line_in : Line × Fate → Line
line_in l = l.0

abbrev fate_in : Line × Fate → Fate
fate_in l = l.1

on_ok : {P : Type 0} (r : Result ⊤ PlayEnd) → P → OnOk r P
on_ok (Ok x) p = p
on_ok (Err e) p = tt

module _ (profiles : List (List ℕ × Known)) (held : Held) (laid : List (List ℕ × Laid)) (l : Line) where
  -- the one line was handled, no text was taken from a keeper that tells none, and none failed: it was answered
  one_answered : (handled : List (Line × Fate)) (rest : List Line) → l ∷ [] ≡ map line_in handled ++ rest → rest ≡ [] → AreFated profiles held handled → shown_in (map fate_in handled) ≡ [] → failed_count handled ≡ 0 →
      handled ≡ (l, Answered) ∷ []
  one_answered [] rest front none fated unshown calm = absurd (cc)
  one_answered ((m, Answered) ∷ []) rest front none fated unshown calm = let same : l ≡ m = cc in ap (λ x. (x, Answered) ∷ []) (sym same)
  one_answered ((m, Shown text) ∷ []) rest front none fated unshown calm = absurd (cc)
  one_answered ((m, Starved) ∷ []) rest front none fated unshown calm = absurd (fated.0)
  one_answered ((m, Failed) ∷ []) rest front none fated unshown calm = absurd (cc)
  one_answered (h ∷ k ∷ handled) rest front none fated unshown calm = absurd (cc)

  -- at most that line was read
  within_one : (handled : List (Line × Fate)) (rest : List Line) (r : Result ⊤ PlayEnd) → l ∷ [] ≡ map line_in handled ++ rest →
      lines_readings profiles held laid (handled ++ starved rest r) ≤ line_readings held laid l
  within_one [] [] r front = omega arith
  within_one [] (m ∷ rest) (Ok x) front = omega arith
  within_one [] (m ∷ rest) (Err play_end.OutFault) front = omega arith
  within_one [] (m ∷ rest) (Err play_end.NoMemory) front = let same : line_readings held laid m ≡ line_readings held laid l = ap (line_readings held laid) (cc) in omega (arith, same)
  within_one (h ∷ []) [] r front = let same : line_readings held laid h.0 ≡ line_readings held laid l = ap (line_readings held laid) (cc) in omega (arith, same)
  within_one (h ∷ []) (m ∷ rest) r front = absurd (cc)
  within_one (h ∷ k ∷ handled) rest r front = absurd (cc)

  -- memory ran out: nothing was put
  starves : (d e : DeskLists) (k j : Kept) (o p q : Seen) (m n : ℕ) (r : Result ⊤ PlayEnd) →
      Plays profiles true held laid (l ∷ []) (record { desk = d; keeper = k; out = p; reads = m }) (record { desk = e; keeper = j; out = q; reads = n }) r →
      PlaysFirsts profiles held laid (l ∷ []) (record { desk = d; keeper = k; out = o; reads = m }) (record { desk = e; keeper = j; out = o; reads = n }) (Err play_end.NoMemory)
  starves d e k j o p q m n r plays = record {
    put = ([], first_lines profiles held (l ∷ []), refl, writes_none o);
    read_rows = (let few = within_one plays.handled plays.rest r plays.front in omega (arith, few, plays.readings));
    state = tt;
  }

  -- the line was answered, and the first line of the reply was put
  tells : (d e : DeskLists) (k j : Kept) (o p q t : Seen) (m n : ℕ) (bytes : List ℕ) (x : ⊤) (r : Result ⊤ PlayEnd) → k.sure → p.written ≡ Some [] → q.written ≡ Some bytes →
      Plays profiles true held laid (l ∷ []) (record { desk = d; keeper = k; out = p; reads = m }) (record { desk = e; keeper = j; out = q; reads = n }) (Ok x) → Puts o t r (first_line bytes) →
      PlaysFirsts profiles held laid (l ∷ []) (record { desk = d; keeper = k; out = o; reads = m }) (record { desk = e; keeper = j; out = t; reads = n }) r
  tells d e k j o p q t m n bytes x r sure empty full plays put =
      let handled = one_answered plays.handled plays.rest plays.front plays.whole plays.fated (plays.shown refl) (plays.steady sure).0 in
      let now = after profiles held l in
      let lays = laid_after profiles held now laid l in
      let first = first_line (reply_of profiles held l) in
      let text : bytes ≡ output profiles held plays.handled = appended p.written q.written bytes (output profiles held plays.handled) empty full plays.written.whole in
      let reply : bytes ≡ reply_of profiles held l = text ∙ ap (output profiles held) handled ∙ append-nil (reply_of profiles held l) in
      let is : IsHeld profiles true e j.texts now = subst (λ (hs : List (Line × Fate)). IsHeld profiles true e j.texts (held_after_all profiles held hs)) handled plays.state in
      let lies : AreLaid e lays = subst (λ (hs : List (Line × Fate)). AreLaid e (laid_after_all profiles held laid hs)) handled plays.lies in
      record {
        put = subst (λ (text : List ℕ). Puts o t r text) (ap first_line reply ∙ sym (append-nil first)) put;
        read_rows = (let few = within_one plays.handled plays.rest (Ok x) plays.front in omega (arith, few, plays.readings));
        state = on_ok r (
          now,
          lays,
          is,
          lies,
          (λ others. ap (λ (text : List ℕ). text ++ first_lines profiles now others) (sym (append-nil first))),
          (λ others. omega arith),
        );
      }
    where
      appended : (a b : Option (List ℕ)) (bytes text : List ℕ) → a ≡ Some [] → b ≡ Some bytes → Appends a b text → bytes ≡ text
      appended a b bytes text e f h = subst (λ (o : Option (List ℕ)). Appends (Some []) o text) f (subst (λ (o : Option (List ℕ)). Appends o b text) e h)

  -- the same of lines that are this one
  pub starves_at : (ls : List Line) (d e : DeskLists) (k j : Kept) (o p q : Seen) (m n : ℕ) (r : Result ⊤ PlayEnd) → ls ≡ l ∷ [] →
      Plays profiles true held laid ls (record { desk = d; keeper = k; out = p; reads = m }) (record { desk = e; keeper = j; out = q; reads = n }) r →
      PlaysFirsts profiles held laid (l ∷ []) (record { desk = d; keeper = k; out = o; reads = m }) (record { desk = e; keeper = j; out = o; reads = n }) (Err play_end.NoMemory)
  starves_at ls d e k j o p q m n r is plays =
      starves d e k j o p q m n r (subst (λ (ls : List Line). Plays profiles true held laid ls (record { desk = d; keeper = k; out = p; reads = m }) (record { desk = e; keeper = j; out = q; reads = n }) r) is plays)

  pub tells_at : (ls : List Line) (d e : DeskLists) (k j : Kept) (o p q t : Seen) (m n : ℕ) (bytes : List ℕ) (x : ⊤) (r : Result ⊤ PlayEnd) → ls ≡ l ∷ [] → k.sure → p.written ≡ Some [] → q.written ≡ Some bytes →
      Plays profiles true held laid ls (record { desk = d; keeper = k; out = p; reads = m }) (record { desk = e; keeper = j; out = q; reads = n }) (Ok x) → Puts o t r (first_line bytes) →
      PlaysFirsts profiles held laid (l ∷ []) (record { desk = d; keeper = k; out = o; reads = m }) (record { desk = e; keeper = j; out = t; reads = n }) r
  tells_at ls d e k j o p q t m n bytes x r is sure empty full plays put =
      tells d e k j o p q t m n bytes x r sure empty full
      (subst (λ (ls : List Line). Plays profiles true held laid ls (record { desk = d; keeper = k; out = p; reads = m }) (record { desk = e; keeper = j; out = q; reads = n }) (Ok x)) is plays) put
