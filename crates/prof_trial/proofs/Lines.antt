-- Lines that are answered one after another.
use Rattle.std.proofs.Common.{◌≡◌, ◌∙◌, ℕ, zero, suc, ◌+◌, ◌≤◌, List, [], ◌∷◌, ◌++◌, map, length, drop, true, Some, Result, Ok, Err, OnOk, refl, sym, ap, subst, arith, append_assoc}
use Rattle.std.specs.Prelude.{⊤, slice_get}
use Rattle.prof_io.specs.Outside.{Seen}
use Rattle.prof_machine.specs.Known.{Known}
use Rattle.prof_machine.specs.Play.{Held, Line}
use Rattle.prof_request.proofs.OutcomeLemmas.{line_of}
use Rattle.prof_script.specs.declared.playing.PlayEnd.{PlayEnd}
use Rattle.prof_script.specs.declared.playing.PlayEnd.TheVariants as play_end
use Rattle.prof_script.specs.Lines.{lines, lines_of}
use Rattle.prof_script.specs.Playing.{IsHeld, Stage}
use Rattle.prof_script.specs.Readings.{AreLaid, Laid, laid_after}
use Rattle.prof_writer.proofs.Outputs.{writes_none, writes_stop, writes_then}
use Rattle.prof_trial.specs.Firsts.{first_line}
use Rattle.prof_trial.specs.Trial.{PlaysFirsts, Puts, after, asked, first_lines, readings, reply_of, trial_lines}

-- ---- the lines of the demo

-- a line at a place is the first of those from there on
from_there : (ls : List (List ℕ)) (n : ℕ) (l : List ℕ) → slice_get ls n ≡ Some l → drop n ls ≡ l ∷ drop (suc n) ls
from_there [] n l e = absurd (cc)
from_there (k ∷ ls) zero l e = let same : k ≡ l = cc in ap (λ x. x ∷ ls) same
from_there (k ∷ ls) (suc n) l e = from_there ls n l e

pub from_place : (ls : List (List ℕ)) (n : ℕ) (l : List ℕ) → slice_get ls n ≡ Some l → drop n ls ≡ l ∷ drop (n + 1) ls
from_place ls n l e = let next : suc n ≡ n + 1 = omega arith in from_there ls n l e ∙ ap (λ m. l ∷ drop m ls) next

-- each of them is one line
abbrev are_lines : List (List ℕ) → Type 0
are_lines [] = ⊤
are_lines (l ∷ ls) = (lines l ≡ l ∷ []) × are_lines ls

is_line : (ls : List (List ℕ)) (n : ℕ) (l : List ℕ) → are_lines ls → slice_get ls n ≡ Some l → lines l ≡ l ∷ []
is_line [] n l are e = absurd (cc)
is_line (k ∷ ls) zero l are e = let same : k ≡ l = cc in subst (λ x. lines x ≡ x ∷ []) same are.0
is_line (k ∷ ls) (suc n) l are e = is_line ls n l are.1 e

pub one_line : (n : ℕ) (l : List ℕ) → slice_get trial_lines n ≡ Some l → lines_of l ≡ line_of l ∷ []
one_line n l e = ap (map line_of) (is_line trial_lines n l (refl, (refl, (refl, (refl, (refl, (refl, (refl, (refl, (refl, tt))))))))) e)

-- all of them are left at first, and none behind the last
pub all_left : asked ≡ [] ++ map line_of (drop 0 trial_lines)
all_left = refl

none_behind : (ls : List (List ℕ)) (n : ℕ) → length ls ≤ n → drop n ls ≡ []
none_behind [] zero within = refl
none_behind [] (suc n) within = refl
none_behind (l ∷ ls) zero within = absurd (omega (arith, within))
none_behind (l ∷ ls) (suc n) within = none_behind ls n (omega (arith, within))

pub none_left : (n : ℕ) → 9 ≤ n → map line_of (drop n trial_lines) ≡ []
none_left n over = ap (map line_of) (none_behind trial_lines n over)

-- ---- what is put

puts_then : (old mid new : Seen) (x : ⊤) (r : Result ⊤ PlayEnd) (text more : List ℕ) → Puts old mid (Ok x) text → Puts mid new r more → Puts old new r (text ++ more)
puts_then old mid new x (Ok y) text more so put = writes_then so put
puts_then old mid new x (Err play_end.OutFault) text more so put = writes_then so put
puts_then old mid new x (Err play_end.NoMemory) text more so (front, rest, split, w) =
    (text ++ front, rest, ap (λ t. text ++ t) split ∙ sym (append_assoc text front rest), writes_then so w)

puts_on : (old new : Seen) (e : PlayEnd) (text more : List ℕ) → Puts old new (Err e) text → Puts old new (Err e) (text ++ more)
puts_on old new play_end.OutFault text more put = writes_stop more put
puts_on old new play_end.NoMemory text more (front, rest, split, w) =
    (front, rest ++ more, ap (λ t. t ++ more) split ∙ append_assoc front rest more, w)

on_ok : {P Q : Type 0} (r : Result ⊤ PlayEnd) → (P → Q) → OnOk r P → OnOk r Q
on_ok (Ok x) f p = f p
on_ok (Err e) f p = tt

module _ (profiles : List (List ℕ × Known)) where
  -- more lines have more to write, and no fewer readings
  first_lines_on : (held : Held) (ls others : List Line) → (more : List ℕ) × (first_lines profiles held (ls ++ others) ≡ first_lines profiles held ls ++ more)
  first_lines_on held [] others = (first_lines profiles held others, refl)
  first_lines_on held (l ∷ ls) others =
      let first = first_line (reply_of profiles held l) in
      let rest = first_lines_on (after profiles held l) ls others in
      (rest.0, ap (λ t. first ++ t) rest.1 ∙ sym (append_assoc first (first_lines profiles (after profiles held l) ls) rest.0))

  readings_on : (held : Held) (laid : List (List ℕ × Laid)) (ls others : List Line) → readings profiles held laid ls ≤ readings profiles held laid (ls ++ others)
  readings_on held laid [] others = omega arith
  readings_on held laid (l ∷ ls) others =
      let now = after profiles held l in
      let rest = readings_on now (laid_after profiles held now laid l) ls others in
      omega (arith, rest)

  -- no line was answered yet
  pub firsts_none : (held : Held) (laid : List (List ℕ × Laid)) (s : Stage) → IsHeld profiles true s.desk s.keeper.texts held → AreLaid s.desk laid → PlaysFirsts profiles held laid [] s s (Ok tt)
  firsts_none held laid s is lies = record {
    put = writes_none s.out;
    read_rows = omega arith;
    state = (held, laid, is, lies, (λ others. refl), (λ others. omega arith));
  }

  -- one stopped, and those behind it weren't answered
  pub firsts_stop : (held : Held) (laid : List (List ℕ × Laid)) (ls others : List Line) (old new : Stage) (e : PlayEnd) → PlaysFirsts profiles held laid ls old new (Err e)
      → PlaysFirsts profiles held laid (ls ++ others) old new (Err e)
  firsts_stop held laid ls others old new e plays =
      let more = first_lines_on held ls others in
      let few = readings_on held laid ls others in
      record {
        put = subst (λ t. Puts old.out new.out (Err e) t) (sym more.1) (puts_on old.out new.out e (first_lines profiles held ls) more.0 plays.put);
        read_rows = omega (arith, few, plays.read_rows);
        state = tt;
      }

  -- lines were answered, and others after them
  pub firsts_then : (held : Held) (laid : List (List ℕ × Laid)) (ls others : List Line) (old mid new : Stage) (r : Result ⊤ PlayEnd) → PlaysFirsts profiles held laid ls old mid (Ok tt)
      → ((now : Held) (lays : List (List ℕ × Laid)) → IsHeld profiles true mid.desk mid.keeper.texts now → AreLaid mid.desk lays → PlaysFirsts profiles now lays others mid new r)
      → PlaysFirsts profiles held laid (ls ++ others) old new r
  firsts_then held laid ls others old mid new r so plays = by_state so.state
    where
      State : Type 0
      State = OnOk r ((now : Held) × (lays : List (List ℕ × Laid)) × IsHeld profiles true new.desk new.keeper.texts now × AreLaid new.desk lays
          × ((more : List Line) → first_lines profiles held ((ls ++ others) ++ more) ≡ first_lines profiles held (ls ++ others) ++ first_lines profiles now more)
          × ((more : List Line) → readings profiles held laid ((ls ++ others) ++ more) ≡ readings profiles held laid (ls ++ others) + readings profiles now lays more))

      by_state : OnOk {T = ⊤} {E = PlayEnd} (Ok tt) ((now : Held) × (lays : List (List ℕ × Laid)) × IsHeld profiles true mid.desk mid.keeper.texts now × AreLaid mid.desk lays
          × ((more : List Line) → first_lines profiles held (ls ++ more) ≡ first_lines profiles held ls ++ first_lines profiles now more)
          × ((more : List Line) → readings profiles held laid (ls ++ more) ≡ readings profiles held laid ls + readings profiles now lays more))
          → PlaysFirsts profiles held laid (ls ++ others) old new r
      by_state (now, lays, is, lie, texts, rows) =
          let next = plays now lays is lie in
          let all = first_lines profiles held ls in
          let whole = rows others in
          record {
            put = subst (λ t. Puts old.out new.out r t) (sym (texts others)) (puts_then old.out mid.out new.out tt r all (first_lines profiles now others) so.put next.put);
            read_rows = omega (arith, so.read_rows, next.read_rows, whole);
            state = on_ok r (λ (end, ends, ended, laid_so, texts_then, rows_then). (
              end,
              ends,
              ended,
              laid_so,
              (λ more. ap (first_lines profiles held) (append_assoc ls others more) ∙ texts (others ++ more) ∙ ap (λ t. all ++ t) (texts_then more)
                  ∙ sym (append_assoc all (first_lines profiles now others) (first_lines profiles end more)) ∙ ap (λ t. t ++ first_lines profiles end more) (sym (texts others))),
              (λ more.
                  let same : readings profiles held laid ((ls ++ others) ++ more) ≡ readings profiles held laid (ls ++ (others ++ more)) = ap (readings profiles held laid) (append_assoc ls others more) in
                  omega (arith, same, rows (others ++ more), rows_then more, whole)),
            )) next.state;
          }
