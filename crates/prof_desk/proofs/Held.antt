-- The threads that a profile holds, and how answers end.
use Rattle.std.proofs.Common.{◌≡◌, ◌∙◌, ◌<◌, ◌≤◌, ℕ, List, [], ◌∷◌, length, map, get_or, None, Some, Ok, Err, Result, OnOk, OnErr, refl, sym, ap, zero-add, append-nil, arith}
use Rattle.std.specs.List.{enumerate_from, slice_get}
use Rattle.std.specs.Prelude.{⊤}
use Rattle.std.proofs.lemmas.List.{get_or-map, length-map}
use Rattle.std.proofs.lemmas.List.FromFn.{get_or-enumerate_from, length-enumerate_from}
use Rattle.std.proofs.lemmas.Option.{slice_get-get_or, slice_get_past}
use Rattle.prof_io.specs.Outside.{Seen}
use Rattle.prof_io.specs.Sinks.{Wrote}
use Rattle.prof_io.specs.declared.copying.OutFault.{OutFault}
use Rattle.prof_tables.specs.Threads.{ThreadTables}
use Rattle.prof_tables.specs.declared.thread.Thread.{Thread}
use Rattle.std.specs.declared.alloc.Global.{Global}
use Rattle.std.specs.declared.rc.Rc.{Rc}
use Rattle.prof_desk.specs.Playing.{Leaves, status_of}
use Rattle.prof_script.specs.declared.playing.PlayEnd.{PlayEnd}
use Rattle.prof_script.specs.declared.playing.PlayEnd.TheVariants as play_end
use Rattle.prof_writer.proofs.Outputs.{writes_as, writes_ok, writes_stop}

-- answers that end by a text leave it, or a front of it where the output failed
pub leaves_played : (old new : Seen) (text : List ℕ) (written : Result ⊤ OutFault) (played : Result ⊤ PlayEnd)
    → OnOk written (played ≡ Ok tt) → OnErr written (played ≡ Err play_end.OutFault) → Wrote old new written text → Leaves old new (status_of played) text
leaves_played old new text (Ok x) played ok err w = rw ok (writes_ok w)
leaves_played old new text (Err e) played ok err w = rw err (writes_as (append-nil text) (writes_stop [] w))

-- a thread that is held
abbrev pub value : Rc Thread Global → ThreadTables
value t = t.value

pub nothing_held : {X : Type 0} (xs : List X) → None ≡ slice_get xs 0 → xs ≡ []
nothing_held [] e = refl
nothing_held (x ∷ xs) e = cc e

module _ (xs : List (Rc Thread Global)) where
  within : (i : ℕ) → i < length xs → i < length (map value xs)
  within i below = let same = length-map xs value in omega arith

  -- the thread at a place, and none past the last
  pub held_at : (ts : List ThreadTables) (i : ℕ) (x : Rc Thread Global) (t : ThreadTables) → map value xs ≡ ts → i < length xs → x ≡ get_or xs i x → t ≡ value x → slice_get ts i ≡ Some t
  held_at ts i x t same below at is =
      ap (λ l. slice_get l i) (sym same) ∙ slice_get-get_or (map value xs) i t (within i below)
      ∙ ap (λ u. Some u) (get_or-map value xs i x t below ∙ ap value (sym at) ∙ sym is)

  pub held_past : (ts : List ThreadTables) (i : ℕ) → map value xs ≡ ts → length xs ≤ i → slice_get ts i ≡ None
  held_past ts i same past = slice_get_past ts i (past_all (ap length (sym same) ∙ length-map xs value))
    where
      past_all : length ts ≡ length xs → length ts ≤ i
      past_all e = omega arith

  abbrev pub numbered : List (ℕ × ThreadTables)
  numbered = enumerate_from 0 (map value xs)

  pub length-numbered : length numbered ≡ length xs
  length-numbered = length-enumerate_from 0 (map value xs) ∙ length-map xs value

  pub numbered_at : (i : ℕ) (x : Rc Thread Global) (t : ThreadTables) → i < length xs → x ≡ get_or xs i x → t ≡ value x → get_or numbered i (i, t) ≡ (i, t)
  numbered_at i x t below at is =
      let pair : ℕ → ThreadTables → ℕ × ThreadTables = λ n u. (n, u) in
      get_or-enumerate_from 0 (map value xs) i (i, t) (within i below) ∙ ap (λ n. pair n (get_or (map value xs) i t)) (zero-add i)
      ∙ ap (pair i) (get_or-map value xs i x t below ∙ ap value (sym at) ∙ sym is)
