-- The demo on a desk that has its profile and nothing else.
use Rattle.std.proofs.Common.{◌≡◌, ℕ, ◌+◌, ◌≤◌, List, [], true, Option, Some, Result, refl, sym, ap, subst}
use Rattle.std.specs.Prelude.{⊤}
use Rattle.prof_io.specs.Shelf.{Shelf}
use Rattle.prof_machine.specs.Play.{Held}
use Rattle.prof_script.specs.declared.playing.PlayEnd.{PlayEnd}
use Rattle.prof_script.specs.Playing.{IsHeld, Keeps, Stage}
use Rattle.prof_script.specs.Readings.{AreLaid, Laid}
use Rattle.prof_session_desk.specs.Desk.{DeskLists, sessions_of}
use Rattle.prof_trial.specs.Trial.{PlaysFirsts, Puts, asked, no_session, trial_profiles, trial_readings, trial_text}

module _ (number : ℕ) {old new : Stage} {r : Result ⊤ PlayEnd} where
  pub plays_whole : {sure : Type 0} (d : DeskLists) (texts : Option Shelf) → d ≡ record { profiles = trial_profiles number; seats = [] } → texts ≡ Some [] → sure
      → ((held : Held) (laid : List (List ℕ × Laid)) → sure → IsHeld d.profiles true d texts held → AreLaid d laid → PlaysFirsts d.profiles held laid asked old new r)
      → PlaysFirsts (trial_profiles number) no_session [] asked old new r
  plays_whole d texts bare none sure plays =
      let held : IsHeld d.profiles true d texts no_session = record { known = refl; sessions = ap sessions_of bare; kept = λ _. subst (λ t. Keeps t []) (sym none) (λ name. refl) } in
      let laid : AreLaid d [] = subst (λ (x : DeskLists). AreLaid x []) (sym bare) (λ name. refl) in
      subst (λ ps. PlaysFirsts ps no_session [] asked old new r) (ap (λ (x : DeskLists). x.profiles) bare) (plays no_session [] sure held laid)

  pub writes_whole : PlaysFirsts (trial_profiles number) no_session [] asked old new r → Puts old.out new.out r (trial_text number)
  unfolding trial_text
  writes_whole plays = plays.put

  pub reads_whole : PlaysFirsts (trial_profiles number) no_session [] asked old new r → new.reads ≤ old.reads + trial_readings number
  unfolding trial_readings
  reads_whole plays = plays.read_rows
