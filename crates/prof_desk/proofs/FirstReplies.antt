-- What the opening of a session and one request of it are answered.
use Rattle.std.proofs.Common.{◌≡◌, ◌∙◌, ℕ, ◌<◌, ◌≤◌, Bool, true, false, cond, List, [], ◌∷◌, ◌++◌, length, get_or, Option, None, Some, Ok, unwrap_or, refl, sym, ap, arith, append-nil}
use Rattle.std.specs.Prelude.{codes, nat_lt}
use Rattle.std.specs.Fmt.{decimal}
use Rattle.std.specs.Option.{option_map, option_map_or}
use Rattle.std.proofs.lemmas.Bool.{ltb-true, ltb-false}
use Rattle.std.proofs.lemmas.Option.{slice_get-get_or, slice_get_past}
use Rattle.prof_io.specs.Named.{value_at, with_own}
use Rattle.prof_io.proofs.NamedLemmas.{names_same, value_at-with_own}
use Rattle.prof_tables.specs.Profiles.{ProfileTables}
use Rattle.prof_tables.specs.Threads.{ThreadTables}
use Rattle.prof_path.specs.Terms.{is_long_search}
use Rattle.prof_request.specs.declared.request.Command.{Command}
use Rattle.prof_request.specs.declared.request.Command.TheVariants as ask
use Rattle.prof_request.specs.declared.request.Request.{Request}
use Rattle.prof_machine.specs.declared.refusal.Refusal.{Refusal}
use Rattle.prof_machine.specs.declared.refusal.Refusal.TheVariants.{NoSession, NoThread, LongSearch}
use Rattle.prof_machine.specs.declared.refusal.Reply.{Reply}
use Rattle.prof_machine.specs.declared.refusal.Reply.TheVariants.{Done, Markers, Refused, Tree}
use Rattle.prof_machine.specs.Known.{Known, markers_of, no_profile, no_thread, thread_at, thread_of, tree_of}
use Rattle.prof_machine.specs.Session.{Session, opened, present}
use Rattle.prof_machine.specs.Machine.{After, asked, made, open_refusal, profile_of, stays, step, unopened as unopened_step}
use Rattle.prof_machine.specs.Play.{Answered, Fate, Held, Line, held_by, own_step}
use Rattle.prof_reply.specs.Lines.{line}
use Rattle.prof_reply.specs.Refusals.{refusal_text}
use Rattle.prof_reply.specs.Replies.{reply_bytes}
use Rattle.prof_script.specs.Playing.{output, thread_shown}
use Rattle.prof_script.specs.Readings.{Laid, laid_anew, readings_at, relaid}
use Rattle.prof_session_desk.proofs.MakeLemmas.{no_thread_there, room_there}
use Rattle.prof_desk.specs.Opened.{opened_readings, opened_replies, opening, own_request}
use Rattle.prof_desk.specs.Output.{first_rows, markers_replies, markers_reply, named_main, tree_replies, unopened, unopened_with}

module _ (p : ProfileTables) (digest : List ℕ) where
  abbrev profiles : List (List ℕ × Known)
  profiles = named_main p digest

  abbrev known : Known
  known = record { threads = p.threads; digest = digest }

  abbrev own : ℕ → Session
  own thread = opened (codes "main") thread

  main_known : value_at profiles (codes "main") ≡ Some known
  main_known = ap (λ b. cond b (Some known) None) (names_same (codes "main") (codes "main") refl)

  profile_is : (thread : ℕ) → profile_of profiles (own thread) ≡ known
  profile_is thread = ap (λ o. unwrap_or o no_profile) main_known

  first_step : (thread : ℕ) (o : Option Refusal) → open_refusal (Some known) thread 0 ≡ o → own_step profiles (unopened_with []) (own_request (opening thread)) ≡ made None (own thread) o
  first_step thread o e = ap (λ v. made None (own thread) (open_refusal v thread 0)) main_known ∙ ap (made None (own thread)) e

  -- a line that is answered by such a step
  answered_so : (held : Held) (request : Request) (after : After) (ls : List (Line × Fate)) → own_step profiles held request ≡ after
      → output profiles held ((Ok request, Answered) ∷ ls) ≡ reply_bytes (thread_shown profiles (held_by held request after) (Ok request)) after.reply ++ output profiles (held_by held request after) ls
  answered_so held request after ls e =
      ap (λ (x : After). reply_bytes (thread_shown profiles (held_by held request x) (Ok request)) x.reply ++ output profiles (held_by held request x) ls) e

  -- where the thread isn't there, there is no session
  not_opened : (thread : ℕ) (command : Command) (count : ℕ) → open_refusal (Some known) thread 0 ≡ Some (NoThread count)
      → unopened_step profiles 0 None command ≡ stays None None (Refused NoSession) → opened_replies p digest thread command ≡ unopened count
  unfolding opened_replies
  not_opened thread command count e h =
      answered_so (unopened_with []) (own_request (opening thread)) (stays None None (Refused (NoThread count))) ((Ok (own_request command), Answered) ∷ []) (first_step thread (Some (NoThread count)) e)
      ∙ ap (λ l. line (refusal_text (NoThread count)) ++ l) (answered_so (unopened_with []) (own_request command) (stays None None (Refused NoSession)) [] h ∙ append-nil (line (refusal_text NoSession)))

  -- the session that was opened
  abbrev with_one : Session → Held
  with_one s = record { sessions = (codes "cli", s) ∷ []; kept = [] }

  own_there : (s : Session) → value_at ((codes "cli", s) ∷ []) (codes "cli") ≡ Some s
  own_there s = ap (λ b. cond b (Some s) None) (names_same (codes "cli") (codes "cli") refl)

  own_again : (s : Session) → value_at (with_own (codes "cli") (Some s) ((codes "cli", s) ∷ [])) (codes "cli") ≡ Some s
  own_again s = value_at-with_own (codes "cli") (Some s) ((codes "cli", s) ∷ []) (codes "cli") ∙ ap (λ b. cond b (Some s) (value_at ((codes "cli", s) ∷ []) (codes "cli"))) (names_same (codes "cli") (codes "cli") refl)

  is_opened : (thread : ℕ) (command : Command) (reply : Reply) → open_refusal (Some known) thread 0 ≡ None → asked known (own thread) None command ≡ stays (Some (own thread)) None reply
      → opened_replies p digest thread command ≡ line (codes "ok " ++ decimal 0) ++ reply_bytes (Some (thread_at known thread)) reply
  unfolding opened_replies
  is_opened thread command reply e h =
      let s = own thread in
      let second : own_step profiles (with_one s) (own_request command) ≡ stays (Some s) None reply =
      ap (λ o. step profiles (length (with_one s).sessions) o None command) (own_there s) ∙ ap (λ k. asked k s None command) (profile_is thread) ∙ h in
      let shown : thread_shown profiles (held_by (with_one s) (own_request command) (stays (Some s) None reply)) (Ok (own_request command)) ≡ Some (thread_at known thread) =
      ap (option_map (λ (x : Session). thread_of (profile_of profiles x) (present x))) (own_again s) ∙ ap (λ k. Some (thread_of k (present s))) (profile_is thread) in
      answered_so (unopened_with []) (own_request (opening thread)) (stays (Some s) None (Done 0)) ((Ok (own_request command), Answered) ∷ []) (first_step thread None e)
      ∙ ap (λ l. line (codes "ok " ++ decimal 0) ++ l)
      (answered_so (with_one s) (own_request command) (stays (Some s) None reply) [] second ∙ append-nil _ ∙ ap (λ t. reply_bytes t reply) shown)

  -- ---- the tree of the first thread

  tree_from : (threads : List ThreadTables) → p.threads ≡ threads → opened_replies p digest 0 ask.Tree ≡ tree_replies threads
  tree_from [] e = not_opened 0 ask.Tree 0 (no_thread_there known 0 0 0 (sym (ap length e)) (omega arith)) refl
  tree_from (t ∷ threads) e =
      let many : 0 < length p.threads = omega (arith, ap length e) in
      is_opened 0 ask.Tree (Tree (tree_of (thread_at known 0) (present (own 0)))) (room_there known 0 0 (length p.threads) refl many (omega arith)) refl
      ∙ ap (λ (u : ThreadTables). line (codes "ok " ++ decimal 0) ++ reply_bytes (Some u) (Tree (tree_of u (present (own 0))))) (ap (λ l. get_or l 0 no_thread) e)

  pub replies_tree : opened_replies p digest 0 ask.Tree ≡ tree_replies p.threads
  replies_tree = tree_from p.threads refl

  -- ---- the markers of a thread

  long_or_found : (b : Bool) (t : ThreadTables) (x y : Reply) → reply_bytes (Some t) (cond b x y) ≡ cond b (reply_bytes (Some t) x) (reply_bytes (Some t) y)
  long_or_found true t x y = refl
  long_or_found false t x y = refl

  pub replies_markers : (thread : ℕ) (search : List ℕ) → opened_replies p digest thread (ask.Markers search) ≡ markers_replies p.threads thread search
  replies_markers thread search = at (nat_lt thread (length p.threads)) refl
    where
      replies : Option ThreadTables → List ℕ
      replies o = option_map_or (λ (t : ThreadTables). line (codes "ok " ++ decimal 0) ++ markers_reply t search) o (unopened (length p.threads))

      at : (b : Bool) → nat_lt thread (length p.threads) ≡ b → opened_replies p digest thread (ask.Markers search) ≡ markers_replies p.threads thread search
      at false f =
          let past : length p.threads ≤ thread = ltb-false thread (length p.threads) f in
          not_opened thread (ask.Markers search) (length p.threads) (no_thread_there known thread 0 (length p.threads) refl past) refl
          ∙ sym (ap (λ o. option_map_or (λ (t : ThreadTables). line (codes "ok " ++ decimal 0) ++ markers_reply t search) o (unopened (length p.threads))) (slice_get_past p.threads thread past))
      at true f =
          let within : thread < length p.threads = ltb-true thread (length p.threads) f in
          let t = thread_at known thread in
          is_opened thread (ask.Markers search) (cond (is_long_search search) (Refused LongSearch) (Markers (markers_of t (present (own thread)) search))) (room_there known thread 0 (length p.threads) refl within (omega arith)) refl
          ∙ ap (λ l. line (codes "ok " ++ decimal 0) ++ l) (long_or_found (is_long_search search) t (Refused LongSearch) (Markers (markers_of t (present (own thread)) search)))
          ∙ sym (ap (λ o. option_map_or (λ (t : ThreadTables). line (codes "ok " ++ decimal 0) ++ markers_reply t search) o (unopened (length p.threads))) (slice_get-get_or p.threads thread no_thread within))

  -- ---- how many rows they read

  abbrev rows_after : ℕ → Command → After → ℕ
  rows_after thread command x =
      let now = value_at (held_by (unopened_with []) (own_request (opening thread)) x).sessions (codes "cli") in
      readings_at command now (value_at (with_own (codes "cli") (relaid profiles (opening thread) None now None) []) (codes "cli"))

  rows_so : (thread : ℕ) (command : Command) (x : After) → own_step profiles (unopened_with []) (own_request (opening thread)) ≡ x → opened_readings p digest thread command ≡ rows_after thread command x
  unfolding opened_readings
  rows_so thread command x e = let same = ap (rows_after thread command) e in omega (arith, same)

  rows_opened : (thread : ℕ) (command : Command) → rows_after thread command (stays (Some (own thread)) None (Done 0)) ≡ readings_at command (Some (own thread)) (Some (laid_anew known (own thread)))
  rows_opened thread command =
      let s = own thread in
      ap (λ (o : Option Session). readings_at command o (value_at (with_own (codes "cli") (relaid profiles (opening thread) None o None) []) (codes "cli"))) (own_there s)
      ∙ ap (readings_at command (Some s)) (value_at-with_own (codes "cli") (Some (laid_anew (profile_of profiles s) s)) [] (codes "cli")
      ∙ ap (λ b. cond b (Some (laid_anew (profile_of profiles s) s)) None) (names_same (codes "cli") (codes "cli") refl) ∙ ap (λ k. Some (laid_anew k s)) (profile_is thread))

  tree_rows_from : (threads : List ThreadTables) → p.threads ≡ threads → opened_readings p digest 0 ask.Tree ≤ first_rows threads
  tree_rows_from [] e =
      let none = rows_so 0 ask.Tree (stays None None (Refused (NoThread 0))) (first_step 0 (Some (NoThread 0)) (no_thread_there known 0 0 0 (sym (ap length e)) (omega arith))) in
      omega (arith, none)
  tree_rows_from (t ∷ threads) e =
      let many : 0 < length p.threads = omega (arith, ap length e) in
      let some = rows_so 0 ask.Tree (stays (Some (own 0)) None (Done 0)) (first_step 0 None (room_there known 0 0 (length p.threads) refl many (omega arith))) ∙ rows_opened 0 ask.Tree in
      let here : length (thread_at known 0).shared.stacks ≡ length t.shared.stacks = ap (λ l. length (get_or l 0 no_thread).shared.stacks) e in
      omega (arith, some, here)

  pub readings_tree : opened_readings p digest 0 ask.Tree ≤ first_rows p.threads
  readings_tree = tree_rows_from p.threads refl

  none_read : (search : List ℕ) (own : Option Session) (laid : Option Laid) → readings_at (ask.Markers search) own laid ≡ 0
  none_read search None laid = refl
  none_read search (Some s) None = refl
  none_read search (Some s) (Some l) = refl

  pub readings_markers : (thread : ℕ) (search : List ℕ) → opened_readings p digest thread (ask.Markers search) ≡ 0
  readings_markers thread search = rows_so thread (ask.Markers search) _ refl ∙ none_read search _ _
