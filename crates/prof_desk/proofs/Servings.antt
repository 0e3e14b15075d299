-- Connections that are served once the profiles were read.
use Rattle.std.proofs.KnownBytes.{Appends-trans}
use Rattle.std.specs.Io.KnownBytes.{Appends}
use Rattle.std.proofs.Common.{IsOk, OnOk, OnErr, is_err, eq-eqb, take, ◌||◌, ◌≡◌, ◌≢◌, ◌∙◌, ◌⊎◌, inl, inr, ◌<◌, ◌≤◌, ◌+◌, min, ℕ, zero, suc, List, [], ◌∷◌, ◌++◌, map, length, get_or, Bool, not, ◌&&◌, true, false, Option, None, Some, IfSome, Result, Ok, Err, refl, sym, ap, subst, arith, append-nil, length-append, unwrap_or}
use Rattle.std.specs.Prelude.{⊤}
use Rattle.std.specs.List.{list_any}
use Rattle.std.specs.Option.{option_map, option_and_then}
use Rattle.std.specs.Str.{bytes_eq}
use Rattle.std.proofs.lemmas.List.{length-map, map-append}
use Rattle.prof_io.specs.Named.{value_at}
use Rattle.prof_tables.specs.Profiles.{ProfileTables}
use Rattle.prof_read.specs.declared.read.Form.{Form}
use Rattle.prof_words.specs.Files.{names_differ}
use Rattle.prof_words.proofs.Names.{bytes_eq-sym}
use Rattle.prof_desk.specs.declared.outcome.Stop.{Stop}
use Rattle.prof_desk.specs.declared.outcome.Stop.TheVariants as stop
use Rattle.prof_io.specs.Causes.{RoseBy, Rose}
use Rattle.prof_io.specs.Connections.{served}
use Rattle.prof_io.specs.Outside.{Kept, Seen}
use Rattle.prof_io.specs.Sinks.{Wrote}
use Rattle.prof_io.specs.Shelf.{Place, Present, Served, Shelf}
use Rattle.prof_machine.specs.Known.{Known}
use Rattle.prof_machine.specs.Play.{Held, held_after_all, shown_in}
use Rattle.prof_script.specs.Playing.{IsHeld, Keeps as HasTexts, Stage, failed_count as failed_lines}
use Rattle.prof_script.specs.Readings.{AreLaid, Laid}
use Rattle.prof_serve.specs.Answers.{AreMet, Handled, played}
use Rattle.prof_serve.specs.Readings.{AreSettled, messages_readings}
use Rattle.prof_serving.specs.Halls.{AreGiven, ServesAll, ServesTold, all_of, all_served}
use Rattle.prof_session_desk.specs.Desk.{DeskLists, sessions_of}
use Rattle.prof_desk.specs.declared.status.Status.{Status}
use Rattle.prof_desk.specs.declared.status.Status.TheVariants as status
use Rattle.prof_desk.specs.declared.words.Order.{Order}
use Rattle.prof_desk.specs.declared.words.Order.TheVariants.{Serve}
use Rattle.prof_desk.specs.Inputs.{Input, name_at, profile_input}
use Rattle.prof_desk.specs.Orders.{Kind, a_profile, can_end, files_of, least_of}
use Rattle.prof_desk.specs.Outcomes.{Reads, ended_by, stopped_by}
use Rattle.prof_desk.specs.Output.{output_of, readings_of, served_profiles, served_text, served_line, serving_line, unopened_with}
use Rattle.prof_desk.specs.Playing.{Leaves}
use Rattle.prof_desk.specs.Ran.{DoesServing, EndsServing, HasWritten, Outside, Tells}
use Rattle.prof_desk.specs.Ways.{Ways, no_ways}
use Rattle.prof_writer.proofs.Outputs.{writes_none, writes_ok, writes_stop, writes_then}
use Rattle.prof_serving.proofs.Visits.{none_yet}
use Rattle.prof_desk.proofs.Carrying.{SoFar, ends, file_behind, gives_up, keeps_nothing, keeps_unasked, reads, serves_unasked, starts, stops}
use Rattle.prof_desk.proofs.Scripts.{failed_in, fate_in, if_some, no_fault, not_done, tells_of}

-- ---- what is told of a hall before and behind its opening

length_served : (earlier : List Served) (present : Option Present) (a : List ℕ) (m n : ℕ) → length (served earlier present a m) ≡ length (served earlier present a n)
length_served earlier None a m n = refl
length_served earlier (Some p) a m n = length-append earlier _ ∙ sym (length-append earlier _)

module _ (profiles : List (List ℕ × Known)) (held : Held) (now : Option (List Served)) (left : Option (List (List ℕ))) (hss : List (List Handled)) where
  told_before : (earlier : Option (List Served)) (present : Option Present) (written : Option (List ℕ)) (m n : ℕ) (coming : Option (List (List ℕ)))
      → ServesTold profiles held (option_and_then (λ e. option_map (λ a. served e present a n) written) earlier) coming now left hss
      → ServesTold profiles held (option_and_then (λ e. option_map (λ a. served e present a m) written) earlier) coming now left hss
  told_before None present written m n coming h = tt
  told_before (Some e) present None m n coming h = tt
  told_before (Some e) present (Some a) m n None h = tt
  told_before (Some e) present (Some a) m n (Some c) h = record {
    before = h.before;
    added = h.added;
    rest = h.rest;
    whole = h.whole;
    same = h.same ∙ length_served e present a n m;
    came = h.came;
    left_is = h.left_is;
    each = h.each;
  }

  from_listen : (h g : Seen) (called returned : ℕ) → g.place ≡ record (h.place) { called_at = called; returned_at = returned } → g.written ≡ h.written
      → ServesTold profiles held (all_served g) g.place.coming now left hss → ServesTold profiles held (all_served h) h.place.coming now left hss
  from_listen h g called returned place written told =
      told_before h.place.earlier h.place.present h.written h.faults g.faults h.place.coming
      (subst (λ w. ServesTold profiles held (option_and_then (λ e. option_map (λ a. served e h.place.present a g.faults) w) h.place.earlier) h.place.coming now left hss) written
      (subst (λ (p : Place). ServesTold profiles held (option_and_then (λ e. option_map (λ a. served e p.present a g.faults) g.written) p.earlier) p.coming now left hss) place told))

-- ---- how many connections were served

number_of : (coming left : Option (List (List ℕ))) (count connections n : ℕ) → AreGiven coming left count → count ≤ connections → n ≡ count
    → (count ≡ connections) ⊎ IfSome left (λ c. c ≡ []) → IfSome coming (λ c. n ≡ min connections (length c))
number_of None left count connections n given most size over = tt
number_of (Some coming) None count connections n (rest, is, many) most size over = absurd (cc)
number_of (Some coming) (Some c) count connections n (rest, is, many) most size (inl e) = omega (arith, many, most, size, e)
number_of (Some coming) (Some c) count connections n (rest, is, many) most size (inr none) =
    let same : c ≡ rest = cc in
    let e : length rest ≡ 0 = ap length (sym same ∙ none) in
    omega (arith, many, most, size, e)

given_none : (coming : Option (List (List ℕ))) → AreGiven coming coming 0
given_none None = tt
given_none (Some coming) = (coming, refl, omega arith)

serves_none : (profiles : List (List ℕ × Known)) (told : Bool) (held : Held) (laid : List (List ℕ × Laid)) (s : Stage) → IsHeld profiles told s.desk s.keeper.texts held → AreLaid s.desk laid
    → ServesAll profiles told held laid s s 0
serves_none profiles told held laid s is lies = (
  [],
  refl,
  record {
    met = tt;
    state = is;
    shown = λ _. refl;
    failed = omega arith;
    quiet = λ _. refl;
    steady = λ sure. (refl, sure);
    settled = tt;
    lies = lies;
    readings = omega arith;
  },
  none_yet profiles held (all_served s.out) s.out.place.coming,
)

no_less : 0 < 0 → ⊥
no_less f = omega (arith, f)

-- ---- what a test of an answer shows

on_err : {T E P : Type 0} (r : Result T E) → is_err r ≡ true → OnErr r P → P
on_err (Ok x) is p = absurd (cc)
on_err (Err e) is p = p

not_both : {T E : Type 0} (r : Result T E) → is_err r ≡ true → IsOk r → ⊥
not_both (Ok x) is ok = cc
not_both (Err e) is ok = cc

wrote_err : {T E : Type 0} {o q : Seen} {e : E} {text : List ℕ} → Wrote {T = T} {E = E} o q (Err e) text → Wrote {T = ⊤} {E = ⊤} o q (Err tt) text
wrote_err {o = o} {q = q} {text = text} w = subst (λ l. Wrote {T = ⊤} {E = ⊤} o q (Err tt) l) (append-nil text) (writes_stop [] w)

wrote_not : {T E : Type 0} {o q : Seen} {s : List ℕ} (r : Result T E) (t : List ℕ) → is_err r ≡ true → Wrote o q r s → Wrote {T = ⊤} {E = ⊤} o q (Err tt) (s ++ t)
wrote_not (Ok x) t is w = absurd (cc)
wrote_not (Err e) t is w = writes_stop t w

wrote_all : {T E : Type 0} {o q : Seen} {s : List ℕ} (r : Result T E) → is_err r ≡ false → Wrote o q r s → Wrote {T = ⊤} {E = ⊤} o q (Ok tt) s
wrote_all (Ok x) is w = writes_ok w
wrote_all (Err e) is w = absurd (cc)

-- ---- the end of such an order

-- the keeper was begun, and the hall was asked to open
pub record Opened (name : List ℕ) (k m : Kept) (h i : Seen) : Type 0 where
  pub texts : m.texts ≡ k.begun name
  pub calm : m.faults ≡ k.faults
  pub returned : m.returned_at ≡ m.faults
  pub sure : k.sure → m.sure
  pub place : i.place ≡ record (h.place) { called_at = h.faults; returned_at = i.faults }
  pub written : i.written ≡ h.written
  pub higher : h.faults ≤ i.faults

-- The keeper was begun, the hall was asked to open, and so many connections were served.
pub record Hosted (profiles : List (List ℕ × Known)) (name : List ℕ) (connections : ℕ) (k : Kept) (h : Seen) (a b : Stage) (count : ℕ) : Type 1 where
  pub texts : a.keeper.texts ≡ k.begun name
  pub calm : a.keeper.faults ≡ k.faults
  pub returned : b.keeper.returned_at ≡ a.keeper.faults
  pub later : a.keeper.faults ≤ b.keeper.faults
  pub sure : k.sure → a.keeper.sure
  pub called_at : ℕ
  pub returned_at : ℕ
  pub place : a.out.place ≡ record (h.place) { called_at = called_at; returned_at = returned_at }
  pub written : a.out.written ≡ h.written
  pub higher : h.faults ≤ b.out.faults
  pub given : AreGiven a.out.place.coming b.out.place.coming count
  pub most : count ≤ connections
  pub serves : (told : Bool) (held : Held) (laid : List (List ℕ × Laid)) → IsHeld profiles told a.desk a.keeper.texts held → AreLaid a.desk laid
      → ServesAll profiles told held laid a b count

module _ (port connections : ℕ) (name : List ℕ) (files : List (List ℕ × List ℕ)) (inputs : List Input) where
  abbrev order : Order
  order = Serve port connections name files

  abbrev profiles_in : List (List ℕ × Known)
  profiles_in = served_profiles files inputs

  abbrev ways_of : Shelf → List (List Handled) → Ways
  ways_of texts hss = record { begun = texts; fates = map fate_in (played (all_of hss)); served = hss }

  -- the text with all files
  whole_text : (ways : Ways) → length inputs ≡ length files → output_of order inputs ways ≡ served_text port (length ways.served)
  whole_text ways all = rw (eq-eqb (length inputs) (length files) all) refl

  -- nothing was asked of the hall
  pub not_begun : (k l : Kept) (h : Seen) (o : Seen) (reads : ℕ) (end : Status) → Leaves o o end (output_of order inputs no_ways) → end ≢ status.Done → end ≢ status.HallFault
      → (end ≡ status.KeeperFault → Rose l.called_at l.returned_at × (k.faults ≤ l.called_at)) → k.faults ≤ l.faults → l.texts ≡ k.texts → (k.sure → end ≢ status.KeeperFault)
      → EndsServing order inputs o o reads reads k l h h end
  not_begun k l h o reads end left not_done no_hall fault later texts steady = record {
    ways = no_ways;
    written = left;
    readings = omega arith;
    kept = record {
      fault = fault;
      later = later;
      began = false;
      all = λ d. absurd (not_done d);
      begun = λ f. cc;
      failed = λ f. cc;
      kept = λ f. cc;
      left = λ _. texts;
      unasked = λ _. refl;
      fated = refl;
      told = λ _ _. refl;
      steady = λ s. (steady s, refl);
    };
    served = serves_unasked order inputs o o h (ended_by (length inputs) end) not_done no_hall;
  }

  -- what a keeper begins with, and none where it doesn't tell it
  abbrev begun_by : Kept → Shelf
  begun_by k = unwrap_or (k.begun name) []

  -- What is said of the messages that were handled.
  record Heard (k : Kept) (h : Seen) (a b : Stage) (count : ℕ) (hss : List (List Handled)) : Type 0 where
    size : length hss ≡ count
    failed : RoseBy (failed_lines (played (all_of hss))) a.keeper.faults b.keeper.faults
    steady : a.keeper.sure → failed_lines (played (all_of hss)) ≡ 0
    kept : IfSome (k.begun name) (λ texts. Tells b.keeper.texts (held_after_all profiles_in (unopened_with texts) (played (all_of hss))).kept)
    shown : (texts : Shelf) → k.begun name ≡ Some texts → shown_in (map fate_in (played (all_of hss))) ≡ []
    told : ServesTold profiles_in (unopened_with (begun_by k)) (all_served h) h.place.coming (all_served b.out) b.out.place.coming hss
    met : AreMet profiles_in (unopened_with (begun_by k)) (all_of hss)
    settled : AreSettled profiles_in (unopened_with (begun_by k)) [] (all_of hss)
    few : b.reads ≤ a.reads + messages_readings profiles_in (unopened_with (begun_by k)) [] (all_of hss)

  heard : (k : Kept) (h : Seen) (a b : Stage) (count : ℕ) → a.desk ≡ record { profiles = profiles_in; seats = [] } → Hosted profiles_in name connections k h a b count
      → (hss : List (List Handled)) × Heard k h a b count hss
  heard k h a b count bare hosted = by_texts (k.begun name) refl
    where
      from : (told : Bool) → ((texts : Shelf) → k.begun name ≡ Some texts → (told ≡ true) × (begun_by k ≡ texts)) → (told ≡ true → HasTexts a.keeper.texts (begun_by k))
          → (hss : List (List Handled)) × Heard k h a b count hss
      from told tells has =
          let held : IsHeld profiles_in told a.desk a.keeper.texts (unopened_with (begun_by k)) = record {
            known = ap (λ (x : DeskLists). x.profiles) bare;
            sessions = ap sessions_of bare;
            kept = has;
          } in
          let laid : AreLaid a.desk [] = subst (λ x. AreLaid x []) (sym bare) (λ key. refl) in
          let (hss, size, handles, served) = hosted.serves told (unopened_with (begun_by k)) [] held laid in (
            hss,
            record {
              size = size;
              failed = handles.failed;
              steady = λ s. (handles.steady s).0;
              kept = if_some (k.begun name) (λ texts is. let (t, e) = tells texts is in
                  subst (λ l. Tells b.keeper.texts (held_after_all profiles_in (unopened_with l) (played (all_of hss))).kept) e (tells_of b.keeper.texts _ (handles.state.kept t)));
              shown = λ texts is. handles.shown (tells texts is).0;
              told = from_listen profiles_in (unopened_with (begun_by k)) (all_served b.out) b.out.place.coming hss h a.out hosted.called_at hosted.returned_at hosted.place hosted.written served;
              met = handles.met;
              settled = handles.settled;
              few = handles.readings;
            },
          )

      by_texts : (o : Option Shelf) → k.begun name ≡ o → (hss : List (List Handled)) × Heard k h a b count hss
      by_texts None is = from false (λ texts some. cc (is, some)) (λ f. cc)
      by_texts (Some texts) is =
          from true (λ other some. (refl, rw some refl)) (λ _. rw is (subst (λ t. HasTexts t texts) (sym (hosted.texts ∙ is)) (λ key. refl)))

  pub hosts : (k : Kept) (h o q : Seen) (a b : Stage) (count : ℕ) (end : Status) → a.desk ≡ record { profiles = profiles_in; seats = [] } → length inputs ≡ length files
      → Hosted profiles_in name connections k h a b count → Leaves o q end (served_text port count) → (0 < count → HasWritten o q (serving_line port))
      → (end ≡ status.Done) ⊎ ((end ≡ status.OutFault) ⊎ (end ≡ status.HallFault))
      → (end ≡ status.HallFault → Rose b.out.place.called_at b.out.place.returned_at × (h.faults ≤ b.out.place.called_at))
      → (end ≡ status.Done → (count ≡ connections) ⊎ IfSome b.out.place.coming (λ c. c ≡ [])) → (h.sure → end ≢ status.HallFault)
      → EndsServing order inputs o q a.reads b.reads k b.keeper h b.out end
  hosts k h o q a b count end bare all hosted left announced one fault over sure = from (heard k h a b count bare hosted)
    where
      no_keeper : ((end ≡ status.Done) ⊎ ((end ≡ status.OutFault) ⊎ (end ≡ status.HallFault))) → end ≢ status.KeeperFault
      no_keeper (inl e) f = cc
      no_keeper (inr (inl e)) f = cc
      no_keeper (inr (inr e)) f = cc

      asked : {P : Type 0} → ((end ≡ status.Done) ⊎ ((end ≡ status.OutFault) ⊎ (end ≡ status.HallFault))) → end ≢ status.Done → end ≢ status.OutFault → end ≢ status.HallFault → P
      asked (inl e) d f g = absurd (d e)
      asked (inr (inl e)) d f g = absurd (f e)
      asked (inr (inr e)) d f g = absurd (g e)

      from : ((hss : List (List Handled)) × Heard k h a b count hss) → EndsServing order inputs o q a.reads b.reads k b.keeper h b.out end
      from (hss, is) = record {
        ways = ways_of (begun_by k) hss;
        written = subst (λ t. Leaves o q end t) (sym (whole_text (ways_of (begun_by k) hss) all ∙ ap (λ n. served_text port n) is.size)) left;
        readings = is.few;
        kept = record {
          fault = λ f. absurd (no_keeper one f);
          later = omega (arith, hosted.calm, hosted.later);
          began = true;
          all = λ _. refl;
          begun = λ _. refl;
          failed = λ _. subst (λ n. RoseBy n b.keeper.returned_at b.keeper.faults) (sym (failed_in (played (all_of hss))))
              (subst (λ n. RoseBy (failed_lines (played (all_of hss))) n b.keeper.faults) (sym hosted.returned) is.failed);
          kept = λ _. is.kept;
          left = λ f. cc;
          unasked = λ f. cc;
          fated = refl;
          told = is.shown;
          steady = λ s. (no_keeper one, failed_in (played (all_of hss)) ∙ is.steady (hosted.sure s));
        };
        served = record {
          fault = fault;
          later = hosted.higher;
          served = is.told;
          met = is.met;
          settled = is.settled;
          number = λ d. number_of h.place.coming b.out.place.coming count connections (length hss)
              (subst (λ (p : Place). AreGiven p.coming b.out.place.coming count) hosted.place hosted.given) hosted.most is.size (over d);
          most = omega (arith, is.size, hosted.most);
          announced = λ some. announced (omega (arith, some, is.size));
          unasked = asked one;
          steady = sure;
        };
      }

  -- ---- its ways to end

  abbrev at_stage : DeskLists → Kept → Seen → ℕ → Stage
  at_stage desk keeper hall reads = record { desk = desk; keeper = keeper; out = hall; reads = reads }

  -- nothing was served yet
  opened_none : (k m : Kept) (h i : Seen) (desk : DeskLists) (reads : ℕ) → Opened name k m h i → Hosted profiles_in name connections k h (at_stage desk m i reads) (at_stage desk m i reads) 0
  opened_none k m h i desk reads opened = record {
    texts = opened.texts;
    calm = opened.calm;
    returned = opened.returned;
    later = omega arith;
    sure = opened.sure;
    called_at = h.faults;
    returned_at = i.faults;
    place = opened.place;
    written = opened.written;
    higher = opened.higher;
    given = given_none i.place.coming;
    most = omega arith;
    serves = λ told held laid is lies. serves_none profiles_in told held laid (at_stage desk m i reads) is lies;
  }

  -- the hall can't be opened
  pub opens_not : {T E : Type 0} (k m : Kept) (h i o : Seen) (desk : DeskLists) (reads : ℕ) (r : Result T E) → desk ≡ record { profiles = profiles_in; seats = [] } → length inputs ≡ length files
      → Opened name k m h i → is_err r ≡ true → OnErr r (Rose h.faults i.faults) → (h.sure → IsOk r × i.sure) → EndsServing order inputs o o reads reads k m h i status.HallFault
  opens_not k m h i o desk reads r bare all opened is rose sure =
      hosts k h o o (at_stage desk m i reads) (at_stage desk m i reads) 0 status.HallFault bare all (opened_none k m h i desk reads opened)
      ([], served_text port 0, refl, writes_none o) (λ some. absurd (no_less some)) (inr (inr refl))
      (λ _. (subst (λ (p : Place). Rose p.called_at p.returned_at) (sym opened.place) (on_err r is rose), omega (arith, ap (λ (p : Place). p.called_at) opened.place)))
      (λ f. cc) (λ s _. not_both r is (sure s).0)

  -- the port's line isn't written
  pub announces_not : {T E : Type 0} (k m : Kept) (h i o q : Seen) (desk : DeskLists) (reads : ℕ) (r : Result T E) → desk ≡ record { profiles = profiles_in; seats = [] } → length inputs ≡ length files
      → Opened name k m h i → is_err r ≡ true → Wrote o q r (serving_line port) → EndsServing order inputs o q reads reads k m h i status.OutFault
  announces_not k m h i o q desk reads r bare all opened is w =
      hosts k h o q (at_stage desk m i reads) (at_stage desk m i reads) 0 status.OutFault bare all (opened_none k m h i desk reads opened)
      (wrote_not r (served_line 0) is w) (λ some. absurd (no_less some)) (inr (inl refl)) (λ f. cc) (λ f. cc) (λ _ f. cc)

  -- It was written, and connections were served.
  pub record Visited (k m n : Kept) (h i j : Seen) (desk new : DeskLists) (reads rows count : ℕ) : Type 1 where
    pub opened : Opened name k m h i
    pub returned : n.returned_at ≡ m.returned_at
    pub later : m.faults ≤ n.faults
    pub higher : i.faults ≤ j.faults
    pub given : AreGiven i.place.coming j.place.coming count
    pub most : count ≤ connections
    pub serves : (told : Bool) (held : Held) (laid : List (List ℕ × Laid)) → IsHeld desk.profiles told desk m.texts held → AreLaid desk laid
        → ServesAll desk.profiles told held laid (at_stage desk m i reads) (at_stage new n j rows) count

  visited : (k m n : Kept) (h i j : Seen) (desk new : DeskLists) (reads rows count : ℕ) → desk ≡ record { profiles = profiles_in; seats = [] } → Visited k m n h i j desk new reads rows count
      → Hosted profiles_in name connections k h (at_stage desk m i reads) (at_stage new n j rows) count
  visited k m n h i j desk new reads rows count bare v = record {
    texts = v.opened.texts;
    calm = v.opened.calm;
    returned = v.returned ∙ v.opened.returned;
    later = v.later;
    sure = v.opened.sure;
    called_at = h.faults;
    returned_at = i.faults;
    place = v.opened.place;
    written = v.opened.written;
    higher = omega (arith, v.opened.higher, v.higher);
    given = v.given;
    most = v.most;
    serves = subst (λ ps. (told : Bool) (held : Held) (laid : List (List ℕ × Laid)) → IsHeld ps told desk m.texts held → AreLaid desk laid
        → ServesAll ps told held laid (at_stage desk m i reads) (at_stage new n j rows) count) (ap (λ (x : DeskLists). x.profiles) bare) v.serves;
  }

  -- the hall gave no further connection, since it failed
  pub serves_until : {T E : Type 0} (k m n : Kept) (h i j o q : Seen) (desk new : DeskLists) (reads rows count : ℕ) (r : Result T E) → desk ≡ record { profiles = profiles_in; seats = [] }
      → length inputs ≡ length files → Visited k m n h i j desk new reads rows count → is_err r ≡ false → Wrote o q r (serving_line port)
      → Rose j.place.called_at j.place.returned_at → i.faults ≤ j.place.called_at → (h.sure → ⊥) → EndsServing order inputs o q reads rows k n h j status.HallFault
  serves_until k m n h i j o q desk new reads rows count r bare all v is w rose from unsure =
      let line : Wrote {T = ⊤} {E = ⊤} o q (Ok tt) (serving_line port) = wrote_all r is w in
      hosts k h o q (at_stage desk m i reads) (at_stage new n j rows) count status.HallFault bare all (visited k m n h i j desk new reads rows count bare v)
      (serving_line port, served_line count, refl, line) (λ _. ([], subst (λ l. Appends o.written q.written l) (sym (append-nil (serving_line port))) line.whole)) (inr (inr refl))
      (λ _. (rose, omega (arith, v.opened.higher, from))) (λ f. cc) (λ s _. unsure s)

  -- the number is written
  pub serves_out : {T E : Type 0} (k m n : Kept) (h i j o p q : Seen) (desk new : DeskLists) (reads rows count : ℕ) (r : Result T E) (x : T) → desk ≡ record { profiles = profiles_in; seats = [] }
      → length inputs ≡ length files → Visited k m n h i j desk new reads rows count → is_err r ≡ false → Wrote o p r (serving_line port) → Wrote {T = T} {E = E} p q (Ok x) (served_line count)
      → (count ≡ connections) ⊎ IfSome j.place.coming (λ c. c ≡ []) → EndsServing order inputs o q reads rows k n h j status.Done
  serves_out k m n h i j o p q desk new reads rows count r x bare all v is w more over =
      let text : Wrote {T = ⊤} {E = ⊤} o q (Ok tt) (served_text port count) = writes_ok (writes_then (wrote_all r is w) more) in
      hosts k h o q (at_stage desk m i reads) (at_stage new n j rows) count status.Done bare all (visited k m n h i j desk new reads rows count bare v)
      text (λ _. (served_line count, text.whole)) (inl refl) (λ f. cc) (λ _. over) (λ _ f. cc)

  -- it isn't
  pub counts_not : {T E : Type 0} (k m n : Kept) (h i j o p q : Seen) (desk new : DeskLists) (reads rows count : ℕ) (r : Result T E) (e : E) → desk ≡ record { profiles = profiles_in; seats = [] }
      → length inputs ≡ length files → Visited k m n h i j desk new reads rows count → is_err r ≡ false → Wrote o p r (serving_line port) → Wrote {T = T} {E = E} p q (Err e) (served_line count)
      → EndsServing order inputs o q reads rows k n h j status.OutFault
  counts_not k m n h i j o p q desk new reads rows count r e bare all v is w more =
      let line : Wrote {T = ⊤} {E = ⊤} o p (Ok tt) (serving_line port) = wrote_all r is w in
      let rest : Wrote {T = ⊤} {E = ⊤} p q (Err tt) (served_line count) = wrote_err more in
      hosts k h o q (at_stage desk m i reads) (at_stage new n j rows) count status.OutFault bare all (visited k m n h i j desk new reads rows count bare v)
      (writes_then line rest)
      (λ _. (take rest.part.0 (served_line count), Appends-trans o.written p.written q.written (serving_line port) (take rest.part.0 (served_line count)) line.whole rest.part.2))
      (inr (inl refl)) (λ f. cc) (λ f. cc) (λ _ f. cc)

-- ---- profiles that are read one after another

abbrev Read : Type 0
Read = ProfileTables × List ℕ × Form

abbrev file_of : List ℕ × List ℕ → Kind × List ℕ
file_of f = (a_profile, f.1)

behind_of : (files : List (List ℕ × List ℕ)) (at : ℕ) (d : List ℕ × List ℕ) → at < length files
    → file_behind (map (λ f. (a_profile, f.1)) files) at ≡ Some (a_profile, (get_or files at d).1)
behind_of [] at d below = absurd (omega (arith, below))
behind_of (f ∷ files) zero d below = refl
behind_of (f ∷ files) (suc at) d below = behind_of files at d (omega (arith, below))

-- the name of a file, and of none behind them
pub named_at : (files : List (List ℕ × List ℕ)) (at : ℕ) (d : List ℕ × List ℕ) → at < length files → (get_or files at d).1 ≡ name_at (map (λ f. (a_profile, f.1)) files) at
named_at [] at d below = absurd (omega (arith, below))
named_at (f ∷ files) zero d below = refl
named_at (f ∷ files) (suc at) d below = named_at files at d (omega (arith, below))

pub none_named_at : (files : List (List ℕ × List ℕ)) (at : ℕ) → length files ≤ at → [] ≡ name_at (map (λ f. (a_profile, f.1)) files) at
none_named_at [] at over = refl
none_named_at (f ∷ files) zero over = absurd (omega (arith, over))
none_named_at (f ∷ files) (suc at) over = none_named_at files at (omega (arith, over))

-- the file at a place, by what is lent of all, and its two parts
pub item_at : (s files : List (List ℕ × List ℕ)) (at : ℕ) (item : List ℕ × List ℕ) → s ≡ files → item ≡ get_or s at item → item ≡ get_or files at item
item_at s files at item e is = is ∙ ap (λ l. get_or l at item) e

pub first_as : (a : List ℕ) (x y : List ℕ × List ℕ) → a ≡ x.0 → x ≡ y → a ≡ y.0
first_as a x y e is = e ∙ ap (λ p. p.0) is

pub second_as : (a : List ℕ) (x y : List ℕ × List ℕ) → a ≡ x.1 → x ≡ y → a ≡ y.1
second_as a x y e is = e ∙ ap (λ p. p.1) is

pub added_as : {T E : Type 0} (r : Result T E) (desk new : DeskLists) (a b : List ℕ) (known : Known) → is_err r ≡ false
    → OnOk r (new ≡ record desk { profiles = desk.profiles ++ (a, known) ∷ [] }) → a ≡ b → new ≡ record desk { profiles = desk.profiles ++ (b, known) ∷ [] }
added_as (Ok x) desk new a b known ok is e = is ∙ ap (λ n. record desk { profiles = desk.profiles ++ (n, known) ∷ [] }) e
added_as (Err x) desk new a b known ok is e = absurd (cc)

-- the same file by an equal name
pub reads_as : {now next : Seen} {a b : List ℕ} (r : Result Read Stop) → a ≡ b → Reads profile_input a_profile a now next r → Reads profile_input a_profile b now next r
reads_as {now} {next} r e h = subst (λ n. Reads profile_input a_profile n now next r) e h

served_none : (files : List (List ℕ × List ℕ)) → served_profiles files [] ≡ []
served_none [] = refl
served_none (f ∷ files) = refl

abbrev known_of : Read → Known
known_of x = record { threads = x.0.threads; digest = x.1 }

served_more : (files : List (List ℕ × List ℕ)) (reads : List Read) (x : Read) (d : List ℕ × List ℕ) → length reads < length files
    → served_profiles files (map profile_input reads ++ profile_input x ∷ [])
    ≡ served_profiles files (map profile_input reads) ++ ((get_or files (length reads) d).0, known_of x) ∷ []
served_more [] reads x d below = absurd (omega (arith, below))
served_more (f ∷ files) [] x d below = ap (λ l. (f.0, known_of x) ∷ l) (served_none files)
served_more (f ∷ files) (r ∷ reads) x d below = ap (λ l. (f.0, known_of r) ∷ l) (served_more files reads x d (omega (arith, below)))

both : (a b : Bool) → (not a && b) ≡ true → (a ≡ false) × (b ≡ true)
both true b h = absurd (cc)
both false b h = (refl, h)

neither : (a b : Bool) → (a || b) ≡ false → (a ≡ false) × (b ≡ false)
neither true b h = absurd (cc)
neither false b h = (refl, h)

none_at : (test : List ℕ × List ℕ → Bool) (files : List (List ℕ × List ℕ)) (at : ℕ) (d : List ℕ × List ℕ) → list_any test files ≡ false → at < length files → test (get_or files at d) ≡ false
none_at test [] at d none below = absurd (omega (arith, below))
none_at test (f ∷ files) zero d none below = (neither (test f) (list_any test files) none).0
none_at test (f ∷ files) (suc at) d none below = none_at test files at d (neither (test f) (list_any test files) none).1 (omega (arith, below))

-- the next profile's name is none of those before
unnamed : (files : List (List ℕ × List ℕ)) (reads : List Read) (d : List ℕ × List ℕ) → names_differ files ≡ true → length reads < length files
    → value_at (served_profiles files (map profile_input reads)) (get_or files (length reads) d).0 ≡ None
unnamed [] reads d differ below = absurd (omega (arith, below))
unnamed (f ∷ files) [] d differ below = refl
unnamed (f ∷ files) (r ∷ reads) d differ below =
    let (first, rest) = both (list_any (λ g. bytes_eq g.0 f.0) files) (names_differ files) differ in
    let under : length reads < length files = omega (arith, below) in
    let apart : bytes_eq f.0 (get_or files (length reads) d).0 ≡ false = bytes_eq-sym f.0 (get_or files (length reads) d).0 ∙ none_at (λ g. bytes_eq g.0 f.0) files (length reads) d first under in
    rw apart (unnamed files reads d rest under)

no_hall_fault : (at : ℕ) (s : Stop) → (stopped_by at s).status ≢ status.HallFault
no_hall_fault at (stop.Broken b) f = cc
no_hall_fault at stop.FileFault f = cc
no_hall_fault at stop.NoMemory f = cc

module _ (port connections : ℕ) (name : List ℕ) (files : List (List ℕ × List ℕ)) (f o : Seen) (rows : ℕ) where
  abbrev serving : Order
  serving = Serve port connections name files

  abbrev before : Outside
  before = record { files = f; out = o; reads = rows }

  abbrev then : Seen → Outside
  then now = record { files = now; out = o; reads = rows }

  -- So many of the profiles were read, and the desk has them.
  pub record HasRead (now : Seen) (desk : DeskLists) (count : ℕ) : Type 0 where
    pub reads : List Read
    pub size : length reads ≡ count
    pub so : SoFar serving before (then now) (map profile_input reads) [] 0
    pub desk_is : desk ≡ record { profiles = served_profiles files (map profile_input reads); seats = [] }

  pub none_read : (desk : DeskLists) → desk ≡ record { profiles = []; seats = [] } → HasRead f desk 0
  none_read desk bare = record {
    reads = [];
    size = refl;
    so = starts serving before;
    desk_is = bare ∙ ap (λ ps. record { profiles = ps; seats = [] }) (sym (served_none files));
  }

  next_file : (now : Seen) (desk : DeskLists) (count : ℕ) (d : List ℕ × List ℕ) (has : HasRead now desk count) → count < length files
      → file_behind (files_of serving) (length (map profile_input has.reads)) ≡ Some (a_profile, (get_or files count d).1)
  next_file now desk count d has below =
      subst (λ n. file_behind (files_of serving) n ≡ Some (a_profile, (get_or files count d).1)) (sym (length-map has.reads profile_input ∙ has.size)) (behind_of files count d below)

  pub is_unnamed : (now : Seen) (desk : DeskLists) (count : ℕ) (d : List ℕ × List ℕ) (has : HasRead now desk count) → names_differ files ≡ true → count < length files
      → value_at desk.profiles (get_or files count d).0 ≡ None
  is_unnamed now desk count d has differ below =
      rw has.desk_is (subst (λ n. value_at (served_profiles files (map profile_input has.reads)) (get_or files n d).0 ≡ None) has.size
      (unnamed files has.reads d differ (subst (λ n. n < length files) (sym has.size) below)))

  more : (now next : Seen) (desk : DeskLists) (count : ℕ) (d : List ℕ × List ℕ) (x : Read) (has : HasRead now desk count) → count < length files
      → Reads profile_input a_profile (get_or files count d).1 now next (Ok x) → SoFar serving before (then next) (map profile_input has.reads ++ profile_input x ∷ []) [] 0
  more now next desk count d x has below r =
      reads serving before (then now) next (map profile_input has.reads) [] 0 profile_input a_profile (get_or files count d).1 x has.so (next_file now desk count d has below) r

  pub one_more : (now next : Seen) (desk new : DeskLists) (count : ℕ) (d : List ℕ × List ℕ) (x : Read) (has : HasRead now desk count) → count < length files
      → Reads profile_input a_profile (get_or files count d).1 now next (Ok x)
      → new ≡ record desk { profiles = desk.profiles ++ ((get_or files count d).0, known_of x) ∷ [] } → HasRead next new (count + 1)
  one_more now next desk new count d x has below r is = record {
    reads = has.reads ++ x ∷ [];
    size = omega (arith, length-append has.reads (x ∷ []), has.size);
    so = subst (λ l. SoFar serving before (then next) l [] 0) (sym (map-append profile_input has.reads (x ∷ []))) (more now next desk count d x has below r);
    desk_is = is ∙ rw has.desk_is (ap (λ ps. record { profiles = ps; seats = [] }) (sym named));
  }
    where
      named : served_profiles files (map profile_input (has.reads ++ x ∷ [])) ≡ served_profiles files (map profile_input has.reads) ++ ((get_or files count d).0, known_of x) ∷ []
      named = ap (served_profiles files) (map-append profile_input has.reads (x ∷ []))
          ∙ subst (λ n. served_profiles files (map profile_input has.reads ++ profile_input x ∷ []) ≡ served_profiles files (map profile_input has.reads) ++ ((get_or files n d).0, known_of x) ∷ []) has.size
          (served_more files has.reads x d (subst (λ n. n < length files) (sym has.size) below))

  -- memory ran out before anything was read
  pub starves_first : (k : Kept) (h : Seen) → DoesServing serving before before k k h h (ended_by 0 status.NoMemory)
  starves_first k h = ([], no_ways, gives_up serving before, keeps_nothing serving k 0, serves_unasked serving [] o o h (ended_by 0 status.NoMemory) (λ f. cc) (λ f. cc))

  -- a profile isn't accepted
  pub stops_reading : (k : Kept) (h now next : Seen) (desk : DeskLists) (count : ℕ) (d : List ℕ × List ℕ) (s : Stop) (has : HasRead now desk count) → count < length files
      → Reads {T = Read} profile_input a_profile (get_or files count d).1 now next (Err s) → DoesServing serving before (then next) k k h h (stopped_by count s)
  stops_reading k h now next desk count d s has below r =
      let inputs = map profile_input has.reads in
      subst (λ n. DoesServing serving before (then next) k k h h (stopped_by n s)) (length-map has.reads profile_input ∙ has.size) (
        inputs,
        no_ways,
        stops serving before (then now) next inputs [] (output_of serving inputs no_ways) 0 profile_input a_profile (get_or files count d).1 s no_ways has.so (next_file now desk count d has below) r refl (omega arith),
        keeps_unasked serving inputs k (stopped_by (length inputs) s) refl (not_done (length inputs) s) (no_fault (length inputs) s),
        serves_unasked serving inputs o o h (stopped_by (length inputs) s) (not_done (length inputs) s) (no_hall_fault (length inputs) s),
      )

  -- memory ran out for a profile that was read
  pub starves_reading : (k : Kept) (h now next : Seen) (desk : DeskLists) (count : ℕ) (d : List ℕ × List ℕ) (x : Read) (has : HasRead now desk count) → count < length files
      → Reads profile_input a_profile (get_or files count d).1 now next (Ok x) → DoesServing serving before (then next) k k h h (ended_by (count + 1) status.NoMemory)
  starves_reading k h now next desk count d x has below r =
      let inputs = map profile_input has.reads ++ profile_input x ∷ [] in
      let size : length inputs ≡ count + 1 = omega (arith, length-append (map profile_input has.reads) (profile_input x ∷ []), length-map has.reads profile_input, has.size) in
      subst (λ n. DoesServing serving before (then next) k k h h (ended_by n status.NoMemory)) size (
        inputs,
        no_ways,
        ends serving before (then next) o inputs [] (output_of serving inputs no_ways) 0 0 rows no_ways status.NoMemory (more now next desk count d x has below r) refl
            ([], output_of serving inputs no_ways, refl, writes_none o) (omega arith) (omega arith) (omega arith) refl (λ f. cc) (λ f. cc) (λ f. cc),
        keeps_unasked serving inputs k (ended_by (length inputs) status.NoMemory) refl (λ f. cc) (λ f. cc),
        serves_unasked serving inputs o o h (ended_by (length inputs) status.NoMemory) (λ f. cc) (λ f. cc),
      )

  least_all : (end : Status) → least_of serving end ≤ length files
  least_all status.Done = omega (arith, length-map files file_of)
  least_all status.Broken = omega arith
  least_all status.Usage = omega arith
  least_all status.FileFault = omega arith
  least_all status.OutFault = omega arith
  least_all status.HallFault = omega (arith, length-map files file_of)
  least_all status.NoMemory = omega arith
  least_all status.KeeperFault = omega (arith, length-map files file_of)

  can_all : (end : Status) → can_end (Serve port connections name []) end ≡ true → can_end serving end ≡ true
  can_all status.Usage c = c
  can_all status.Broken c = absurd (cc)
  can_all status.FileFault c = absurd (cc)
  can_all status.HallFault c = refl
  can_all status.KeeperFault c = refl
  can_all end c = refl

  -- all are read
  pub ends_reading : (k l : Kept) (h i now out : Seen) (desk : DeskLists) (count new_rows : ℕ) (end : Status) (has : HasRead now desk count) → count ≡ length files
      → ((inputs : List Input) → desk ≡ record { profiles = served_profiles files inputs; seats = [] } → length inputs ≡ length files → EndsServing serving inputs o out rows new_rows k l h i end)
      → can_end (Serve port connections name []) end ≡ true → end ≢ status.Broken → end ≢ status.FileFault
      → DoesServing serving before (record { files = now; out = out; reads = new_rows }) k l h i (ended_by (length files) end)
  ends_reading k l h i now out desk count new_rows end has all end_of can no_break no_file =
      let inputs = map profile_input has.reads in
      let size : length inputs ≡ length files = length-map has.reads profile_input ∙ has.size ∙ all in
      let done = end_of inputs has.desk_is size in
      subst (λ n. DoesServing serving before (record { files = now; out = out; reads = new_rows }) k l h i (ended_by n end)) size (
        inputs,
        done.ways,
        ends serving before (then now) out inputs [] (output_of serving inputs done.ways) 0 (readings_of serving inputs done.ways) new_rows done.ways end has.so refl done.written done.readings (omega arith)
            (subst (λ n. least_of serving end ≤ n) (sym size) (least_all end)) (can_all end can) no_break no_file (λ _. tt),
        done.kept,
        done.served,
      )
