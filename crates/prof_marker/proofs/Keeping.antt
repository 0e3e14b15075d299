-- What is kept stays so: after a marker that is whole, after a start, and after an end that closes a start
use Rattle.std.proofs.Common.{◌≡◌, ◌≢◌, ℕ, zero, suc, ◌+◌, ◌<◌, ◌≤◌, true, false, cond, List, [], ◌∷◌, ◌++◌, length, take, set, replicate, get_or, ℤ, Option, Some, None, sym, ap, subst, ◌∙◌, refl, arith, inl, inr, ◌⊎◌, ⊎_elim}
use Rattle.std.specs.Prelude.{slice_get, ◌&&◌}
use Rattle.std.specs.Str.{bytes_eq}
use Rattle.std.specs.List.{All}
use Rattle.std.proofs.lemmas.Bool.{cases_eq, cases_order, true≢false, false≢true}
use Rattle.std.proofs.lemmas.List.{take-set-le, length-set, length-append, length-replicate, get_or-replicate}
use Rattle.std.proofs.lemmas.List.Elements.{All-push, All-set, All-get_or}
use Rattle.std.proofs.lemmas.Option.{none-some, same_Some, slice_get_within, get_or_from_slice_get, slice_get-get_or, slice_get_read}
use Rattle.std.proofs.Math.Seq.{take-set-lt, take-length}
use Rattle.std.proofs.lemmas.List.Quantifiers.{position-Some}
use Rattle.std.specs.Option.{option_map_or}
use Rattle.prof_tables.specs.declared.markers.RawMarker.{RawMarker}
use Rattle.prof_raw.specs.Texts.{first_place}
use Rattle.prof_marker.specs.declared.list.Marker.{Marker}
use Rattle.prof_marker.specs.declared.drafts.Standing.{Standing}
use Rattle.prof_marker.specs.declared.drafts.Standing.TheVariants.{Whole, Waiting}
use Rattle.prof_marker.specs.Markers.{Draft, name_text, is_open_start, last_place, unstarted, closed_by, closed_at, after_end}
use Rattle.prof_marker.specs.Kept.{is_waiting, behind_of, drafts_with, AreFirsts, Keeps}
use Rattle.prof_marker.proofs.Drafted.{draft, drafts-push, drafts-set, length-drafts, drafts-get, IsMadeOf}
use Rattle.prof_marker.proofs.LastPlaces.{last_place-push, last_place-hit, last_place-after, last_place-set_last, last_place-set_other}
use Rattle.prof_marker.proofs.Names.{same_first, open_parts, open_from, closed_not, other_not}

-- lists
module _ {A : Type 0} where
  pub get-push : (xs : List A) (y : A) (k : ℕ) (x : A) → slice_get (xs ++ y ∷ []) k ≡ Some x
      → (slice_get xs k ≡ Some x) ⊎ ((k ≡ length xs) × (y ≡ x))
  get-push [] y zero x h = inr (refl, same_Some y x h)
  get-push [] y (suc k) x h = absurd (none-some x h)
  get-push (z ∷ xs) y zero x h = inl h
  get-push (z ∷ xs) y (suc k) x h = ⊎_elim (λ e. inl e) (λ e. inr (ap suc e.0, e.1)) (get-push xs y k x h)

  pub take-push : (xs : List A) (y : A) (k : ℕ) → k ≤ length xs → take k (xs ++ y ∷ []) ≡ take k xs
  take-push xs y zero h = refl
  take-push [] y (suc k) h = absurd (omega arith)
  take-push (z ∷ xs) y (suc k) h = ap (λ l. z ∷ l) (take-push xs y k (omega arith))

  pub get-set_same : (xs : List A) (k : ℕ) (y : A) → k < length xs → slice_get (set xs k y) k ≡ Some y
  get-set_same [] k y h = absurd (omega arith)
  get-set_same (z ∷ xs) zero y h = refl
  get-set_same (z ∷ xs) (suc k) y h = get-set_same xs k y (omega arith)

  pub get-set_other : (xs : List A) (k j : ℕ) (y : A) → j ≢ k → slice_get (set xs k y) j ≡ slice_get xs j
  get-set_other [] k j y n = refl
  get-set_other (z ∷ xs) zero zero y n = absurd (n refl)
  get-set_other (z ∷ xs) zero (suc j) y n = refl
  get-set_other (z ∷ xs) (suc k) zero y n = refl
  get-set_other (z ∷ xs) (suc k) (suc j) y n = get-set_other xs k j y (λ e. n (ap suc e))

  pub get-take : (xs : List A) (n k : ℕ) → k < n → slice_get (take n xs) k ≡ slice_get xs k
  get-take xs zero k h = absurd (omega arith)
  get-take [] (suc n) k h = refl
  get-take (z ∷ xs) (suc n) zero h = refl
  get-take (z ∷ xs) (suc n) (suc k) h = get-take xs n k (omega arith)

module _ (strings : List (List ℕ)) where
  abbrev Behind : List Draft → List Standing → Type 0
  Behind ds ss = (k : ℕ) (d : Draft) (b : Option ℕ) → slice_get ds k ≡ Some d → slice_get ss k ≡ Some (Waiting b)
      → b ≡ last_place (is_open_start strings d.marker.name) (take k ds)

  abbrev Latest : List Draft → List (Option ℕ) → Type 0
  Latest ds newest = (n q : ℕ) → n < length strings → first_place strings (name_text strings n) ≡ Some q
      → slice_get newest q ≡ Some (last_place (is_open_start strings n) ds)

  -- the open starts of two names with one text are the same
  last_same : (ds : List Draft) (a b : ℕ) → name_text strings a ≡ name_text strings b → last_place (is_open_start strings a) ds ≡ last_place (is_open_start strings b) ds
  last_same ds a b e = ap (λ (t : List ℕ). last_place (λ (d : Draft). d.is_open && bytes_eq t (name_text strings d.marker.name)) ds) e

  -- one more draft
  pub behind-push : (ds : List Draft) (ss : List Standing) (d : Draft) (s : Standing) → length ss ≡ length ds → Behind ds ss
      → ((b : Option ℕ) → s ≡ Waiting b → b ≡ last_place (is_open_start strings d.marker.name) ds) → Behind (ds ++ d ∷ []) (ss ++ s ∷ [])
  behind-push ds ss d s many behind last k e b g h =
      ⊎_elim
      (λ old.
      let lt : k < length ds = slice_get_within ds k e old in
      let old_s : slice_get ss k ≡ Some (Waiting b) = ⊎_elim (λ there. there) (λ at. absurd (omega (arith, at.0))) (get-push ss s k (Waiting b) h) in
      behind k e b old old_s ∙ sym (ap (last_place (is_open_start strings e.marker.name)) (take-push ds d k (omega arith))))
      (λ new.
      let at : k ≡ length ds = new.0 in
      let new_s : s ≡ Waiting b = ⊎_elim (λ there. let lt : k < length ss = slice_get_within ss k (Waiting b) there in absurd (omega (arith, lt))) (λ here. here.1) (get-push ss s k (Waiting b) h) in
      let all : take k (ds ++ d ∷ []) ≡ ds = take-push ds d k (omega (arith, at)) ∙ (ap (λ n. take n ds) at ∙ take-length ds) in
      last b new_s ∙ sym (ap (last_place (is_open_start strings e.marker.name)) all ∙ ap (λ (x : Draft). last_place (is_open_start strings x.marker.name) ds) (sym new.1)))
      (get-push ds d k e g)

  pub latest-push_whole : (ds : List Draft) (d : Draft) (newest : List (Option ℕ)) → d.is_open ≡ false → Latest ds newest → Latest (ds ++ d ∷ []) newest
  latest-push_whole ds d newest closed latest n q lt first =
      latest n q lt first
      ∙ ap (λ (o : Option ℕ). Some o) (sym (last_place-push (is_open_start strings n) ds d ∙ ap (λ b. cond b (Some (length ds)) (last_place (is_open_start strings n) ds)) (closed_not strings n d closed)))

  -- a start becomes the latest of its name
  pub latest-push_open : (ds : List Draft) (d : Draft) (newest : List (Option ℕ)) (q : ℕ) → d.is_open ≡ true → first_place strings (name_text strings d.marker.name) ≡ Some q
      → q < length newest → Latest ds newest → Latest (ds ++ d ∷ []) (set newest q (Some (length ds)))
  latest-push_open ds d newest q opened first within latest n r lt second =
      let pushed = last_place-push (is_open_start strings n) ds d in
      ⊎_elim
      (λ same.
      let text : name_text strings n ≡ name_text strings d.marker.name = same_first strings (name_text strings n) (name_text strings d.marker.name) q (second ∙ ap (λ (k : ℕ). Some k) same) first in
      ap (λ k. slice_get (set newest q (Some (length ds))) k) same
      ∙ (get-set_same newest q (Some (length ds)) within
      ∙ ap (λ (o : Option ℕ). Some o) (sym (pushed ∙ ap (λ b. cond b (Some (length ds)) (last_place (is_open_start strings n) ds)) (open_from strings n d opened text)))))
      (λ other.
      let differ : is_open_start strings n d ≡ false = other_not strings n d (λ text. other (same_Some r q (sym second ∙ (ap (first_place strings) text ∙ first)))) in
      get-set_other newest q r (Some (length ds)) other
      ∙ (latest n r lt second
      ∙ ap (λ (o : Option ℕ). Some o) (sym (pushed ∙ ap (λ b. cond b (Some (length ds)) (last_place (is_open_start strings n) ds)) differ))))
      (cases_eq r q)

  -- an end closes the latest open start of a name
  module _ (ds : List Draft) (m k : ℕ) (found : last_place (is_open_start strings m) ds ≡ Some k) (c : Draft) (closed : c.is_open ≡ false) where
    pub hit : (x : Draft) × ((slice_get ds k ≡ Some x) × (is_open_start strings m x ≡ true))
    hit = last_place-hit (is_open_start strings m) ds k found

    pub hit_text : name_text strings m ≡ name_text strings hit.0.marker.name
    hit_text = (open_parts strings m hit.0 hit.1.1).1

    pub latest-close : (newest : List (Option ℕ)) (q : ℕ) (b : Option ℕ) → first_place strings (name_text strings m) ≡ Some q → q < length newest
        → b ≡ last_place (is_open_start strings m) (take k ds) → Latest ds newest → Latest (set ds k c) (set newest q b)
    latest-close newest q b first within before latest n r lt second =
        ⊎_elim
        (λ same.
        let text : name_text strings n ≡ name_text strings m = same_first strings (name_text strings n) (name_text strings m) q (second ∙ ap (λ (i : ℕ). Some i) same) first in
        ap (λ i. slice_get (set newest q b) i) same
        ∙ (get-set_same newest q b within
        ∙ ap (λ (o : Option ℕ). Some o) (before ∙ sym (last_same (set ds k c) n m text ∙ last_place-set_last (is_open_start strings m) ds k c found (closed_not strings m c closed)))))
        (λ other.
        let differ : is_open_start strings n hit.0 ≡ false = other_not strings n hit.0 (λ text. other (same_Some r q (sym second ∙ (ap (first_place strings) (text ∙ sym hit_text) ∙ first)))) in
        get-set_other newest q r b other
        ∙ (latest n r lt second
        ∙ ap (λ (o : Option ℕ). Some o) (sym (last_place-set_other (is_open_start strings n) ds k hit.0 c hit.1.0 differ (closed_not strings n c closed)))))
        (cases_eq r q)

    pub behind-close : (ss : List Standing) → length ss ≡ length ds → Behind ds ss
        → ((j : ℕ) (d : Draft) (b : Option ℕ) → slice_get ds j ≡ Some d → slice_get ss j ≡ Some (Waiting b) → d.is_open ≡ true)
        → Behind (set ds k c) (set ss k Whole)
    behind-close ss many behind opened j d b g h =
        let within : k < length ds = slice_get_within ds k hit.0 hit.1.0 in
        ⊎_elim
        (λ same.
        let whole : Some Whole ≡ Some (Waiting b) = sym (get-set_same ss k Whole (omega (arith, many))) ∙ (ap (λ i. slice_get (set ss k Whole) i) (sym same) ∙ h) in
        absurd (not_waiting b (same_Some Whole (Waiting b) whole)))
        (λ sides.
        let other : j ≢ k = λ e. ⊎_elim (λ lt. omega (arith, lt, e)) (λ lt. omega (arith, lt, e)) sides in
        let old : slice_get ds j ≡ Some d = sym (get-set_other ds k j c other) ∙ g in
        let old_s : slice_get ss j ≡ Some (Waiting b) = sym (get-set_other ss k j Whole other) ∙ h in
        behind j d b old old_s ∙ sym (front j d old (opened j d b old old_s) sides))
        (cases_order j k)
      where
        not_waiting : (b : Option ℕ) → Whole ≡ Waiting b → ⊥
        not_waiting b e = cc

        front : (j : ℕ) (d : Draft) → slice_get ds j ≡ Some d → d.is_open ≡ true → (j < k) ⊎ (k < j)
            → last_place (is_open_start strings d.marker.name) (take j (set ds k c)) ≡ last_place (is_open_start strings d.marker.name) (take j ds)
        front j d old op sides =
            ⊎_elim
            (λ lt. ap (last_place (is_open_start strings d.marker.name)) (take-set-le j ds k c (omega arith)))
            (λ lt.
            let later : is_open_start strings m d ≡ false = last_place-after (is_open_start strings m) ds k j d found lt old in
            let differ : is_open_start strings d.marker.name hit.0 ≡ false =
            other_not strings d.marker.name hit.0 (λ text. true≢false (sym (open_from strings m d op (hit_text ∙ sym text)) ∙ later)) in
            ap (last_place (is_open_start strings d.marker.name)) (take-set-lt j ds k c lt)
            ∙ last_place-set_other (is_open_start strings d.marker.name) (take j ds) k hit.0 c (get-take ds j k lt ∙ hit.1.0) differ (closed_not strings d.marker.name c closed))
            sides

-- what is kept as a whole
module _ {strings : List (List ℕ)} {ms : List Marker} {ss : List Standing} {newest known : List (Option ℕ)} (kept : Keeps strings ms ss newest known) where
  few : length ss ≡ length (drafts_with ms ss)
  few = kept.many ∙ sym (length-drafts ms ss kept.many)

  -- other first places that are looked up
  pub keeps-known : (others : List (Option ℕ)) → length others ≡ length strings → AreFirsts strings others → Keeps strings ms ss newest others
  keeps-known others many firsts = record {
    many = kept.many;
    named = kept.named;
    behind = kept.behind;
    latest_many = kept.latest_many;
    latest = kept.latest;
    firsts_many = many;
    firsts = firsts;
  }

  pub keeps-whole : (m : Marker) → m.name < length strings → Keeps strings (ms ++ m ∷ []) (ss ++ Whole ∷ []) newest known
  keeps-whole m placed =
      let pushed = drafts-push ms ss m Whole kept.many in
      record {
        many = length-append ss (Whole ∷ []) ∙ (ap (λ n. n + 1) kept.many ∙ sym (length-append ms (m ∷ [])));
        named = All-push (λ (x : Marker). x.name < length strings) ms m kept.named placed;
        behind = subst (λ ds. Behind strings ds (ss ++ Whole ∷ [])) (sym pushed) (behind-push strings (drafts_with ms ss) ss (draft m Whole) Whole few kept.behind (λ b e. absurd (whole_waiting b e)));
        latest_many = kept.latest_many;
        latest = subst (λ ds. Latest strings ds newest) (sym pushed) (latest-push_whole strings (drafts_with ms ss) (draft m Whole) newest refl kept.latest);
        firsts_many = kept.firsts_many;
        firsts = kept.firsts;
      }
    where
      whole_waiting : (b : Option ℕ) → Whole ≡ Waiting b → ⊥
      whole_waiting b e = cc

  pub keeps-open : (m : Marker) (q : ℕ) (b : Option ℕ) → m.name < length strings → first_place strings (name_text strings m.name) ≡ Some q → q < length strings
      → slice_get newest q ≡ Some b → Keeps strings (ms ++ m ∷ []) (ss ++ Waiting b ∷ []) (set newest q (Some (length ms))) known
  keeps-open m q b placed first within at =
      let pushed = drafts-push ms ss m (Waiting b) kept.many in
      let is : Some b ≡ Some (last_place (is_open_start strings m.name) (drafts_with ms ss)) = sym at ∙ kept.latest m.name q placed first in
      let latest' = latest-push_open strings (drafts_with ms ss) (draft m (Waiting b)) newest q refl first (omega (arith, kept.latest_many)) kept.latest in
      record {
        many = length-append ss (Waiting b ∷ []) ∙ (ap (λ n. n + 1) kept.many ∙ sym (length-append ms (m ∷ [])));
        named = All-push (λ (x : Marker). x.name < length strings) ms m kept.named placed;
        behind = subst (λ ds. Behind strings ds (ss ++ Waiting b ∷ [])) (sym pushed) (behind-push strings (drafts_with ms ss) ss (draft m (Waiting b)) (Waiting b) few kept.behind (λ a e. same_waiting b a e ∙ same_Some b _ is));
        latest_many = length-set newest q (Some (length ms)) ∙ kept.latest_many;
        latest = subst (λ n. Latest strings (drafts_with (ms ++ m ∷ []) (ss ++ Waiting b ∷ [])) (set newest q (Some n))) (length-drafts ms ss kept.many) (subst (λ ds. Latest strings ds (set newest q (Some (length (drafts_with ms ss))))) (sym pushed) latest');
        firsts_many = kept.firsts_many;
        firsts = kept.firsts;
      }
    where
      same_waiting : (b a : Option ℕ) → Waiting b ≡ Waiting a → a ≡ b
      same_waiting b a e = cc

  -- an end of a name with an open start at a place: the marker there stays of its name
  module _ (n q k : ℕ) (old new : Marker) (s : Standing) (placed : n < length strings) (first : first_place strings (name_text strings n) ≡ Some q) (within : q < length strings)
      (at : slice_get newest q ≡ Some (Some k)) (old_at : slice_get ms k ≡ Some old) (s_at : slice_get ss k ≡ Some s) (name : new.name ≡ old.name) where
    pub latest_is : last_place (is_open_start strings n) (drafts_with ms ss) ≡ Some k
    latest_is = sym (same_Some (Some k) _ (sym at ∙ kept.latest n q placed first))

    struck : (x : Draft) × ((slice_get (drafts_with ms ss) k ≡ Some x) × (is_open_start strings n x ≡ true))
    struck = last_place-hit (is_open_start strings n) (drafts_with ms ss) k latest_is

    before_is : behind_of s ≡ last_place (is_open_start strings n) (take k (drafts_with ms ss))
    before_is =
        let made = drafts-get ms ss k struck.0 struck.1.0 in
        let same : made.standing ≡ s = same_Some made.standing s (sym made.standing_at ∙ s_at) in
        let waits : is_waiting s ≡ true = ap is_waiting (sym same) ∙ (sym made.is_open ∙ (open_parts strings n struck.0 struck.1.1).0) in
        waiting_behind s waits s_at
      where
        waiting_behind : (t : Standing) → is_waiting t ≡ true → slice_get ss k ≡ Some t → behind_of t ≡ last_place (is_open_start strings n) (take k (drafts_with ms ss))
        waiting_behind Whole w g = absurd (false≢true w)
        waiting_behind (Waiting b) w g =
            kept.behind k struck.0 b struck.1.0 g
            ∙ sym (last_same strings (take k (drafts_with ms ss)) n struck.0.marker.name (open_parts strings n struck.0 struck.1.1).1)

    pub keeps-close : Keeps strings (set ms k new) (set ss k Whole) (set newest q (behind_of s)) known
    keeps-close =
        let edited = drafts-set ms ss k new Whole in
        record {
          many = length-set ss k Whole ∙ (kept.many ∙ sym (length-set ms k new));
          named = all_named;
          behind = subst (λ ds. Behind strings ds (set ss k Whole)) (sym edited) (behind-close strings (drafts_with ms ss) n k latest_is (draft new Whole) refl ss few kept.behind opened);
          latest_many = length-set newest q (behind_of s) ∙ kept.latest_many;
          latest = subst (λ ds. Latest strings ds (set newest q (behind_of s))) (sym edited) (latest-close strings (drafts_with ms ss) n k latest_is (draft new Whole) refl newest q (behind_of s) first (omega (arith, kept.latest_many)) before_is kept.latest);
          firsts_many = kept.firsts_many;
          firsts = kept.firsts;
        }
      where
        opened : (j : ℕ) (d : Draft) (b : Option ℕ) → slice_get (drafts_with ms ss) j ≡ Some d → slice_get ss j ≡ Some (Waiting b) → d.is_open ≡ true
        opened j d b g h =
            let made = drafts-get ms ss j d g in
            made.is_open ∙ ap is_waiting (same_Some made.standing (Waiting b) (sym made.standing_at ∙ h))

        all_named : All (λ (x : Marker). x.name < length strings) (set ms k new)
        all_named =
            let was : old.name < length strings = subst (λ (x : Marker). x.name < length strings) (get_or_from_slice_get ms k old new old_at) (All-get_or (λ (x : Marker). x.name < length strings) ms k new (slice_get_within ms k old old_at) kept.named) in
            All-set (λ (x : Marker). x.name < length strings) ms k new (subst (λ i. i < length strings) (sym name) was) kept.named

-- no row is taken in yet
pub keeps-none : (strings : List (List ℕ)) (n : ℕ) → n ≡ length strings → Keeps strings [] [] (replicate n None) (replicate n None)
keeps-none strings n many = record {
  many = refl;
  named = λ k d h. absurd (omega arith);
  behind = λ k d b g h. absurd (none-some d g);
  latest_many = length-replicate n None ∙ many;
  latest = λ m q lt first. none_at q (omega (arith, (position-Some (bytes_eq (name_text strings m)) strings q [] first).0));
  firsts_many = length-replicate n None ∙ many;
  firsts = λ m q g.
      let within : m < length (replicate n None) = slice_get_within (replicate n None) m (Some q) g in
      absurd (none-some q (same_Some None (Some q) (sym (none_at m (omega (arith, length-replicate {A = Option ℕ} n None, within))) ∙ g)));
}
  where
    none_at : (q : ℕ) → q < n → slice_get {X = Option ℕ} (replicate n None) q ≡ Some None
    none_at q lt = slice_get-get_or (replicate n None) q None (omega (arith, length-replicate {A = Option ℕ} n None)) ∙ ap (λ (o : Option ℕ). Some o) (get_or-replicate n q None None lt)

-- what is read for a row of a name: the first place of its text, among others that are looked up, and its latest open start
pub record IsRead (strings : List (List ℕ)) (ms : List Marker) (ss : List Standing) (newest known others : List (Option ℕ)) (n q : ℕ) (o : Option ℕ) : Type 0 where
  pub kept : Keeps strings ms ss newest known
  pub many : length others ≡ length strings
  pub firsts : AreFirsts strings others
  pub placed : n < length strings
  pub first : first_place strings (name_text strings n) ≡ Some q
  pub within : q < length strings
  pub latest : o ≡ get_or newest q o

pub keeps_along : {strings : List (List ℕ)} {ms ms' : List Marker} {ss ss' : List Standing} {newest newest' known known' : List (Option ℕ)}
    → ms' ≡ ms → ss' ≡ ss → newest' ≡ newest → known' ≡ known → Keeps strings ms ss newest known → Keeps strings ms' ss' newest' known'
keeps_along {strings} {ms} {ms'} {ss} {ss'} {newest} {newest'} {known} {known'} a b c d k =
    subst (λ x. Keeps strings x ss' newest' known') (sym a) (subst (λ x. Keeps strings ms x newest' known') (sym b) (subst (λ x. Keeps strings ms ss x known') (sym c) (subst (λ x. Keeps strings ms ss newest x) (sym d) k)))

module _ {strings : List (List ℕ)} {ms : List Marker} {ss : List Standing} {newest known others : List (Option ℕ)} {n q : ℕ} {o : Option ℕ} (r : IsRead strings ms ss newest known others n q o) where
  kept_here : Keeps strings ms ss newest others
  kept_here = keeps-known r.kept others r.many r.firsts

  at : slice_get newest q ≡ Some o
  at = slice_get_read newest (length newest) q o refl (omega (arith, r.kept.latest_many)) r.latest

  pub read_latest : last_place (is_open_start strings n) (drafts_with ms ss) ≡ o
  read_latest = sym (same_Some o _ (sym at ∙ r.kept.latest n q r.placed r.first))

  pub read_open : (m : Marker) → m.name ≡ n → Keeps strings (ms ++ m ∷ []) (ss ++ Waiting o ∷ []) (set newest q (Some (length ms))) others
  read_open m e = keeps-open kept_here m q o (subst (λ i. i < length strings) (sym e) r.placed) (ap (λ i. first_place strings (name_text strings i)) e ∙ r.first) r.within at

  pub read_whole : (m : Marker) → m.name ≡ n → Keeps strings (ms ++ m ∷ []) (ss ++ Whole ∷ []) newest others
  read_whole m e = keeps-whole kept_here m (subst (λ i. i < length strings) (sym e) r.placed)

  -- where an open start was read, it is there
  module _ (k : ℕ) (is : o ≡ Some k) where
    pub found : last_place (is_open_start strings n) (drafts_with ms ss) ≡ Some k
    found = read_latest ∙ is

    abbrev pub struck_draft : Draft
    struck_draft = (last_place-hit (is_open_start strings n) (drafts_with ms ss) k found).0

    pub struck_get : slice_get (drafts_with ms ss) k ≡ Some struck_draft
    struck_get = (last_place-hit (is_open_start strings n) (drafts_with ms ss) k found).1.0

    pub struck_made : IsMadeOf ms ss k struck_draft
    struck_made = drafts-get ms ss k struck_draft struck_get

    pub struck_within : (k < length ms) × (k < length ss)
    struck_within = (slice_get_within ms k struck_draft.marker struck_made.marker_at, slice_get_within ss k struck_made.standing struck_made.standing_at)

    pub read_close : (new : Marker) → new.name ≡ struck_draft.marker.name → Keeps strings (set ms k new) (set ss k Whole) (set newest q (behind_of struck_made.standing)) others
    read_close new e = keeps-close kept_here n q k struck_draft.marker new struck_made.standing r.placed r.first r.within (at ∙ ap (λ (p : Option ℕ). Some p) is) struck_made.marker_at struck_made.standing_at e

    pub read_closed : (time : Option ℤ) (row : RawMarker) → row.name ≡ n
        → drafts_with (set ms k (closed_by row struck_draft).marker) (set ss k Whole) ≡ after_end strings time (drafts_with ms ss) row
    read_closed time row e =
        let ds = drafts_with ms ss in
        let there : last_place (is_open_start strings row.name) ds ≡ Some k = ap (λ i. last_place (is_open_start strings i) ds) e ∙ found in
        drafts-set ms ss k (closed_by row struck_draft).marker Whole
        ∙ (ap (λ (p : Option Draft). option_map_or (λ d. set ds k (closed_by row d)) p ds) (sym struck_get)
        ∙ ap (λ (p : Option ℕ). option_map_or (closed_at row ds) p (ds ++ unstarted time row ∷ [])) (sym there))

  pub read_unstarted : o ≡ None → (time : Option ℤ) (row : RawMarker) → row.name ≡ n
      → drafts_with ms ss ++ unstarted time row ∷ [] ≡ after_end strings time (drafts_with ms ss) row
  read_unstarted is time row e =
      let ds = drafts_with ms ss in
      let none : last_place (is_open_start strings row.name) ds ≡ None = ap (λ i. last_place (is_open_start strings i) ds) e ∙ (read_latest ∙ is) in
      ap (λ (p : Option ℕ). option_map_or (closed_at row ds) p (ds ++ unstarted time row ∷ [])) (sym none)
