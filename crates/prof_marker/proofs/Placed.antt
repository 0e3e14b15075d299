-- The drafts of rows whose numbers are places have numbers that are places too, and they are no more than the rows
use Rattle.std.proofs.Common.{◌≡◌, ◌+◌, ◌<◌, ◌≤◌, ℕ, ℤ, true, false, cond, List, [], ◌∷◌, ◌++◌, length, map, set, take, get_or, Option, Some, None, sym, ap, subst, ◌∙◌, refl, arith}
use Rattle.std.specs.Prelude.{slice_get, ◌==◌}
use Rattle.std.specs.List.{All, fold}
use Rattle.std.specs.Option.{option_map_or}
use Rattle.std.proofs.lemmas.Grind.{fold-append}
use Rattle.std.proofs.lemmas.List.{length-append, length-set, length-map, take_more}
use Rattle.std.proofs.lemmas.List.Elements.{All-push, All-set, All-get_or, All-head, All-tail, All-cons}
use Rattle.std.proofs.lemmas.Option.{get_or_from_slice_get, slice_get_within}
use Rattle.prof_tables.specs.declared.markers.RawMarker.{RawMarker}
use Rattle.prof_tables.specs.Ties.{IsMarker}
use Rattle.prof_tables.specs.Threads.{ThreadTables}
use Rattle.prof_marker.specs.Markers.{Draft, instant, interval, unended, unstarted, spanning, is_open_start, last_place, closed_at, closed_by, after_end, after_row, drafts_of, pair, first_time, last_time}
use Rattle.prof_marker.specs.Ties.{IsPlaced}

module _ (strings : List (List ℕ)) (first last : Option ℤ) (texts : ℕ) where
  abbrev IsIn : Draft → Type 0
  IsIn d = IsPlaced (length strings) texts d.marker

  spanning_placed : (m : RawMarker) (start end : ℤ) → IsMarker (length strings) texts m → IsPlaced (length strings) texts (spanning m start end)
  spanning_placed m start end h = record { name = h.name; texts = h.texts; more = (omega arith, omega arith) }

  closed_placed : (m : RawMarker) (ds : List Draft) (k : ℕ) (o : Option Draft) → slice_get ds k ≡ o → IsMarker (length strings) texts m → All IsIn ds
      → All IsIn (option_map_or (λ d. set ds k (closed_by m d)) o ds)
  closed_placed m ds k None g h all = all
  closed_placed m ds k (Some d) g h all =
      let was : IsIn d = subst IsIn (get_or_from_slice_get ds k d d g) (All-get_or IsIn ds k d (slice_get_within ds k d g) all) in
      All-set IsIn ds k (closed_by m d) (record { name = was.name; texts = was.texts; more = h.texts }) all

  end_placed : (m : RawMarker) (ds : List Draft) (o : Option ℕ) → IsMarker (length strings) texts m → All IsIn ds
      → All IsIn (option_map_or (closed_at m ds) o (ds ++ unstarted first m ∷ []))
  end_placed m ds None h all = All-push IsIn ds (unstarted first m) all (spanning_placed m _ _ h)
  end_placed m ds (Some k) h all = closed_placed m ds k (slice_get ds k) refl h all

  row_placed : (m : RawMarker) (ds : List Draft) → IsMarker (length strings) texts m → All IsIn ds → All IsIn (after_row strings first last ds m)
  row_placed m ds h all =
      elim (m.phase == 0) as (λ b. All IsIn (cond b (ds ++ instant m ∷ []) (cond (m.phase == 1) (ds ++ interval m ∷ []) (cond (m.phase == 2) (ds ++ unended last m ∷ []) (after_end strings first ds m))))) [
        | true ↦ All-push IsIn ds (instant m) all (spanning_placed m _ _ h)
        | false ↦ (elim (m.phase == 1) as (λ b. All IsIn (cond b (ds ++ interval m ∷ []) (cond (m.phase == 2) (ds ++ unended last m ∷ []) (after_end strings first ds m)))) [
          | true ↦ All-push IsIn ds (interval m) all (spanning_placed m _ _ h)
          | false ↦ (elim (m.phase == 2) as (λ b. All IsIn (cond b (ds ++ unended last m ∷ []) (after_end strings first ds m))) [
            | true ↦ All-push IsIn ds (unended last m) all (spanning_placed m _ _ h)
            | false ↦ end_placed m ds (last_place (is_open_start strings m.name) ds) h all
          ])
        ])
      ]

  drafts_placed : (ds : List Draft) (rows : List RawMarker) → All (IsMarker (length strings) texts) rows → All IsIn ds → All IsIn (fold (after_row strings first last) ds rows)
  drafts_placed ds [] h all = all
  drafts_placed ds (m ∷ rows) h all =
      drafts_placed (after_row strings first last ds m) rows (All-tail (IsMarker (length strings) texts) m rows h) (row_placed m ds (All-head (IsMarker (length strings) texts) m rows h) all)

  -- a row adds one draft at most
  one_more : (ds : List Draft) (d : Draft) → length (ds ++ d ∷ []) ≤ length ds + 1
  one_more ds d = omega (arith, length-append ds (d ∷ []))

  closed_few : (m : RawMarker) (ds : List Draft) (k : ℕ) (o : Option Draft) → length (option_map_or (λ d. set ds k (closed_by m d)) o ds) ≤ length ds + 1
  closed_few m ds k None = omega arith
  closed_few m ds k (Some d) = omega (arith, length-set ds k (closed_by m d))

  end_few : (m : RawMarker) (ds : List Draft) (o : Option ℕ) → length (option_map_or (closed_at m ds) o (ds ++ unstarted first m ∷ [])) ≤ length ds + 1
  end_few m ds None = one_more ds (unstarted first m)
  end_few m ds (Some k) = closed_few m ds k (slice_get ds k)

  row_few : (m : RawMarker) (ds : List Draft) → length (after_row strings first last ds m) ≤ length ds + 1
  row_few m ds =
      elim (m.phase == 0) as (λ b. length (cond b (ds ++ instant m ∷ []) (cond (m.phase == 1) (ds ++ interval m ∷ []) (cond (m.phase == 2) (ds ++ unended last m ∷ []) (after_end strings first ds m)))) ≤ length ds + 1) [
        | true ↦ one_more ds (instant m)
        | false ↦ (elim (m.phase == 1) as (λ b. length (cond b (ds ++ interval m ∷ []) (cond (m.phase == 2) (ds ++ unended last m ∷ []) (after_end strings first ds m))) ≤ length ds + 1) [
          | true ↦ one_more ds (interval m)
          | false ↦ (elim (m.phase == 2) as (λ b. length (cond b (ds ++ unended last m ∷ []) (after_end strings first ds m)) ≤ length ds + 1) [
            | true ↦ one_more ds (unended last m)
            | false ↦ end_few m ds (last_place (is_open_start strings m.name) ds)
          ])
        ])
      ]

  drafts_few : (ds : List Draft) (rows : List RawMarker) → length (fold (after_row strings first last) ds rows) ≤ length ds + length rows
  drafts_few ds [] = omega arith
  drafts_few ds (m ∷ rows) =
      let rest = drafts_few (after_row strings first last ds m) rows in
      let now = row_few m ds in
      omega (arith, rest, now)

  pub few_drafts : (rows : List RawMarker) → length (drafts_of strings first last rows) ≤ length rows
  few_drafts rows = omega (arith, drafts_few [] rows)

  pub placed_drafts : (rows : List RawMarker) → All (IsMarker (length strings) texts) rows → All IsIn (drafts_of strings first last rows)
  placed_drafts rows h = drafts_placed [] rows h (λ k d lt. absurd (omega arith))

-- one more row
pub drafts_more : (strings : List (List ℕ)) (first last : Option ℤ) (rows : List RawMarker) (i : ℕ) (m : RawMarker) → i < length rows → m ≡ get_or rows i m
    → after_row strings first last (drafts_of strings first last (take i rows)) m ≡ drafts_of strings first last (take (i + 1) rows)
drafts_more strings first last rows i m lt at =
    sym (ap (drafts_of strings first last) (take_more rows i m lt ∙ ap (λ x. take i rows ++ x ∷ []) (sym at))
    ∙ fold-append (after_row strings first last) [] (take i rows) (m ∷ []))

-- what is known of the markers of a thread
markers_placed : (strings texts : ℕ) (ds : List Draft) → All (λ (d : Draft). IsPlaced strings texts d.marker) ds → All (IsPlaced strings texts) (map (λ (d : Draft). d.marker) ds)
markers_placed strings texts [] h = λ k d lt. absurd (omega arith)
markers_placed strings texts (d ∷ ds) h =
    All-cons (IsPlaced strings texts) d.marker (map (λ (e : Draft). e.marker) ds) (All-head (λ (e : Draft). IsPlaced strings texts e.marker) d ds h) (markers_placed strings texts ds (All-tail (λ (e : Draft). IsPlaced strings texts e.marker) d ds h))

pub pair_placed : (t : ThreadTables) → All (IsMarker (length t.shared.strings) (length t.markers.texts)) t.markers.rows
    → All (IsPlaced (length t.shared.strings) (length t.markers.texts)) (pair t)
pair_placed t h =
    markers_placed (length t.shared.strings) (length t.markers.texts) _ (placed_drafts t.shared.strings (first_time t.samples) (last_time t.samples) (length t.markers.texts) t.markers.rows h)

pub pair_few : (t : ThreadTables) → length (pair t) ≤ length t.markers.rows
pair_few t =
    let drafts = drafts_of t.shared.strings (first_time t.samples) (last_time t.samples) t.markers.rows in
    omega (arith, few_drafts t.shared.strings (first_time t.samples) (last_time t.samples) 0 t.markers.rows, let same : length (map (λ (d : Draft). d.marker) drafts) ≡ length drafts = simp length-map in same)

pub pair_is : (t : ThreadTables) (strings : List (List ℕ)) (first last : Option ℤ) (rows : List RawMarker)
    → strings ≡ t.shared.strings → first ≡ first_time t.samples → last ≡ last_time t.samples → rows ≡ t.markers.rows
    → map (λ (d : Draft). d.marker) (drafts_of strings first last rows) ≡ pair t
pair_is t strings first last rows a b c d =
    ap (λ x. map (λ (d : Draft). d.marker) (drafts_of x first last rows)) a
    ∙ (ap (λ x. map (λ (d : Draft). d.marker) (drafts_of t.shared.strings x last rows)) b
    ∙ (ap (λ x. map (λ (d : Draft). d.marker) (drafts_of t.shared.strings (first_time t.samples) x rows)) c
    ∙ ap (λ x. map (λ (d : Draft). d.marker) (drafts_of t.shared.strings (first_time t.samples) (last_time t.samples) x)) d))
