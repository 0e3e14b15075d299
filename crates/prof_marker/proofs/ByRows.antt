-- The pairs of a thread are the markers of its rows
use Rattle.std.proofs.Common.{◌≡◌, ℕ, zero, suc, ◌+◌, ◌-◌, ℤ, Bool, true, false, cond, List, [], ◌∷◌, ◌++◌, map, set, Option, Some, None, eqb, ltb, append-nil, append_assoc, sym, ap, subst, ◌∙◌, refl, arith, add-one}
use Rattle.std.specs.Prelude.{slice_get, ◌&&◌, nat_lt}
use Rattle.std.specs.List.{fold}
use Rattle.std.specs.Option.{option_or, option_map, option_map_or}
use Rattle.std.specs.Str.{bytes_eq}
use Rattle.std.proofs.lemmas.Bool.{and_parts, false_from_ne_true, true≢false}
use Rattle.std.proofs.lemmas.Bool.Decides.{nat_tests}
use Rattle.std.proofs.lemmas.Grind.{fold-append}
use Rattle.std.proofs.lemmas.Option.{none-some, same_Some}
use Rattle.prof_tables.specs.declared.markers.RawMarker.{RawMarker}
use Rattle.prof_marker.specs.declared.list.Marker.{Marker}
use Rattle.prof_marker.specs.Markers.{Draft, name_text, is_same_name, is_open_start, last_place, instant, interval, unended, unstarted, closed_by, closed_at, after_end, after_row, first_time, last_time}
use Rattle.prof_marker.specs.ByRow.{is_start_of, is_end_of, next_open, open_after, closing_end, row_markers, rows_markers, PairByRow}
use Rattle.prof_marker.proofs.LastPlaces.{last_place-hit, last_place-none}
use Rattle.prof_marker.proofs.Names.{same_text, text_same, open_parts, open_from, closed_not}

-- counts and places of a list with one more item at its head
abbrev cond_place : Option ℕ → Bool → Option ℕ
cond_place later here = option_or (option_map suc later) (cond here (Some 0) None)

later_none : (o : Option ℕ) (b : Bool) → cond_place o b ≡ None → o ≡ None
later_none None b h = refl
later_none (Some k) b h = absurd (none-some (suc k) (sym h))

later_some : (o : Option ℕ) (b : Bool) (k : ℕ) → cond_place o b ≡ Some (suc k) → o ≡ Some k
later_some None true k h = absurd (let bad : 0 ≡ suc k = same_Some 0 (suc k) h in omega (arith, bad))
later_some None false k h = absurd (none-some (suc k) h)
later_some (Some i) b k h =
    let same : suc i ≡ suc k = same_Some (suc i) (suc k) h in
    let less : i ≡ k = omega (arith, same) in
    ap (λ (n : ℕ). Some n) less

swap_counts : (p q : Bool) (n : ℕ) → cond p (suc (cond q (suc n) n)) (cond q (suc n) n) ≡ cond q (suc (cond p (suc n) n)) (cond p (suc n) n)
swap_counts true true n = refl
swap_counts true false n = refl
swap_counts false true n = refl
swap_counts false false n = refl

module _ (strings : List (List ℕ)) where
  -- how many drafts are open starts of a name
  abbrev open_in : ℕ → List Draft → ℕ
  open_in n [] = 0
  open_in n (d ∷ ds) = cond (is_open_start strings n d) (suc (open_in n ds)) (open_in n ds)

  -- what a draft becomes, where so many later starts of its name are open and these rows are still to come
  abbrev final : Draft → ℕ → List RawMarker → Marker
  final d later rows = cond d.is_open (option_map_or (λ e. (closed_by e d).marker) (closing_end strings d.marker.name later rows) d.marker) d.marker

  abbrev settle : List Draft → List RawMarker → List Marker
  settle [] rows = []
  settle (d ∷ ds) rows = final d (open_in d.marker.name ds) rows ∷ settle ds rows

  final_same : (d : Draft) (j k : ℕ) (before after : List RawMarker)
      → (d.is_open ≡ true → closing_end strings d.marker.name j before ≡ closing_end strings d.marker.name k after) → final d j before ≡ final d k after
  final_same d j k before after h =
      (elim d.is_open as (λ b. (b ≡ true → closing_end strings d.marker.name j before ≡ closing_end strings d.marker.name k after)
      → cond b (option_map_or (λ e. (closed_by e d).marker) (closing_end strings d.marker.name j before) d.marker) d.marker
      ≡ cond b (option_map_or (λ e. (closed_by e d).marker) (closing_end strings d.marker.name k after) d.marker) d.marker) [
        | true ↦ λ same. ap (λ (o : Option RawMarker). option_map_or (λ e. (closed_by e d).marker) o d.marker) (same refl)
        | false ↦ λ same. refl
      ]) h

  final_closed : (d : Draft) (k : ℕ) (rows : List RawMarker) → d.is_open ≡ false → final d k rows ≡ d.marker
  final_closed d k rows e = ap (λ b. cond b (option_map_or (λ e. (closed_by e d).marker) (closing_end strings d.marker.name k rows) d.marker) d.marker) e

  final_none : (d : Draft) (k : ℕ) → final d k [] ≡ d.marker
  final_none d k = elim d.is_open as (λ b. cond b d.marker d.marker ≡ d.marker) [ true ↦ refl | false ↦ refl ]

  -- how a row moves the end that closes a start
  module _ (n : ℕ) (m : RawMarker) (rows : List RawMarker) where
    abbrev turn : ℕ → Bool → Bool → Option RawMarker
    turn k ends starts = cond (ends && eqb k 0) (Some m) (closing_end strings n (cond starts (k + 1) (cond ends (k - 1) k)) rows)

    turn_is : (k : ℕ) (ends starts : Bool) → is_end_of strings n m ≡ ends → is_start_of strings n m ≡ starts → closing_end strings n k (m ∷ rows) ≡ turn k ends starts
    turn_is k ends starts e s = ap (λ b. turn k b (is_start_of strings n m)) e ∙ ap (turn k ends) s

    closes_later : (k : ℕ) → is_end_of strings n m ≡ true → is_start_of strings n m ≡ false → closing_end strings n (suc k) (m ∷ rows) ≡ closing_end strings n k rows
    closes_later k e s =
        let no : eqb (suc k) 0 ≡ false = grind (arith, nat_tests) in
        let less : suc k - 1 ≡ k = omega arith in
        turn_is (suc k) true false e s
        ∙ (ap (λ b. cond b (Some m) (closing_end strings n (suc k - 1) rows)) no ∙ ap (λ i. closing_end strings n i rows) less)

  -- a row that neither starts nor ends
  is_start : (n : ℕ) (m : RawMarker) (b : Bool) → eqb m.phase 2 ≡ b → is_start_of strings n m ≡ (b && is_same_name strings n m.name)
  is_start n m b e = ap (λ t. t && is_same_name strings n m.name) e

  is_end : (n : ℕ) (m : RawMarker) (b : Bool) → ltb 2 m.phase ≡ b → is_end_of strings n m ≡ (b && is_same_name strings n m.name)
  is_end n m b e = ap (λ t. t && is_same_name strings n m.name) e

  settle_neither : (m : RawMarker) (rows : List RawMarker) → eqb m.phase 2 ≡ false → ltb 2 m.phase ≡ false → (ds : List Draft) → settle ds rows ≡ settle ds (m ∷ rows)
  settle_neither m rows s e [] = refl
  settle_neither m rows s e (d ∷ ds) =
      let k = open_in d.marker.name ds in
      ap (λ x. x ∷ settle ds rows) (final_same d k k rows (m ∷ rows) (λ o. sym (turn_is d.marker.name m rows k false false (is_end d.marker.name m false e) (is_start d.marker.name m false s))))
      ∙ ap (λ l. final d k (m ∷ rows) ∷ l) (settle_neither m rows s e ds)

  -- an end of a name of which no start is open
  not_end : (m : RawMarker) (d : Draft) → d.is_open ≡ true → is_open_start strings m.name d ≡ false → is_end_of strings d.marker.name m ≡ false
  not_end m d op shut = false_from_ne_true (is_end_of strings d.marker.name m) (λ t.
      let text = same_text (name_text strings d.marker.name) (name_text strings m.name) (and_parts (nat_lt 2 m.phase) (is_same_name strings d.marker.name m.name) t).1 in
      true≢false (sym (open_from strings m.name d op (sym text)) ∙ shut))

  settle_none : (m : RawMarker) (rows : List RawMarker) → eqb m.phase 2 ≡ false → (ds : List Draft) → last_place (is_open_start strings m.name) ds ≡ None → settle ds rows ≡ settle ds (m ∷ rows)
  settle_none m rows s [] h = refl
  settle_none m rows s (d ∷ ds) h =
      let k = open_in d.marker.name ds in
      let shut = last_place-none (is_open_start strings m.name) (d ∷ ds) 0 d h refl in
      ap (λ x. x ∷ settle ds rows) (final_same d k k rows (m ∷ rows) (λ o. sym (turn_is d.marker.name m rows k false false (not_end m d o shut) (is_start d.marker.name m false s))))
      ∙ ap (λ l. final d k (m ∷ rows) ∷ l) (settle_none m rows s ds (later_none (last_place (is_open_start strings m.name) ds) (is_open_start strings m.name d) h))

  -- one more draft
  open_in-push : (n : ℕ) (ds : List Draft) (d : Draft) → open_in n (ds ++ d ∷ []) ≡ cond (is_open_start strings n d) (suc (open_in n ds)) (open_in n ds)
  open_in-push n [] d = refl
  open_in-push n (x ∷ ds) d =
      ap (λ k. cond (is_open_start strings n x) (suc k) k) (open_in-push n ds d) ∙ swap_counts (is_open_start strings n x) (is_open_start strings n d) (open_in n ds)

  open_in-push_closed : (n : ℕ) (ds : List Draft) (d : Draft) → d.is_open ≡ false → open_in n (ds ++ d ∷ []) ≡ open_in n ds
  open_in-push_closed n ds d e = open_in-push n ds d ∙ ap (λ b. cond b (suc (open_in n ds)) (open_in n ds)) (closed_not strings n d e)

  settle_push_closed : (d : Draft) (rows : List RawMarker) → d.is_open ≡ false → (ds : List Draft) → settle (ds ++ d ∷ []) rows ≡ settle ds rows ++ d.marker ∷ []
  settle_push_closed d rows e [] = ap (λ x. x ∷ []) (final_closed d 0 rows e)
  settle_push_closed d rows e (x ∷ ds) =
      ap (λ k. final x k rows ∷ settle (ds ++ d ∷ []) rows) (open_in-push_closed x.marker.name ds d e)
      ∙ ap (λ l. final x (open_in x.marker.name ds) rows ∷ l) (settle_push_closed d rows e ds)

  -- a start: of each open start of its name one more has to be closed first
  start_counts : (m : RawMarker) (d : Draft) (rows : List RawMarker) (n k : ℕ) → d.is_open ≡ true → d.marker.name ≡ m.name → eqb m.phase 2 ≡ true → ltb 2 m.phase ≡ false
      → closing_end strings n (cond (is_open_start strings n d) (suc k) k) rows ≡ closing_end strings n k (m ∷ rows)
  start_counts m d rows n k op name s e =
      let same : is_open_start strings n d ≡ is_same_name strings n m.name = ap (λ b. b && is_same_name strings n d.marker.name) op ∙ ap (is_same_name strings n) name in
      let turned = turn_is n m rows k false (is_same_name strings n m.name) (is_end n m false e) (is_start n m true s) in
      ap (λ b. closing_end strings n (cond b (suc k) k) rows) same
      ∙ ((elim (is_same_name strings n m.name) as (λ b. closing_end strings n (cond b (suc k) k) rows ≡ turn n m rows k false b) [
        | true ↦ ap (λ i. closing_end strings n i rows) (sym (add-one k))
        | false ↦ refl
      ]) ∙ sym turned)

  settle_push_open : (m : RawMarker) (d : Draft) (rows : List RawMarker) → d.is_open ≡ true → d.marker.name ≡ m.name → eqb m.phase 2 ≡ true → ltb 2 m.phase ≡ false
      → (ds : List Draft) → settle (ds ++ d ∷ []) rows ≡ settle ds (m ∷ rows) ++ final d 0 rows ∷ []
  settle_push_open m d rows op name s e [] = refl
  settle_push_open m d rows op name s e (x ∷ ds) =
      let n = x.marker.name in
      let k = open_in n ds in
      ap (λ i. final x i rows ∷ settle (ds ++ d ∷ []) rows) (open_in-push n ds d)
      ∙ (ap (λ y. y ∷ settle (ds ++ d ∷ []) rows) (final_same x (cond (is_open_start strings n d) (suc k) k) k rows (m ∷ rows) (λ o. start_counts m d rows n k op name s e))
      ∙ ap (λ l. final x k (m ∷ rows) ∷ l) (settle_push_open m d rows op name s e ds))

  -- an end that closes a start
  open_in-set : (n : ℕ) (ds : List Draft) (k : ℕ) (d c : Draft) → slice_get ds k ≡ Some d → c.is_open ≡ false
      → open_in n ds ≡ cond (is_open_start strings n d) (suc (open_in n (set ds k c))) (open_in n (set ds k c))
  open_in-set n [] k d c g e = absurd (none-some d g)
  open_in-set n (x ∷ ds) zero d c g e =
      let closed = ap (λ b. cond b (suc (open_in n ds)) (open_in n ds)) (closed_not strings n c e) in
      ap (λ (y : Draft). cond (is_open_start strings n y) (suc (open_in n ds)) (open_in n ds)) (same_Some x d g)
      ∙ sym (ap (λ i. cond (is_open_start strings n d) (suc i) i) closed)
  open_in-set n (x ∷ ds) (suc k) d c g e =
      ap (λ i. cond (is_open_start strings n x) (suc i) i) (open_in-set n ds k d c g e) ∙ swap_counts (is_open_start strings n x) (is_open_start strings n d) (open_in n (set ds k c))

  none_open : (n m : ℕ) (ds : List Draft) → name_text strings m ≡ name_text strings n → last_place (is_open_start strings m) ds ≡ None → open_in n ds ≡ 0
  none_open n m [] text h = refl
  none_open n m (d ∷ ds) text h =
      let shut = last_place-none (is_open_start strings m) (d ∷ ds) 0 d h refl in
      let not_n : is_open_start strings n d ≡ false = ap (λ t. d.is_open && bytes_eq t (name_text strings d.marker.name)) (sym text) ∙ shut in
      ap (λ b. cond b (suc (open_in n ds)) (open_in n ds)) not_n ∙ none_open n m ds text (later_none (last_place (is_open_start strings m) ds) (is_open_start strings m d) h)

  -- the end of a name counts against each open start of the name
  end_counts : (m : RawMarker) (d : Draft) (rows : List RawMarker) (n j : ℕ) → is_open_start strings m.name d ≡ true → eqb m.phase 2 ≡ false → ltb 2 m.phase ≡ true
      → closing_end strings n j rows ≡ closing_end strings n (cond (is_open_start strings n d) (suc j) j) (m ∷ rows)
  end_counts m d rows n j hit s e =
      let parts = open_parts strings m.name d hit in
      let same : is_open_start strings n d ≡ is_same_name strings n m.name = ap (λ b. b && is_same_name strings n d.marker.name) parts.0 ∙ ap (bytes_eq (name_text strings n)) (sym parts.1) in
      let ends : is_end_of strings n m ≡ is_same_name strings n m.name = is_end n m true e in
      let starts = is_start n m false s in
      (elim (is_same_name strings n m.name) as (λ b. is_end_of strings n m ≡ b → closing_end strings n j rows ≡ closing_end strings n (cond b (suc j) j) (m ∷ rows)) [
        | true ↦ λ t. sym (closes_later n m rows j t starts)
        | false ↦ λ t. sym (turn_is n m rows j false false t starts)
      ]) ends
      ∙ ap (λ b. closing_end strings n (cond b (suc j) j) (m ∷ rows)) (sym same)

  settle_close : (m : RawMarker) (rows : List RawMarker) → eqb m.phase 2 ≡ false → ltb 2 m.phase ≡ true → (ds : List Draft) (k : ℕ) (d : Draft)
      → last_place (is_open_start strings m.name) ds ≡ Some k → slice_get ds k ≡ Some d → is_open_start strings m.name d ≡ true
      → settle (set ds k (closed_by m d)) rows ≡ settle ds (m ∷ rows)
  settle_close m rows s e [] k d h g hit = absurd (none-some d g)
  settle_close m rows s e (x ∷ ds) zero d h g hit = closed_here (last_place (is_open_start strings m.name) ds) refl h
    where
      closed_here : (o : Option ℕ) → last_place (is_open_start strings m.name) ds ≡ o → cond_place o (is_open_start strings m.name x) ≡ Some 0
          → final (closed_by m d) (open_in d.marker.name ds) rows ∷ settle ds rows ≡ final x (open_in x.marker.name ds) (m ∷ rows) ∷ settle ds (m ∷ rows)
      closed_here (Some i) o h = absurd (let bad : suc i ≡ 0 = same_Some (suc i) 0 h in omega (arith, bad))
      closed_here None o h =
          let parts = open_parts strings m.name d hit in
          let n = d.marker.name in
          let ends : is_end_of strings n m ≡ true = is_end n m true e ∙ text_same (name_text strings n) (name_text strings m.name) (sym parts.1) in
          let closes : closing_end strings n (open_in n ds) (m ∷ rows) ≡ Some m =
          ap (λ i. closing_end strings n i (m ∷ rows)) (none_open n m.name ds parts.1 o) ∙ turn_is n m rows 0 true false ends (is_start n m false s) in
          let becomes : final d (open_in n ds) (m ∷ rows) ≡ (closed_by m d).marker =
          ap (λ b. cond b (option_map_or (λ e. (closed_by e d).marker) (closing_end strings n (open_in n ds) (m ∷ rows)) d.marker) d.marker) parts.0
          ∙ ap (λ (p : Option RawMarker). option_map_or (λ e. (closed_by e d).marker) p d.marker) closes in
          ap (λ y. y ∷ settle ds rows) (sym becomes ∙ ap (λ (y : Draft). final y (open_in y.marker.name ds) (m ∷ rows)) (sym (same_Some x d g)))
          ∙ ap (λ l. final x (open_in x.marker.name ds) (m ∷ rows) ∷ l) (settle_none m rows s ds o)
  settle_close m rows s e (x ∷ ds) (suc k) d h g hit =
      let n = x.marker.name in
      let c = closed_by m d in
      let j = open_in n (set ds k c) in
      ap (λ y. y ∷ settle (set ds k c) rows)
      (final_same x j (cond (is_open_start strings n d) (suc j) j) rows (m ∷ rows) (λ o. end_counts m d rows n j hit s e)
      ∙ ap (λ i. final x i (m ∷ rows)) (sym (open_in-set n ds k d c g refl)))
      ∙ ap (λ l. final x (open_in n ds) (m ∷ rows) ∷ l) (settle_close m rows s e ds k d (later_some (last_place (is_open_start strings m.name) ds) (is_open_start strings m.name x) k h) g hit)

  -- the counts of open starts go along with the rows
  abbrev Counts : List RawMarker → List Draft → Type 0
  Counts before ds = (n : ℕ) → open_in n ds ≡ open_after strings before n

  more_open : (before : List RawMarker) (m : RawMarker) (n : ℕ) (ends starts : Bool) → is_end_of strings n m ≡ ends → is_start_of strings n m ≡ starts
      → open_after strings (before ++ m ∷ []) n ≡ cond starts (open_after strings before n + 1) (cond ends (open_after strings before n - 1) (open_after strings before n))
  more_open before m n ends starts e s =
      let k = open_after strings before n in
      fold-append (next_open strings n) 0 before (m ∷ [])
      ∙ (ap (λ b. cond (is_start_of strings n m) (k + 1) (cond b (k - 1) k)) e ∙ ap (λ b. cond b (k + 1) (cond ends (k - 1) k)) s)

  counts_neither : (before : List RawMarker) (m : RawMarker) (ds : List Draft) (d : Draft) → eqb m.phase 2 ≡ false → ltb 2 m.phase ≡ false → d.is_open ≡ false
      → Counts before ds → Counts (before ++ m ∷ []) (ds ++ d ∷ [])
  counts_neither before m ds d s e closed counts n =
      open_in-push_closed n ds d closed ∙ (counts n ∙ sym (more_open before m n false false (is_end n m false e) (is_start n m false s)))

  counts_start : (before : List RawMarker) (m : RawMarker) (ds : List Draft) (d : Draft) → eqb m.phase 2 ≡ true → ltb 2 m.phase ≡ false → d.is_open ≡ true → d.marker.name ≡ m.name
      → Counts before ds → Counts (before ++ m ∷ []) (ds ++ d ∷ [])
  counts_start before m ds d s e op name counts n =
      let k = open_after strings before n in
      let same : is_open_start strings n d ≡ is_same_name strings n m.name = ap (λ b. b && is_same_name strings n d.marker.name) op ∙ ap (is_same_name strings n) name in
      open_in-push n ds d
      ∙ (ap (λ b. cond b (suc (open_in n ds)) (open_in n ds)) same
      ∙ (ap (λ i. cond (is_same_name strings n m.name) (suc i) i) (counts n)
      ∙ ((elim (is_same_name strings n m.name) as (λ b. cond b (suc k) k ≡ cond b (k + 1) k) [ true ↦ sym (add-one k) | false ↦ refl ])
      ∙ sym (more_open before m n false (is_same_name strings n m.name) (is_end n m false e) (is_start n m true s)))))

  counts_unstarted : (before : List RawMarker) (m : RawMarker) (ds : List Draft) (d : Draft) → eqb m.phase 2 ≡ false → ltb 2 m.phase ≡ true → d.is_open ≡ false
      → last_place (is_open_start strings m.name) ds ≡ None → Counts before ds → Counts (before ++ m ∷ []) (ds ++ d ∷ [])
  counts_unstarted before m ds d s e closed none counts n =
      let k = open_after strings before n in
      open_in-push_closed n ds d closed
      ∙ (counts n
      ∙ ((elim (is_same_name strings n m.name) as (λ b. is_same_name strings n m.name ≡ b → k ≡ cond b (k - 1) k) [
        | true ↦ λ t.
            let zero_now : k ≡ 0 = sym (counts n) ∙ none_open n m.name ds (sym (same_text (name_text strings n) (name_text strings m.name) t)) none in
            (let less : k ≡ k - 1 = omega (arith, zero_now) in less)
        | false ↦ λ t. refl
      ]) refl
      ∙ sym (more_open before m n (is_same_name strings n m.name) false (is_end n m true e) (is_start n m false s))))

  counts_close : (before : List RawMarker) (m : RawMarker) (ds : List Draft) (k : ℕ) (d c : Draft) → eqb m.phase 2 ≡ false → ltb 2 m.phase ≡ true → c.is_open ≡ false
      → slice_get ds k ≡ Some d → is_open_start strings m.name d ≡ true → Counts before ds → Counts (before ++ m ∷ []) (set ds k c)
  counts_close before m ds k d c s e closed g hit counts n =
      let now = open_after strings before n in
      let parts = open_parts strings m.name d hit in
      let j = open_in n (set ds k c) in
      let same : is_open_start strings n d ≡ is_same_name strings n m.name = ap (λ b. b && is_same_name strings n d.marker.name) parts.0 ∙ ap (bytes_eq (name_text strings n)) (sym parts.1) in
      let was : now ≡ cond (is_same_name strings n m.name) (suc j) j = sym (counts n) ∙ (open_in-set n ds k d c g closed ∙ ap (λ b. cond b (suc j) j) same) in
      (elim (is_same_name strings n m.name) as (λ b. now ≡ cond b (suc j) j → j ≡ cond b (now - 1) now) [
        | true ↦ λ w. (let less : j ≡ now - 1 = omega (arith, w) in less)
        | false ↦ λ w. sym w
      ]) was
      ∙ sym (more_open before m n (is_same_name strings n m.name) false (is_end n m true e) (is_start n m false s))

  -- one row taken in, with what is still to come
  module _ (first last : Option ℤ) (before : List RawMarker) (ds : List Draft) (m : RawMarker) (rows : List RawMarker) (counts : Counts before ds) where
    abbrev Turns : List Draft → List Marker → Type 0
    Turns after made = Counts (before ++ m ∷ []) after × (settle after rows ≡ settle ds (m ∷ rows) ++ made)

    turns_neither : (d : Draft) → eqb m.phase 2 ≡ false → ltb 2 m.phase ≡ false → d.is_open ≡ false → Turns (ds ++ d ∷ []) (d.marker ∷ [])
    turns_neither d s e closed = (
      counts_neither before m ds d s e closed counts,
      settle_push_closed d rows closed ds ∙ ap (λ l. l ++ d.marker ∷ []) (settle_neither m rows s e ds),
    )

    turns_start : eqb m.phase 2 ≡ true → ltb 2 m.phase ≡ false
        → Turns (ds ++ unended last m ∷ []) (option_map_or (λ e. (closed_by e (unended last m)).marker) (closing_end strings m.name 0 rows) (unended last m).marker ∷ [])
    turns_start s e = (
      counts_start before m ds (unended last m) s e refl refl counts,
      settle_push_open m (unended last m) rows refl refl s e ds,
    )

    turns_end : eqb m.phase 2 ≡ false → ltb 2 m.phase ≡ true → (o : Option ℕ) → last_place (is_open_start strings m.name) ds ≡ o
        → Turns (option_map_or (closed_at m ds) o (ds ++ unstarted first m ∷ [])) (cond (eqb (open_after strings before m.name) 0) ((unstarted first m).marker ∷ []) [])
    turns_end s e None none =
        let zero_now : open_after strings before m.name ≡ 0 = sym (counts m.name) ∙ none_open m.name m.name ds refl none in (
          counts_unstarted before m ds (unstarted first m) s e refl none counts,
          settle_push_closed (unstarted first m) rows refl ds
              ∙ (ap (λ l. l ++ (unstarted first m).marker ∷ []) (settle_none m rows s ds none)
              ∙ ap (λ i. settle ds (m ∷ rows) ++ cond (eqb i 0) ((unstarted first m).marker ∷ []) []) (sym zero_now)),
        )
    turns_end s e (Some k) found =
        let hit = last_place-hit (is_open_start strings m.name) ds k found in
        let d = hit.0 in
        let c = closed_by m d in
        let edited : option_map_or (λ x. set ds k (closed_by m x)) (slice_get ds k) ds ≡ set ds k c = ap (λ (p : Option Draft). option_map_or (λ x. set ds k (closed_by m x)) p ds) hit.1.0 in
        let some_now : open_after strings before m.name ≡ suc (open_in m.name (set ds k c)) =
        sym (counts m.name) ∙ (open_in-set m.name ds k d c hit.1.0 refl ∙ ap (λ b. cond b (suc (open_in m.name (set ds k c))) (open_in m.name (set ds k c))) hit.1.1) in
        let no : eqb (open_after strings before m.name) 0 ≡ false = grind (arith, nat_tests) in (
          subst (Counts (before ++ m ∷ [])) (sym edited) (counts_close before m ds k d c s e refl hit.1.0 hit.1.1 counts),
          ap (λ l. settle l rows) edited
              ∙ (settle_close m rows s e ds k d found hit.1.0 hit.1.1
              ∙ (sym (append-nil (settle ds (m ∷ rows)))
              ∙ ap (λ b. settle ds (m ∷ rows) ++ cond b ((unstarted first m).marker ∷ []) []) (sym no))),
        )

    turns : (a b c : Bool) → eqb m.phase 0 ≡ a → eqb m.phase 1 ≡ b → eqb m.phase 2 ≡ c
        → Turns (cond a (ds ++ instant m ∷ []) (cond b (ds ++ interval m ∷ []) (cond c (ds ++ unended last m ∷ []) (after_end strings first ds m))))
        (cond a ((instant m).marker ∷ []) (cond b ((interval m).marker ∷ [])
        (cond c (option_map_or (λ e. (closed_by e (unended last m)).marker) (closing_end strings m.name 0 rows) (unended last m).marker ∷ [])
        (cond (eqb (open_after strings before m.name) 0) ((unstarted first m).marker ∷ []) []))))
    turns true b c x y z = turns_neither (instant m) (let no : eqb m.phase 2 ≡ false = grind (arith, nat_tests) in no) (let no : ltb 2 m.phase ≡ false = grind (arith, nat_tests) in no) refl
    turns false true c x y z = turns_neither (interval m) (let no : eqb m.phase 2 ≡ false = grind (arith, nat_tests) in no) (let no : ltb 2 m.phase ≡ false = grind (arith, nat_tests) in no) refl
    turns false false true x y z = turns_start z (let no : ltb 2 m.phase ≡ false = grind (arith, nat_tests) in no)
    turns false false false x y z = turns_end z (let yes : ltb 2 m.phase ≡ true = grind (arith, nat_tests) in yes) (last_place (is_open_start strings m.name) ds) refl

  -- all rows
  settle_end : (ds : List Draft) → settle ds [] ≡ map (λ (d : Draft). d.marker) ds
  settle_end [] = refl
  settle_end (d ∷ ds) =
      ap (λ x. x ∷ settle ds []) (final_none d (open_in d.marker.name ds)) ∙ ap (λ l. d.marker ∷ l) (settle_end ds)

  by_rows : (first last : Option ℤ) (rows : List RawMarker) (ds : List Draft) (before : List RawMarker) → Counts before ds
      → map (λ (d : Draft). d.marker) (fold (after_row strings first last) ds rows) ≡ settle ds rows ++ rows_markers strings first last before rows
  by_rows first last [] ds before counts = sym (settle_end ds) ∙ sym (append-nil (settle ds []))
  by_rows first last (m ∷ rows) ds before counts =
      let turned = turns first last before ds m rows counts (eqb m.phase 0) (eqb m.phase 1) (eqb m.phase 2) refl refl refl in
      by_rows first last rows (after_row strings first last ds m) (before ++ m ∷ []) turned.0
      ∙ (ap (λ l. l ++ rows_markers strings first last (before ++ m ∷ []) rows) turned.1
      ∙ append_assoc (settle ds (m ∷ rows)) (row_markers strings first last before m rows) (rows_markers strings first last (before ++ m ∷ []) rows))

pub pair_by_row : PairByRow
pair_by_row t = by_rows t.shared.strings (first_time t.samples) (last_time t.samples) t.markers.rows [] [] (λ n. refl)
