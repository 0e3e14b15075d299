-- Layers, as one is added or taken away
use Rattle.std.proofs.Common.{◌≡◌, ℕ, zero, suc, ◌+◌, ◌-◌, ◌<◌, ◌≤◌, ℤ, Bool, true, false, cond, not, List, [], ◌∷◌, ◌++◌, length, get_or, take, drop, Option, None, Some, Vec, sym, ap, ◌∙◌, refl, subst, arith, length-append, inl, inr}
use Rattle.std.specs.Prelude.{slice_get}
use Rattle.std.specs.Global.{Global}
use Rattle.std.proofs.lemmas.Bool.{cases_lt}
use Rattle.std.proofs.lemmas.List.{take-append-le, take-append-drop, take_more, take_all, length-take-le, append-nil}
use Rattle.std.proofs.lemmas.List.Elements.{filter-append}
use Rattle.std.proofs.lemmas.Option.{slice_get_within}
use Rattle.std.specs.Option.{option_map_or}
use Rattle.prof_tables.specs.declared.rows.Step.{Step}
use Rattle.prof_tables.specs.declared.rows.StackRow.{StackRow}
use Rattle.prof_tables.specs.Threads.{SharedTables, ThreadTables}
use Rattle.prof_tables.specs.Paths.{path}
use Rattle.prof_path.specs.declared.lists.Span.{Span}
use Rattle.prof_path.specs.declared.transform.Transform.{Transform}
use Rattle.prof_path.specs.Rewriting.{rewrite, rewrite_all}
use Rattle.prof_path.proofs.StepLaws.{empty_stays}
use Rattle.prof_layer.specs.declared.layer.Table.{Table}
use Rattle.prof_layer.specs.Rewritten.{IsRowOf, IsRewritten, entry_at}
use Rattle.prof_layer.specs.Following.{follow}
use Rattle.prof_layer.specs.Simulates.{is_of_samples, of_rows, Stands}
use Rattle.prof_layer.specs.Kept.{found_of, AreFlags}
use Rattle.prof_layer.specs.Stacked.{rows_over, entries_over, AreLayers}
use Rattle.prof_raw.proofs.PushLemmas.{slice_get-push_last}

-- one more transform of rows
rewrite_all-more : (t : SharedTables) (ts : List Transform) (tr : Transform) (x : List Step) (m : ℤ) → rewrite_all t (ts ++ tr ∷ []) [] x m ≡ rewrite t tr [] (rewrite_all t ts [] x m) m
rewrite_all-more t [] tr x m = refl
rewrite_all-more t (first ∷ ts) tr x m = rewrite_all-more t ts tr (rewrite t first [] x m) m

-- an entry that follows its row
follow-row : (t : SharedTables) (tr : Transform) (top rows : List StackRow) (outs : List (Option ℕ)) (entry : Option ℕ) (y : List Step) (m : ℤ) → IsRewritten t tr top rows outs → IsRowOf top entry y
    → IsRowOf rows (follow outs entry) (rewrite t tr [] y m)
follow-row t tr top rows outs None y m h is = ap (λ x. rewrite t tr [] x m) is ∙ empty_stays t tr [] m
follow-row t tr top rows outs (Some q) y m h is =
    subst (λ x. IsRowOf rows (entry_at outs q) (rewrite t tr [] x m)) is.1 (h.paths q is.0 [] m)

-- the rows that one more transform makes stand for one more transform
pub Stands-more : (base : ThreadTables) (ts : List Transform) (tr : Transform) (top rows : List StackRow) (entries outs new : List (Option ℕ))
    → Stands base ts top entries → IsRewritten base.shared tr top rows outs
    → length new ≡ length base.shared.stacks → ((r : ℕ) → r < length base.shared.stacks → entry_at new r ≡ follow outs (entry_at entries r))
    → Stands base (ts ++ tr ∷ []) rows new
Stands-more base ts tr top rows entries outs new h made count each = record {
  fit = made.fit;
  few = omega (arith, made.few, h.few);
  count = count;
  paths = λ r lt m.
      let y = rewrite_all base.shared ts [] (path base.shared.stacks (Some r)) m in
      subst (IsRowOf rows (entry_at new r)) (sym (rewrite_all-more base.shared ts tr (path base.shared.stacks (Some r)) m))
      (subst (λ e. IsRowOf rows e (rewrite base.shared tr [] y m)) (sym (each r lt))
      (follow-row base.shared tr top rows outs (entry_at entries r) y m made (h.paths r lt m)));
}

-- one more transform, of rows or of samples
of_rows-more : (ts : List Transform) (tr : Transform) → of_rows (ts ++ tr ∷ []) ≡ of_rows ts ++ cond (not (is_of_samples tr)) (tr ∷ []) []
of_rows-more ts tr = filter-append (λ t. not (is_of_samples t)) ts (tr ∷ [])

found_of-more : (ts : List Transform) (spans : List (List Span)) (tr : Transform) (found : List Span) → length spans ≡ length ts
    → found_of (ts ++ tr ∷ []) (spans ++ found ∷ []) ≡ found_of ts spans ++ cond (is_of_samples tr) (found ∷ []) []
found_of-more [] [] tr found h = last (is_of_samples tr)
  where
    last : (b : Bool) → cond b (found ∷ []) [] ≡ [] ++ cond b (found ∷ []) []
    last true = refl
    last false = refl
found_of-more [] (x ∷ spans) tr found h = absurd (omega arith)
found_of-more (t ∷ ts) [] tr found h = absurd (omega arith)
found_of-more (t ∷ ts) (x ∷ spans) tr found h =
    cons (is_of_samples t) x (found_of (ts ++ tr ∷ []) (spans ++ found ∷ [])) (found_of ts spans) (cond (is_of_samples tr) (found ∷ []) []) (found_of-more ts spans tr found (omega arith))
  where
    cons : (b : Bool) (x : List Span) (a c d : List (List Span)) → a ≡ c ++ d → cond b (x ∷ a) a ≡ cond b (x ∷ c) c ++ d
    cons true x a c d e = ap (λ l. x ∷ l) e
    cons false x a c d e = e

-- what stands before appended items
slice_get-front : {A : Type 0} (xs more : List A) (i : ℕ) → i < length xs → slice_get (xs ++ more) i ≡ slice_get xs i
slice_get-front [] more i h = absurd (omega arith)
slice_get-front (x ∷ xs) more zero h = refl
slice_get-front (x ∷ xs) more (suc i) h = slice_get-front xs more i (omega arith)

rows_over-front : (own : List StackRow) (tables more : List Table) (n : ℕ) → n ≤ length tables → rows_over own (tables ++ more) n ≡ rows_over own tables n
rows_over-front own tables more zero h = refl
rows_over-front own tables more (suc n) h = ap (λ o. option_map_or (λ (table : Table). table.rows) o []) (slice_get-front tables more n (omega arith))

entries_over-front : (own : List StackRow) (tables more : List Table) (n : ℕ) → n ≤ length tables → entries_over own (tables ++ more) n ≡ entries_over own tables n
entries_over-front own tables more zero h = refl
entries_over-front own tables more (suc n) h = ap (λ o. option_map_or (λ (table : Table). table.entries.items) o []) (slice_get-front tables more n (omega arith))

-- the layers below appended ones
table-front : (base : ThreadTables) (ts more_ts : List Transform) (tables more : List Table) (n : ℕ) → length tables ≡ length ts → n ≤ length tables
    → Stands base (take n (ts ++ more_ts)) (rows_over base.shared.stacks (tables ++ more) n) (entries_over base.shared.stacks (tables ++ more) n)
    → Stands base (take n ts) (rows_over base.shared.stacks tables n) (entries_over base.shared.stacks tables n)
table-front base ts more_ts tables more n count le h =
    subst (λ l. Stands base l (rows_over base.shared.stacks tables n) (entries_over base.shared.stacks tables n)) (take-append-le n ts more_ts (omega arith))
    (subst (λ rows. Stands base (take n (ts ++ more_ts)) rows (entries_over base.shared.stacks tables n)) (rows_over-front base.shared.stacks tables more n le)
    (subst (λ entries. Stands base (take n (ts ++ more_ts)) (rows_over base.shared.stacks (tables ++ more) n) entries) (entries_over-front base.shared.stacks tables more n le) h))

table-back : (base : ThreadTables) (ts more_ts : List Transform) (tables more : List Table) (n : ℕ) → length tables ≡ length ts → n ≤ length tables
    → Stands base (take n ts) (rows_over base.shared.stacks tables n) (entries_over base.shared.stacks tables n)
    → Stands base (take n (ts ++ more_ts)) (rows_over base.shared.stacks (tables ++ more) n) (entries_over base.shared.stacks (tables ++ more) n)
table-back base ts more_ts tables more n count le h =
    subst (λ l. Stands base l (rows_over base.shared.stacks (tables ++ more) n) (entries_over base.shared.stacks (tables ++ more) n)) (sym (take-append-le n ts more_ts (omega arith)))
    (subst (λ rows. Stands base (take n ts) rows (entries_over base.shared.stacks (tables ++ more) n)) (sym (rows_over-front base.shared.stacks tables more n le))
    (subst (λ entries. Stands base (take n ts) (rows_over base.shared.stacks tables n) entries) (sym (entries_over-front base.shared.stacks tables more n le)) h))

-- the table that was appended last
table-last : (base : ThreadTables) (ts : List Transform) (tr : Transform) (tables : List Table) (table : Table) (n : ℕ) → length tables ≡ length ts → n ≡ length tables + 1
    → Stands base (ts ++ tr ∷ []) table.rows table.entries.items
    → Stands base (take n (ts ++ tr ∷ [])) (rows_over base.shared.stacks (tables ++ table ∷ []) n) (entries_over base.shared.stacks (tables ++ table ∷ []) n)
table-last base ts tr tables table n count is h =
    let all : take n (ts ++ tr ∷ []) ≡ ts ++ tr ∷ [] = take_all n (ts ++ tr ∷ []) (omega (arith, length-append ts (tr ∷ []))) in
    let next : n ≡ suc (length tables) = omega arith in
    let last : slice_get (tables ++ table ∷ []) (length tables) ≡ Some table = slice_get-push_last tables table in
    subst (λ l. Stands base l (rows_over base.shared.stacks (tables ++ table ∷ []) n) (entries_over base.shared.stacks (tables ++ table ∷ []) n)) (sym all)
    (let P : ℕ → Type 0 = λ k. Stands base (ts ++ tr ∷ []) (rows_over base.shared.stacks (tables ++ table ∷ []) k) (entries_over base.shared.stacks (tables ++ table ∷ []) k) in
    subst P (sym next)
    (subst (λ o. Stands base (ts ++ tr ∷ []) (option_map_or (λ (table : Table). table.rows) o []) (option_map_or (λ (table : Table). table.entries.items) o [])) (sym last) h))

-- one more table
pub layers-table : (base : ThreadTables) (settled : List Transform) (spans : List (List Span)) (tables : List Table) (flags : List (Vec Bool Global)) (tr : Transform) (found : List Span) (table : Table)
    → AreLayers base settled spans tables flags → is_of_samples tr ≡ false → Stands base (of_rows settled ++ tr ∷ []) table.rows table.entries.items
    → AreLayers base (settled ++ tr ∷ []) (spans ++ found ∷ []) (tables ++ table ∷ []) flags
layers-table base settled spans tables flags tr found table h rows stands =
    let of_all : of_rows (settled ++ tr ∷ []) ≡ of_rows settled ++ tr ∷ [] = of_rows-more settled tr ∙ ap (λ b. of_rows settled ++ cond (not b) (tr ∷ []) []) rows in
    let found_all : found_of (settled ++ tr ∷ []) (spans ++ found ∷ []) ≡ found_of settled spans =
    found_of-more settled spans tr found h.spans_count ∙ ap (λ b. found_of settled spans ++ cond b (found ∷ []) []) rows ∙ append-nil (found_of settled spans) in
    record {
      spans_count = omega (arith, length-append spans (found ∷ []), length-append settled (tr ∷ []), h.spans_count);
      tables_count = let n : length tables + 1 ≡ length (of_rows settled) + 1 = omega (arith, h.tables_count) in
          length-append tables (table ∷ []) ∙ n ∙ sym (ap length of_all ∙ length-append (of_rows settled) (tr ∷ []));
      flags_count = h.flags_count ∙ ap length (sym found_all);
      each_table = λ n le. subst (λ l. Stands base (take n l) (rows_over base.shared.stacks (tables ++ table ∷ []) n) (entries_over base.shared.stacks (tables ++ table ∷ []) n)) (sym of_all)
          (elim (cases_lt n (length tables + 1)) [
            | inl l ↦ table-back base (of_rows settled) (tr ∷ []) tables (table ∷ []) n h.tables_count (omega arith) (h.each_table n (omega arith))
            | inr g ↦ table-last base (of_rows settled) tr tables table n h.tables_count (omega (arith, length-append tables (table ∷ []))) stands
          ]);
      each_flags = λ n kept at. subst (λ l. AreFlags base.samples (take (n + 1) l) kept.items) (sym found_all) (h.each_flags n kept at);
    }

-- one more list of flags
pub layers-flags : (base : ThreadTables) (settled : List Transform) (spans : List (List Span)) (tables : List Table) (flags : List (Vec Bool Global)) (tr : Transform) (found : List Span) (kept : Vec Bool Global)
    → AreLayers base settled spans tables flags → is_of_samples tr ≡ true → AreFlags base.samples (found_of settled spans ++ found ∷ []) kept.items
    → AreLayers base (settled ++ tr ∷ []) (spans ++ found ∷ []) tables (flags ++ kept ∷ [])
layers-flags base settled spans tables flags tr found kept h samples are =
    let of_all : of_rows (settled ++ tr ∷ []) ≡ of_rows settled = of_rows-more settled tr ∙ ap (λ b. of_rows settled ++ cond (not b) (tr ∷ []) []) samples ∙ append-nil (of_rows settled) in
    let found_all : found_of (settled ++ tr ∷ []) (spans ++ found ∷ []) ≡ found_of settled spans ++ found ∷ [] =
    found_of-more settled spans tr found h.spans_count ∙ ap (λ b. found_of settled spans ++ cond b (found ∷ []) []) samples in
    record {
      spans_count = omega (arith, length-append spans (found ∷ []), length-append settled (tr ∷ []), h.spans_count);
      tables_count = h.tables_count ∙ ap length (sym of_all);
      flags_count = let n : length flags + 1 ≡ length (found_of settled spans) + 1 = omega (arith, h.flags_count) in
          length-append flags (kept ∷ []) ∙ n ∙ sym (ap length found_all ∙ length-append (found_of settled spans) (found ∷ []));
      each_table = λ n le. subst (λ l. Stands base (take n l) (rows_over base.shared.stacks tables n) (entries_over base.shared.stacks tables n)) (sym of_all) (h.each_table n le);
      each_flags = λ n one at. subst (λ l. AreFlags base.samples (take (n + 1) l) one.items) (sym found_all)
          (elim (cases_lt n (length flags)) [
            | inl l ↦ subst (λ l. AreFlags base.samples l one.items) (sym (take-append-le (n + 1) (found_of settled spans) (found ∷ []) (omega (arith, h.flags_count)))) (h.each_flags n one (sym (slice_get-front flags (kept ∷ []) n l) ∙ at))
            | inr g ↦ (let within = slice_get_within (flags ++ kept ∷ []) n one at in
                let n_is : length flags ≡ n = omega (arith, length-append flags (kept ∷ [])) in
                let P : ℕ → Type 0 = λ k. slice_get (flags ++ kept ∷ []) k ≡ Some kept in
                let last : slice_get (flags ++ kept ∷ []) n ≡ Some kept = subst P n_is (slice_get-push_last flags kept) in
                let same : kept ≡ one = cc in
                let all : take (n + 1) (found_of settled spans ++ found ∷ []) ≡ found_of settled spans ++ found ∷ [] = take_all (n + 1) (found_of settled spans ++ found ∷ []) (omega (arith, length-append (found_of settled spans) (found ∷ []), h.flags_count)) in
                subst (λ l. AreFlags base.samples l one.items) (sym all) (subst (λ (v : Vec Bool Global). AreFlags base.samples (found_of settled spans ++ found ∷ []) v.items) same are))
          ]);
    }

-- the layers below the ones that are taken away
pub layers-front : (base : ThreadTables) (settled : List Transform) (tr : Transform) (spans : List (List Span)) (found : List Span) (tables more : List Table) (flags more_flags : List (Vec Bool Global))
    → AreLayers base (settled ++ tr ∷ []) (spans ++ found ∷ []) (tables ++ more) (flags ++ more_flags)
    → length tables ≡ length (of_rows settled) → length flags ≡ length (found_of settled spans)
    → AreLayers base settled spans tables flags
layers-front base settled tr spans found tables more flags more_flags h tables_count flags_count =
    let count : length spans ≡ length settled = omega (arith, length-append spans (found ∷ []), length-append settled (tr ∷ []), h.spans_count) in
    record {
      spans_count = count;
      tables_count = tables_count;
      flags_count = flags_count;
      each_table = λ n le. table-front base (of_rows settled) (cond (not (is_of_samples tr)) (tr ∷ []) []) tables more n tables_count le
          (subst (λ l. Stands base (take n l) (rows_over base.shared.stacks (tables ++ more) n) (entries_over base.shared.stacks (tables ++ more) n)) (of_rows-more settled tr)
          (h.each_table n (omega (arith, length-append tables more))));
      each_flags = λ n one at.
          let within = slice_get_within flags n one at in
          subst (λ l. AreFlags base.samples l one.items) (take-append-le (n + 1) (found_of settled spans) (cond (is_of_samples tr) (found ∷ []) []) (omega arith))
          (subst (λ l. AreFlags base.samples (take (n + 1) l) one.items) (found_of-more settled spans tr found count)
          (h.each_flags n one (slice_get-front flags more_flags n within ∙ at)));
    }

-- layers by equal lists
pub layers-same : (base : ThreadTables) (settled new_settled : List Transform) (spans new_spans : List (List Span)) (tables new_tables : List Table) (flags new_flags : List (Vec Bool Global))
    → new_settled ≡ settled → new_spans ≡ spans → new_tables ≡ tables → new_flags ≡ flags
    → AreLayers base settled spans tables flags → AreLayers base new_settled new_spans new_tables new_flags
layers-same base settled new_settled spans new_spans tables new_tables flags new_flags s p t f h =
    subst (λ l. AreLayers base l new_spans new_tables new_flags) (sym s)
    (subst (λ l. AreLayers base settled l new_tables new_flags) (sym p)
    (subst (λ l. AreLayers base settled spans l new_flags) (sym t)
    (subst (λ l. AreLayers base settled spans tables l) (sym f) h)))

-- a list by its front and its last item
by-last : {A : Type 0} (xs : List A) (n : ℕ) (d : A) → length xs ≡ n → 0 < n → xs ≡ take (n - 1) xs ++ get_or xs (n - 1) d ∷ []
by-last xs n d count some =
    let within : n - 1 < length xs = omega arith in
    let e : n - 1 + 1 ≡ n = omega arith in
    sym (take_all n xs (omega arith)) ∙ ap (λ k. take k xs) (sym e) ∙ take_more xs (n - 1) d within

-- the layers below a list of flags, and below a table
pub layers-without_flags : (base : ThreadTables) (settled : List Transform) (spans : List (List Span)) (tables : List Table) (flags : List (Vec Bool Global)) (n : ℕ) (d : Transform)
    → AreLayers base settled spans tables flags → length settled ≡ n → 0 < n → is_of_samples (get_or settled (n - 1) d) ≡ true
    → AreLayers base (take (n - 1) settled) (take (n - 1) spans) tables (take (length flags - 1) flags)
layers-without_flags base settled spans tables flags n d h count some samples =
    let s = take (n - 1) settled in
    let p = take (n - 1) spans in
    let tr = get_or settled (n - 1) d in
    let found = get_or spans (n - 1) [] in
    let spans_n : length spans ≡ n = omega (arith, h.spans_count) in
    let settled_is : settled ≡ s ++ tr ∷ [] = by-last settled n d count some in
    let spans_is : spans ≡ p ++ found ∷ [] = by-last spans n [] spans_n some in
    let fronts : length p ≡ length s = length-take-le (n - 1) spans (omega arith) ∙ sym (length-take-le (n - 1) settled (omega arith)) in
    let of_all : of_rows settled ≡ of_rows s = ap of_rows settled_is ∙ of_rows-more s tr ∙ ap (λ b. of_rows s ++ cond (not b) (tr ∷ []) []) samples ∙ append-nil (of_rows s) in
    let found_all : found_of settled spans ≡ found_of s p ++ found ∷ [] = ap (λ l. found_of l spans) settled_is ∙ ap (found_of (s ++ tr ∷ [])) spans_is ∙ found_of-more s p tr found fronts ∙ ap (λ b. found_of s p ++ cond b (found ∷ []) []) samples in
    let flags_n : length flags ≡ length (found_of s p) + 1 = h.flags_count ∙ ap length found_all ∙ length-append (found_of s p) (found ∷ []) in
    layers-front base s tr p found tables [] (take (length flags - 1) flags) (drop (length flags - 1) flags)
    (layers-same base settled (s ++ tr ∷ []) spans (p ++ found ∷ []) tables (tables ++ []) flags (take (length flags - 1) flags ++ drop (length flags - 1) flags)
    (sym settled_is) (sym spans_is) (append-nil tables) (take-append-drop (length flags - 1) flags) h)
    (h.tables_count ∙ ap length of_all)
    (length-take-le (length flags - 1) flags (omega arith) ∙ (let e : length flags - 1 ≡ length (found_of s p) = omega arith in e))

pub layers-without_table : (base : ThreadTables) (settled : List Transform) (spans : List (List Span)) (tables : List Table) (flags : List (Vec Bool Global)) (n : ℕ) (d : Transform)
    → AreLayers base settled spans tables flags → length settled ≡ n → 0 < n → is_of_samples (get_or settled (n - 1) d) ≡ false
    → AreLayers base (take (n - 1) settled) (take (n - 1) spans) (take (length tables - 1) tables) flags
layers-without_table base settled spans tables flags n d h count some rows =
    let s = take (n - 1) settled in
    let p = take (n - 1) spans in
    let tr = get_or settled (n - 1) d in
    let found = get_or spans (n - 1) [] in
    let spans_n : length spans ≡ n = omega (arith, h.spans_count) in
    let settled_is : settled ≡ s ++ tr ∷ [] = by-last settled n d count some in
    let spans_is : spans ≡ p ++ found ∷ [] = by-last spans n [] spans_n some in
    let fronts : length p ≡ length s = length-take-le (n - 1) spans (omega arith) ∙ sym (length-take-le (n - 1) settled (omega arith)) in
    let of_all : of_rows settled ≡ of_rows s ++ tr ∷ [] = ap of_rows settled_is ∙ of_rows-more s tr ∙ ap (λ b. of_rows s ++ cond (not b) (tr ∷ []) []) rows in
    let found_all : found_of settled spans ≡ found_of s p = ap (λ l. found_of l spans) settled_is ∙ ap (found_of (s ++ tr ∷ [])) spans_is ∙ found_of-more s p tr found fronts ∙ ap (λ b. found_of s p ++ cond b (found ∷ []) []) rows ∙ append-nil (found_of s p) in
    let tables_n : length tables ≡ length (of_rows s) + 1 = h.tables_count ∙ ap length of_all ∙ length-append (of_rows s) (tr ∷ []) in
    layers-front base s tr p found (take (length tables - 1) tables) (drop (length tables - 1) tables) flags []
    (layers-same base settled (s ++ tr ∷ []) spans (p ++ found ∷ []) tables (take (length tables - 1) tables ++ drop (length tables - 1) tables) flags (flags ++ [])
    (sym settled_is) (sym spans_is) (take-append-drop (length tables - 1) tables) (append-nil flags) h)
    (length-take-le (length tables - 1) tables (omega arith) ∙ (let e : length tables - 1 ≡ length (of_rows s) = omega arith in e))
    (h.flags_count ∙ ap length found_all)

-- taking the last layer away, where it is one of flags, and where it is a table
pub pop-flags : (base : ThreadTables) (settled new_settled : List Transform) (spans new_spans : List (List Span)) (tables : List Table) (flags new_flags : List (Vec Bool Global)) (n f : ℕ) (d : Transform)
    → AreLayers base settled spans tables flags → length settled ≡ n → 0 < length settled → length flags ≡ f → is_of_samples d ≡ true → d ≡ get_or settled (n - 1) d
    → new_settled ≡ take (n - 1) settled → new_spans ≡ take (n - 1) spans → new_flags ≡ take (f - 1) flags
    → AreLayers base new_settled new_spans tables new_flags
pop-flags base settled new_settled spans new_spans tables flags new_flags n f d h count some flags_count samples is s p k =
    layers-same base (take (n - 1) settled) new_settled (take (n - 1) spans) new_spans tables tables (take (length flags - 1) flags) new_flags s p refl (k ∙ ap (λ j. take (j - 1) flags) (sym flags_count))
    (layers-without_flags base settled spans tables flags n d h count (omega arith) (ap is_of_samples (sym is) ∙ samples))

pub pop-table : (base : ThreadTables) (settled new_settled : List Transform) (spans new_spans : List (List Span)) (tables new_tables : List Table) (flags : List (Vec Bool Global)) (n f : ℕ) (d : Transform)
    → AreLayers base settled spans tables flags → length settled ≡ n → 0 < length settled → length tables ≡ f → is_of_samples d ≡ false → d ≡ get_or settled (n - 1) d
    → new_settled ≡ take (n - 1) settled → new_spans ≡ take (n - 1) spans → new_tables ≡ take (f - 1) tables
    → AreLayers base new_settled new_spans new_tables flags
pop-table base settled new_settled spans new_spans tables new_tables flags n f d h count some tables_count rows is s p k =
    layers-same base (take (n - 1) settled) new_settled (take (n - 1) spans) new_spans (take (length tables - 1) tables) new_tables flags flags s p (k ∙ ap (λ j. take (j - 1) tables) (sym tables_count)) refl
    (layers-without_table base settled spans tables flags n d h count (omega arith) (ap is_of_samples (sym is) ∙ rows))
