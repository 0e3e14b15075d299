-- One more item of the lists of threads and of categories, and of the column `data`.
use Rattle.std.proofs.Common.{◌≡◌, ℕ, suc, ◌<◌, ◌≤◌, Option, None, Some, Ok, List, [], ◌∷◌, ◌++◌, Bool, true, false, refl, sym, ◌∙◌, ap, subst, arith, length, take}
use Rattle.prof_raw.specs.declared.limits.TheConstants.{MOST_CATEGORIES, MOST_ROWS, MOST_THREADS}
use Rattle.std.specs.Prelude.{map, not, is_some, unwrap_or, if◌then◌else◌}
use Rattle.std.specs.Option.{option_or}
use Rattle.std.proofs.lemmas.List.{map_push, length-map, length-take-le, length-take}
use Rattle.prof_grammar.specs.Value.{Value, null, boolean, number, string, array, object}
use Rattle.prof_layout.specs.Columns.{Cell, any_cell, cell_value}
use Rattle.prof_layout.specs.Lists.{is_object, member_text, first_where, first_unfit}
use Rattle.prof_layout.specs.Markers.{data_texts, all_texts, ranges_from}
use Rattle.prof_layout.specs.Profile.{is_string, is_category, category_name, is_grey}
use Rattle.prof_layout.proofs.Items.{kept-full, kept-push, first_where-meets, first_where-fails}
use Rattle.prof_layout.proofs.Gathering.{values-more}
use Rattle.prof_layout.proofs.MarkerTexts.{all_texts-push, ranges_from-push, length-ranges}
use Rattle.prof_members.proofs.WholeLists.{threads-count, names-count}
use Rattle.prof_column.specs.Kept.{string_of}
use Rattle.prof_members.specs.Gathered.{AreThreads, IsThread}
use Rattle.prof_column.specs.Columns.{kept_by}
use Rattle.prof_members.specs.Columns.{IsThreadListOf, IsCategoryListOf, IsCategoryAdded, IsMarkerDataOf}
use Rattle.prof_members.specs.declared.lists.CategoryList.{CategoryList}
use Rattle.prof_members.specs.declared.lists.MarkerData.{MarkerData}
use Rattle.prof_members.specs.declared.lists.ThreadList.{ThreadList}
use Rattle.prof_members.specs.declared.threads.ThreadParts.{ThreadParts}

-- where no other row is put
pub or-none : (o : Option ℕ) → option_or o None ≡ o
or-none None = refl
or-none (Some x) = refl

-- the first row that meets a test, and one more row
pub where-more : (test : Value → Bool) (most : ℕ) (vs : List Value) (v : Value) (old new : Option ℕ) (row : ℕ) (hit : Bool) → length (take (suc most) vs) ≤ most →
    old ≡ first_where test 0 (take (suc most) vs) → row ≡ length (take (suc most) vs) → hit ≡ test v → new ≡ option_or old (if hit then Some row else None) →
    new ≡ first_where test 0 (take (suc most) (vs ++ v ∷ []))
where-more test most vs v old new row true few o l e is =
    is
    ∙ ap (λ (a : Option ℕ). option_or a (Some row)) o
    ∙ ap (λ (k : ℕ). option_or (first_where test 0 (take (suc most) vs)) (Some k)) l
    ∙ sym (first_where-meets test (take (suc most) vs) v (sym e))
    ∙ ap (λ (t : List Value). first_where test 0 t) (sym (kept-push most vs v few))
where-more test most vs v old new row false few o l e is =
    is
    ∙ or-none old
    ∙ o
    ∙ sym (first_where-fails test (take (suc most) vs) v (sym e))
    ∙ ap (λ (t : List Value). first_where test 0 t) (sym (kept-push most vs v few))

-- the first row that doesn't fit
pub bad-more : (fits : Value → Bool) (most : ℕ) (vs : List Value) (v : Value) (old new : Option ℕ) (row : ℕ) (fit : Bool) → length (take (suc most) vs) ≤ most →
    old ≡ first_unfit fits (take (suc most) vs) → row ≡ length (take (suc most) vs) → fit ≡ fits v → new ≡ option_or old (if fit then None else Some row) →
    new ≡ first_unfit fits (take (suc most) (vs ++ v ∷ []))
bad-more fits most vs v old new row true few o l e is = where-more (λ w. not (fits w)) most vs v old new row false few o l (ap not e) is
bad-more fits most vs v old new row false few o l e is = where-more (λ w. not (fits w)) most vs v old new row true few o l (ap not e) is

-- ---- threads

threads-push : (vs : List Value) (ts : List ThreadParts) (v : Value) (t : ThreadParts) → AreThreads vs ts → IsThread v t → AreThreads (vs ++ v ∷ []) (ts ++ t ∷ [])
threads-push [] [] v t h k = (k, tt)
threads-push [] (u ∷ ts) v t h k = absurd h
threads-push (w ∷ vs) [] v t h k = absurd h
threads-push (w ∷ vs) (u ∷ ts) v t h k = (h.0, threads-push vs ts v t h.1 k)

-- what stands for an item that is no object is free
pub any_thread : (v : Value) (t : ThreadParts) → is_object v ≡ false → IsThread v t
any_thread null t h = tt
any_thread (boolean b) t h = tt
any_thread (number text) t h = tt
any_thread (string text) t h = tt
any_thread (array vs) t h = tt
any_thread (object ms) t h = cc

-- where more than the most are kept, another changes nothing
pub threads_full : (l : ThreadList) → MOST_THREADS < length l.threads.items → (v : Value) (first : ThreadList) (vs : List Value) → IsThreadListOf first vs l → IsThreadListOf first (vs ++ v ∷ []) l
threads_full l many v first vs h = record {
  threads = λ no.
      let n = threads-count (take (suc MOST_THREADS) vs) l.threads.items (h.threads no) in
      subst (λ (t : List Value). AreThreads t l.threads.items) (sym (kept-full MOST_THREADS vs v (omega arith))) (h.threads no);
  bad = λ no.
      let n = threads-count (take (suc MOST_THREADS) vs) l.threads.items (h.threads no) in
      h.bad no ∙ ap (λ (t : List Value). first_unfit is_object t) (sym (kept-full MOST_THREADS vs v (omega arith)));
}

-- else it is kept behind the others
pub threads_added : (old new : ThreadList) (v : Value) (t : ThreadParts) → length old.threads.items ≤ MOST_THREADS → new.threads.items ≡ old.threads.items ++ t ∷ [] → IsThread v t →
    new.bad ≡ option_or old.bad (if is_object v then None else Some (length old.threads.items)) → (first : ThreadList) (vs : List Value) → IsThreadListOf first vs old → IsThreadListOf first (vs ++ v ∷ []) new
threads_added old new v t few grown is bad first vs h = record {
  threads = λ no.
      let n = threads-count (take (suc MOST_THREADS) vs) old.threads.items (h.threads no) in
      subst (λ (ts : List ThreadParts). AreThreads (take (suc MOST_THREADS) (vs ++ v ∷ [])) ts) (sym grown)
      (subst (λ (ws : List Value). AreThreads ws (old.threads.items ++ t ∷ [])) (sym (kept-push MOST_THREADS vs v (omega arith)))
      (threads-push (take (suc MOST_THREADS) vs) old.threads.items v t (h.threads no) is));
  bad = λ no.
      let n = threads-count (take (suc MOST_THREADS) vs) old.threads.items (h.threads no) in
      bad-more is_object MOST_THREADS vs v old.bad new.bad (length old.threads.items) (is_object v) (omega arith) (h.bad no) n refl bad;
}

-- ---- categories

pub string-some : (o : Option Value) → is_some (string_of o) ≡ is_string o
string-some None = refl
string-some (Some null) = refl
string-some (Some (boolean b)) = refl
string-some (Some (number text)) = refl
string-some (Some (string text)) = refl
string-some (Some (array vs)) = refl
string-some (Some (object ms)) = refl

pub string-text : (o : Option Value) → unwrap_or (string_of o) [] ≡ member_text o
string-text None = refl
string-text (Some null) = refl
string-text (Some (boolean b)) = refl
string-text (Some (number text)) = refl
string-text (Some (string text)) = refl
string-text (Some (array vs)) = refl
string-text (Some (object ms)) = refl

pub categories_full : (l : CategoryList) → MOST_CATEGORIES < length l.names.items → (v : Value) (first : CategoryList) (vs : List Value) → IsCategoryListOf first vs l → IsCategoryListOf first (vs ++ v ∷ []) l
categories_full l many v first vs h = record {
  names = λ no.
      let n = names-count (take (suc MOST_CATEGORIES) vs) l.names.items (h.names no) in
      h.names no ∙ ap (λ (t : List Value). map category_name t) (sym (kept-full MOST_CATEGORIES vs v (omega arith)));
  bad = λ no.
      let n = names-count (take (suc MOST_CATEGORIES) vs) l.names.items (h.names no) in
      h.bad no ∙ ap (λ (t : List Value). first_unfit is_category t) (sym (kept-full MOST_CATEGORIES vs v (omega arith)));
  grey = λ no.
      let n = names-count (take (suc MOST_CATEGORIES) vs) l.names.items (h.names no) in
      h.grey no ∙ ap (λ (t : List Value). first_where is_grey 0 t) (sym (kept-full MOST_CATEGORIES vs v (omega arith)));
}

pub categories_added : (old new : CategoryList) (v : Value) (name : Option (List ℕ)) (grey : Bool) → length old.names.items ≤ MOST_CATEGORIES → is_some name ≡ is_category v →
    unwrap_or name [] ≡ category_name v → grey ≡ is_grey v → IsCategoryAdded name grey old new → (first : CategoryList) (vs : List Value) → IsCategoryListOf first vs old → IsCategoryListOf first (vs ++ v ∷ []) new
categories_added old new v name grey few some named is_it added first vs h = record {
  names = λ no.
      let n = names-count (take (suc MOST_CATEGORIES) vs) old.names.items (h.names no) in
      added.names
      ∙ ap (λ (t : List (List ℕ)). t ++ unwrap_or name [] ∷ []) (h.names no)
      ∙ ap (λ (x : List ℕ). map category_name (take (suc MOST_CATEGORIES) vs) ++ x ∷ []) named
      ∙ sym (map_push category_name (take (suc MOST_CATEGORIES) vs) v)
      ∙ ap (λ (t : List Value). map category_name t) (sym (kept-push MOST_CATEGORIES vs v (omega arith)));
  bad = λ no.
      let n = names-count (take (suc MOST_CATEGORIES) vs) old.names.items (h.names no) in
      bad-more is_category MOST_CATEGORIES vs v old.bad new.bad (length old.names.items) (is_some name) (omega arith) (h.bad no) n some added.bad;
  grey = λ no.
      let n = names-count (take (suc MOST_CATEGORIES) vs) old.names.items (h.names no) in
      where-more is_grey MOST_CATEGORIES vs v old.grey new.grey (length old.names.items) grey (omega arith) (h.grey no) n is_it added.first;
}

-- ---- the column `data`

any-over : (most : ℕ) (vs : List Value) → most < length (take (suc most) vs) → most < length (kept_by any_cell most vs).cells
any-over most vs over =
    let le = length-take (suc most) vs in
    let a = length-map vs any_cell in
    let b = length-map (map any_cell vs) cell_value in
    let e = length-take-le (suc most) (map cell_value (map any_cell vs)) (omega arith) in
    omega arith

ranges-length : (vs : List Value) (ranges : List (ℕ × ℕ)) → ranges ≡ ranges_from 0 vs → length ranges ≡ length vs
ranges-length vs ranges e = ap (λ (t : List (ℕ × ℕ)). length t) e ∙ length-ranges 0 vs

pub markers_full : (d : MarkerData) → MOST_ROWS < length d.ranges.items → (v : Value) (first : MarkerData) (vs : List Value) → IsMarkerDataOf first vs d → IsMarkerDataOf first (vs ++ v ∷ []) d
markers_full d many v first vs h = record {
  column = λ no.
      let n = ranges-length (take (suc MOST_ROWS) vs) d.ranges.items (h.ranges no) in
      h.column no ∙ sym (values-more any_cell MOST_ROWS vs v (any-over MOST_ROWS vs (omega arith)));
  texts = λ no.
      let n = ranges-length (take (suc MOST_ROWS) vs) d.ranges.items (h.ranges no) in
      h.texts no ∙ ap (λ (t : List Value). all_texts t) (sym (kept-full MOST_ROWS vs v (omega arith)));
  ranges = λ no.
      let n = ranges-length (take (suc MOST_ROWS) vs) d.ranges.items (h.ranges no) in
      h.ranges no ∙ ap (λ (t : List Value). ranges_from 0 t) (sym (kept-full MOST_ROWS vs v (omega arith)));
}

pub markers_added : (old new : MarkerData) (v : Value) (texts : List (List ℕ)) → length old.ranges.items ≤ MOST_ROWS → data_texts v ≡ texts → new.texts.items ≡ old.texts.items ++ texts →
    new.ranges.items ≡ old.ranges.items ++ (length old.texts.items, length new.texts.items) ∷ [] →
    ((read : Value → Cell) (vs : List Value) (w : Value) → Ok None ≡ read w → old.column ≡ kept_by read MOST_ROWS vs → new.column ≡ kept_by read MOST_ROWS (vs ++ w ∷ [])) →
    (first : MarkerData) (vs : List Value) → IsMarkerDataOf first vs old → IsMarkerDataOf first (vs ++ v ∷ []) new
markers_added old new v texts few is grown ranged celled first vs h =
    let kept = take (suc MOST_ROWS) vs in
    record {
      column = λ no. celled any_cell vs v refl (h.column no);
      texts = λ no.
          let n = ranges-length kept old.ranges.items (h.ranges no) in
          grown
          ∙ ap (λ (t : List (List ℕ)). t ++ texts) (h.texts no)
          ∙ ap (λ (t : List (List ℕ)). all_texts kept ++ t) (sym is)
          ∙ sym (all_texts-push kept v)
          ∙ ap (λ (t : List Value). all_texts t) (sym (kept-push MOST_ROWS vs v (omega arith)));
      ranges = λ no.
          let n = ranges-length kept old.ranges.items (h.ranges no) in
          let after : new.texts.items ≡ all_texts (kept ++ v ∷ []) =
          grown
          ∙ ap (λ (t : List (List ℕ)). t ++ texts) (h.texts no)
          ∙ ap (λ (t : List (List ℕ)). all_texts kept ++ t) (sym is)
          ∙ sym (all_texts-push kept v) in
          ranged
          ∙ ap (λ (t : List (ℕ × ℕ)). t ++ (length old.texts.items, length new.texts.items) ∷ []) (h.ranges no)
          ∙ ap (λ (t : List (List ℕ)). let l : List (ℕ × ℕ) = ranges_from 0 kept ++ (length t, length new.texts.items) ∷ [] in l) (h.texts no)
          ∙ ap (λ (t : List (List ℕ)). let l : List (ℕ × ℕ) = ranges_from 0 kept ++ (length (all_texts kept), length t) ∷ [] in l) after
          ∙ sym (ranges_from-push kept v)
          ∙ ap (λ (t : List Value). ranges_from 0 t) (sym (kept-push MOST_ROWS vs v (omega arith)));
    }
