-- The lists that the code makes are those of the definitions.
use Rattle.std.proofs.Common.{◌≡◌, ℕ, ◌+◌, ◌*◌, ◌<◌, ◌≤◌, Bool, List, [], ◌∷◌, ◌++◌, length, map, take, Some, sym, ◌∙◌, ap, subst, arith}
use Rattle.std.specs.Prelude.{fold, slice_get, slice_index}
use Rattle.std.proofs.lemmas.List.{take_more, map-append, get_or_append_left}
use Rattle.std.specs.List.{All}
use Rattle.std.proofs.lemmas.List.Elements.{All-weaker}
use Rattle.std.proofs.lemmas.List.Sums.{fold-append}
use Rattle.std.proofs.lemmas.Option.{get_or_from_slice_get, slice_get_within}
use Rattle.prof_raw.specs.Cells.{Cells, cell}
use Rattle.prof_raw.specs.CellValues.{truth_of}
use Rattle.prof_gecko_names.specs.declared.func.FuncKey.{FuncKey}
use Rattle.prof_gecko_names.specs.FirstUses.{Numbered, numbered}
use Rattle.prof_gecko.specs.Gathered.{Lib}
use Rattle.prof_gecko_names.specs.Keys.{text_at, key_of}
use Rattle.prof_gecko_names.specs.Naming.{named_of}
use Rattle.prof_gecko_names.specs.Lists.{Lists, add_func, lists_over}
use Rattle.prof_gecko.specs.Columns.{FrameCells}
use Rattle.prof_gecko.specs.Converted.{locations, numbering, add_row, lists_of, lists_in}
use Rattle.prof_gecko_names.proofs.Alike.{key_eq, keys_alike}
use Rattle.prof_gecko_names.proofs.Numbers.{numbered_counts, numbered_numbers}
use Rattle.prof_gecko_names.proofs.Growing.{Grows, nil_behind, grows_both, func_grows, func_keys}

-- ---- texts

-- one more text of a list was copied
pub copy_more : {S : Type 0} (f : S → List ℕ) (done new : List S) (s : S) (strings : List (List ℕ)) (i : ℕ) (t : List ℕ) → new ≡ done ++ s ∷ [] → f s ≡ t → slice_get strings i ≡ Some t → map f done ≡ take i strings → map f new ≡ take (i + 1) strings
copy_more f done new s strings i t grown is at before =
    let here = get_or_from_slice_get strings i t [] at in
    let lt = slice_get_within strings i t at in
    ap (map f) grown ∙ map-append f done (s ∷ []) ∙ ap (λ ts. ts ++ f s ∷ []) before ∙ ap (λ u. take i strings ++ u ∷ []) (is ∙ sym here) ∙ sym (take_more strings i [] lt)

-- ---- the functions of rows

-- the lists after so many rows
pub record RowsDone (libs : List Lib) (strings : List (List ℕ)) (places : List ℕ) (relevant : Cells) (i : ℕ) (done : List ℕ) (d : Lists) : Type 0 where
  pub lists : d ≡ fold (add_row libs strings places relevant) (lists_over strings) done
  pub more : Grows (3 * i) strings d.strings
  pub few : length d.keys ≤ i

pub rows_none : (libs : List Lib) (strings : List (List ℕ)) (places : List ℕ) (relevant : Cells) (d : Lists) → d ≡ lists_over strings → RowsDone libs strings places relevant 0 [] d
rows_none libs strings places relevant d e = record {
  lists = e;
  more = record { more = []; behind = ap (λ (l : Lists). l.strings) e ∙ nil_behind strings; few = omega arith };
  few = (let k = ap (λ (l : Lists). length l.keys) e in omega arith);
}

-- a text that stood keeps its place
pub text_stays : (m : ℕ) (strings more : List (List ℕ)) (p : ℕ) → Grows m strings more → p < length strings → text_at more p ≡ text_at strings p
text_stays m strings more p g lt = ap (λ s. text_at s p) g.behind ∙ get_or_append_left strings g.more [] p lt

pub rows_more : (libs : List Lib) (strings : List (List ℕ)) (places : List ℕ) (relevant : Cells) (i : ℕ) (done next : List ℕ) (d new : Lists) (j : ℕ) → RowsDone libs strings places relevant i done d → next ≡ done ++ j ∷ [] → slice_index places j < length strings
    → new ≡ add_func d (named_of libs (text_at d.strings (slice_index places j))) (truth_of (cell relevant j)) → RowsDone libs strings places relevant (i + 1) next new
rows_more libs strings places relevant i done next d new j h grown lt made =
    let place = slice_index places j in
    let text = text_stays (3 * i) strings d.strings place h.more lt in
    let same : new ≡ add_row libs strings places relevant d j = made ∙ ap (λ t. add_func d (named_of libs t) (truth_of (cell relevant j))) text in
    let f = named_of libs (text_at strings place) in
    let grows = grows_both (3 * i) 3 strings d.strings (add_row libs strings places relevant d j).strings h.more (func_grows d f (truth_of (cell relevant j))) in
    let keys = func_keys d f (truth_of (cell relevant j)) in
    let few = h.few in
    record {
      lists = same ∙ ap (λ l. add_row libs strings places relevant l j) h.lists ∙ sym (fold-append (add_row libs strings places relevant) (lists_over strings) done (j ∷ [])) ∙ ap (fold (add_row libs strings places relevant) (lists_over strings)) (sym grown);
      more = record { more = grows.more; behind = ap (λ (l : Lists). l.strings) same ∙ grows.behind; few = (let k = grows.few in omega arith) };
      few = (let k = ap (λ (l : Lists). length l.keys) same in omega arith);
    }

-- ---- the lists of frames

-- the numbers that the code gives
pub numbering_is : (libs : List Lib) (strings : List (List ℕ)) (places : List ℕ) (keys : List FuncKey) → keys ≡ map (key_of libs strings) places → numbered key_eq keys ≡ numbering libs strings places
unfolding numbering
numbering_is libs strings places keys e = ap (numbered key_eq) e ∙ ap (λ (eq : FuncKey → FuncKey → Bool). numbered eq (map (key_of libs strings) places)) keys_alike

-- the rows of first uses are rows of the frames
pub rows_ready : (places rows : List ℕ) (keys : List FuncKey) → rows ≡ (numbered key_eq keys).rows → length keys ≡ length places → All (λ row. row < length places) rows × (length rows ≤ length places)
rows_ready places rows keys e same =
    let counted = numbered_counts key_eq keys in
    let many = numbered_numbers key_eq keys in
    let few = counted.few in
    let count = ap (λ rs. length rs) e in
    (subst (All (λ row. row < length places)) (sym e) (All-weaker (λ i. i < length (numbered key_eq keys).numbers) (λ i. i < length places) (λ i lt. omega arith) (numbered key_eq keys).rows counted.firsts), omega arith)

pub derived_lists : (libs : List Lib) (strings texts : List (List ℕ)) (frames : FrameCells) (lists : Lists) (places rows : List ℕ) (keys : List FuncKey) (relevant : Cells) → texts ≡ strings → places ≡ locations frames → keys ≡ map (key_of libs strings) places → rows ≡ (numbered key_eq keys).rows
    → relevant ≡ frames.relevant_for_js → lists ≡ lists_of libs texts places relevant rows → lists ≡ lists_in libs strings frames
unfolding lists_in
derived_lists libs strings texts frames lists places rows keys relevant et ep ek er ev made =
    let numbers : numbered key_eq keys ≡ numbering libs strings places = numbering_is libs strings places keys ek in
    let uses : rows ≡ (numbering libs strings (locations frames)).rows = er ∙ ap (λ (n : Numbered FuncKey). n.rows) (numbers ∙ ap (numbering libs strings) ep) in
    made ∙ ap (λ s. lists_of libs s places relevant rows) et ∙ ap (λ p. lists_of libs strings p relevant rows) ep ∙ ap (λ r. lists_of libs strings (locations frames) r rows) ev ∙ ap (lists_of libs strings (locations frames) frames.relevant_for_js) uses

pub derived_numbers : (libs : List Lib) (strings : List (List ℕ)) (frames : FrameCells) (places numbers : List ℕ) (keys : List FuncKey) → places ≡ locations frames → keys ≡ map (key_of libs strings) places → numbers ≡ (numbered key_eq keys).numbers → numbers ≡ (numbering libs strings (locations frames)).numbers
derived_numbers libs strings frames places numbers keys ep ek en = en ∙ ap (λ (n : Numbered FuncKey). n.numbers) (numbering_is libs strings places keys ek ∙ ap (numbering libs strings) ep)
