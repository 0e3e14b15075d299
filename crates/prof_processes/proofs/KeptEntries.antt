-- What is kept of entries, of one list of them after another.
use Rattle.std.proofs.Common.{◌≡◌, ℕ, suc, ◌+◌, List, [], ◌∷◌, ◌++◌, refl, sym, ◌∙◌, ap, arith, append_assoc, length}
use Rattle.std.proofs.lemmas.List.{append-nil}
use Rattle.std.proofs.lemmas.List.Elements.{All-append}
use Rattle.prof_grammar.specs.Value.{Value, Values, no_values, value, items}
use Rattle.prof_raw.specs.declared.rule.ListFault.{ListFault}
use Rattle.prof_gecko.specs.Gathered.{Entry, process, fault, joined}
use Rattle.prof_gecko_layout.specs.GeckoProfile.{listed_items, item_entries}
use Rattle.prof_gecko.specs.Processes.{HasRanges}
use Rattle.prof_processes.specs.Processes.{KeepEntries, entries_from}
use Rattle.prof_processes.proofs.Ranges.{entries_ranges}

pub keep_both : (es ks fs ls : List Entry) → KeepEntries es ks → KeepEntries fs ls → KeepEntries (es ++ fs) (ks ++ ls)
keep_both [] [] fs ls h k = k
keep_both [] (l ∷ ks) fs ls h k = absurd h
keep_both (e ∷ es) [] fs ls h k = absurd h
keep_both (process p ∷ es) (process q ∷ ks) fs ls h k = (h.0, keep_both es ks fs ls h.1 k)
keep_both (process p ∷ es) (fault g ∷ ks) fs ls h k = absurd h
keep_both (fault f ∷ es) (process q ∷ ks) fs ls h k = absurd h
keep_both (fault f ∷ es) (fault g ∷ ks) fs ls h k = (h.0, All-append HasRanges ks ls h.1 (entries_ranges fs ls k))

-- behind a fault nothing counts
pub keep_fault : (es ks fs : List Entry) (f : ListFault) → KeepEntries es (ks ++ fault f ∷ []) → KeepEntries (es ++ fs) (ks ++ fault f ∷ [])
keep_fault [] [] fs f h = absurd h
keep_fault [] (k ∷ ks) fs f h = absurd h
keep_fault (process p ∷ es) [] fs f h = absurd h
keep_fault (fault g ∷ es) [] fs f h = h
keep_fault (process p ∷ es) (process q ∷ ks) fs f h = (h.0, keep_fault es ks fs f h.1)
keep_fault (process p ∷ es) (fault g ∷ ks) fs f h = absurd h
keep_fault (fault e ∷ es) (process q ∷ ks) fs f h = absurd h
keep_fault (fault e ∷ es) (fault g ∷ ks) fs f h = h

-- the entries of items, one more at a time
pub entries-push : (row : ℕ) (vs : List Value) (v : Value) → entries_from row (vs ++ v ∷ []) ≡ entries_from row vs ++ item_entries (row + length vs) v
entries-push row [] v = let e : row ≡ row + 0 = omega arith in append-nil (item_entries row v) ∙ ap (λ (n : ℕ). item_entries n v) e
entries-push row (w ∷ vs) v =
    let e : suc row + length vs ≡ row + suc (length vs) = omega arith in
    ap (λ (t : List Entry). item_entries row w ++ t) (entries-push (suc row) vs v ∙ ap (λ (n : ℕ). entries_from (suc row) vs ++ item_entries n v) e)
    ∙ sym (append_assoc (item_entries row w) (entries_from (suc row) vs) (item_entries (row + suc (length vs)) v))

pub listed-items : (row : ℕ) (vs : Values) → listed_items row vs ≡ entries_from row (items vs)
listed-items row no_values = refl
listed-items row (value v vs) = ap (λ (t : List Entry). item_entries row v ++ t) (listed-items (suc row) vs)

pub joined-push : (lists : List (List Entry)) (es : List Entry) → joined (lists ++ es ∷ []) ≡ joined lists ++ es
joined-push [] es = append-nil es
joined-push (fs ∷ lists) es = ap (λ (t : List Entry). fs ++ t) (joined-push lists es) ∙ sym (append_assoc fs (joined lists) es)
