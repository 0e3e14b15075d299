-- What was gathered of the processes below a process.
use Rattle.std.proofs.Common.{◌≡◌, ◌≢◌, ℕ, ◌+◌, Option, Some, None, List, [], ◌∷◌, ◌++◌, true, false, refl, sym, ◌∙◌, ap, subst, arith, length}
use Rattle.std.specs.Prelude.{is_some}
use Rattle.std.proofs.lemmas.List.{append-nil}
use Rattle.std.proofs.lemmas.List.Elements.{All-nil}
use Rattle.prof_grammar.specs.Value.{Value, Values, null, boolean, number, string, array, object, Members}
use Rattle.prof_json.specs.declared.answer.Event.TheVariants as event
use Rattle.prof_json.specs.declared.answer.Event.{Event}
use Rattle.prof_raw.specs.declared.rule.ListFault.{ListFault}
use Rattle.prof_raw.specs.Rules.{whole_fault}
use Rattle.prof_raw.specs.declared.rule.Rule.TheVariants as rule
use Rattle.prof_layout.specs.Lists.{is_object, wrong_kind}
use Rattle.prof_layout.proofs.Items.{length-push}
use Rattle.prof_gather.specs.Feeding.{Told, Gives}
use Rattle.prof_gather.specs.Taking.{ReadsItems, TakesItem}
use Rattle.prof_gather.proofs.Turnings.{ItemsSoFar, no_item, one_item, items_end}
use Rattle.prof_gecko.specs.Gathered.{Entry, fault, joined}
use Rattle.prof_gecko.specs.Processes.{HasRanges}
use Rattle.prof_gecko_layout.specs.GeckoProfile.{entries, item_entries, listed_items, listed}
use Rattle.prof_processes.specs.Processes.{KeepEntries, AreChildren, AreChildrenOf, child_entries, entries_from, is_null}
use Rattle.prof_processes.specs.declared.process.Children.{Children}
use Rattle.prof_processes.proofs.KeptEntries.{keep_both, keep_fault, entries-push, listed-items, joined-push}

-- the children that were gathered so far, of none
pub record ChildrenSoFar (start now : Told) (c : Children) : Type 0 where
  pub first : Children
  pub none : AreChildren [] first
  pub items_ : ItemsSoFar (λ a vs b. AreChildrenOf a vs b) first start now c

pub no_child : (t : Told) (c : Children) → AreChildren [] c → ChildrenSoFar t t c
no_child t c n = record { first = c; none = n; items_ = no_item (λ a vs b. AreChildrenOf a vs b) t c (record { are = λ h. h }) }

pub one_child : (start now begun new : Told) (e : Event) (c d : Children) → e ≢ event.End → ChildrenSoFar start now c → Gives now e begun → TakesItem (λ a vs b. AreChildrenOf a vs b) begun new c d → ChildrenSoFar start new d
one_child start now begun new e c d n h g k = record { first = h.first; none = h.none; items_ = one_item (λ a vs b. AreChildrenOf a vs b) h.first start now begun new e c d n h.items_ g k }

pub children_end : (start now new : Told) (c : Children) → ChildrenSoFar start now c → Gives now event.ArrayEnd new → (vs : Values) × ReadsItems start new vs × KeepEntries (listed_items 0 vs) (child_entries c)
children_end start now new c h g =
    let e = items_end (λ a vs b. AreChildrenOf a vs b) h.first start now new c h.items_ g in
    (e.0, e.1, subst (λ (t : List Entry). KeepEntries t (child_entries c)) (sym (listed-items 0 e.0)) (e.2.are h.none).entries)

-- behind a fault nothing counts
pub children_full : (c : Children) (f : ListFault) → c.fault ≡ Some f → (v : Value) (first : Children) (vs : List Value) → AreChildrenOf first vs c → AreChildrenOf first (vs ++ v ∷ []) c
children_full c f is v first vs h = record {
  are = λ no.
      let so_far = h.are no in
      let kept : KeepEntries (entries_from 0 vs) (joined c.list.items ++ fault f ∷ []) = rw is at so_far.entries in
      let more : KeepEntries (entries_from 0 vs ++ item_entries (0 + length vs) v) (joined c.list.items ++ fault f ∷ []) = keep_fault (entries_from 0 vs) (joined c.list.items) (item_entries (0 + length vs) v) f kept in
      let all : KeepEntries (entries_from 0 (vs ++ v ∷ [])) (joined c.list.items ++ fault f ∷ []) = subst (λ (t : List Entry). KeepEntries t (joined c.list.items ++ fault f ∷ [])) (sym (entries-push 0 vs v)) more in
      record { entries = rw is all; row = λ e. let k : Some f ≡ None = sym is ∙ e in cc };
}

-- the entries that an item adds are kept behind the others
pub children_more : (old new : Children) (v : Value) (es : List Entry) → old.fault ≡ None → new.fault ≡ None → joined new.list.items ≡ joined old.list.items ++ es → new.row ≡ old.row + 1 →
    ((row : ℕ) → KeepEntries (item_entries row v) es) → (first : Children) (vs : List Value) → AreChildrenOf first vs old → AreChildrenOf first (vs ++ v ∷ []) new
children_more old new v es none now grown counted keeps first vs h = record {
  are = λ no.
      let so_far = h.are no in
      let kept : KeepEntries (entries_from 0 vs) (joined old.list.items) = subst (λ (t : List Entry). KeepEntries (entries_from 0 vs) t) (append-nil (joined old.list.items)) (rw none at so_far.entries) in
      let more : KeepEntries (entries_from 0 vs ++ item_entries (0 + length vs) v) (joined old.list.items ++ es) = keep_both (entries_from 0 vs) (joined old.list.items) (item_entries (0 + length vs) v) es kept (keeps (0 + length vs)) in
      let all : KeepEntries (entries_from 0 (vs ++ v ∷ [])) (joined new.list.items) = subst (λ (t : List Entry). KeepEntries (entries_from 0 (vs ++ v ∷ [])) t) (sym grown) (subst (λ (t : List Entry). KeepEntries t (joined old.list.items ++ es)) (sym (entries-push 0 vs v)) more) in
      let whole : KeepEntries (entries_from 0 (vs ++ v ∷ [])) (joined new.list.items ++ []) = subst (λ (t : List Entry). KeepEntries (entries_from 0 (vs ++ v ∷ [])) t) (sym (append-nil (joined new.list.items))) all in
      let count = so_far.row none in
      let long = length-push vs v in
      record { entries = rw now whole; row = λ e. omega (arith, counted, count, long) };
}

-- a process is kept behind the others
pub child_added : (old new : Children) (ms : Members) (es : List Entry) → old.fault ≡ None → new.fault ≡ None → new.list.items ≡ old.list.items ++ es ∷ [] → new.row ≡ old.row + 1 →
    KeepEntries (entries (object ms)) es → (first : Children) (vs : List Value) → AreChildrenOf first vs old → AreChildrenOf first (vs ++ object ms ∷ []) new
unfolding entries
child_added old new ms es none now grown counted keeps =
    children_more old new (object ms) es none now (ap (λ (t : List (List Entry)). joined t) grown ∙ joined-push old.list.items es) counted (λ row. keeps)

-- null is passed over
pub null_passed : (old new : Children) (v : Value) → is_null v ≡ true → old.fault ≡ None → new.fault ≡ None → new.list.items ≡ old.list.items → new.row ≡ old.row + 1 →
    (first : Children) (vs : List Value) → AreChildrenOf first vs old → AreChildrenOf first (vs ++ v ∷ []) new
null_passed old new null is none now same counted =
    children_more old new null [] none now (ap (λ (t : List (List Entry)). joined t) same ∙ sym (append-nil (joined old.list.items))) counted (λ row. tt)
null_passed old new (boolean b) is none now same counted = cc
null_passed old new (number text) is none now same counted = cc
null_passed old new (string text) is none now same counted = cc
null_passed old new (array vs) is none now same counted = cc
null_passed old new (object ms) is none now same counted = cc

-- what is neither an object nor null is a fault
other_entries : (row : ℕ) (v : Value) → is_object v ≡ false → is_null v ≡ false → item_entries row v ≡ fault (wrong_kind row) ∷ []
other_entries row null h n = cc
other_entries row (boolean b) h n = refl
other_entries row (number text) h n = refl
other_entries row (string text) h n = refl
other_entries row (array vs) h n = refl
other_entries row (object ms) h n = cc

pub other_failed : (old new : Children) (v : Value) → is_object v ≡ false → is_null v ≡ false → old.fault ≡ None → new.list.items ≡ old.list.items → new.fault ≡ Some (wrong_kind old.row) →
    (first : Children) (vs : List Value) → AreChildrenOf first vs old → AreChildrenOf first (vs ++ v ∷ []) new
other_failed old new v obj nul none same now first vs h = record {
  are = λ no.
      let so_far = h.are no in
      let row : old.row ≡ 0 + length vs = let r = so_far.row none in omega (arith, r) in
      let f = wrong_kind old.row in
      let kept : KeepEntries (entries_from 0 vs) (joined old.list.items) = subst (λ (t : List Entry). KeepEntries (entries_from 0 vs) t) (append-nil (joined old.list.items)) (rw none at so_far.entries) in
      let item : item_entries (0 + length vs) v ≡ fault f ∷ [] = ap (λ (n : ℕ). item_entries n v) (sym row) ∙ other_entries old.row v obj nul in
      let one : KeepEntries (item_entries (0 + length vs) v) (fault f ∷ []) = subst (λ (t : List Entry). KeepEntries t (fault f ∷ [])) (sym item) (refl, All-nil HasRanges) in
      let more : KeepEntries (entries_from 0 vs ++ item_entries (0 + length vs) v) (joined old.list.items ++ fault f ∷ []) = keep_both (entries_from 0 vs) (joined old.list.items) (item_entries (0 + length vs) v) (fault f ∷ []) kept one in
      let all : KeepEntries (entries_from 0 (vs ++ v ∷ [])) (joined old.list.items ++ fault f ∷ []) = subst (λ (t : List Entry). KeepEntries t (joined old.list.items ++ fault f ∷ [])) (sym (entries-push 0 vs v)) more in
      let here : KeepEntries (entries_from 0 (vs ++ v ∷ [])) (joined new.list.items ++ fault f ∷ []) = subst (λ (t : List (List Entry)). KeepEntries (entries_from 0 (vs ++ v ∷ [])) (joined t ++ fault f ∷ [])) (sym same) all in
      record { entries = rw now here; row = λ e. let k : Some f ≡ None = sym now ∙ e in cc };
}

behind : (c : Children) (o : Option ListFault) → c.fault ≡ o → is_some o ≡ true → (v : Value) (first : Children) (vs : List Value) → AreChildrenOf first vs c → AreChildrenOf first (vs ++ v ∷ []) c
behind c None e t = cc
behind c (Some f) e t = children_full c f e

pub children_behind : (c : Children) → is_some c.fault ≡ true → (v : Value) (first : Children) (vs : List Value) → AreChildrenOf first vs c → AreChildrenOf first (vs ++ v ∷ []) c
children_behind c t = behind c c.fault refl t

-- a value that is no array is a fault of the list
pub other_listed : (v : Value) (c : Children) → ((vs : Values) → v ≡ array vs → ⊥) → c.list.items ≡ [] → c.fault ≡ Some (whole_fault rule.WrongKind) → KeepEntries (listed v) (child_entries c)
other_listed null c n l f = rw (l, f) (refl, All-nil HasRanges)
other_listed (boolean b) c n l f = rw (l, f) (refl, All-nil HasRanges)
other_listed (number text) c n l f = rw (l, f) (refl, All-nil HasRanges)
other_listed (string text) c n l f = rw (l, f) (refl, All-nil HasRanges)
other_listed (object ms) c n l f = rw (l, f) (refl, All-nil HasRanges)
other_listed (array vs) c n l f = absurd (n vs refl)
