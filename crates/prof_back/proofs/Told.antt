-- The text of a value tells the value.
use Rattle.std.proofs.Common.{◌≡◌, ℕ, zero, suc, ◌+◌, ◌-◌, ◌≤◌, Bool, true, false, List, [], ◌∷◌, ◌++◌, codes, cond, sym, ap, subst, arith, length, append-nil, append_assoc}
use Rattle.std.specs.Prelude.{IsUtf8}
use Rattle.prof_grammar.specs.Event.{Event, object_end, array_end, name}
use Rattle.prof_grammar.specs.Grammar.{Symbol, Is, IsJson, json, no_mark}
use Rattle.prof_grammar.specs.Grammar as g
use Rattle.prof_grammar.specs.Lexical.{IsBlank}
use Rattle.prof_grammar.specs.Lexical as x
use Rattle.prof_grammar.specs.Reading.{NestsWithin, whole, max_depth}
use Rattle.prof_grammar.specs.Value.{Value, Values, Members, null, boolean, number, string, array, object, no_values, value, no_members, member, flatten, flatten_values, flatten_members}
use Rattle.prof_grammar.specs.declared.TheConstants.{LONGEST}
use Rattle.prof_grammar.specs.Accepted.{IsAccepted}
use Rattle.prof_told.proofs.Quoted.{quoted_is}
use Rattle.prof_writer.specs.Writing.{quoted}
use Rattle.prof_write.specs.Compact.{compact, compact_items, compact_members}
use Rattle.prof_back.specs.Writable.{IsWritable, AreWritable, AreWritableMembers}

-- the parts of an array that are left, behind a comma where one is due
abbrev items_symbol : Bool → Symbol
items_symbol due = cond due g.more_items g.items

abbrev members_symbol : Bool → Symbol
members_symbol due = cond due g.more_members g.members

same_events : {s : Symbol} {t : List ℕ} {es fs : List Event} → es ≡ fs → Is s t es → Is s t fs
same_events {s = s} {t = t} e h = subst (λ l. Is s t l) e h

same_text : {s : Symbol} {t u : List ℕ} {es : List Event} → t ≡ u → Is s t es → Is s u es
same_text {s = s} {es = es} e h = subst (λ l. Is s l es) e h

-- an item before the others
item_on : (due : Bool) {v t : List ℕ} {es fs : List Event} → Is g.value v es → Is g.more_items t fs → Is (items_symbol due) (cond due (codes ",") [] ++ (v ++ t)) (es ++ fs)
item_on true h k = g.next_item x.none h x.none k
item_on false h k = g.some_items h x.none k

member_on : (due : Bool) {m t : List ℕ} {es fs : List Event} → Is g.member m es → Is g.more_members t fs → Is (members_symbol due) (cond due (codes ",") [] ++ (m ++ t)) (es ++ fs)
member_on true h k = g.next_member x.none h k
member_on false h k = g.some_members h k

one_member : {n v : List ℕ} {es : List Event} → IsUtf8 n → Is g.value v es → Is g.member (quoted n ++ (codes ":" ++ v)) (name n ∷ es)
one_member {n = n} {v = v} u h =
    same_text (ap (λ l. quoted n ++ (codes ":" ++ l)) (append-nil v)) (g.one_member (quoted_is n u) x.none x.none h x.none)

end_items : (due : Bool) → Is (items_symbol due) (codes "]") (array_end ∷ [])
end_items true = g.last_item
end_items false = g.no_items

end_members : (due : Bool) → Is (members_symbol due) (codes "}") (object_end ∷ [])
end_members true = g.last_member
end_members false = g.no_members

mutual
  told : (v : Value) (most : ℕ) → IsWritable v most → Is g.value (compact v) (flatten v)
  told null most h = g.null_word
  told (boolean true) most h = g.true_word
  told (boolean false) most h = g.false_word
  told (number text) most h = g.numeral h.1
  told (string text) most h = g.string (quoted_is text h)
  told (array vs) zero h = absurd h
  told (array vs) (suc most) h = g.array x.none (told_items vs false most h)
  told (object ms) zero h = absurd h
  told (object ms) (suc most) h = g.object x.none (told_members ms false most h)

  told_items : (vs : Values) (due : Bool) (most : ℕ) → AreWritable vs most → Is (items_symbol due) (compact_items due vs) (flatten_values vs ++ array_end ∷ [])
  told_items no_values due most h = end_items due
  told_items (value v vs) due most h =
      same_events (sym (append_assoc (flatten v) (flatten_values vs) (array_end ∷ []))) (item_on due (told v most h.0) (told_items vs true most h.1))

  told_members : (ms : Members) (due : Bool) (most : ℕ) → AreWritableMembers ms most → Is (members_symbol due) (compact_members due ms) (flatten_members ms ++ object_end ∷ [])
  told_members no_members due most h = end_members due
  told_members (member n v ms) due most h =
      same_text (ap (λ l. cond due (codes ",") [] ++ l) (append_assoc (quoted n) (codes ":" ++ compact v) (compact_members true ms)))
      (same_events (ap (λ l. name n ∷ l) (sym (append_assoc (flatten v) (flatten_members ms) (object_end ∷ []))))
      (member_on due (one_member h.0 (told v most h.1)) (told_members ms true most h.2)))

-- ---- how many brackets are open

mutual
  nests : (v : Value) (most opened limit : ℕ) (es : List Event) → IsWritable v most → opened + most ≤ limit → NestsWithin limit opened es → NestsWithin limit opened (flatten v ++ es)
  nests null most opened limit es h fits k = k
  nests (boolean b) most opened limit es h fits k = k
  nests (number text) most opened limit es h fits k = k
  nests (string text) most opened limit es h fits k = k
  nests (array vs) zero opened limit es h fits k = absurd h
  nests (array vs) (suc most) opened limit es h fits k =
      let P : List Event → Type 0 = λ l. NestsWithin limit (opened + 1) l in
      let Q : ℕ → Type 0 = λ n. NestsWithin limit n es in
      let back : opened ≡ opened + 1 - 1 = omega arith in
      (omega arith, subst P (sym (append_assoc (flatten_values vs) (array_end ∷ []) es)) (nests_values vs most (opened + 1) limit (array_end ∷ es) h (omega arith) (subst Q back k)))
  nests (object ms) zero opened limit es h fits k = absurd h
  nests (object ms) (suc most) opened limit es h fits k =
      let P : List Event → Type 0 = λ l. NestsWithin limit (opened + 1) l in
      let Q : ℕ → Type 0 = λ n. NestsWithin limit n es in
      let back : opened ≡ opened + 1 - 1 = omega arith in
      (omega arith, subst P (sym (append_assoc (flatten_members ms) (object_end ∷ []) es)) (nests_members ms most (opened + 1) limit (object_end ∷ es) h (omega arith) (subst Q back k)))

  nests_values : (vs : Values) (most opened limit : ℕ) (es : List Event) → AreWritable vs most → opened + most ≤ limit → NestsWithin limit opened es → NestsWithin limit opened (flatten_values vs ++ es)
  nests_values no_values most opened limit es h fits k = k
  nests_values (value v vs) most opened limit es h fits k =
      let P : List Event → Type 0 = λ l. NestsWithin limit opened l in
      subst P (sym (append_assoc (flatten v) (flatten_values vs) es)) (nests v most opened limit (flatten_values vs ++ es) h.0 fits (nests_values vs most opened limit es h.1 fits k))

  nests_members : (ms : Members) (most opened limit : ℕ) (es : List Event) → AreWritableMembers ms most → opened + most ≤ limit → NestsWithin limit opened es → NestsWithin limit opened (flatten_members ms ++ es)
  nests_members no_members most opened limit es h fits k = k
  nests_members (member n v ms) most opened limit es h fits k =
      let P : List Event → Type 0 = λ l. NestsWithin limit opened l in
      subst P (sym (append_assoc (flatten v) (flatten_members ms) es)) (nests v most opened limit (flatten_members ms ++ es) h.1 fits (nests_members ms most opened limit es h.2 fits k))

pub value_told : (v : Value) → IsWritable v max_depth → length (compact v) ≤ LONGEST → IsAccepted (compact v) v
value_told v h short =
    let nil = append-nil (flatten v) in
    let text : IsJson ([] ++ ([] ++ (compact v ++ []))) (flatten v) = json no_mark x.none (told v max_depth h) x.none in
    let P : List ℕ → Type 0 = λ l. IsJson l (flatten v) in
    let Q : List Event → Type 0 = λ l. NestsWithin max_depth 0 l in
    whole (record { json = subst P (append-nil (compact v)) text; depth = subst Q nil (nests v max_depth 0 max_depth [] h (omega arith) tt) }) short
