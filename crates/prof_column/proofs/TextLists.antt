-- A list of texts as its items are gathered, and what it breaks.
use Rattle.std.proofs.Common.{◌≡◌, ℕ, suc, ◌+◌, ◌<◌, ◌≤◌, Option, Some, None, List, [], ◌∷◌, ◌++◌, true, false, length, take, map, refl, sym, ◌∙◌, ap, arith}
use Rattle.prof_raw.specs.declared.limits.TheConstants.{MOST_STRINGS}
use Rattle.std.specs.Prelude.{not, if◌then◌else◌, nat_le, String, string_bytes}
use Rattle.std.specs.Option.{option_or, option_map}
use Rattle.std.specs.declared.alloc.Global.{Global}
use Rattle.std.proofs.lemmas.Bool.Decides.{nat_tests}
use Rattle.std.proofs.lemmas.List.{take-map, length-map, map_push}
use Rattle.prof_grammar.specs.Event as told
use Rattle.prof_grammar.specs.Value.{Value, items}
use Rattle.prof_json.specs.declared.answer.Event.{Event}
use Rattle.prof_json.specs.declared.answer.Event.TheVariants as event
use Rattle.prof_raw.specs.declared.raw.State.TheVariants.{NotArray, Array}
use Rattle.prof_raw.specs.declared.rule.Rule.TheVariants as rule
use Rattle.prof_raw.specs.Rules.{whole_fault}
use Rattle.prof_layout.specs.Lists.{text_of, is_text, texts_of, first_unfit, wrong_kind}
use Rattle.prof_layout.specs.Tables.{strings_fault}
use Rattle.prof_layout.proofs.Items.{kept-full, kept-push, first_where-push, kept_fault}
use Rattle.prof_gather.specs.declared.objects.Kind.{Kind}
use Rattle.prof_gather.specs.declared.objects.Kind.TheVariants as kind
use Rattle.prof_gather.specs.Feeding.{Told, IsBegun}
use Rattle.prof_gather.specs.Taking.{Begins, IsTaken}
use Rattle.prof_column.specs.declared.list.TextList.{TextList}
use Rattle.prof_column.specs.Kept.{state_by, kept_items, IsTextList}
use Rattle.prof_column.specs.Columns.{state_for, NoTexts, IsTextListOf}

-- as many texts are kept as items
kept-count : (vs : List Value) → length (take (suc MOST_STRINGS) (map text_of vs)) ≡ length (take (suc MOST_STRINGS) vs)
kept-count vs = ap (λ (l : List (List ℕ)). length l) (take-map text_of (suc MOST_STRINGS) vs) ∙ length-map (take (suc MOST_STRINGS) vs) text_of

texts-count : (l : TextList) (vs : List Value) → map string_bytes l.texts.items ≡ take (suc MOST_STRINGS) (map text_of vs) → length l.texts.items ≡ length (take (suc MOST_STRINGS) vs)
texts-count l vs e = sym (length-map l.texts.items string_bytes) ∙ ap (λ (t : List (List ℕ)). length t) e ∙ kept-count vs

-- where more than the most are kept, one more item isn't
pub texts-full : (first l : TextList) (vs : List Value) (v : Value) → MOST_STRINGS < length l.texts.items → IsTextListOf first vs l → IsTextListOf first (vs ++ v ∷ []) l
texts-full first l vs v over is = record {
  texts = λ none.
      let count = texts-count l vs (is.texts none) in
      is.texts none ∙ sym (ap (take (suc MOST_STRINGS)) (map_push text_of vs v) ∙ kept-full MOST_STRINGS (map text_of vs) (text_of v) (let k = kept-count vs in omega arith));
  bad = λ none.
      let count = texts-count l vs (is.texts none) in
      is.bad none ∙ sym (ap (λ (ws : List Value). first_unfit is_text ws) (kept-full MOST_STRINGS vs v (omega arith)));
}

-- else its text is kept
pub texts-more : (first old new : TextList) (vs : List Value) (v : Value) (s : String Global) → length old.texts.items ≤ MOST_STRINGS → new.texts.items ≡ old.texts.items ++ s ∷ [] → string_bytes s ≡ text_of v →
    new.bad ≡ option_or old.bad (if not (is_text v) then Some (length old.texts.items) else None) → IsTextListOf first vs old → IsTextListOf first (vs ++ v ∷ []) new
texts-more first old new vs v s few texts text bad is = record {
  texts = λ none.
      let count = texts-count old vs (is.texts none) in
      ap (λ (t : List (String Global)). map string_bytes t) texts
      ∙ map_push string_bytes old.texts.items s
      ∙ ap (λ (t : List (List ℕ)). t ++ string_bytes s ∷ []) (is.texts none)
      ∙ ap (λ (t : List ℕ). take (suc MOST_STRINGS) (map text_of vs) ++ t ∷ []) text
      ∙ sym (ap (take (suc MOST_STRINGS)) (map_push text_of vs v) ∙ kept-push MOST_STRINGS (map text_of vs) (text_of v) (let k = kept-count vs in omega arith));
  bad = λ none.
      let count = texts-count old vs (is.texts none) in
      let place : length old.texts.items ≡ 0 + length (take (suc MOST_STRINGS) vs) = omega arith in
      bad
      ∙ ap (λ (b : Option ℕ). option_or b (if not (is_text v) then Some (length old.texts.items) else None)) (is.bad none)
      ∙ ap (λ (n : ℕ). option_or (first_unfit is_text (take (suc MOST_STRINGS) vs)) (if not (is_text v) then Some n else None)) place
      ∙ sym (ap (λ (ws : List Value). first_unfit is_text ws) (kept-push MOST_STRINGS vs v (omega arith)) ∙ first_where-push (λ w. not (is_text w)) 0 (take (suc MOST_STRINGS) vs) v);
}

not-string : (first : Event) (t : Told) (x : List ℕ) → IsBegun first t → (first ≡ event.Str → ⊥) → t.last ≡ Some (told.str x) → ⊥
not-string event.ObjectStart t x b n l = let k = b.2 in cc
not-string event.ObjectEnd t x b n l = b
not-string event.ArrayStart t x b n l = let k = b.2 in cc
not-string event.ArrayEnd t x b n l = b
not-string event.Name t x b n l = b
not-string event.Str t x b n l = n refl
not-string event.Number t x b n l = let k = b.1 in cc
not-string event.True t x b n l = cc
not-string event.False t x b n l = cc
not-string event.Null t x b n l = cc
not-string event.End t x b n l = b

pub or-none : {X : Type 0} (o : Option X) → o ≡ option_or o None
or-none None = refl
or-none (Some x) = refl

-- an item that another event has begun is no text
pub no-text : (first : Event) (t : Told) (v : Value) → IsBegun first t → (first ≡ event.Str → ⊥) → Begins t v → (is_text v ≡ false) × (text_of v ≡ [])
no-text first t Value.null b n on = (refl, refl)
no-text first t (Value.boolean x) b n on = (refl, refl)
no-text first t (Value.number x) b n on = (refl, refl)
no-text first t (Value.array x) b n on = (refl, refl)
no-text first t (Value.object x) b n on = (refl, refl)
no-text first t (Value.string x) b n on = absurd (not-string first t x b n (let a = on.last in let i = on.is in cc))

-- what the whole list is
no-texts : (ts : List (String Global)) → map string_bytes ts ≡ [] → ts ≡ []
no-texts [] e = refl
no-texts (t ∷ ts) e = cc

pub absent-none : (l : TextList) → IsTextList None l → NoTexts l
absent-none l is = (no-texts l.texts.items is.texts, is.bad)

other-taken : (first now l : TextList) (v : Value) (k : Kind) → NoTexts first → (k ≡ kind.Other) × (now ≡ first) →
    l.state ≡ state_for true k → l.texts.items ≡ now.texts.items → l.bad ≡ now.bad → state_by true (Some v) ≡ NotArray → texts_of (Some v) ≡ [] → kept_items MOST_STRINGS (Some v) ≡ [] → IsTextList (Some v) l
other-taken first now l v k none t s x b state texts kept = record {
  state = s ∙ ap (λ (j : Kind). state_for true j) t.0 ∙ sym state;
  texts = ap (λ (y : List (String Global)). map string_bytes y) (x ∙ ap (λ (f : TextList). f.texts.items) t.1 ∙ none.0) ∙ sym (ap (take (suc MOST_STRINGS)) texts);
  bad = b ∙ ap (λ (f : TextList). f.bad) t.1 ∙ none.1 ∙ sym (ap (λ (ws : List Value). first_unfit is_text ws) kept);
}

pub texts-taken : (first now l : TextList) (v : Value) (k : Kind) → NoTexts first → IsTaken (λ f vs m. IsTextListOf f vs m) v first k now →
    l.state ≡ state_for true k → l.texts.items ≡ now.texts.items → l.bad ≡ now.bad → IsTextList (Some v) l
texts-taken first now l (Value.array vs) k none t s x b = record {
  state = s ∙ ap (λ (j : Kind). state_for true j) t.0;
  texts = ap (λ (y : List (String Global)). map string_bytes y) x ∙ t.1.texts none;
  bad = b ∙ t.1.bad none;
}
texts-taken first now l Value.null k none t s x b = record {
  state = s ∙ ap (λ (j : Kind). state_for true j) t.0;
  texts = ap (λ (y : List (String Global)). map string_bytes y) (x ∙ ap (λ (f : TextList). f.texts.items) t.1 ∙ none.0);
  bad = b ∙ ap (λ (f : TextList). f.bad) t.1 ∙ none.1;
}
texts-taken first now l (Value.boolean y) k none t s x b = other-taken first now l (Value.boolean y) k none t s x b refl refl refl
texts-taken first now l (Value.number y) k none t s x b = other-taken first now l (Value.number y) k none t s x b refl refl refl
texts-taken first now l (Value.string y) k none t s x b = other-taken first now l (Value.string y) k none t s x b refl refl refl
texts-taken first now l (Value.object y) k none t s x b = other-taken first now l (Value.object y) k none t s x b refl refl refl

at_most : (m n : ℕ) → m ≤ n → nat_le m n ≡ true
at_most m n h = grind (arith, nat_tests)

above : (m n : ℕ) → n < m → nat_le m n ≡ false
above m n h = grind (arith, nat_tests)

-- what it breaks, by how many texts are kept
pub texts-over : (member : Option Value) (l : TextList) → IsTextList member l → l.state ≡ Array → MOST_STRINGS < length l.texts.items → Some (whole_fault rule.RowLimit) ≡ strings_fault member
texts-over None l is s over = absurd (let e = is.state in cc)
texts-over (Some (Value.array vs)) l is s over =
    let count = texts-count l (items vs) is.texts in
    let test : nat_le (length (take (suc MOST_STRINGS) (items vs))) MOST_STRINGS ≡ false = above _ _ (omega arith) in
    sym (kept_fault is_text MOST_STRINGS (items vs) (take (suc MOST_STRINGS) (items vs)) refl ∙ rw test refl)
texts-over (Some Value.null) l is s over = absurd (let e = is.state in cc)
texts-over (Some (Value.boolean x)) l is s over = absurd (let e = is.state in cc)
texts-over (Some (Value.number x)) l is s over = absurd (let e = is.state in cc)
texts-over (Some (Value.string x)) l is s over = absurd (let e = is.state in cc)
texts-over (Some (Value.object x)) l is s over = absurd (let e = is.state in cc)

pub texts-within : (member : Option Value) (l : TextList) → IsTextList member l → l.state ≡ Array → length l.texts.items ≤ MOST_STRINGS → option_map wrong_kind l.bad ≡ strings_fault member
texts-within None l is s few = absurd (let e = is.state in cc)
texts-within (Some (Value.array vs)) l is s few =
    let count = texts-count l (items vs) is.texts in
    let test : nat_le (length (take (suc MOST_STRINGS) (items vs))) MOST_STRINGS ≡ true = at_most _ _ (omega arith) in
    ap (option_map wrong_kind) is.bad ∙ sym (kept_fault is_text MOST_STRINGS (items vs) (take (suc MOST_STRINGS) (items vs)) refl ∙ rw test refl)
texts-within (Some Value.null) l is s few = absurd (let e = is.state in cc)
texts-within (Some (Value.boolean x)) l is s few = absurd (let e = is.state in cc)
texts-within (Some (Value.number x)) l is s few = absurd (let e = is.state in cc)
texts-within (Some (Value.string x)) l is s few = absurd (let e = is.state in cc)
texts-within (Some (Value.object x)) l is s few = absurd (let e = is.state in cc)
