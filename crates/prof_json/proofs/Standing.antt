-- Where a reader stands among the parts of the machine.
use Rattle.std.proofs.Common.{◌≡◌, ◌≢◌, inl, inr, ℕ, ◌+◌, ◌<◌, ◌≤◌, Bool, true, false, List, [], ◌∷◌, ◌++◌, length, refl, sym, subst, ap, ◌∙◌, arith}
use Rattle.std.specs.Prelude.{◌⊎◌, ◌||◌, ◌==◌, Option, Some, None, is_some, codes}
use Rattle.std.proofs.lemmas.Bool.Decides.{nat_tests}
use Rattle.std.proofs.lemmas.List.{length-append}
use Rattle.prof_grammar.specs.Event as t
use Rattle.prof_grammar.specs.Grammar.{value, items, more_items, members, more_members, member}
use Rattle.prof_grammar.specs.Machine as m
use Rattle.prof_grammar.specs.Machine.{Part, Class, Next, class, step, finish, blank, mark, symbol, word, digits, chars, nothing, as_name, next_stage, may_end, begin_value, prefix, give}
use Rattle.prof_grammar.specs.Reading.{max_depth}
use Rattle.prof_grammar.specs.Told.{depth}
use Rattle.prof_grammar.proofs.Language as l
use Rattle.prof_grammar.proofs.Language.{Fits, class_fits}
use Rattle.prof_token.specs.Bytes.{is_space, is_digit}
use Rattle.prof_token.specs.Stages.{may_come}
use Rattle.prof_json.specs.Gives.{TakesName}
use Rattle.prof_json.specs.Nest.{IsWithin}
use Rattle.prof_json.specs.Parts.{within, behind, parts_in}
use Rattle.prof_json.specs.declared.nesting.Bracket.{Bracket}
use Rattle.prof_json.specs.declared.nesting.Bracket.TheVariants.{Array, Object}
use Rattle.prof_json.specs.declared.nesting.Phase.TheVariants.{AfterName}
use Rattle.prof_token.proofs.Turns.{blank_on, blank_over}

-- ---- brackets

within_append : (ps : List Part) (xs : List Bracket) (b : Bracket) → within ps (xs ++ b ∷ []) ≡ within (within ps xs) (b ∷ [])
within_append ps [] b = refl
within_append ps (Array ∷ xs) b = within_append (blank ∷ symbol more_items ∷ ps) xs b
within_append ps (Object ∷ xs) b = within_append (blank ∷ symbol more_members ∷ ps) xs b

pub behind_array : (xs : List Bracket) → behind (xs ++ Array ∷ []) ≡ blank ∷ symbol more_items ∷ behind xs
behind_array xs = within_append (blank ∷ []) xs Array

pub behind_object : (xs : List Bracket) → behind (xs ++ Object ∷ []) ≡ blank ∷ symbol more_members ∷ behind xs
behind_object xs = within_append (blank ∷ []) xs Object

pub in_array : {xs : List Bracket} (w : IsWithin Array xs) → behind xs ≡ blank ∷ symbol more_items ∷ behind w.outer
in_array w = ap behind w.is ∙ behind_array w.outer

pub in_object : {xs : List Bracket} (w : IsWithin Object xs) → behind xs ≡ blank ∷ symbol more_members ∷ behind w.outer
in_object w = ap behind w.is ∙ behind_object w.outer

within_depth : (ps : List Part) (xs : List Bracket) → depth (within ps xs) ≡ depth ps + length xs
within_depth ps [] = omega arith
within_depth ps (Array ∷ xs) = let h = within_depth (blank ∷ symbol more_items ∷ ps) xs in omega arith
within_depth ps (Object ∷ xs) = let h = within_depth (blank ∷ symbol more_members ∷ ps) xs in omega arith

pub behind_depth : (xs : List Bracket) → depth (behind xs) ≡ length xs
behind_depth xs = let h = within_depth (blank ∷ []) xs in omega arith

pub behind_few : (xs : List Bracket) → length xs ≤ 256 → depth (behind xs) ≤ max_depth
behind_few xs h = let e = behind_depth xs in omega arith

-- ---- what may stand behind a value

pub data IsBehind : List Part → Type 0 where
  top : IsBehind (blank ∷ [])
  in_items : {ps : List Part} → depth ps + 1 ≤ max_depth → IsBehind (blank ∷ symbol more_items ∷ ps)
  in_members : {ps : List Part} → depth ps + 1 ≤ max_depth → IsBehind (blank ∷ symbol more_members ∷ ps)

within_is : (ps : List Part) (xs : List Bracket) → IsBehind ps → depth ps + length xs ≤ max_depth → IsBehind (within ps xs)
within_is ps [] h d = h
within_is ps (Array ∷ xs) h d = within_is (blank ∷ symbol more_items ∷ ps) xs (in_items (omega arith)) (omega arith)
within_is ps (Object ∷ xs) h d = within_is (blank ∷ symbol more_members ∷ ps) xs (in_members (omega arith)) (omega arith)

pub behind_is : (xs : List Bracket) → length xs ≤ 256 → IsBehind (behind xs)
behind_is xs h = within_is (blank ∷ []) xs top (omega arith)

no_step : {es : List t.Event} {qs : List Part} → ◌≡◌ {A = Next} None (Some (es, qs)) → depth qs ≤ max_depth
no_step e = absurd (let p : ⊥ = cc in p)

parts_are : {es fs : List t.Event} {ps qs : List Part} → ◌≡◌ {A = Next} (Some (fs, ps)) (Some (es, qs)) → depth ps ≤ max_depth → depth qs ≤ max_depth
parts_are {ps = ps} {qs} e d = let p : ps ≡ qs = ap to_come e in subst (λ (x : List Part). depth x ≤ max_depth) p d
  where
    to_come : Next → List Part
    to_come None = []
    to_come (Some n) = n.1

pub behind_step : {ps : List Part} → IsBehind ps → (b : ℕ) (es : List t.Event) (qs : List Part) → step ps (class b) b ≡ Some (es, qs) → depth qs ≤ max_depth
unfolding step
behind_step top b es qs e = go (class b) e
  where
    go : (c : Class) → step (blank ∷ []) c b ≡ Some (es, qs) → depth qs ≤ max_depth
    go m.space e = parts_are e (omega arith)
    go c e = no_step e
behind_step (in_items {ps} d) b es qs e = go (class b) e
  where
    go : (c : Class) → step (blank ∷ symbol more_items ∷ ps) c b ≡ Some (es, qs) → depth qs ≤ max_depth
    go m.space e = parts_are e d
    go m.comma e = parts_are e d
    go m.close_bracket e = parts_are e (omega arith)
    go c e = no_step e
behind_step (in_members {ps} d) b es qs e = go (class b) e
  where
    go : (c : Class) → step (blank ∷ symbol more_members ∷ ps) c b ≡ Some (es, qs) → depth qs ≤ max_depth
    go m.space e = parts_are e d
    go m.comma e = parts_are e d
    go m.close_brace e = parts_are e (omega arith)
    go c e = no_step e

-- ---- steps among brackets

pub items_close : (ps : List Part) → step (symbol items ∷ ps) (class 93) 93 ≡ Some (t.array_end ∷ [], ps)
unfolding step
items_close ps = refl

pub items_value : (ps : List Part) (b : ℕ) → b ≢ 93 → step (symbol items ∷ ps) (class b) b ≡ begin_value (class b) b (blank ∷ symbol more_items ∷ ps)
unfolding step
items_value ps b n = go b (class b) (class_fits b) n
  where
    go : (b : ℕ) (c : Class) → Fits b c → b ≢ 93 → step (symbol items ∷ ps) c b ≡ begin_value c b (blank ∷ symbol more_items ∷ ps)
    go b c l.close_bracket n = absurd (n refl)
    go b c f n = refl

pub more_items_close : (ps : List Part) → step (symbol more_items ∷ ps) (class 93) 93 ≡ Some (t.array_end ∷ [], ps)
unfolding step
more_items_close ps = refl

pub more_items_comma : (ps : List Part) → step (symbol more_items ∷ ps) (class 44) 44 ≡ Some ([], blank ∷ symbol value ∷ blank ∷ symbol more_items ∷ ps)
unfolding step
more_items_comma ps = refl

pub more_items_wrong : (ps : List Part) (b : ℕ) → b ≢ 93 → b ≢ 44 → step (symbol more_items ∷ ps) (class b) b ≡ None
unfolding step
more_items_wrong ps b n o = go b (class b) (class_fits b) n o
  where
    go : (b : ℕ) (c : Class) → Fits b c → b ≢ 93 → b ≢ 44 → step (symbol more_items ∷ ps) c b ≡ None
    go b c l.close_bracket n o = absurd (n refl)
    go b c l.comma n o = absurd (o refl)
    go b c f n o = refl

pub members_close : (ps : List Part) → step (symbol members ∷ ps) (class 125) 125 ≡ Some (t.object_end ∷ [], ps)
unfolding step
members_close ps = refl

pub members_name : (ps : List Part) → step (symbol members ∷ ps) (class 34) 34 ≡ Some ([], chars as_name [] None nothing ∷ m.after_name (symbol more_members ∷ ps))
unfolding step
members_name ps = refl

pub members_wrong : (ps : List Part) (b : ℕ) → b ≢ 125 → b ≢ 34 → step (symbol members ∷ ps) (class b) b ≡ None
unfolding step
members_wrong ps b n o = go b (class b) (class_fits b) n o
  where
    go : (b : ℕ) (c : Class) → Fits b c → b ≢ 125 → b ≢ 34 → step (symbol members ∷ ps) c b ≡ None
    go b c l.close_brace n o = absurd (n refl)
    go b c l.quote n o = absurd (o refl)
    go b c f n o = refl

pub member_name : (ps : List Part) → step (symbol member ∷ ps) (class 34) 34 ≡ Some ([], chars as_name [] None nothing ∷ m.after_name ps)
unfolding step
member_name ps = refl

pub member_wrong : (ps : List Part) (b : ℕ) → b ≢ 34 → step (symbol member ∷ ps) (class b) b ≡ None
unfolding step
member_wrong ps b o = go b (class b) (class_fits b) o
  where
    go : (b : ℕ) (c : Class) → Fits b c → b ≢ 34 → step (symbol member ∷ ps) c b ≡ None
    go b c l.quote o = absurd (o refl)
    go b c f o = refl

pub more_members_close : (ps : List Part) → step (symbol more_members ∷ ps) (class 125) 125 ≡ Some (t.object_end ∷ [], ps)
unfolding step
more_members_close ps = refl

pub more_members_comma : (ps : List Part) → step (symbol more_members ∷ ps) (class 44) 44 ≡ Some ([], blank ∷ symbol member ∷ symbol more_members ∷ ps)
unfolding step
more_members_comma ps = refl

pub more_members_wrong : (ps : List Part) (b : ℕ) → b ≢ 125 → b ≢ 44 → step (symbol more_members ∷ ps) (class b) b ≡ None
unfolding step
more_members_wrong ps b n o = go b (class b) (class_fits b) n o
  where
    go : (b : ℕ) (c : Class) → Fits b c → b ≢ 125 → b ≢ 44 → step (symbol more_members ∷ ps) c b ≡ None
    go b c l.close_brace n o = absurd (n refl)
    go b c l.comma n o = absurd (o refl)
    go b c f n o = refl

pub value_step : (ps : List Part) (b : ℕ) → step (symbol value ∷ ps) (class b) b ≡ begin_value (class b) b ps
unfolding step
value_step ps b = refl

nothing_comes : (c : Class) (b : ℕ) → step [] c b ≡ None
unfolding step
nothing_comes c b = refl

pub end_wrong : (b : ℕ) → is_space b ≡ false → step (blank ∷ []) (class b) b ≡ None
end_wrong b h = blank_over [] b h ∙ nothing_comes (class b) b

pub end_finish : finish (blank ∷ []) ≡ Some []
unfolding finish
end_finish = refl

-- ---- what may come behind a value, as a test

pub come_end_top : may_come (blank ∷ []) None ≡ true
unfolding finish
come_end_top = refl

pub come_end_items : (ps : List Part) → may_come (blank ∷ symbol more_items ∷ ps) None ≡ false
unfolding finish
come_end_items ps = refl

pub come_end_members : (ps : List Part) → may_come (blank ∷ symbol more_members ∷ ps) None ≡ false
unfolding finish
come_end_members ps = refl

pub come_top : (b : ℕ) → is_space b ≡ may_come (blank ∷ []) (Some b)
come_top b = go (is_space b) refl
  where
    go : (s : Bool) → is_space b ≡ s → s ≡ may_come (blank ∷ []) (Some b)
    go true e = sym (ap is_some (blank_on [] b e))
    go false e = sym (ap is_some (end_wrong b e))

comes : {r q : Next} {n : List t.Event × List Part} → r ≡ q → q ≡ Some n → is_some r ≡ true
comes e f = ap is_some (e ∙ f)

pub come_items : (ps : List Part) (b : ℕ) → (is_space b || (b == 44) || (b == 93)) ≡ may_come (blank ∷ symbol more_items ∷ ps) (Some b)
come_items ps b = go (is_space b) (b == 44) (b == 93) refl refl refl
  where
    go : (s u v : Bool) → is_space b ≡ s → (b == 44) ≡ u → (b == 93) ≡ v → (s || u || v) ≡ may_come (blank ∷ symbol more_items ∷ ps) (Some b)
    go true u v e f g = sym (ap is_some (blank_on (symbol more_items ∷ ps) b e))
    go false true v e f g = let x : b ≡ 44 = grind (arith, nat_tests) in sym (comes (blank_over (symbol more_items ∷ ps) b e) (subst (λ (y : ℕ). ◌≡◌ {A = Next} (step (symbol more_items ∷ ps) (class y) y) (Some ([], blank ∷ symbol value ∷ blank ∷ symbol more_items ∷ ps))) (sym x) (more_items_comma ps)))
    go false false true e f g = let x : b ≡ 93 = grind (arith, nat_tests) in sym (comes (blank_over (symbol more_items ∷ ps) b e) (subst (λ (y : ℕ). ◌≡◌ {A = Next} (step (symbol more_items ∷ ps) (class y) y) (Some (t.array_end ∷ [], ps))) (sym x) (more_items_close ps)))
    go false false false e f g =
        let n : b ≢ 93 = grind (arith, nat_tests) in
        let o : b ≢ 44 = grind (arith, nat_tests) in
        sym (ap is_some (blank_over (symbol more_items ∷ ps) b e ∙ more_items_wrong ps b n o))

pub come_members : (ps : List Part) (b : ℕ) → (is_space b || (b == 44) || (b == 125)) ≡ may_come (blank ∷ symbol more_members ∷ ps) (Some b)
come_members ps b = go (is_space b) (b == 44) (b == 125) refl refl refl
  where
    go : (s u v : Bool) → is_space b ≡ s → (b == 44) ≡ u → (b == 125) ≡ v → (s || u || v) ≡ may_come (blank ∷ symbol more_members ∷ ps) (Some b)
    go true u v e f g = sym (ap is_some (blank_on (symbol more_members ∷ ps) b e))
    go false true v e f g = let x : b ≡ 44 = grind (arith, nat_tests) in sym (comes (blank_over (symbol more_members ∷ ps) b e) (subst (λ (y : ℕ). ◌≡◌ {A = Next} (step (symbol more_members ∷ ps) (class y) y) (Some ([], blank ∷ symbol member ∷ symbol more_members ∷ ps))) (sym x) (more_members_comma ps)))
    go false false true e f g = let x : b ≡ 125 = grind (arith, nat_tests) in sym (comes (blank_over (symbol more_members ∷ ps) b e) (subst (λ (y : ℕ). ◌≡◌ {A = Next} (step (symbol more_members ∷ ps) (class y) y) (Some (t.object_end ∷ [], ps))) (sym x) (more_members_close ps)))
    go false false false e f g =
        let n : b ≢ 125 = grind (arith, nat_tests) in
        let o : b ≢ 44 = grind (arith, nat_tests) in
        sym (ap is_some (blank_over (symbol more_members ∷ ps) b e ∙ more_members_wrong ps b n o))

-- ---- the beginnings of values

pub begins_array : (b : ℕ) (ps : List Part) → b ≡ 91 → begin_value (class b) b ps ≡ Some (t.array_start ∷ [], blank ∷ symbol items ∷ ps)
begins_array b ps e = rw e refl

pub begins_object : (b : ℕ) (ps : List Part) → b ≡ 123 → begin_value (class b) b ps ≡ Some (t.object_start ∷ [], blank ∷ symbol members ∷ ps)
begins_object b ps e = rw e refl

pub begins_string : (b : ℕ) (ps : List Part) → b ≡ 34 → begin_value (class b) b ps ≡ Some ([], chars m.as_value [] None nothing ∷ ps)
begins_string b ps e = rw e refl

pub begins_true : (ps : List Part) → begin_value (class 116) 116 ps ≡ step (word (codes "true") m.a_true ∷ ps) (class 116) 116
unfolding step
begins_true ps = refl

pub begins_false : (ps : List Part) → begin_value (class 102) 102 ps ≡ step (word (codes "false") m.a_false ∷ ps) (class 102) 102
unfolding step
begins_false ps = refl

pub begins_null : (ps : List Part) → begin_value (class 110) 110 ps ≡ step (word (codes "null") m.a_null ∷ ps) (class 110) 110
unfolding step
begins_null ps = refl

outside : (b : ℕ) → ((b < 48) ⊎ (57 < b)) → 48 ≤ b → b ≤ 57 → ⊥
outside b (inl h) lo hi = omega arith
outside b (inr h) lo hi = omega arith

pub begins_none : (b : ℕ) (ps : List Part) → b ≢ 91 → b ≢ 123 → b ≢ 34 → b ≢ 116 → b ≢ 102 → b ≢ 110 → b ≢ 45 → ((b < 48) ⊎ (57 < b)) → begin_value (class b) b ps ≡ None
begins_none b ps n1 n2 n3 n4 n5 n6 n7 n8 = go b (class b) (class_fits b) n1 n2 n3 n4 n5 n6 n7 n8
  where
    go : (b : ℕ) (c : Class) → Fits b c → b ≢ 91 → b ≢ 123 → b ≢ 34 → b ≢ 116 → b ≢ 102 → b ≢ 110 → b ≢ 45 → ((b < 48) ⊎ (57 < b)) → begin_value c b ps ≡ None
    go b c l.open_bracket n1 n2 n3 n4 n5 n6 n7 n8 = absurd (n1 refl)
    go b c l.open_brace n1 n2 n3 n4 n5 n6 n7 n8 = absurd (n2 refl)
    go b c l.quote n1 n2 n3 n4 n5 n6 n7 n8 = absurd (n3 refl)
    go b c l.letter_t n1 n2 n3 n4 n5 n6 n7 n8 = absurd (n4 refl)
    go b c l.letter_f n1 n2 n3 n4 n5 n6 n7 n8 = absurd (n5 refl)
    go b c l.letter_n n1 n2 n3 n4 n5 n6 n7 n8 = absurd (n6 refl)
    go b c l.minus n1 n2 n3 n4 n5 n6 n7 n8 = absurd (n7 refl)
    go b c l.zero_digit n1 n2 n3 n4 n5 n6 n7 n8 = absurd (outside 48 n8 (omega arith) (omega arith))
    go b c (l.digit lo hi) n1 n2 n3 n4 n5 n6 n7 n8 = absurd (outside b n8 (omega arith) hi)
    go b c f n1 n2 n3 n4 n5 n6 n7 n8 = refl

pub no_minus : (b : ℕ) → ((b == 45) || is_digit b) ≡ false → b ≢ 45
no_minus b e n = let t : (b == 45) ≡ true = grind (arith, nat_tests) in cc

pub no_digit : (b : ℕ) → ((b == 45) || is_digit b) ≡ false → (b < 48) ⊎ (57 < b)
no_digit b e = grind (arith, nat_tests)

-- ---- opened brackets

pub opened_array : (xs : List Bracket) → length xs ≡ 256 → max_depth < depth (blank ∷ symbol items ∷ behind xs)
opened_array xs e = let d = behind_depth xs in omega arith

pub opened_object : (xs : List Bracket) → length xs ≡ 256 → max_depth < depth (blank ∷ symbol members ∷ behind xs)
opened_object xs e = let d = behind_depth xs in omega arith

pub array_few : (xs : List Bracket) → length (xs ++ Array ∷ []) ≤ 256 → depth (blank ∷ symbol items ∷ behind xs) ≤ max_depth
array_few xs h = let d = behind_depth xs in omega (arith, length-append xs (Array ∷ []))

pub object_few : (xs : List Bracket) → length (xs ++ Object ∷ []) ≤ 256 → depth (blank ∷ symbol members ∷ behind xs) ≤ max_depth
object_few xs h = let d = behind_depth xs in omega (arith, length-append xs (Object ∷ []))

pub outer_few : {b : Bracket} {xs : List Bracket} (w : IsWithin b xs) → length xs ≤ 256 → depth (behind w.outer) + 1 ≤ max_depth
outer_few {b} w h = let d = behind_depth w.outer in omega (arith, ap length w.is, length-append w.outer (b ∷ []))

pub closed_few : {b : Bracket} {xs : List Bracket} (w : IsWithin b xs) → length xs ≤ 256 → depth (behind w.outer) ≤ max_depth
closed_few w h = let d = outer_few w h in omega arith

-- ---- names

pub takes_first_name : {xs : List Bracket} (w : IsWithin Object xs) (b : ℕ) → is_space b ≡ false → b ≢ 125 → TakesName b (blank ∷ symbol members ∷ behind w.outer) xs
takes_first_name {xs} w b s n = record { quote = quote; other = λ o. blank_over (symbol members ∷ behind w.outer) b s ∙ members_wrong (behind w.outer) b n o }
  where
    quote : b ≡ 34 → step (blank ∷ symbol members ∷ behind w.outer) (class b) b ≡ Some ([], chars as_name [] None nothing ∷ parts_in AfterName (behind xs))
    quote e = rw (in_object w) (blank_over (symbol members ∷ behind w.outer) b s ∙ rw e (members_name (behind w.outer)))

pub takes_next_name : {xs : List Bracket} (w : IsWithin Object xs) (b : ℕ) → is_space b ≡ false → TakesName b (blank ∷ symbol member ∷ symbol more_members ∷ behind w.outer) xs
takes_next_name {xs} w b s = record { quote = quote; other = λ o. blank_over (symbol member ∷ symbol more_members ∷ behind w.outer) b s ∙ member_wrong (symbol more_members ∷ behind w.outer) b o }
  where
    quote : b ≡ 34 → step (blank ∷ symbol member ∷ symbol more_members ∷ behind w.outer) (class b) b ≡ Some ([], chars as_name [] None nothing ∷ parts_in AfterName (behind xs))
    quote e = rw (in_object w) (blank_over (symbol member ∷ symbol more_members ∷ behind w.outer) b s ∙ rw e (member_name (symbol more_members ∷ behind w.outer)))

-- ---- the ends of numbers

pub number_over : (n : m.Stage) (s : List ℕ) (ps : List Part) (b : ℕ) → next_stage n (class b) ≡ None → may_end n ≡ true → step (digits n s ∷ ps) (class b) b ≡ prefix (t.number s ∷ []) (step ps (class b) b)
unfolding step
number_over n s ps b e f = rw (e, f) refl

pub number_finish : (n : m.Stage) (s : List ℕ) (ps : List Part) → may_end n ≡ true → finish (digits n s ∷ ps) ≡ give (t.number s ∷ []) (finish ps)
unfolding finish
number_finish n s ps f = rw f refl

pub some_of : {A : Type 0} (o : Option A) → is_some o ≡ true → (x : A) × (o ≡ Some x)
some_of None e = absurd (let p : ⊥ = cc in p)
some_of (Some x) e = (x, refl)

pub none_of : {A : Type 0} (o : Option A) → is_some o ≡ false → o ≡ None
none_of None e = refl
none_of (Some x) e = absurd (let p : ⊥ = cc in p)
