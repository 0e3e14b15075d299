-- The brackets that are open, by the events and by the parts to come.
use Rattle.std.proofs.Common.{◌≡◌, ℕ, zero, suc, ◌+◌, ◌-◌, ◌*◌, ◌≤◌, Bool, true, false, cond, List, [], ◌∷◌, ◌++◌, refl, arith}
use Rattle.std.specs.Prelude.{Option, Some, None, option_map, ◌==◌}
use Rattle.std.specs.Char.{is_ascii_hexdigit, digit_value}
use Rattle.prof_grammar.specs.Event.{Event, object_start, object_end, array_start, array_end, name, str, number, truth, null}
use Rattle.prof_grammar.specs.Grammar.{value, items, more_items, members, member, more_members}
use Rattle.prof_grammar.specs.Machine.{Part, Class, Next, step, prefix, begin_value, begin_member, step_blank, step_items, step_more_items, step_members, step_more_members, step_mark, step_word, step_chars, step_text, step_escape, step_hex, step_lead, step_digits, next_stage, may_end, text_byte, escaped, in_tail, tail_next, with_char, with_hex, with_byte, settled, nothing, escape, hex, lead}
use Rattle.prof_grammar.specs.Machine as m
use Rattle.prof_grammar.specs.Told.{depth}
use Rattle.prof_grammar.specs.Reading.{NestsWithin, max_depth}
use Rattle.prof_grammar.proofs.Begins.{completed}

-- how many are open behind the events
abbrev pub opened : ℕ → List Event → ℕ
opened k [] = k
opened k (array_start ∷ es) = opened (k + 1) es
opened k (object_start ∷ es) = opened (k + 1) es
opened k (array_end ∷ es) = opened (k - 1) es
opened k (object_end ∷ es) = opened (k - 1) es
opened k (name s ∷ es) = opened k es
opened k (str s ∷ es) = opened k es
opened k (number t ∷ es) = opened k es
opened k (truth b ∷ es) = opened k es
opened k (null ∷ es) = opened k es

pub nests_join : (most k : ℕ) (es fs : List Event) → NestsWithin most k es → NestsWithin most (opened k es) fs → NestsWithin most k (es ++ fs)
nests_join most k [] fs h g = g
nests_join most k (array_start ∷ es) fs h g = (h.0, nests_join most (k + 1) es fs h.1 g)
nests_join most k (object_start ∷ es) fs h g = (h.0, nests_join most (k + 1) es fs h.1 g)
nests_join most k (array_end ∷ es) fs h g = nests_join most (k - 1) es fs h g
nests_join most k (object_end ∷ es) fs h g = nests_join most (k - 1) es fs h g
nests_join most k (name s ∷ es) fs h g = nests_join most k es fs h g
nests_join most k (str s ∷ es) fs h g = nests_join most k es fs h g
nests_join most k (number t ∷ es) fs h g = nests_join most k es fs h g
nests_join most k (truth b ∷ es) fs h g = nests_join most k es fs h g
nests_join most k (null ∷ es) fs h g = nests_join most k es fs h g

-- a front of events that nest so has no more open at its end
pub nests_open : (most k : ℕ) (es fs : List Event) → k ≤ most → NestsWithin most k (es ++ fs) → opened k es ≤ most
nests_open most k [] fs l h = l
nests_open most k (array_start ∷ es) fs l h = let room = h.0 in nests_open most (k + 1) es fs (omega arith) h.1
nests_open most k (object_start ∷ es) fs l h = let room = h.0 in nests_open most (k + 1) es fs (omega arith) h.1
nests_open most k (array_end ∷ es) fs l h = nests_open most (k - 1) es fs (omega arith) h
nests_open most k (object_end ∷ es) fs l h = nests_open most (k - 1) es fs (omega arith) h
nests_open most k (name s ∷ es) fs l h = nests_open most k es fs l h
nests_open most k (str s ∷ es) fs l h = nests_open most k es fs l h
nests_open most k (number t ∷ es) fs l h = nests_open most k es fs l h
nests_open most k (truth b ∷ es) fs l h = nests_open most k es fs l h
nests_open most k (null ∷ es) fs l h = nests_open most k es fs l h

pub opened_join : (k : ℕ) (es fs : List Event) → opened k (es ++ fs) ≡ opened (opened k es) fs
opened_join k [] fs = refl
opened_join k (array_start ∷ es) fs = opened_join (k + 1) es fs
opened_join k (object_start ∷ es) fs = opened_join (k + 1) es fs
opened_join k (array_end ∷ es) fs = opened_join (k - 1) es fs
opened_join k (object_end ∷ es) fs = opened_join (k - 1) es fs
opened_join k (name s ∷ es) fs = opened_join k es fs
opened_join k (str s ∷ es) fs = opened_join k es fs
opened_join k (number t ∷ es) fs = opened_join k es fs
opened_join k (truth b ∷ es) fs = opened_join k es fs
opened_join k (null ∷ es) fs = opened_join k es fs

-- ---- one step

-- k brackets were open: behind the step as many are open as the events say, and the events nest as deep as that
abbrev pub Keeps : ℕ → Next → Type 0
Keeps k None = Unit {0}
Keeps k (Some n) = (opened k n.0 ≡ depth n.1) × (depth n.1 ≤ max_depth → NestsWithin max_depth k n.0)

keeps_value : (c : Class) (b : ℕ) (ps : List Part) → Keeps (depth ps) (begin_value c b ps)
keeps_value m.open_bracket b ps = (refl, λ h. (omega arith, tt))
keeps_value m.open_brace b ps = (refl, λ h. (omega arith, tt))
keeps_value m.quote b ps = (refl, λ h. tt)
keeps_value m.minus b ps = (refl, λ h. tt)
keeps_value m.zero_digit b ps = (refl, λ h. tt)
keeps_value m.digit b ps = (refl, λ h. tt)
keeps_value m.letter_t b ps = (refl, λ h. tt)
keeps_value m.letter_f b ps = (refl, λ h. tt)
keeps_value m.letter_n b ps = (refl, λ h. tt)
keeps_value c b ps = tt

keeps_member : (c : Class) (ps : List Part) → Keeps (depth ps) (begin_member c ps)
keeps_member m.quote ps = (refl, λ h. tt)
keeps_member c ps = tt

keeps_items : (c : Class) (b : ℕ) (ps : List Part) → Keeps (depth ps + 1) (step_items c b ps)
keeps_items m.close_bracket b ps = (omega arith, λ h. tt)
keeps_items c b ps = keeps_value c b (m.blank ∷ m.symbol more_items ∷ ps)

keeps_more_items : (c : Class) (ps : List Part) → Keeps (depth ps + 1) (step_more_items c ps)
keeps_more_items m.close_bracket ps = (omega arith, λ h. tt)
keeps_more_items m.comma ps = (refl, λ h. tt)
keeps_more_items c ps = tt

keeps_members : (c : Class) (ps : List Part) → Keeps (depth ps + 1) (step_members c ps)
keeps_members m.close_brace ps = (omega arith, λ h. tt)
keeps_members c ps = keeps_member c (m.symbol more_members ∷ ps)

keeps_more_members : (c : Class) (ps : List Part) → Keeps (depth ps + 1) (step_more_members c ps)
keeps_more_members m.close_brace ps = (omega arith, λ h. tt)
keeps_more_members m.comma ps = (refl, λ h. tt)
keeps_more_members c ps = tt

keeps_if : (t : Bool) (k : ℕ) (r s : Next) → Keeps k r → Keeps k s → Keeps k (cond t r s)
keeps_if true k r s h g = h
keeps_if false k r s h g = g

keeps_meant : (w : m.Literal) (ps : List Part) → Keeps (depth ps) (Some (m.meant w, ps))
keeps_meant m.a_true ps = (refl, λ h. tt)
keeps_meant m.a_false ps = (refl, λ h. tt)
keeps_meant m.a_null ps = (refl, λ h. tt)
keeps_meant m.a_colon ps = (refl, λ h. tt)
keeps_meant m.a_mark ps = (refl, λ h. tt)

keeps_word : (cs : List ℕ) (w : m.Literal) (b : ℕ) (ps : List Part) → Keeps (depth ps) (step_word cs w b ps)
keeps_word [] w b ps = tt
keeps_word (c ∷ []) w b ps = keeps_if (b == c) (depth ps) _ None (keeps_meant w ps) tt
keeps_word (c ∷ d ∷ cs) w b ps = keeps_if (b == c) (depth ps) (Some ([], m.word (d ∷ cs) w ∷ ps)) None (refl, λ h. tt) tt

keeps_told : (k : m.Role) (s : List ℕ) (ps : List Part) → Keeps (depth ps) (Some (m.told k s ∷ [], ps))
keeps_told m.as_name s ps = (refl, λ h. tt)
keeps_told m.as_value s ps = (refl, λ h. tt)

keeps_text : (k : m.Role) (s : List ℕ) (p : Option ℕ) (c : m.TextByte) (b : ℕ) (ps : List Part) → Keeps (depth ps) (step_text k s p c b ps)
keeps_text k s p m.ends b ps = keeps_told k (settled s p) ps
keeps_text k s p m.escapes b ps = (refl, λ h. tt)
keeps_text k s p m.plain b ps = (refl, λ h. tt)
keeps_text k s p (m.leads t) b ps = (refl, λ h. tt)
keeps_text k s p m.bad b ps = tt

keeps_short : (k : m.Role) (s : List ℕ) (p : Option ℕ) (ps : List Part) (r : Option ℕ) → Keeps (depth ps) (option_map (λ c. ([], with_char k s p (c ∷ []) ∷ ps)) r)
keeps_short k s p ps None = tt
keeps_short k s p ps (Some c) = (refl, λ h. tt)

keeps_hex : (k : m.Role) (s : List ℕ) (p : Option ℕ) (n v : ℕ) (ps : List Part) → Keeps (depth ps) (Some ([], with_hex k s p n v ∷ ps))
keeps_hex k s p zero v ps = (refl, λ h. tt)
keeps_hex k s p (suc n) v ps = (refl, λ h. tt)

keeps_byte : (k : m.Role) (s : List ℕ) (p : Option ℕ) (t : Option m.Tail) (bytes : List ℕ) (ps : List Part) → Keeps (depth ps) (Some ([], with_byte k s p t bytes ∷ ps))
keeps_byte k s p None bytes ps = (refl, λ h. tt)
keeps_byte k s p (Some t) bytes ps = (refl, λ h. tt)

keeps_chars : (k : m.Role) (s : List ℕ) (p : Option ℕ) (c : m.Begun) (b : ℕ) (ps : List Part) → Keeps (depth ps) (step_chars k s p c b ps)
keeps_chars k s p nothing b ps = keeps_text k s p (text_byte b) b ps
keeps_chars k s p escape b ps = keeps_if (b == 117) (depth ps) (Some ([], m.chars k s p (hex 3 0) ∷ ps)) _ (refl, λ h. tt) (keeps_short k s p ps (escaped b))
keeps_chars k s p (hex n v) b ps = keeps_if (is_ascii_hexdigit b) (depth ps) _ None (keeps_hex k s p n (v * 16 + digit_value b) ps) tt
keeps_chars k s p (lead t bytes) b ps = keeps_if (in_tail t b) (depth ps) _ None (keeps_byte k s p (tail_next t) (bytes ++ b ∷ []) ps) tt

keeps_over : (s : List ℕ) (k : ℕ) (r : Next) → Keeps k r → Keeps k (prefix (number s ∷ []) r)
keeps_over s k None h = tt
keeps_over s k (Some n) h = h

keeps_digits : (o : Option m.Stage) (u : Bool) (s : List ℕ) (b : ℕ) (ps : List Part) (r : Next) → Keeps (depth ps) r → Keeps (depth ps) (step_digits o u s b ps r)
keeps_digits (Some n) u s b ps r h = (refl, λ h. tt)
keeps_digits None true s b ps r h = keeps_over s (depth ps) r h
keeps_digits None false s b ps r h = tt

keeps_mark : (c : Class) (ps : List Part) (r : Next) → Keeps (depth ps) r → Keeps (depth ps) (step_mark c ps r)
keeps_mark m.mark_byte ps r h = (refl, λ h. tt)
keeps_mark c ps r h = h

keeps_blank : (c : Class) (ps : List Part) (r : Next) → Keeps (depth ps) r → Keeps (depth ps) (step_blank c ps r)
keeps_blank m.space ps r h = (refl, λ h. tt)
keeps_blank c ps r h = h

pub keeps : (ps : List Part) (c : Class) (b : ℕ) → Keeps (depth ps) (step ps c b)
unfolding step
keeps [] c b = tt
keeps (m.mark ∷ ps) c b = keeps_mark c ps (step ps c b) (keeps ps c b)
keeps (m.blank ∷ ps) c b = keeps_blank c ps (step ps c b) (keeps ps c b)
keeps (m.symbol value ∷ ps) c b = keeps_value c b ps
keeps (m.symbol items ∷ ps) c b = keeps_items c b ps
keeps (m.symbol more_items ∷ ps) c b = keeps_more_items c ps
keeps (m.symbol members ∷ ps) c b = keeps_members c ps
keeps (m.symbol member ∷ ps) c b = keeps_member c ps
keeps (m.symbol more_members ∷ ps) c b = keeps_more_members c ps
keeps (m.word cs w ∷ ps) c b = keeps_word cs w b ps
keeps (m.digits n s ∷ ps) c b = keeps_digits (next_stage n c) (may_end n) s b ps (step ps c b) (keeps ps c b)
keeps (m.chars k s p g ∷ ps) c b = keeps_chars k s p g b ps

-- the completion opens nothing
pub completed_nests : (ps : List Part) (k : ℕ) → NestsWithin max_depth k (completed ps).1
unfolding completed Rattle.prof_grammar.proofs.Begins.part_text Rattle.prof_grammar.proofs.Begins.symbol_text
completed_nests [] k = tt
completed_nests (m.mark ∷ ps) k = completed_nests ps k
completed_nests (m.blank ∷ ps) k = completed_nests ps k
completed_nests (m.symbol value ∷ ps) k = completed_nests ps k
completed_nests (m.symbol items ∷ ps) k = completed_nests ps (k - 1)
completed_nests (m.symbol more_items ∷ ps) k = completed_nests ps (k - 1)
completed_nests (m.symbol members ∷ ps) k = completed_nests ps (k - 1)
completed_nests (m.symbol member ∷ ps) k = completed_nests ps k
completed_nests (m.symbol more_members ∷ ps) k = completed_nests ps (k - 1)
completed_nests (m.word cs m.a_true ∷ ps) k = completed_nests ps k
completed_nests (m.word cs m.a_false ∷ ps) k = completed_nests ps k
completed_nests (m.word cs m.a_null ∷ ps) k = completed_nests ps k
completed_nests (m.word cs m.a_colon ∷ ps) k = completed_nests ps k
completed_nests (m.word cs m.a_mark ∷ ps) k = completed_nests ps k
completed_nests (m.digits n s ∷ ps) k = completed_nests ps k
completed_nests (m.chars m.as_name s p g ∷ ps) k = completed_nests ps k
completed_nests (m.chars m.as_value s p g ∷ ps) k = completed_nests ps k
