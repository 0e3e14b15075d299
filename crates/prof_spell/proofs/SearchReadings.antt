-- Each search is read to an end.
use Rattle.std.proofs.Common.{◌≡◌, ◌≢◌, ℕ, ◌+◌, ◌*◌, ◌<◌, Bool, true, false, List, [], ◌∷◌, refl, sym, subst, ap, ◌∙◌, arith, inl, inr, zero, suc}
use Rattle.std.specs.Prelude.{Some, ◌⊎◌, ◌==◌, ◌||◌, Ok, nat_le}
use Rattle.std.specs.Char.{is_ascii_alphanumeric}
use Rattle.std.specs.Int.{is_in_range}
use Rattle.std.proofs.lemmas.Bool.Decides.{nat_tests}
use Rattle.prof_spell.specs.Spelling.{first}
use Rattle.prof_spell.specs.Readings.{Reading, taken, stuck, Readable}
use Rattle.prof_spell.specs.declared.cursor.Stop.TheVariants.{Fault}
use Rattle.prof_spell.specs.declared.utf8.Due.{Due}
use Rattle.prof_spell.specs.declared.utf8.Due.TheVariants.{Character}
use Rattle.prof_spell.specs.Utf8.{opens, is_between}
use Rattle.prof_spell.specs.Chains.{chains}
use Rattle.prof_spell.specs.Escapes.{is_unreserved, is_escapable, percents, escapes, escape_chain, searches}
use Rattle.prof_spell.proofs.Bytes.{eqb_is, and_true}
use Rattle.prof_spell.proofs.EscapeLemmas.{glyph, glyph_injective, stuck_percent, stuck_high, stuck_low, percent_taken, escape_reads, escape_err, itself_taken}
use Rattle.prof_spell.proofs.SearchLemmas.{linked_escapes, searches_built}
use Rattle.prof_spell.proofs.Readings.{reading_built, reading_chain, item}

unlike : (b c : ℕ) → (b == c) ≡ false → b ≡ c → ⊥
unlike b c e f = let g : (c == c) ≡ false = subst (λ n. (n == c) ≡ false) f e in let h : (c == c) ≡ true = grind (arith, nat_tests) in cc

-- ---- a digit, or none

digit_below : (n c : ℕ) → ((d : ℕ) × (d < n) × (glyph d ≡ c)) ⊎ ((d : ℕ) → d < n → glyph d ≢ c)
digit_below zero c = inr (λ d l e. omega arith)
digit_below (suc n) c = at (glyph n == c) refl (digit_below n c)
  where
    wider : (x : (d : ℕ) × (d < n) × (glyph d ≡ c)) → (d : ℕ) × (d < suc n) × (glyph d ≡ c)
    wider x = let l = x.1 in (x.0, omega arith, x.2)

    last : (glyph n == c) ≡ false → ((d : ℕ) → d < n → glyph d ≢ c) → (d : ℕ) → d < suc n → glyph d ≢ c
    last f h d l e = which (d == n) refl
      where
        which : (t : Bool) → (d == n) ≡ t → ⊥
        which true g = unlike (glyph n) c f (ap glyph (sym (eqb_is d n g)) ∙ e)
        which false g = h d (grind (arith, nat_tests)) e

    at : (t : Bool) → (glyph n == c) ≡ t → ((d : ℕ) × (d < n) × (glyph d ≡ c)) ⊎ ((d : ℕ) → d < n → glyph d ≢ c) → ((d : ℕ) × (d < suc n) × (glyph d ≡ c)) ⊎ ((d : ℕ) → d < suc n → glyph d ≢ c)
    at true e r = inl (n, omega arith, eqb_is (glyph n) c e)
    at false e (inl x) = inl (wider x)
    at false e (inr h) = inr (last e h)

no_first : (c : ℕ) → first [] ≢ Some c
no_first c e = cc

only_first : (b c : ℕ) (s : List ℕ) → b ≢ c → first (b ∷ s) ≢ Some c
only_first b c s n e = let f : b ≡ c = cc in n f

low_digit : (due : Due) (bytes mid : List ℕ) (h : ℕ) (s : List ℕ) → bytes ≡ 37 ∷ mid → mid ≡ glyph h ∷ s → h < 16 → opens due h ≡ true → Reading (percents due) bytes
low_digit due bytes mid h [] e f small o = stuck [] (stuck_low due bytes mid [] h e f small o (λ l m k. no_first (glyph l)))
low_digit due bytes mid h (c ∷ s) e f small o = at (digit_below 16 c)
  where
    may : (l : ℕ) → l < 16 → glyph l ≡ c → (t : Bool) → is_escapable due (16 * h + l) ≡ t → Reading (percents due) bytes
    may l m g true k = taken (16 * h + l) s (percent_taken due bytes mid (c ∷ s) s h l e f (ap (λ b. b ∷ s) (sym g)) small m k)
    may l m g false k = stuck (c ∷ s) (stuck_low due bytes mid (c ∷ s) h e f small o (λ n i j look.
        let a : c ≡ glyph n = cc in
        let same : n ≡ l = glyph_injective n l i m (sym a ∙ sym g) in
        let b : is_escapable due (16 * h + l) ≡ true = subst (λ z. is_escapable due (16 * h + z) ≡ true) same j in
        cc))

    at : ((d : ℕ) × (d < 16) × (glyph d ≡ c)) ⊎ ((d : ℕ) → d < 16 → glyph d ≢ c) → Reading (percents due) bytes
    at (inl d) = may d.0 d.1 d.2 (is_escapable due (16 * h + d.0)) refl
    at (inr no-digit) = stuck (c ∷ s) (stuck_low due bytes mid (c ∷ s) h e f small o (λ l m k. only_first c (glyph l) s (λ g. no-digit l m (sym g))))

high_digit : (due : Due) (bytes mid : List ℕ) → bytes ≡ 37 ∷ mid → Reading (percents due) bytes
high_digit due bytes [] e = stuck [] (stuck_high due bytes [] e (λ h m k. no_first (glyph h)))
high_digit due bytes (c ∷ s) e = at (digit_below 16 c)
  where
    may : (h : ℕ) → h < 16 → glyph h ≡ c → (t : Bool) → opens due h ≡ t → Reading (percents due) bytes
    may h m g true k = low_digit due bytes (c ∷ s) h s e (ap (λ b. b ∷ s) (sym g)) m k
    may h m g false k = stuck (c ∷ s) (stuck_high due bytes (c ∷ s) e (λ n i j look.
        let a : c ≡ glyph n = cc in
        let same : n ≡ h = glyph_injective n h i m (sym a ∙ sym g) in
        let b : opens due h ≡ true = subst (λ z. opens due z ≡ true) same j in
        cc))

    at : ((d : ℕ) × (d < 16) × (glyph d ≡ c)) ⊎ ((d : ℕ) → d < 16 → glyph d ≢ c) → Reading (percents due) bytes
    at (inl d) = may d.0 d.1 d.2 (opens due d.0) refl
    at (inr no-digit) = stuck (c ∷ s) (stuck_high due bytes (c ∷ s) e (λ h m k. only_first c (glyph h) s (λ g. no-digit h m (sym g))))

reading_percent : (due : Due) → Readable (percents due)
reading_percent due [] = stuck [] (stuck_percent due [] (no_first 37))
reading_percent due (b ∷ s) = at (b == 37) refl
  where
    at : (t : Bool) → (b == 37) ≡ t → Reading (percents due) (b ∷ s)
    at true e = high_digit due (b ∷ s) s (ap (λ c. c ∷ s) (eqb_is b 37 e))
    at false e = stuck (b ∷ s) (stuck_percent due (b ∷ s) (only_first b 37 s (unlike b 37 e)))

-- ---- a byte of a search

or_cases : (a b : Bool) → (a || b) ≡ true → (a ≡ true) ⊎ (b ≡ true)
or_cases true b e = inl refl
or_cases false b e = inr e

range_small : (lo hi b : ℕ) → hi < 256 → is_in_range lo hi b ≡ true → b < 256
range_small lo hi b h e = let k = and_true (nat_le lo b) (nat_le b hi) e in let l = k.1 in grind (arith, nat_tests)

unreserved_small : (b : ℕ) → is_unreserved b ≡ true → b < 256
unreserved_small b e = one (or_cases ((is_ascii_alphanumeric b || b == 45) || b == 95) (b == 46) e)
  where
    four : ((is_in_range 48 57 b || is_in_range 65 90 b) ≡ true) ⊎ (is_in_range 97 122 b ≡ true) → b < 256
    four (inl h) = elim (or_cases (is_in_range 48 57 b) (is_in_range 65 90 b) h) [ inl k ↦ range_small 48 57 b (omega arith) k | inr k ↦ range_small 65 90 b (omega arith) k ]
    four (inr h) = range_small 97 122 b (omega arith) h

    three : (is_ascii_alphanumeric b ≡ true) ⊎ ((b == 45) ≡ true) → b < 256
    three (inl h) = four (or_cases (is_in_range 48 57 b || is_in_range 65 90 b) (is_in_range 97 122 b) h)
    three (inr h) = grind (arith, nat_tests)

    two : ((is_ascii_alphanumeric b || b == 45) ≡ true) ⊎ ((b == 95) ≡ true) → b < 256
    two (inl h) = three (or_cases (is_ascii_alphanumeric b) (b == 45) h)
    two (inr h) = grind (arith, nat_tests)

    one : (((is_ascii_alphanumeric b || b == 45) || b == 95) ≡ true) ⊎ ((b == 46) ≡ true) → b < 256
    one (inl h) = two (or_cases (is_ascii_alphanumeric b || b == 45) (b == 95) h)
    one (inr h) = grind (arith, nat_tests)

widened : (due : Due) (bytes : List ℕ) → ((b : ℕ) → first bytes ≡ Some b → is_unreserved b ≡ true → is_between due ≡ false) → Reading (percents due) bytes → Reading (escapes due) bytes
widened due bytes absent (taken b left t) = taken b left (escape_reads due bytes left (Ok b) absent t)
widened due bytes absent (stuck left s) = stuck left (escape_err due bytes left Fault absent s)

reading_escape : (due : Due) → Readable (escapes due)
reading_escape due [] = widened due [] (λ b e. absurd (no_first b e)) (reading_percent due [])
reading_escape due (b ∷ s) = at (is_unreserved b) (is_between due) refl refl
  where
    at : (t u : Bool) → is_unreserved b ≡ t → is_between due ≡ u → Reading (escapes due) (b ∷ s)
    at true true e f = taken b s (itself_taken due (b ∷ s) s b refl e f (unreserved_small b e))
    at true false e f = widened due (b ∷ s) (λ c g h. f) (reading_percent due (b ∷ s))
    at false u e f = widened due (b ∷ s) (λ c g h. let k : b ≡ c = cc in let l : is_unreserved c ≡ false = subst (λ n. is_unreserved n ≡ false) k e in absurd (let m = h in cc)) (reading_percent due (b ∷ s))

pub reading_search : Readable searches
reading_search = reading_built searches (chains escape_chain Character) (λ bytes. bytes) searches_built (λ y left f a. a)
    (reading_chain escape_chain Character linked_escapes (λ due mid. item (reading_escape due mid)))
