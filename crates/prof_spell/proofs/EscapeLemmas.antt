-- Bytes that are escaped.
use Rattle.std.proofs.Common.{◌≡◌, ℕ, ◌+◌, ◌-◌, ◌*◌, ◌/◌, ◌%◌, ◌<◌, Bool, true, false, List, [], ◌∷◌, ◌++◌, refl, sym, subst, ap, ◌∙◌, arith}
use Rattle.std.specs.Prelude.{Some, ◌≢◌, ◌==◌, ◌&&◌, ◌||◌, not, nat_lt, if◌then◌else◌, Result, Ok, Err}
use Rattle.std.specs.Fmt.{digit_glyph}
use Rattle.std.proofs.lemmas.Bool.Decides.{nat_tests}
use Rattle.percent_encoding.specs.Percent.{percent_encode_byte}
use Rattle.prof_spell.specs.Spelling.{first, Apart, IsStuck, IsTaken, Reads, Splits}
use Rattle.prof_spell.specs.declared.cursor.Stop.{Stop}
use Rattle.prof_spell.specs.declared.cursor.Stop.TheVariants.{Fault, NoMemory}
use Rattle.prof_spell.specs.declared.utf8.Due.{Due}
use Rattle.prof_spell.specs.declared.utf8.Due.TheVariants.{Character, OneMore, TwoMore, ThreeMore, BehindE0, BehindEd, BehindF0, BehindF4}
use Rattle.prof_spell.specs.Utf8.{allows, opens, is_between}
use Rattle.prof_spell.specs.Escapes.{is_unreserved, byte_text, is_escapable, percents, escapes}
use Rattle.prof_spell.proofs.Bytes.{holds_below, each_below, and_true, and_both, other_holds, not_true, not_false, eqb_is}

abbrev pub glyph : ℕ → ℕ
glyph d = digit_glyph true d

-- ---- the digits

digit_of : ℕ → ℕ
digit_of c = if nat_lt c 58 then c - 48 else c - 55

pub glyph_injective : (d e : ℕ) → d < 16 → e < 16 → glyph d ≡ glyph e → d ≡ e
unfolding digit_of
glyph_injective d e h k q =
    let f : (digit_of (glyph d) == d) ≡ true = each_below 16 (λ n. digit_of (glyph n) == n) refl d h in
    let g : (digit_of (glyph e) == e) ≡ true = each_below 16 (λ n. digit_of (glyph n) == n) refl e k in
    sym (eqb_is (digit_of (glyph d)) d f) ∙ ap digit_of q ∙ eqb_is (digit_of (glyph e)) e g

pub percent_text : (b : ℕ) → b < 256 → percent_encode_byte b ≡ 37 ∷ glyph (b / 16) ∷ glyph (b % 16) ∷ []
unfolding percent_encode_byte
percent_text b h = let e : b / 16 % 16 ≡ b / 16 = omega arith in ap (λ n. 37 ∷ glyph n ∷ glyph (b % 16) ∷ []) e

pub percent_digits : (h l : ℕ) → h < 16 → l < 16 → percent_encode_byte (16 * h + l) ≡ 37 ∷ glyph h ∷ glyph l ∷ []
percent_digits h l m n =
    let d : (16 * h + l) / 16 ≡ h = omega arith in
    let r : (16 * h + l) % 16 ≡ l = omega arith in
    percent_text (16 * h + l) (omega arith) ∙ ap (λ n. 37 ∷ glyph n ∷ glyph ((16 * h + l) % 16) ∷ []) d ∙ ap (λ n. 37 ∷ glyph h ∷ glyph n ∷ []) r

-- ---- what may come

pub allowed_small : (due : Due) (b : ℕ) → allows due b ≡ true → b < 256
allowed_small Character b h = grind (arith, nat_tests)
allowed_small OneMore b h = grind (arith, nat_tests)
allowed_small TwoMore b h = grind (arith, nat_tests)
allowed_small ThreeMore b h = grind (arith, nat_tests)
allowed_small BehindE0 b h = grind (arith, nat_tests)
allowed_small BehindEd b h = grind (arith, nat_tests)
allowed_small BehindF0 b h = grind (arith, nat_tests)
allowed_small BehindF4 b h = grind (arith, nat_tests)

-- of each byte, in each state
by_due : (p : Due → ℕ → Bool) (n : ℕ) → holds_below n (p Character) ≡ true → holds_below n (p OneMore) ≡ true → holds_below n (p TwoMore) ≡ true → holds_below n (p ThreeMore) ≡ true
    → holds_below n (p BehindE0) ≡ true → holds_below n (p BehindEd) ≡ true → holds_below n (p BehindF0) ≡ true → holds_below n (p BehindF4) ≡ true
    → (due : Due) (b : ℕ) → b < n → p due b ≡ true
by_due p n h1 h2 h3 h4 h5 h6 h7 h8 Character b l = each_below n (p Character) h1 b l
by_due p n h1 h2 h3 h4 h5 h6 h7 h8 OneMore b l = each_below n (p OneMore) h2 b l
by_due p n h1 h2 h3 h4 h5 h6 h7 h8 TwoMore b l = each_below n (p TwoMore) h3 b l
by_due p n h1 h2 h3 h4 h5 h6 h7 h8 ThreeMore b l = each_below n (p ThreeMore) h4 b l
by_due p n h1 h2 h3 h4 h5 h6 h7 h8 BehindE0 b l = each_below n (p BehindE0) h5 b l
by_due p n h1 h2 h3 h4 h5 h6 h7 h8 BehindEd b l = each_below n (p BehindEd) h6 b l
by_due p n h1 h2 h3 h4 h5 h6 h7 h8 BehindF0 b l = each_below n (p BehindF0) h7 b l
by_due p n h1 h2 h3 h4 h5 h6 h7 h8 BehindF4 b l = each_below n (p BehindF4) h8 b l

-- a byte that stands for itself comes only between characters
pub unreserved_between : (due : Due) (b : ℕ) → allows due b ≡ true → is_unreserved b ≡ true → is_between due ≡ true
unreserved_between due b a u =
    other_holds (allows due b && is_unreserved b) (is_between due)
    (by_due (λ d c. not (allows d c && is_unreserved c) || is_between d) 256 refl refl refl refl refl refl refl refl due b (allowed_small due b a))
    (and_both (allows due b) (is_unreserved b) a u)

pub between_allows : (due : Due) (b : ℕ) → is_between due ≡ true → b < 256 → is_unreserved b ≡ true → allows due b ≡ true
between_allows due b i small u =
    other_holds (is_between due && is_unreserved b) (allows due b)
    (by_due (λ d c. not (is_between d && is_unreserved c) || allows d c) 256 refl refl refl refl refl refl refl refl due b small)
    (and_both (is_between due) (is_unreserved b) i u)

opened : (due : Due) (b : ℕ) → is_escapable due b ≡ true → opens due (b / 16) ≡ true
opened due b e =
    other_holds (is_escapable due b) (opens due (b / 16))
    (by_due (λ d c. not (is_escapable d c) || opens d (c / 16)) 256 refl refl refl refl refl refl refl refl due b (allowed_small due b (and_true (allows due b) (not (is_unreserved b)) e).0))
    e

-- a byte with this upper half that may come escaped
some_byte : Due → ℕ → ℕ
some_byte Character h = if nat_lt h 8 then 16 * h + (if h == 3 then 10 else (if h == 5 then 11 else (if h == 7 then 11 else 0))) else (if h == 12 then 0xC2 else 16 * h)
some_byte due h = 16 * h

with_half : (due : Due) (h : ℕ) → h < 16 → opens due h ≡ true → (is_escapable due (some_byte due h) && (some_byte due h / 16 == h)) ≡ true
unfolding some_byte
with_half due h small o =
    other_holds (opens due h) (is_escapable due (some_byte due h) && (some_byte due h / 16 == h))
    (by_due (λ d n. not (opens d n) || (is_escapable d (some_byte d n) && (some_byte d n / 16 == n))) 16 refl refl refl refl refl refl refl refl due h small)
    o

pub byte_with_half : (due : Due) (h : ℕ) → h < 16 → opens due h ≡ true → (b : ℕ) × (is_escapable due b ≡ true) × (b < 256) × (b / 16 ≡ h)
byte_with_half due h small o =
    let k = and_true (is_escapable due (some_byte due h)) (some_byte due h / 16 == h) (with_half due h small o) in
    (some_byte due h, k.0, allowed_small due (some_byte due h) (and_true (allows due (some_byte due h)) (not (is_unreserved (some_byte due h))) k.0).0, eqb_is (some_byte due h / 16) h k.1)

some_half : Due → ℕ
some_half Character = 0
some_half BehindE0 = 10
some_half BehindF0 = 9
some_half due = 8

pub some_escape : (due : Due) → (b : ℕ) × (is_escapable due b ≡ true) × (b < 256)
unfolding some_half
some_escape due = let k = byte_with_half due (some_half due) (small due) (open_half due) in (k.0, k.1, k.2)
  where
    small : (d : Due) → some_half d < 16
    small Character = omega arith
    small OneMore = omega arith
    small TwoMore = omega arith
    small ThreeMore = omega arith
    small BehindE0 = omega arith
    small BehindEd = omega arith
    small BehindF0 = omega arith
    small BehindF4 = omega arith

    open_half : (d : Due) → opens d (some_half d) ≡ true
    open_half Character = refl
    open_half OneMore = refl
    open_half TwoMore = refl
    open_half ThreeMore = refl
    open_half BehindE0 = refl
    open_half BehindEd = refl
    open_half BehindF0 = refl
    open_half BehindF4 = refl

-- ---- where an escape is stuck

escapable_small : (due : Due) (b : ℕ) → is_escapable due b ≡ true → b < 256
escapable_small due b e = allowed_small due b (and_true (allows due b) (not (is_unreserved b)) e).0

pub stuck_percent : (due : Due) (bytes : List ℕ) → first bytes ≢ Some 37 → IsStuck (percents due) bytes bytes
stuck_percent due bytes other =
    let some = some_escape due in
    record {
      front = [];
      split = refl;
      begins = (some.0, some.1, (percent_encode_byte some.0, refl));
      none = λ v behind seen fv av look e.
          let f : first seen ≡ Some 37 = ap first (sym e) ∙ ap (λ t. first (t ++ behind)) (percent_text v (escapable_small due v fv)) in
          other (sym look ∙ f);
    }

pub stuck_high : (due : Due) (bytes mid : List ℕ) → bytes ≡ 37 ∷ mid → ((h : ℕ) → h < 16 → opens due h ≡ true → first mid ≢ Some (glyph h)) → IsStuck (percents due) bytes mid
stuck_high due bytes mid split other =
    let some = some_escape due in
    record {
      front = 37 ∷ [];
      split = split;
      begins = (some.0, some.1, (glyph (some.0 / 16) ∷ glyph (some.0 % 16) ∷ [], percent_text some.0 some.2));
      none = λ v behind seen fv av look e.
          let small : v < 256 = escapable_small due v fv in
          let k : 37 ∷ glyph (v / 16) ∷ glyph (v % 16) ∷ behind ≡ 37 ∷ seen = ap (λ t. t ++ behind) (sym (percent_text v small)) ∙ e in
          let g : glyph (v / 16) ∷ glyph (v % 16) ∷ behind ≡ seen = cc in
          other (v / 16) (omega arith) (opened due v fv) (sym look ∙ ap first (sym g));
    }

pub stuck_low : (due : Due) (bytes mid left : List ℕ) (h : ℕ) → bytes ≡ 37 ∷ mid → mid ≡ glyph h ∷ left → h < 16 → opens due h ≡ true
    → ((l : ℕ) → l < 16 → is_escapable due (16 * h + l) ≡ true → first left ≢ Some (glyph l)) → IsStuck (percents due) bytes left
stuck_low due bytes mid left h split next small open-h other =
    let some = byte_with_half due h small open-h in
    record {
      front = 37 ∷ glyph h ∷ [];
      split = split ∙ ap (λ t. 37 ∷ t) next;
      begins = (some.0, some.1, (glyph (some.0 % 16) ∷ [], percent_text some.0 some.2 ∙ ap (λ n. 37 ∷ glyph n ∷ glyph (some.0 % 16) ∷ []) some.3));
      none = λ v behind seen fv av look e.
          let vs : v < 256 = escapable_small due v fv in
          let k : 37 ∷ glyph (v / 16) ∷ glyph (v % 16) ∷ behind ≡ 37 ∷ glyph h ∷ seen = ap (λ t. t ++ behind) (sym (percent_text v vs)) ∙ e in
          let half : glyph (v / 16) ≡ glyph h = cc in
          let g : glyph (v % 16) ∷ behind ≡ seen = cc in
          let same : v / 16 ≡ h = glyph_injective (v / 16) h (omega arith) small half in
          let whole : v ≡ 16 * h + v % 16 = omega arith in
          other (v % 16) (omega arith) (subst (λ n. is_escapable due n ≡ true) whole fv) (sym look ∙ ap first (sym g));
    }

-- a digit came, and none other
pub other_digit : (s : List ℕ) (d e : ℕ) → d < 16 → e < 16 → first s ≡ Some (glyph d) → first s ≡ Some (glyph e) → d ≡ e
other_digit s d e h k f g = let q : glyph d ≡ glyph e = cc in glyph_injective d e h k q

-- ---- a byte of a search

text_unreserved : (b : ℕ) → is_unreserved b ≡ true → byte_text b ≡ b ∷ []
text_unreserved b h = rw h refl

pub text_escaped : (b : ℕ) → is_unreserved b ≡ false → byte_text b ≡ percent_encode_byte b
text_escaped b h = rw h refl

pub text_itself : (b : ℕ) → is_unreserved b ≡ true → byte_text b ≡ b ∷ []
text_itself b h = text_unreserved b h

pub escape_err : (due : Due) (bytes left : List ℕ) (stop : Stop) → ((b : ℕ) → first bytes ≡ Some b → is_unreserved b ≡ true → is_between due ≡ false)
    → Reads (percents due) bytes (Err stop) left → Reads (escapes due) bytes (Err stop) left
escape_err due bytes left NoMemory absent s = tt
escape_err due bytes left Fault absent s = record {
  front = s.front;
  split = s.split;
  begins =
      let k = and_true (allows due s.begins.0) (not (is_unreserved s.begins.0)) s.begins.1 in
      (s.begins.0, k.0, (s.begins.2.0, text_escaped s.begins.0 (not_true (is_unreserved s.begins.0) k.1) ∙ s.begins.2.1));
  none = λ v behind seen fv av look e. at v behind seen fv look e (is_unreserved v) refl;
}
  where
    first_front : (f s t : List ℕ) (v : ℕ) → first s ≡ first t → v ∷ [] ≡ v ∷ [] → first (f ++ s) ≡ Some v → first (f ++ t) ≡ Some v
    first_front [] s t v look u e = sym look ∙ e
    first_front (b ∷ f) s t v look u e = e

    at : (v : ℕ) (behind seen : List ℕ) → allows due v ≡ true → first seen ≡ first left → byte_text v ++ behind ≡ s.front ++ seen → (u : Bool) → is_unreserved v ≡ u → ⊥
    at v behind seen fv look e true u =
        let f : first (s.front ++ seen) ≡ Some v = ap first (sym e) ∙ ap (λ t. first (t ++ behind)) (text_unreserved v u) in
        let g : first bytes ≡ Some v = ap first s.split ∙ first_front s.front seen left v look refl f in
        let h : is_between due ≡ false = absent v g u in
        let k : is_between due ≡ true = unreserved_between due v fv u in
        cc
    at v behind seen fv look e false u =
        s.none v behind seen (and_both (allows due v) (not (is_unreserved v)) fv (not_false (is_unreserved v) u)) (apart behind) look (ap (λ t. t ++ behind) (sym (text_escaped v u)) ∙ e)
      where
        apart : (t : List ℕ) → Apart (λ c. false) t
        apart [] = tt
        apart (c ∷ t) = refl

-- ---- one byte a text

no_percent : (b : ℕ) → b < 256 → is_unreserved b ≡ true → b ≡ 37 → ⊥
no_percent b small u e = let f : is_unreserved 37 ≡ true = subst (λ n. is_unreserved n ≡ true) e u in cc

pub splits_escapes : (due : Due) → Splits (escapes due)
splits_escapes due = record { same = λ v w m n fv fw am an e. at v w m n (allowed_small due v fv) (allowed_small due w fw) e (is_unreserved v) (is_unreserved w) refl refl }
  where
    at : (v w : ℕ) (m n : List ℕ) → v < 256 → w < 256 → byte_text v ++ m ≡ byte_text w ++ n → (t u : Bool) → is_unreserved v ≡ t → is_unreserved w ≡ u → v ≡ w
    at v w m n sv sw e true true hv hw =
        let k : v ∷ m ≡ w ∷ n = ap (λ t. t ++ m) (sym (text_unreserved v hv)) ∙ e ∙ ap (λ t. t ++ n) (text_unreserved w hw) in
        cc
    at v w m n sv sw e true false hv hw =
        let k : v ∷ m ≡ 37 ∷ glyph (w / 16) ∷ glyph (w % 16) ∷ n = ap (λ t. t ++ m) (sym (text_unreserved v hv)) ∙ e ∙ ap (λ t. t ++ n) (text_escaped w hw ∙ percent_text w sw) in
        let f : v ≡ 37 = cc in
        absurd (no_percent v sv hv f)
    at v w m n sv sw e false true hv hw =
        let k : w ∷ n ≡ 37 ∷ glyph (v / 16) ∷ glyph (v % 16) ∷ m = ap (λ t. t ++ n) (sym (text_unreserved w hw)) ∙ sym e ∙ ap (λ t. t ++ m) (text_escaped v hv ∙ percent_text v sv) in
        let f : w ≡ 37 = cc in
        absurd (no_percent w sw hw f)
    at v w m n sv sw e false false hv hw =
        let k : 37 ∷ glyph (v / 16) ∷ glyph (v % 16) ∷ m ≡ 37 ∷ glyph (w / 16) ∷ glyph (w % 16) ∷ n =
        ap (λ t. t ++ m) (sym (text_escaped v hv ∙ percent_text v sv)) ∙ e ∙ ap (λ t. t ++ n) (text_escaped w hw ∙ percent_text w sw) in
        let a : glyph (v / 16) ≡ glyph (w / 16) = cc in
        let b : glyph (v % 16) ≡ glyph (w % 16) = cc in
        let c = glyph_injective (v / 16) (w / 16) (omega arith) (omega arith) a in
        let d = glyph_injective (v % 16) (w % 16) (omega arith) (omega arith) b in
        omega arith

-- no byte comes that stands for itself: so a byte of a search is an escaped one
pub escape_reads : (due : Due) (bytes left : List ℕ) (r : Result ℕ Stop) → ((b : ℕ) → first bytes ≡ Some b → is_unreserved b ≡ true → is_between due ≡ false)
    → Reads (percents due) bytes r left → Reads (escapes due) bytes r left
escape_reads due bytes left (Err stop) absent s = escape_err due bytes left stop absent s
escape_reads due bytes left (Ok b) absent t =
    let k = and_true (allows due b) (not (is_unreserved b)) t.fits in
    record { fits = k.0; split = t.split ∙ ap (λ s. s ++ left) (sym (text_escaped b (not_true (is_unreserved b) k.1))); apart = t.apart }

pub percent_taken : (due : Due) (bytes mid low left : List ℕ) (h l : ℕ) → bytes ≡ 37 ∷ mid → mid ≡ glyph h ∷ low → low ≡ glyph l ∷ left → h < 16 → l < 16 → is_escapable due (16 * h + l) ≡ true → IsTaken (percents due) bytes (16 * h + l) left
percent_taken due bytes mid low left h l a b c sh sl e = record {
  fits = e;
  split = a ∙ ap (λ t. 37 ∷ t) b ∙ ap (λ t. 37 ∷ glyph h ∷ t) c ∙ ap (λ t. t ++ left) (sym (percent_digits h l sh sl));
  apart = any left;
}
  where
    any : (s : List ℕ) → Apart (λ b. false) s
    any [] = tt
    any (b ∷ s) = refl

pub itself_taken : (due : Due) (bytes left : List ℕ) (b : ℕ) → bytes ≡ b ∷ left → is_unreserved b ≡ true → is_between due ≡ true → b < 256 → IsTaken (escapes due) bytes b left
itself_taken due bytes left b e u i small = record {
  fits = between_allows due b i small u;
  split = e ∙ ap (λ t. t ++ left) (sym (text_unreserved b u));
  apart = any left;
}
  where
    any : (s : List ℕ) → Apart (λ b. false) s
    any [] = tt
    any (b ∷ s) = refl
