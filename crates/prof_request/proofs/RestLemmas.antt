-- Texts at the end of a line.
use Rattle.std.proofs.Common.{◌≡◌, ◌≢◌, ℕ, ◌<◌, Bool, true, false, List, [], ◌∷◌, ◌++◌, length, refl, sym, subst, ap, ◌∙◌, arith, inl, inr, append-nil}
use Rattle.std.specs.Prelude.{Some, None, ◌&&◌, ◌==◌, not, nat_lt, Result, Ok, Err}
use Rattle.std.proofs.lemmas.Bool.Decides.{nat_tests}
use Rattle.std.proofs.lemmas.Str.{IsUtf8-nil}
use Rattle.prof_spell.specs.Spelling.{first, Apart, IsStuck, IsTaken, Reads, Splits}
use Rattle.prof_spell.specs.declared.cursor.Stop.{Stop}
use Rattle.prof_spell.specs.declared.cursor.Stop.TheVariants.{Fault, NoMemory}
use Rattle.prof_spell.specs.Pieces.{EachFits}
use Rattle.prof_spell.specs.Readings.{Reading, taken, stuck, Readable}
use Rattle.prof_spell.specs.Utf8.{allows, behind_byte, is_between}
use Rattle.prof_spell.specs.declared.utf8.Due.{Due}
use Rattle.prof_spell.specs.declared.utf8.Due.TheVariants.{Character, OneMore, TwoMore, ThreeMore, BehindE0, BehindEd, BehindF0, BehindF4}
use Rattle.prof_spell.specs.Chains.{chain_text, MayCome, IsWhole, chains}
use Rattle.prof_spell.proofs.Bytes.{and_true, and_both, not_true, not_false, eqb_is}
use Rattle.prof_spell.proofs.Words.{apart_any}
use Rattle.prof_spell.proofs.Parts.{Built, stuck_built, taken_built, splits_built}
use Rattle.prof_spell.proofs.Chained.{Linked, Came, came_more, stuck_item, taken_chain, splits_chain}
use Rattle.prof_spell.proofs.Utf8Lemmas.{Runs, utf8_runs, runs_utf8}
use Rattle.prof_spell.proofs.Readings.{Next, item, reading_built, reading_chain}
use Rattle.prof_request.specs.Requests.{IsNoLineEnd, IsLineText, rest_text}
use Rattle.prof_request.specs.Reading.{may_stand, some_texts, text_chain, rests}
use Rattle.prof_request.proofs.ByteLemmas.{splits_bytes, byte_taken, no_byte, reading_bytes}

-- ---- texts as chains of bytes

-- bytes that bring a character to its end
ending : (due : Due) → (bytes : List ℕ) × IsWhole text_chain (true, due) bytes
ending Character = ([], record { each = tt; ends = refl })
ending OneMore = (0x80 ∷ [], record { each = (refl, tt); ends = refl })
ending TwoMore = (0x80 ∷ 0x80 ∷ [], record { each = (refl, (refl, tt)); ends = refl })
ending ThreeMore = (0x80 ∷ 0x80 ∷ 0x80 ∷ [], record { each = (refl, (refl, (refl, tt))); ends = refl })
ending BehindE0 = (0xA0 ∷ 0x80 ∷ [], record { each = (refl, (refl, tt)); ends = refl })
ending BehindEd = (0x80 ∷ 0x80 ∷ [], record { each = (refl, (refl, tt)); ends = refl })
ending BehindF0 = (0x90 ∷ 0x80 ∷ 0x80 ∷ [], record { each = (refl, (refl, (refl, tt))); ends = refl })
ending BehindF4 = (0x80 ∷ 0x80 ∷ 0x80 ∷ [], record { each = (refl, (refl, (refl, tt))); ends = refl })

-- a byte that may come
coming : (due : Due) → (b : ℕ) × (may_stand due b ≡ true)
coming Character = (97, refl)
coming OneMore = (0x80, refl)
coming TwoMore = (0x80, refl)
coming ThreeMore = (0x80, refl)
coming BehindE0 = (0xA0, refl)
coming BehindEd = (0x80, refl)
coming BehindF0 = (0x90, refl)
coming BehindF4 = (0x80, refl)

text_ends : (begun : Bool) (due : Due) → (bytes : List ℕ) × IsWhole text_chain (begun, due) bytes
text_ends true due = ending due
text_ends false due =
    let b = coming due in
    let more = ending (behind_byte due b.0) in
    (b.0 ∷ more.0, record { each = (b.1, more.1.each); ends = more.1.ends })

pub linked_texts : Linked text_chain
linked_texts = record {
  splits = λ s. splits_bytes (may_stand s.1);
  some = λ s b f. (b, [], refl, refl);
  apart = λ s a b f g. refl;
  follows = λ s a c m f g. apart_any (c ∷ m);
  on = λ s. text_ends s.0 s.1;
}

next_text : (s : Bool × Due) (mid : List ℕ) → Next text_chain s mid
next_text s mid = let b = coming s.1 in item (reading_bytes (may_stand s.1) b.0 b.1 mid)

all_text : (s : Bool × Due) (bytes : List ℕ) → bytes ≡ chain_text text_chain s bytes
all_text s [] = refl
all_text s (b ∷ bytes) = ap (λ t. b ∷ t) (all_text (true, behind_byte s.1 b) bytes)

unlike : (b c : ℕ) → (b == c) ≡ false → b ≢ c
unlike b c e f = let g : (c == c) ≡ false = subst (λ n. (n == c) ≡ false) f e in let h : (c == c) ≡ true = grind (arith, nat_tests) in cc

differs : (b c : ℕ) → b ≢ c → (b == c) ≡ false
differs b c n = grind (arith, nat_tests)

whole_runs : (s : Bool × Due) (bytes : List ℕ) → IsWhole text_chain s bytes → Runs s.1 bytes
whole_runs s [] w = (and_true s.0 (is_between s.1) w.ends).1
whole_runs s (b ∷ bytes) w =
    ((and_true (allows s.1 b) (not (b == 10)) w.each.0).0, whole_runs (true, behind_byte s.1 b) bytes (record { each = w.each.1; ends = w.ends }))

whole_within : (s : Bool × Due) (bytes : List ℕ) → MayCome text_chain s bytes → EachFits IsNoLineEnd bytes
whole_within s [] h = tt
whole_within s (b ∷ bytes) h =
    (unlike b 10 (not_true (b == 10) (and_true (allows s.1 b) (not (b == 10)) h.0).1), whole_within (true, behind_byte s.1 b) bytes h.1)

runs_whole : (due : Due) (bytes : List ℕ) → Runs due bytes → EachFits IsNoLineEnd bytes → IsWhole text_chain (true, due) bytes
runs_whole due [] h f = record { each = tt; ends = h }
runs_whole due (b ∷ bytes) h f =
    let more = runs_whole (behind_byte due b) bytes h.1 f.1 in
    record { each = (and_both (allows due b) (not (b == 10)) h.0 (not_false (b == 10) (differs b 10 f.0)), more.each); ends = more.ends }

some_whole : (bytes : List ℕ) → IsLineText bytes → bytes ≢ [] → IsWhole text_chain (false, Character) bytes
some_whole [] f some = absurd (some refl)
some_whole (b ∷ bytes) f some =
    let w = runs_whole Character (b ∷ bytes) (utf8_runs (b ∷ bytes) f.utf8) f.within in
    record { each = w.each; ends = w.ends }

whole_some : (bytes : List ℕ) → IsWhole text_chain (false, Character) bytes → bytes ≢ []
whole_some [] w = λ e. let f : false ≡ true = w.ends in cc
whole_some (b ∷ bytes) w = λ e. cc

pub texts_built : Built some_texts (chains text_chain (false, Character)) (λ bytes. bytes)
texts_built = record {
  into = λ bytes w. (
    (
      record { utf8 = runs_utf8 bytes (whole_runs (false, Character) bytes w); within = whole_within (false, Character) bytes w.each },
      whole_some bytes w,
    ),
    all_text (false, Character) bytes,
  );
  from = λ bytes f. (bytes, refl, some_whole bytes f.0 f.1, λ m a. a);
}

pub splits_texts : Splits some_texts
splits_texts = splits_built some_texts (chains text_chain (false, Character)) (λ bytes. bytes) texts_built (splits_chain text_chain (false, Character) linked_texts)

reading_text : Readable some_texts
reading_text = reading_built some_texts (chains text_chain (false, Character)) (λ bytes. bytes) texts_built (λ bytes left f a. a)
    (reading_chain text_chain (false, Character) linked_texts next_text)

-- ---- the loop

-- these bytes of a text were read, and this may come next
abbrev pub TextSoFar : List ℕ → List ℕ → Due → List ℕ → Type 0
TextSoFar bytes done due mid = Came text_chain (false, Character) bytes done (nat_lt 0 (length done), due) mid

some_more : (done : List ℕ) (b : ℕ) → nat_lt 0 (length (done ++ b ∷ [])) ≡ true
some_more [] b = refl
some_more (c ∷ done) b = grind (arith, nat_tests)

pub text_more : (bytes mid left done : List ℕ) (due : Due) (b : ℕ) → TextSoFar bytes done due mid → mid ≡ b ∷ left → may_stand due b ≡ true → TextSoFar bytes (done ++ b ∷ []) (behind_byte due b) left
text_more bytes mid left done due b came e p =
    subst (λ (t : Bool). Came text_chain (false, Character) bytes (done ++ b ∷ []) (t, behind_byte due b) left) (sym (some_more done b))
    (came_more text_chain (false, Character) bytes done (nat_lt 0 (length done), due) mid left b came (byte_taken (may_stand due) mid left b e p))

alone : (passes : ℕ → Bool) (b : ℕ) (s : List ℕ) → first s ≡ Some b → passes b ≡ false → Apart passes s
alone passes b [] look p = tt
alone passes b (c ∷ s) look p = let e : c ≡ b = cc in rw e p

-- a byte that can't come
pub text_stuck : (bytes mid done : List ℕ) (due : Due) (b : ℕ) → TextSoFar bytes done due mid → first mid ≡ Some b → may_stand due b ≡ false → IsStuck some_texts bytes mid
text_stuck bytes mid done due b came look p =
    let c = coming due in
    stuck_built some_texts (chains text_chain (false, Character)) (λ s. s) bytes mid texts_built
    (stuck_item text_chain (false, Character) (nat_lt 0 (length done), due) bytes mid mid done linked_texts came (no_byte (may_stand due) mid c.0 c.1 (alone (may_stand due) b mid look p)) (inr (b, look, refl)))

none_left : (passes : ℕ → Bool) (s : List ℕ) → first s ≡ None → Apart passes s
none_left passes [] e = tt
none_left passes (b ∷ s) e = absurd cc

-- an end where the text can't end
pub text_cut : (bytes mid done : List ℕ) (due : Due) → TextSoFar bytes done due mid → first mid ≡ None → (nat_lt 0 (length done) && is_between due) ≡ false → IsStuck some_texts bytes mid
text_cut bytes mid done due came look no_end =
    let c = coming due in
    stuck_built some_texts (chains text_chain (false, Character)) (λ s. s) bytes mid texts_built
    (stuck_item text_chain (false, Character) (nat_lt 0 (length done), due) bytes mid mid done linked_texts came (no_byte (may_stand due) mid c.0 c.1 (none_left (may_stand due) mid look)) (inl no_end))

pub text_end : (bytes mid done : List ℕ) (due : Due) → TextSoFar bytes done due mid → first mid ≡ None → (nat_lt 0 (length done) && is_between due) ≡ true → IsTaken some_texts bytes done mid
text_end bytes mid done due came look end = taken_built some_texts (chains text_chain (false, Character)) (λ s. s) bytes mid done texts_built (λ a. a)
    (taken_chain text_chain (false, Character) (nat_lt 0 (length done), due) bytes mid done came end (none_left (λ b. true) mid look))

pub none_yet : (n : ℕ) (b : Bool) → n ≡ 0 → (nat_lt 0 n && b) ≡ false
none_yet n b e = rw e refl

pub not_between : (n : ℕ) (b : Bool) → b ≡ false → (nat_lt 0 n && b) ≡ false
not_between n b e = at (nat_lt 0 n)
  where
    at : (t : Bool) → (t && b) ≡ false
    at true = e
    at false = refl

pub may_end : (n : ℕ) (b : Bool) → 0 < n → b ≡ true → (nat_lt 0 n && b) ≡ true
may_end n b l e = and_both (nat_lt 0 n) b (grind (arith, nat_tests)) e

-- ---- the rest of a line

pub line_none : IsLineText []
line_none = record { utf8 = IsUtf8-nil; within = tt }

text_mark : (s : List ℕ) → s ≢ [] → rest_text s ≡ 32 ∷ s
text_mark [] some = absurd (some refl)
text_mark (b ∷ s) some = refl

no_mark : (s : List ℕ) → Apart (λ b. true) s → s ≡ []
no_mark [] a = refl
no_mark (b ∷ s) a = absurd cc

pub rest_none : (bytes : List ℕ) → length bytes ≡ 0 → IsTaken rests bytes [] bytes
rest_none [] e = record { fits = line_none; split = refl; apart = tt }
rest_none (b ∷ bytes) e = absurd (omega arith)

-- neither the end nor a space
pub rest_stuck : (bytes : List ℕ) → first bytes ≢ Some 32 → 0 < length bytes → IsStuck rests bytes bytes
rest_stuck [] other l = absurd (omega arith)
rest_stuck (c ∷ bytes) other l = record {
  front = [];
  split = refl;
  begins = ([], line_none, ([], refl));
  none = refuted;
}
  where
    refuted : (v : List ℕ) (behind seen : List ℕ) → IsLineText v → Apart (λ b. true) behind → first seen ≡ first (c ∷ bytes) → rest_text v ++ behind ≡ seen → ⊥
    refuted [] behind seen f a look e = let g : first behind ≡ Some c = ap first e ∙ look in let h : first [] ≡ Some c = subst (λ (s : List ℕ). first s ≡ Some c) (no_mark behind a) g in cc
    refuted (b ∷ v) behind seen f a look e = other (sym look ∙ ap first (sym e))

pub rest_taken : (bytes mid left s : List ℕ) → bytes ≡ 32 ∷ mid → IsTaken some_texts mid s left → IsTaken rests bytes s left
rest_taken bytes mid left s e t = record {
  fits = t.fits.0;
  split = e ∙ ap (λ q. 32 ∷ q) t.split ∙ ap (λ q. q ++ left) (sym (text_mark s t.fits.1));
  apart = t.apart;
}

-- a space, and no text behind it
pub rest_behind : (bytes mid left : List ℕ) → bytes ≡ 32 ∷ mid → IsStuck some_texts mid left → IsStuck rests bytes left
rest_behind bytes mid left e s = record {
  front = 32 ∷ s.front;
  split = e ∙ ap (λ q. 32 ∷ q) s.split;
  begins = (s.begins.0, s.begins.1.0, (s.begins.2.0, text_mark s.begins.0 s.begins.1.1 ∙ ap (λ q. 32 ∷ q) s.begins.2.1));
  none = refuted;
}
  where
    refuted : (v : List ℕ) (behind seen : List ℕ) → IsLineText v → Apart (λ b. true) behind → first seen ≡ first left → rest_text v ++ behind ≡ (32 ∷ s.front) ++ seen → ⊥
    refuted [] behind seen f a look q = let g : [] ≡ 32 ∷ (s.front ++ seen) = subst (λ (t : List ℕ). t ≡ 32 ∷ (s.front ++ seen)) (no_mark behind a) q in cc
    refuted (b ∷ v) behind seen f a look q =
        let g : (b ∷ v) ++ behind ≡ s.front ++ seen = cc in
        s.none (b ∷ v) behind seen (f, λ h. cc) a look g

pub rest_reads : (bytes mid left : List ℕ) (r : Result (List ℕ) Stop) → bytes ≡ 32 ∷ mid → Reads some_texts mid r left → Reads rests bytes r left
rest_reads bytes mid left (Ok s) e t = rest_taken bytes mid left s e t
rest_reads bytes mid left (Err Fault) e s = rest_behind bytes mid left e s
rest_reads bytes mid left (Err NoMemory) e s = tt

pub splits_rests : Splits rests
splits_rests = record { same = same }
  where
    same : (v w : List ℕ) (m n : List ℕ) → IsLineText v → IsLineText w → Apart (λ b. true) m → Apart (λ b. true) n → rest_text v ++ m ≡ rest_text w ++ n → v ≡ w
    same [] [] m n fv fw am an e = refl
    same [] (c ∷ w) m n fv fw am an e = let g : [] ≡ rest_text (c ∷ w) ++ n = sym (no_mark m am) ∙ e in cc
    same (b ∷ v) [] m n fv fw am an e = let g : [] ≡ rest_text (b ∷ v) ++ m = sym (no_mark n an) ∙ sym e in cc
    same (b ∷ v) (c ∷ w) m n fv fw am an e =
        let f : rest_text (b ∷ v) ≡ rest_text (c ∷ w) =
        sym (append-nil (rest_text (b ∷ v))) ∙ ap (λ t. rest_text (b ∷ v) ++ t) (sym (no_mark m am)) ∙ e ∙ ap (λ t. rest_text (c ∷ w) ++ t) (no_mark n an) ∙ append-nil (rest_text (c ∷ w)) in
        cc

pub reading_rest : Readable rests
reading_rest [] = taken [] [] (rest_none [] refl)
reading_rest (b ∷ bytes) = at (b == 32) refl
  where
    behind : b ≡ 32 → Reading some_texts bytes → Reading rests (b ∷ bytes)
    behind e (taken s left t) = taken s left (rest_taken (b ∷ bytes) bytes left s (ap (λ c. c ∷ bytes) e) t)
    behind e (stuck left s) = stuck left (rest_behind (b ∷ bytes) bytes left (ap (λ c. c ∷ bytes) e) s)

    at : (t : Bool) → (b == 32) ≡ t → Reading rests (b ∷ bytes)
    at true e = behind (eqb_is b 32 e) (reading_text bytes)
    at false e = stuck (b ∷ bytes) (rest_stuck (b ∷ bytes) (λ f. let g : b ≡ 32 = cc in unlike b 32 e g) (omega arith))
