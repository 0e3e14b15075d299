-- Digests in lower-case hexadecimal.
use Rattle.std.proofs.Common.{◌≡◌, ◌≢◌, ℕ, ◌+◌, ◌-◌, ◌*◌, ◌/◌, ◌%◌, ◌<◌, ◌≤◌, Bool, true, false, List, [], ◌∷◌, ◌++◌, length, take, zero, suc, refl, sym, subst, ap, ◌∙◌, arith, inl, inr}
use Rattle.std.specs.Prelude.{Some, ◌⊎◌, ◌==◌, nat_lt, nat_le, if◌then◌else◌, slice_index, slice_set, Err}
use Rattle.std.proofs.lemmas.Bool.Decides.{nat_tests}
use Rattle.std.specs.Fmt.{digit_glyph}
use Rattle.hex.specs.Hex.{lower_digits, encode_lower, encode_with}
use Rattle.prof_spell.specs.Spelling.{first, Apart, IsStuck, IsTaken, Reads, Splits}
use Rattle.prof_spell.specs.Readings.{Reading, taken, stuck, Readable}
use Rattle.prof_spell.specs.declared.cursor.Stop.{Stop}
use Rattle.prof_spell.specs.Pieces.{EachFits}
use Rattle.prof_spell.specs.Chains.{chain_text, after, MayCome, IsWhole, chains}
use Rattle.prof_spell.proofs.Words.{apart_any}
use Rattle.prof_spell.proofs.Bytes.{each_below, eqb_is}
use Rattle.prof_spell.proofs.Parts.{Built, err_built, taken_built}
use Rattle.prof_spell.proofs.Chained.{Linked, Came, splits_chain, came_more, err_item, taken_chain}
use Rattle.std.proofs.lemmas.List.{take_more_set, take_all, length-set}
use Rattle.prof_spell.proofs.Readings.{reading_built, reading_chain, Next, item, none}
use Rattle.prof_keep.specs.Saved.{IsByte}
use Rattle.prof_keep.specs.Reading.{byte_text, hex_bytes, digest_chain}

abbrev pub glyph : ℕ → ℕ
glyph d = digit_glyph false d

digit_of : ℕ → ℕ
digit_of c = if nat_lt c 58 then c - 48 else c - 87

pub glyph_injective : (d e : ℕ) → d < 16 → e < 16 → glyph d ≡ glyph e → d ≡ e
unfolding digit_of
glyph_injective d e h k q =
    let f : (digit_of (glyph d) == d) ≡ true = each_below 16 (λ n. digit_of (glyph n) == n) refl d h in
    let g : (digit_of (glyph e) == e) ≡ true = each_below 16 (λ n. digit_of (glyph n) == n) refl e k in
    sym (eqb_is (digit_of (glyph d)) d f) ∙ ap digit_of q ∙ eqb_is (digit_of (glyph e)) e g

digits_text : (h l : ℕ) → h < 16 → l < 16 → byte_text (16 * h + l) ≡ glyph h ∷ glyph l ∷ []
digits_text h l m n =
    let d : (16 * h + l) / 16 ≡ h = omega arith in
    let r : (16 * h + l) % 16 ≡ l = omega arith in
    ap (λ k. glyph k ∷ glyph ((16 * h + l) % 16) ∷ []) d ∙ ap (λ k. glyph h ∷ glyph k ∷ []) r

pub stuck_high : (bytes : List ℕ) → ((d : ℕ) → d < 16 → first bytes ≢ Some (glyph d)) → IsStuck hex_bytes bytes bytes
stuck_high bytes none-first = record {
  front = [];
  split = refl;
  begins = (0, omega arith, (byte_text 0, refl));
  none = λ v behind seen fv av look e. none-first (v / 16) (omega arith) (sym look ∙ ap first (sym e));
}

pub stuck_low : (bytes mid : List ℕ) (h : ℕ) → h < 16 → bytes ≡ glyph h ∷ mid → ((d : ℕ) → d < 16 → first mid ≢ Some (glyph d)) → IsStuck hex_bytes bytes mid
stuck_low bytes mid h small split none-first = record {
  front = glyph h ∷ [];
  split = split;
  begins = (16 * h + 0, omega arith, (glyph 0 ∷ [], digits_text h 0 small (omega arith)));
  none = λ v behind seen fv av look e.
      let g : glyph (v % 16) ∷ behind ≡ seen = cc in
      none-first (v % 16) (omega arith) (sym look ∙ ap first (sym g));
}

pub byte_taken : (bytes mid left : List ℕ) (h l : ℕ) → h < 16 → l < 16 → bytes ≡ glyph h ∷ mid → mid ≡ glyph l ∷ left → IsTaken hex_bytes bytes (16 * h + l) left
byte_taken bytes mid left h l sh sl a b = record {
  fits = omega arith;
  split = a ∙ ap (λ t. glyph h ∷ t) b ∙ ap (λ t. t ++ left) (sym (digits_text h l sh sl));
  apart = apart_any left;
}

splits_bytes : Splits hex_bytes
splits_bytes = record {
  same = λ v w m n fv fw am an e.
      let a : glyph (v / 16) ≡ glyph (w / 16) = cc in
      let b : glyph (v % 16) ≡ glyph (w % 16) = cc in
      let c = glyph_injective (v / 16) (w / 16) (omega arith) (omega arith) a in
      let d = glyph_injective (v % 16) (w % 16) (omega arith) (omega arith) b in
      omega arith;
}

-- ---- a digit, or none

unlike : (b c : ℕ) → (b == c) ≡ false → b ≡ c → ⊥
unlike b c e f = let g : (c == c) ≡ false = subst (λ n. (n == c) ≡ false) f e in let h : (c == c) ≡ true = grind (arith, nat_tests) in cc

digit_below : (n c : ℕ) → ((d : ℕ) × (d < n) × (glyph d ≡ c)) ⊎ ((d : ℕ) → d < n → glyph d ≢ c)
digit_below zero c = inr (λ d l e. omega arith)
digit_below (suc n) c = at (glyph n == c) refl (digit_below n c)
  where
    wider : (x : (d : ℕ) × (d < n) × (glyph d ≡ c)) → (d : ℕ) × (d < suc n) × (glyph d ≡ c)
    wider x = let l = x.1 in (x.0, omega arith, x.2)

    last : (glyph n == c) ≡ false → ((d : ℕ) → d < n → glyph d ≢ c) → (d : ℕ) → d < suc n → glyph d ≢ c
    last f h d l e = which (d == n) refl
      where
        which : (t : Bool) → (d == n) ≡ t → ⊥
        which true g = unlike (glyph n) c f (ap glyph (sym (eqb_is d n g)) ∙ e)
        which false g = h d (grind (arith, nat_tests)) e

    at : (t : Bool) → (glyph n == c) ≡ t → ((d : ℕ) × (d < n) × (glyph d ≡ c)) ⊎ ((d : ℕ) → d < n → glyph d ≢ c) → ((d : ℕ) × (d < suc n) × (glyph d ≡ c)) ⊎ ((d : ℕ) → d < suc n → glyph d ≢ c)
    at true e r = inl (n, omega arith, eqb_is (glyph n) c e)
    at false e (inl x) = inl (wider x)
    at false e (inr h) = inr (last e h)

no_first : (c : ℕ) → first [] ≢ Some c
no_first c e = cc

only_first : (b c : ℕ) (s : List ℕ) → b ≢ c → first (b ∷ s) ≢ Some c
only_first b c s n e = let f : b ≡ c = cc in n f

low_reading : (bytes mid : List ℕ) (h : ℕ) → h < 16 → bytes ≡ glyph h ∷ mid → Reading hex_bytes bytes
low_reading bytes [] h small e = stuck [] (stuck_low bytes [] h small e (λ d l. no_first (glyph d)))
low_reading bytes (c ∷ s) h small e = at (digit_below 16 c)
  where
    at : ((d : ℕ) × (d < 16) × (glyph d ≡ c)) ⊎ ((d : ℕ) → d < 16 → glyph d ≢ c) → Reading hex_bytes bytes
    at (inl d) = taken (16 * h + d.0) s (byte_taken bytes (c ∷ s) s h d.0 small d.1 e (ap (λ b. b ∷ s) (sym d.2)))
    at (inr n) = stuck (c ∷ s) (stuck_low bytes (c ∷ s) h small e (λ d l. only_first c (glyph d) s (λ g. n d l (sym g))))

reading_byte : Readable hex_bytes
reading_byte [] = stuck [] (stuck_high [] (λ d l. no_first (glyph d)))
reading_byte (c ∷ s) = at (digit_below 16 c)
  where
    at : ((d : ℕ) × (d < 16) × (glyph d ≡ c)) ⊎ ((d : ℕ) → d < 16 → glyph d ≢ c) → Reading hex_bytes (c ∷ s)
    at (inl d) = low_reading (c ∷ s) s d.0 d.1 (ap (λ b. b ∷ s) (sym d.2))
    at (inr n) = stuck (c ∷ s) (stuck_high (c ∷ s) (λ d l. only_first c (glyph d) s (λ g. n d l (sym g))))

-- ---- 32 bytes

pub byte_built : (k : ℕ) → k < 32 → Built (digest_chain.items k) hex_bytes (λ b. b)
byte_built k small = record {
  into = λ b f. ((f, small), refl);
  from = λ b f. (b, refl, f.0, λ m a. a);
}

splits_items : (k : ℕ) → Splits (digest_chain.items k)
splits_items k = record { same = λ v w m n fv fw am an e. splits_bytes.same v w m n fv.0 fw.0 am an e }

zeros : ℕ → List ℕ
zeros zero = []
zeros (suc n) = 0 ∷ zeros n

zeros_come : (n k : ℕ) → n ≡ 32 - k → MayCome digest_chain k (zeros n)
unfolding zeros
zeros_come zero k e = tt
zeros_come (suc n) k e = ((omega arith, omega arith), zeros_come n (k + 1) (omega arith))

pub after_length : (k : ℕ) (xs : List ℕ) → after digest_chain k xs ≡ k + length xs
after_length k [] = omega arith
after_length k (x ∷ xs) = let e = after_length (k + 1) xs in omega arith

zeros_length : (n : ℕ) → length (zeros n) ≡ n
unfolding zeros
zeros_length zero = refl
zeros_length (suc n) = ap suc (zeros_length n)

zeros_end : (k : ℕ) → nat_le 32 (after digest_chain k (zeros (32 - k))) ≡ true
zeros_end k =
    let e = after_length k (zeros (32 - k)) in
    let f = zeros_length (32 - k) in
    let g : 32 ≤ after digest_chain k (zeros (32 - k)) = omega arith in
    grind (arith, nat_tests)

pub linked_digest : Linked digest_chain
linked_digest = record {
  splits = splits_items;
  some = λ k b f. let l = f.1 in (glyph (b / 16), glyph (b % 16) ∷ [], refl, grind (arith, nat_tests));
  apart = λ k b c f g. refl;
  follows = λ k b c m f g. apart_any (byte_text c ++ m);
  on = λ k. (zeros (32 - k), record { each = zeros_come (32 - k) k refl; ends = zeros_end k });
}

next_byte : (k : ℕ) (mid : List ℕ) → Next digest_chain k mid
next_byte k mid = at (nat_lt k 32) refl
  where
    at : (t : Bool) → nat_lt k 32 ≡ t → Next digest_chain k mid
    at true e = item (reading_built (digest_chain.items k) hex_bytes (λ b. b) (byte_built k (grind (arith, nat_tests))) (λ b left f a. a) reading_byte mid)
    at false e = none (grind (arith, nat_tests)) (λ b look a f. let l = f.1 in absurd (grind (arith, nat_tests)))

pub splits_digest : Splits (chains digest_chain 0)
splits_digest = splits_chain digest_chain 0 linked_digest

pub reading_digest : Readable (chains digest_chain 0)
reading_digest = reading_chain digest_chain 0 linked_digest next_byte

table_digit : (d : ℕ) → d < 16 → slice_index lower_digits d ≡ glyph d
table_digit d h = eqb_is (slice_index lower_digits d) (glyph d) (each_below 16 (λ n. slice_index lower_digits n == glyph n) refl d h)

pub digest_text : (k : ℕ) (bytes : List ℕ) → EachFits IsByte bytes → encode_lower bytes ≡ chain_text digest_chain k bytes
unfolding encode_with
digest_text k [] f = refl
digest_text k (b ∷ bytes) f =
    let small = f.0 in
    ap (λ c. c ∷ slice_index lower_digits (b % 16) ∷ encode_lower bytes) (table_digit (b / 16) (omega arith))
    ∙ ap (λ c. glyph (b / 16) ∷ c ∷ encode_lower bytes) (table_digit (b % 16) (omega arith))
    ∙ ap (λ t. glyph (b / 16) ∷ glyph (b % 16) ∷ t) (digest_text (k + 1) bytes f.1)

come_bytes : (k : ℕ) (bytes : List ℕ) → MayCome digest_chain k bytes → EachFits IsByte bytes
come_bytes k [] h = tt
come_bytes k (b ∷ bytes) h = (h.0.0, come_bytes (k + 1) bytes h.1)

come_length : (k : ℕ) (bytes : List ℕ) → k ≤ 32 → MayCome digest_chain k bytes → k + length bytes ≤ 32
come_length k [] l h = omega arith
come_length k (b ∷ bytes) l h = let s = h.0.1 in let e = come_length (k + 1) bytes (omega arith) h.1 in omega arith

bytes_come : (k : ℕ) (bytes : List ℕ) → k + length bytes ≤ 32 → EachFits IsByte bytes → MayCome digest_chain k bytes
bytes_come k [] l h = tt
bytes_come k (b ∷ bytes) l h = ((h.0, omega arith), bytes_come (k + 1) bytes (omega arith) h.1)

pub whole_digest : (bytes : List ℕ) → IsWhole digest_chain 0 bytes → EachFits IsByte bytes × (length bytes ≡ 32)
whole_digest bytes w =
    let l = come_length 0 bytes (omega arith) w.each in
    let e = after_length 0 bytes in
    let f : 32 ≤ after digest_chain 0 bytes = le (after digest_chain 0 bytes) w.ends in
    (come_bytes 0 bytes w.each, omega arith)
  where
    le : (n : ℕ) → nat_le 32 n ≡ true → 32 ≤ n
    le n h = grind (arith, nat_tests)

pub digest_whole : (bytes : List ℕ) → EachFits IsByte bytes → length bytes ≡ 32 → IsWhole digest_chain 0 bytes
digest_whole bytes f e = record { each = bytes_come 0 bytes (omega arith) f; ends = let g = after_length 0 bytes in le (after digest_chain 0 bytes) (omega arith) }
  where
    le : (n : ℕ) → 32 ≤ n → nat_le 32 n ≡ true
    le n h = grind (arith, nat_tests)

-- ---- the loop

pub digest_stops : (k : ℕ) (bytes mid left done : List ℕ) (stop : Stop) → k < 32 → Came digest_chain 0 bytes done k mid → Reads hex_bytes mid (Err stop) left → Reads (chains digest_chain 0) bytes (Err stop) left
digest_stops k bytes mid left done stop small came s =
    let open-end : nat_le 32 k ≡ false = grind (arith, nat_tests) in
    err_item digest_chain 0 k bytes mid left done stop linked_digest came (err_built (digest_chain.items k) hex_bytes (λ b. b) mid left stop (byte_built k small) s) (inl open-end)

pub digest_more : (k : ℕ) (bytes mid left digest : List ℕ) (b : ℕ) → k < 32 → length digest ≡ 32 → Came digest_chain 0 bytes (take k digest) k mid → IsTaken hex_bytes mid b left
    → Came digest_chain 0 bytes (take (k + 1) (slice_set digest k b)) (k + 1) left × (length (slice_set digest k b) ≡ 32)
digest_more k bytes mid left digest b small size came t =
    let more = came_more digest_chain 0 bytes (take k digest) k mid left b came (taken_built (digest_chain.items k) hex_bytes (λ c. c) mid left b (byte_built k small) (λ a. a) t) in (
      subst (λ (done : List ℕ). Came digest_chain 0 bytes done (k + 1) left) (sym (take_more_set digest k b (omega arith))) more,
      length-set digest k b ∙ size,
    )

pub digest_end : (k : ℕ) (bytes left digest : List ℕ) → 32 ≤ k → length digest ≡ 32 → Came digest_chain 0 bytes (take k digest) k left → IsTaken (chains digest_chain 0) bytes digest left
digest_end k bytes left digest past size came =
    let all : take k digest ≡ digest = take_all k digest (omega arith) in
    let end : nat_le 32 k ≡ true = grind (arith, nat_tests) in
    let shut : nat_lt k 32 ≡ false = grind (arith, nat_tests) in
    subst (λ (done : List ℕ). IsTaken (chains digest_chain 0) bytes done left) all (taken_chain digest_chain 0 k bytes left (take k digest) came end (never shut left))
  where
    never : nat_lt k 32 ≡ false → (s : List ℕ) → Apart (λ b. nat_lt k 32) s
    never e [] = tt
    never e (b ∷ s) = e
