-- Names.
use Rattle.std.proofs.Common.{◌≡◌, ℕ, ◌+◌, ◌<◌, ◌≤◌, Bool, true, false, List, [], ◌∷◌, ◌++◌, length, length-append, zero, suc, refl, sym, subst, ap, arith, inl, inr}
use Rattle.std.specs.Prelude.{Some, ◌⊎◌, ◌||◌, ◌==◌, nat_lt, IsUtf8}
use Rattle.std.specs.Char.{is_ascii_lowercase, is_ascii_digit}
use Rattle.std.proofs.lemmas.Bool.Decides.{nat_tests}
use Rattle.prof_spell.specs.Spelling.{first, Apart, IsStuck, IsTaken, Splits}
use Rattle.prof_spell.specs.Pieces.{EachFits}
use Rattle.prof_spell.specs.Readings.{Readable}
use Rattle.prof_spell.specs.Utf8.{behind_first}
use Rattle.prof_spell.specs.declared.utf8.Due.{Due}
use Rattle.prof_spell.specs.declared.utf8.Due.TheVariants.{Character}
use Rattle.prof_spell.specs.Chains.{chain_text, after, MayCome, IsWhole, chains}
use Rattle.prof_spell.proofs.Bytes.{and_true, and_both, or_left}
use Rattle.prof_spell.proofs.Words.{apart_any}
use Rattle.prof_spell.proofs.Parts.{Built, stuck_built, taken_built, splits_built}
use Rattle.prof_spell.proofs.Chained.{Linked, Came, came_more, stuck_item, stuck_end, taken_chain, splits_chain}
use Rattle.prof_spell.proofs.Utf8Lemmas.{Runs, runs_utf8}
use Rattle.prof_spell.proofs.Readings.{Next, item, none, reading_built, reading_chain}
use Rattle.prof_request.specs.Requests.{is_name_byte, IsNameByte, IsName}
use Rattle.prof_request.specs.Reading.{names, may_name, name_chain}
use Rattle.prof_request.proofs.ByteLemmas.{splits_bytes, byte_taken, no_byte, reading_bytes}

-- ---- names as chains of bytes

some_before : (k : ℕ) → nat_lt 0 (suc k) ≡ true
some_before k = grind (arith, nat_tests)

name_ends : (k : ℕ) → (name : List ℕ) × IsWhole name_chain k name
name_ends zero = (97 ∷ [], record { each = (refl, tt); ends = refl })
name_ends (suc k) = ([], record { each = tt; ends = some_before k })

pub linked_names : Linked name_chain
linked_names = record {
  splits = λ k. splits_bytes (may_name k);
  some = λ k b f. (b, [], refl, (and_true (is_name_byte b) (nat_lt k 64) f).0);
  apart = λ k a b f g. refl;
  follows = λ k a c m f g. apart_any (c ∷ m);
  on = name_ends;
}

next_name : (k : ℕ) (mid : List ℕ) → Next name_chain k mid
next_name k mid = at (nat_lt k 64) refl
  where
    at : (t : Bool) → nat_lt k 64 ≡ t → Next name_chain k mid
    at true e = item (reading_bytes (may_name k) 97 e mid)
    at false e = none (grind (arith, nat_tests)) (λ b look a f. let g : nat_lt k 64 ≡ true = (and_true (is_name_byte a) (nat_lt k 64) f).1 in absurd cc)

name_text : (k : ℕ) (name : List ℕ) → name ≡ chain_text name_chain k name
name_text k [] = refl
name_text k (b ∷ name) = ap (λ t. b ∷ t) (name_text (k + 1) name)

after_name : (k : ℕ) (name : List ℕ) → after name_chain k name ≡ k + length name
after_name k [] = omega arith
after_name k (b ∷ name) = let e = after_name (k + 1) name in omega arith

come_bytes : (k : ℕ) (name : List ℕ) → MayCome name_chain k name → EachFits IsNameByte name
come_bytes k [] h = tt
come_bytes k (b ∷ name) h = ((and_true (is_name_byte b) (nat_lt k 64) h.0).0, come_bytes (k + 1) name h.1)

come_few : (k : ℕ) (name : List ℕ) → k ≤ 64 → MayCome name_chain k name → k + length name ≤ 64
come_few k [] l h = omega arith
come_few k (b ∷ name) l h =
    let s : nat_lt k 64 ≡ true = (and_true (is_name_byte b) (nat_lt k 64) h.0).1 in
    let m : k + 1 ≤ 64 = grind (arith, nat_tests) in
    let e = come_few (k + 1) name m h.1 in
    omega arith

bytes_come : (k : ℕ) (name : List ℕ) → k + length name ≤ 64 → EachFits IsNameByte name → MayCome name_chain k name
bytes_come k [] l f = tt
bytes_come k (b ∷ name) l f = (and_both (is_name_byte b) (nat_lt k 64) f.0 (below k (omega arith)), bytes_come (k + 1) name (omega arith) f.1)
  where
    below : (n : ℕ) → n < 64 → nat_lt n 64 ≡ true
    below n h = grind (arith, nat_tests)

lt_is : (n : ℕ) → nat_lt 0 n ≡ true → 0 < n
lt_is n h = grind (arith, nat_tests)

is_lt : (n : ℕ) → 0 < n → nat_lt 0 n ≡ true
is_lt n h = grind (arith, nat_tests)

whole_name : (name : List ℕ) → IsWhole name_chain 0 name → IsName name
whole_name name w =
    let l = come_few 0 name (omega arith) w.each in
    let e = after_name 0 name in
    let s = lt_is (after name_chain 0 name) w.ends in
    record { bytes = come_bytes 0 name w.each; some = omega arith; few = omega arith }

name_whole : (name : List ℕ) → IsName name → IsWhole name_chain 0 name
name_whole name f =
    let few = f.few in
    let some = f.some in
    let e = after_name 0 name in
    record { each = bytes_come 0 name (omega arith) f.bytes; ends = is_lt (after name_chain 0 name) (omega arith) }

pub names_built : Built names (chains name_chain 0) (λ name. name)
names_built = record {
  into = λ name f. (whole_name name f, name_text 0 name);
  from = λ name f. (name, refl, name_whole name f, λ m a. a);
}

pub splits_names : Splits names
splits_names = splits_built names (chains name_chain 0) (λ name. name) names_built (splits_chain name_chain 0 linked_names)

pub reading_name : Readable names
reading_name = reading_built names (chains name_chain 0) (λ name. name) names_built (λ name left f a. a) (reading_chain name_chain 0 linked_names next_name)

-- ---- the loop

-- these bytes of a name were read
abbrev pub NameSoFar : List ℕ → List ℕ → List ℕ → Type 0
NameSoFar bytes done mid = Came name_chain 0 bytes done (length done) mid

pub name_more : (bytes mid left done : List ℕ) (b : ℕ) → NameSoFar bytes done mid → mid ≡ b ∷ left → is_name_byte b ≡ true → length done < 64 → NameSoFar bytes (done ++ b ∷ []) left
name_more bytes mid left done b came e p l =
    let below : nat_lt (length done) 64 ≡ true = grind (arith, nat_tests) in
    let t : IsTaken (name_chain.items (length done)) mid b left = byte_taken (may_name (length done)) mid left b e (and_both (is_name_byte b) (nat_lt (length done) 64) p below) in
    let size : length done + 1 ≡ length (done ++ b ∷ []) = omega (arith, length-append done (b ∷ [])) in
    subst (λ (n : ℕ). Came name_chain 0 bytes (done ++ b ∷ []) n left) size (came_more name_chain 0 bytes done (length done) mid left b came t)

-- a byte too many
pub name_past : (bytes mid done : List ℕ) (b : ℕ) → NameSoFar bytes done mid → first mid ≡ Some b → is_name_byte b ≡ true → 64 ≤ length done → IsStuck names bytes mid
name_past bytes mid done b came look p l =
    let past : nat_lt (length done) 64 ≡ false = grind (arith, nat_tests) in
    stuck_built names (chains name_chain 0) (λ name. name) bytes mid names_built
    (stuck_end name_chain 0 (length done) bytes mid done b linked_names came (is_lt (length done) (omega arith)) look p
    (λ a f e. let g : nat_lt (length done) 64 ≡ true = (and_true (is_name_byte a) (nat_lt (length done) 64) f).1 in cc))

-- no byte at all
pub name_none : (bytes mid done : List ℕ) → NameSoFar bytes done mid → length done ≡ 0 → Apart is_name_byte mid → IsStuck names bytes mid
name_none bytes mid done came e a =
    let zero_now : Came name_chain 0 bytes done 0 mid = subst (λ (n : ℕ). Came name_chain 0 bytes done n mid) e came in
    stuck_built names (chains name_chain 0) (λ name. name) bytes mid names_built
    (stuck_item name_chain 0 0 bytes mid mid done linked_names zero_now (no_byte (may_name 0) mid 97 refl (narrow mid a)) (inl refl))
  where
    no_more : (b : ℕ) → is_name_byte b ≡ false → may_name 0 b ≡ false
    no_more b f = rw f refl

    narrow : (s : List ℕ) → Apart is_name_byte s → Apart (may_name 0) s
    narrow [] h = tt
    narrow (b ∷ s) h = no_more b h

pub name_end : (bytes mid done : List ℕ) → NameSoFar bytes done mid → 0 < length done → Apart is_name_byte mid → IsTaken names bytes done mid
name_end bytes mid done came l a = taken_built names (chains name_chain 0) (λ name. name) bytes mid done names_built (λ h. h)
    (taken_chain name_chain 0 (length done) bytes mid done came (is_lt (length done) l) a)

-- ---- a name is UTF-8

or_cases : (a b : Bool) → (a || b) ≡ true → (a ≡ true) ⊎ (b ≡ true)
or_cases true b e = inl refl
or_cases false b e = inr e

name_byte_small : (b : ℕ) → is_name_byte b ≡ true → b < 128
name_byte_small b e = one (or_cases ((is_ascii_lowercase b || is_ascii_digit b) || b == 95) (b == 45) e)
  where
    three : (is_ascii_lowercase b ≡ true) ⊎ (is_ascii_digit b ≡ true) → b < 128
    three (inl h) = grind (arith, nat_tests)
    three (inr h) = grind (arith, nat_tests)

    two : ((is_ascii_lowercase b || is_ascii_digit b) ≡ true) ⊎ ((b == 95) ≡ true) → b < 128
    two (inl h) = three (or_cases (is_ascii_lowercase b) (is_ascii_digit b) h)
    two (inr h) = grind (arith, nat_tests)

    one : (((is_ascii_lowercase b || is_ascii_digit b) || b == 95) ≡ true) ⊎ ((b == 45) ≡ true) → b < 128
    one (inl h) = two (or_cases (is_ascii_lowercase b || is_ascii_digit b) (b == 95) h)
    one (inr h) = grind (arith, nat_tests)

alone : (b : ℕ) → nat_lt b 0x80 ≡ true → behind_first b ≡ Character
alone b e = rw e refl

name_runs : (name : List ℕ) → EachFits IsNameByte name → Runs Character name
name_runs [] f = refl
name_runs (b ∷ name) f =
    let l : b < 128 = name_byte_small b f.0 in
    let low : nat_lt b 0x80 ≡ true = grind (arith, nat_tests) in
    (or_left (nat_lt b 0x80) _ low, subst (λ (d : Due). Runs d name) (sym (alone b low)) (name_runs name f.1))

pub name_utf8 : (name : List ℕ) → IsName name → IsUtf8 name
name_utf8 name f = runs_utf8 name (name_runs name f.bytes)
