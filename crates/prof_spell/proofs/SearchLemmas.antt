-- Searches as chains of bytes.
use Rattle.std.proofs.Common.{◌≡◌, ℕ, ◌+◌, ◌<◌, ◌/◌, ◌%◌, length, length-append, arith, Bool, true, false, List, [], ◌∷◌, ◌++◌, refl, sym, subst, ap, ◌∙◌}
use Rattle.std.specs.Prelude.{◌==◌, Result, Ok, Err, IfOk, IfErr}
use Rattle.prof_spell.specs.Spelling.{Apart, IsTaken, Reads, Splits}
use Rattle.prof_spell.specs.declared.cursor.Stop.{Stop}
use Rattle.prof_spell.specs.declared.cursor.Stop.TheVariants.{Fault, NoMemory}
use Rattle.prof_spell.specs.declared.utf8.Due.{Due}
use Rattle.prof_spell.specs.declared.utf8.Due.TheVariants.{Character, OneMore, TwoMore, ThreeMore, BehindE0, BehindEd, BehindF0, BehindF4}
use Rattle.prof_spell.specs.Utf8.{allows, behind_byte}
use Rattle.prof_spell.specs.Chains.{chain_text, IsWhole, chains}
use Rattle.prof_spell.specs.Escapes.{is_unreserved, is_escaped_byte, byte_text, escaped, escapes, escape_chain, searches}
use Rattle.prof_spell.proofs.Bytes.{or_left}
use Rattle.prof_spell.proofs.Parts.{Built, splits_built, taken_built}
use Rattle.prof_spell.proofs.Chained.{Linked, splits_chain}
use Rattle.prof_spell.proofs.Utf8Lemmas.{Runs, utf8_runs, runs_utf8}
use Rattle.prof_spell.proofs.EscapeLemmas.{glyph, percent_text, allowed_small, text_itself, text_escaped, splits_escapes}

byte_first : (due : Due) (b : ℕ) → allows due b ≡ true → (c : ℕ) × (t : List ℕ) × (byte_text b ≡ c ∷ t) × (is_escaped_byte c ≡ true)
byte_first due b a = at (is_unreserved b) refl
  where
    at : (u : Bool) → is_unreserved b ≡ u → (c : ℕ) × (t : List ℕ) × (byte_text b ≡ c ∷ t) × (is_escaped_byte c ≡ true)
    at true u = (b, [], text_itself b u, or_left (is_unreserved b) (b == 37) u)
    at false u = (37, glyph (b / 16) ∷ glyph (b % 16) ∷ [], text_escaped b u ∙ percent_text b (allowed_small due b a), refl)

apart_any : (s : List ℕ) → Apart (λ b. false) s
apart_any [] = tt
apart_any (b ∷ s) = refl

-- bytes that bring a character to its end
ending : (due : Due) → (bytes : List ℕ) × IsWhole escape_chain due bytes
ending Character = ([], record { each = tt; ends = refl })
ending OneMore = (0x80 ∷ [], record { each = (refl, tt); ends = refl })
ending TwoMore = (0x80 ∷ 0x80 ∷ [], record { each = (refl, (refl, tt)); ends = refl })
ending ThreeMore = (0x80 ∷ 0x80 ∷ 0x80 ∷ [], record { each = (refl, (refl, (refl, tt))); ends = refl })
ending BehindE0 = (0xA0 ∷ 0x80 ∷ [], record { each = (refl, (refl, tt)); ends = refl })
ending BehindEd = (0x80 ∷ 0x80 ∷ [], record { each = (refl, (refl, tt)); ends = refl })
ending BehindF0 = (0x90 ∷ 0x80 ∷ 0x80 ∷ [], record { each = (refl, (refl, (refl, tt))); ends = refl })
ending BehindF4 = (0x80 ∷ 0x80 ∷ 0x80 ∷ [], record { each = (refl, (refl, (refl, tt))); ends = refl })

pub linked_escapes : Linked escape_chain
linked_escapes = record {
  splits = splits_escapes;
  some = byte_first;
  apart = λ due b c f g. refl;
  follows = λ due b c m f g. apart_any (byte_text c ++ m);
  on = ending;
}

whole_runs : (due : Due) (bytes : List ℕ) → IsWhole escape_chain due bytes → Runs due bytes
whole_runs due [] h = h.ends
whole_runs due (b ∷ bytes) h = (h.each.0, whole_runs (behind_byte due b) bytes (record { each = h.each.1; ends = h.ends }))

runs_whole : (due : Due) (bytes : List ℕ) → Runs due bytes → IsWhole escape_chain due bytes
runs_whole due [] h = record { each = tt; ends = h }
runs_whole due (b ∷ bytes) h = let k = runs_whole (behind_byte due b) bytes h.1 in record { each = (h.0, k.each); ends = k.ends }

escaped_text : (due : Due) (bytes : List ℕ) → escaped bytes ≡ chain_text escape_chain due bytes
escaped_text due [] = refl
escaped_text due (b ∷ bytes) = ap (λ t. byte_text b ++ t) (escaped_text (behind_byte due b) bytes)

pub searches_built : Built searches (chains escape_chain Character) (λ bytes. bytes)
searches_built = record {
  into = λ bytes f. (runs_utf8 bytes (whole_runs Character bytes f), escaped_text Character bytes);
  from = λ bytes f. (bytes, refl, runs_whole Character bytes (utf8_runs bytes f), λ m a. a);
}

pub splits_searches : Splits searches
splits_searches = splits_built searches (chains escape_chain Character) (λ bytes. bytes) searches_built (splits_chain escape_chain Character linked_escapes)

pub search_taken : (bytes left done : List ℕ) → IsTaken (chains escape_chain Character) bytes done left → IsTaken searches bytes done left
search_taken bytes left done t = taken_built searches (chains escape_chain Character) (λ b. b) bytes left done searches_built (λ a. a) t

-- a byte of a search takes some of the text
pub byte_shorter : (due : Due) (bytes left : List ℕ) (b : ℕ) → IsTaken (escapes due) bytes b left → length left < length bytes
byte_shorter due bytes left b t =
    let k = byte_first due b t.fits in
    let e : length bytes ≡ length ((k.0 ∷ k.1) ++ left) = ap length (t.split ∙ ap (λ s. s ++ left) k.2) in
    omega (arith, length-append k.1 left)

-- the text of what was read, where there is memory for it
pub copied : (bytes left done : List ℕ) (r : Result (List ℕ) Stop) → IfOk r (λ text. text ≡ done) → IfErr r (λ stop. stop ≡ NoMemory) → IsTaken searches bytes done left → Reads searches bytes r left
copied bytes left done (Ok text) h m t = subst (λ (s : List ℕ). IsTaken searches bytes s left) (sym h) t
copied bytes left done (Err Fault) h m t = absurd (cc m)
copied bytes left done (Err NoMemory) h m t = tt
