-- How the text of a saved session is read, a part at a time.
use Rattle.std.specs.Prelude.{ℕ, ◌+◌, ◌<◌, ◌/◌, ◌%◌, nat_lt, nat_le, true, false, List, [], ◌∷◌, codes, Result, Ok, Err}
use Rattle.std.specs.declared.vec.Vec.{Vec}
use Rattle.std.specs.Fmt.{digit_glyph}
use Rattle.prof_spell.specs.Spelling.{Language}
use Rattle.prof_spell.specs.Pieces.{Among, numbers, literal, words}
use Rattle.prof_spell.specs.Chains.{Chain, chains}
use Rattle.prof_spell.specs.Sequences.{followed_by}
use Rattle.prof_path.specs.Views.{ViewLists}
use Rattle.prof_address.specs.declared.kind.Form.{Form}
use Rattle.prof_address.specs.Transforms.{u32s}
use Rattle.prof_address.specs.Views.{views, IsWrittenView}
use Rattle.prof_keep.specs.declared.head.Head.{Head}
use Rattle.prof_keep.specs.declared.head.TheConstants.{HEADS}
use Rattle.prof_keep.specs.Heads.{head_word}
use Rattle.prof_keep.specs.Saved.{SavedLists, IsByte, line_text}

abbrev pub heads : Language Head
heads = words head_word (Among HEADS)

-- one byte as two lower-case digits
abbrev pub byte_text : ℕ → List ℕ
byte_text b = digit_glyph false (b / 16) ∷ digit_glyph false (b % 16) ∷ []

abbrev pub hex_bytes : Language ℕ
hex_bytes = record { text = byte_text; Fits = IsByte; goes = λ b c. false }

-- 32 bytes
abbrev pub digest_chain : Chain ℕ ℕ
digest_chain = record {
  items = λ k. record { text = byte_text; Fits = λ b. IsByte b × (k < 32); goes = λ b c. false };
  next = λ k b. k + 1;
  ends = λ k. nat_le 32 k;
  goes = λ k b. nat_lt k 32;
}

-- a line for a view
abbrev pub lines : Form → Language ViewLists
lines form = record { text = line_text; Fits = IsWrittenView form; goes = λ v b. false }

-- up to 100 lines, and more than the place
abbrev pub line_chain : Form → ℕ → Chain ℕ ViewLists
line_chain form place = record {
  items = λ k. record { text = line_text; Fits = λ v. IsWrittenView form v × (k < 100); goes = λ v b. false };
  next = λ k v. k + 1;
  ends = λ k. nat_lt place k;
  goes = λ k b. true;
}

abbrev pub after_place : Form → ℕ → Language (Unit {0} × List ViewLists)
after_place form place = followed_by (literal (codes "\n")) (λ u. chains (line_chain form place) 0)

abbrev pub Placed : Type 0
Placed = Unit {0} × (ℕ × (Unit {0} × List ViewLists))

abbrev pub after_version : Form → Language Placed
after_version form = followed_by (literal (codes "\nplace ")) (λ u. followed_by (numbers 99) (after_place form))

abbrev pub Versioned : Type 0
Versioned = Unit {0} × (ℕ × Placed)

abbrev pub after_digest : Form → Language Versioned
after_digest form = followed_by (literal (codes "\nversion ")) (λ u. followed_by u32s (λ version. after_version form))

abbrev pub Whole : Type 0
Whole = Head × (List ℕ × Versioned)

abbrev pub wholes : Language Whole
wholes = followed_by heads (λ head. followed_by (chains digest_chain 0) (λ digest. after_digest head.0))

-- what the readers of the parts give
abbrev pub as_lines : {E Z : Type 0} → Result (Vec ViewLists Z) E → Result (Unit {0} × List ViewLists) E
as_lines (Ok views) = Ok (tt, views.items)
as_lines (Err e) = Err e

abbrev pub as_placed : {E Z : Type 0} → Result (ℕ × Vec ViewLists Z) E → Result Placed E
as_placed (Ok p) = Ok (tt, (p.0, (tt, p.1.items)))
as_placed (Err e) = Err e

abbrev pub as_versioned : {E Z : Type 0} → Result (ℕ × (ℕ × Vec ViewLists Z)) E → Result Versioned E
as_versioned (Ok p) = Ok (tt, (p.0, (tt, (p.1.0, (tt, p.1.1.items)))))
as_versioned (Err e) = Err e

abbrev pub as_whole : {E : Type 0} → Result (Head × SavedLists) E → Result Whole E
as_whole (Ok p) = Ok (p.0, (p.1.digest, (tt, (p.1.version, (tt, (p.1.place, (tt, p.1.views)))))))
as_whole (Err e) = Err e

abbrev pub session_of : {Z : Type 0} → List ℕ → ℕ × (ℕ × Vec ViewLists Z) → SavedLists
session_of digest p = record { digest = digest; version = p.0; place = p.1.0; views = p.1.1.items }
