-- Values with a space behind them, and what stands behind that.
use Rattle.std.proofs.Common.{ℕ, true, List, [], ◌∷◌, ◌++◌, refl, arith, inl, inr}
use Rattle.std.specs.Prelude.{ℤ, pos, codes, Err}
use Rattle.prof_spell.specs.Spelling.{Language, Apart, IsTaken, Reads, Splits}
use Rattle.prof_spell.specs.declared.cursor.Stop.{Stop}
use Rattle.prof_spell.specs.Readings.{Readable}
use Rattle.prof_spell.specs.Pieces.{Among, signed, literal}
use Rattle.prof_spell.specs.Sequences.{followed_by}
use Rattle.prof_spell.proofs.Words.{apart_any, splits_literal, splits_words}
use Rattle.prof_spell.proofs.Parts.{Built, EndsAtMark, err_built, taken_built, splits_built}
use Rattle.prof_spell.proofs.Readings.{reading_built, reading_literal, reading_signed, reading_words}
use Rattle.prof_spell.proofs.SignedLemmas.{splits_signed}
use Rattle.prof_spell.proofs.SequenceLemmas.{Meets, err_front, err_back, taken_pair, splits_pair, reading_pair}
use Rattle.prof_path.specs.declared.transform.Range.{Range}
use Rattle.prof_path.specs.declared.transform.Implementation.{Implementation}
use Rattle.prof_path.specs.declared.transform.Implementation.TheVariants as i
use Rattle.prof_address.specs.declared.kind.Filter.{Filter}
use Rattle.prof_address.specs.declared.kind.TheConstants.{FILTERS}
use Rattle.prof_address.specs.Transforms.{u32s, filter_word}
use Rattle.prof_address.proofs.Filters.{splits_u32s, reading_u32}
use Rattle.prof_request.specs.Reading.{names, rests, before_space, with_version, openings, line_ranges, filter_words, version_texts}
use Rattle.prof_request.proofs.NameLemmas.{splits_names, reading_name}
use Rattle.prof_request.proofs.RestLemmas.{line_none, splits_rests, reading_rest}

abbrev pub space : Language (Unit {0})
space = literal (codes " ")

-- ---- a value and the space behind it

-- a value ends where a space comes
abbrev pub EndsAtSpace : {V : Type 0} → Language V → Type 0
EndsAtSpace L = EndsAtMark L 32

space_meets : {V : Type 0} (L : Language V) → EndsAtSpace L → Meets L (λ v. space)
space_meets L ends = record { some = λ v f. (tt, tt); apart = λ v u m f g a. ends v f }

space_built : {V : Type 0} (L : Language V) → Built (before_space L) (followed_by L (λ v. space)) (λ p. p.0)
space_built L = record {
  into = λ p f. (f.0, refl);
  from = λ v f. ((v, tt), refl, (f, tt), λ m a. apart_any m);
}

pub err_value : {V : Type 0} (L : Language V) (bytes left : List ℕ) (stop : Stop) → EndsAtSpace L → Reads L bytes (Err stop) left → Reads (before_space L) bytes (Err stop) left
err_value L bytes left stop ends s = err_built (before_space L) (followed_by L (λ v. space)) (λ p. p.0) bytes left stop (space_built L) (err_front L (λ v. space) bytes left stop (space_meets L ends) s)

pub err_space : {V : Type 0} (L : Language V) (bytes mid left : List ℕ) (v : V) (stop : Stop) → EndsAtSpace L → Splits L → IsTaken L bytes v mid → Reads space mid (Err stop) left → Reads (before_space L) bytes (Err stop) left
err_space L bytes mid left v stop ends splits t s = err_built (before_space L) (followed_by L (λ w. space)) (λ p. p.0) bytes left stop (space_built L)
    (err_back L (λ w. space) bytes mid left v stop (space_meets L ends) splits t s)

pub space_taken : {V : Type 0} (L : Language V) (bytes mid left : List ℕ) (v : V) → EndsAtSpace L → IsTaken L bytes v mid → IsTaken space mid tt left → IsTaken (before_space L) bytes v left
space_taken L bytes mid left v ends t u = taken_built (before_space L) (followed_by L (λ w. space)) (λ p. p.0) bytes left (v, tt) (space_built L) (λ a. apart_any left)
    (taken_pair L (λ w. space) bytes mid left v tt (space_meets L ends) t u)

splits_before : {V : Type 0} (L : Language V) → EndsAtSpace L → Splits L → Splits (before_space L)
splits_before L ends splits = splits_built (before_space L) (followed_by L (λ v. space)) (λ p. p.0) (space_built L)
    (splits_pair L (λ v. space) (space_meets L ends) splits (λ v f. splits_literal (codes " ")))

reading_before : {V : Type 0} (L : Language V) → EndsAtSpace L → Splits L → Readable L → Readable (before_space L)
reading_before L ends splits reads = reading_built (before_space L) (followed_by L (λ v. space)) (λ p. p.0) (space_built L) (λ p left f a. apart_any left)
    (reading_pair L (λ v. space) (space_meets L ends) splits reads (λ v f. reading_literal (codes " ")))

pub version_ends : EndsAtSpace u32s
version_ends n f = refl

pub name_ends : EndsAtSpace names
name_ends name f = refl

pub start_ends : EndsAtSpace signed
start_ends z f = refl

pub splits_version : Splits (before_space u32s)
splits_version = splits_before u32s version_ends splits_u32s

pub reading_version : Readable (before_space u32s)
reading_version = reading_before u32s version_ends splits_u32s reading_u32

pub splits_session : Splits (before_space names)
splits_session = splits_before names name_ends splits_names

pub reading_session : Readable (before_space names)
reading_session = reading_before names name_ends splits_names reading_name

-- ---- what stands behind the space

-- some value may stand there
pub meets_behind : {A B : Type 0} (L : Language A) (M : Language B) (b : B) → M.Fits b → Meets (before_space L) (λ a. M)
meets_behind L M b f = record { some = λ a g. (b, f); apart = λ a c m g h k. apart_any (M.text c ++ m) }

pub splits_with_version : {V : Type 0} (M : Language V) (v : V) → M.Fits v → Splits M → Splits (with_version M)
splits_with_version M v f splits = splits_pair (before_space u32s) (λ version. M) (meets_behind u32s M v f) splits_version (λ version g. splits)

pub reading_with_version : {V : Type 0} (M : Language V) (v : V) → M.Fits v → Readable M → Readable (with_version M)
reading_with_version M v f reads = reading_pair (before_space u32s) (λ version. M) (meets_behind u32s M v f) splits_version reading_version (λ version g. reads)

-- a profile and a thread

pub opening_meets : Meets (before_space names) (λ profile. u32s)
opening_meets = meets_behind names u32s 0 (omega arith)

pub splits_openings : Splits openings
splits_openings = splits_pair (before_space names) (λ profile. u32s) opening_meets splits_session (λ profile f. splits_u32s)

pub reading_opening : Readable openings
reading_opening = reading_pair (before_space names) (λ profile. u32s) opening_meets splits_session reading_session (λ profile f. reading_u32)

-- a range

abbrev pub bounds : Language (ℤ × ℤ)
bounds = followed_by (before_space signed) (λ start. signed)

abbrev pub range_of : ℤ × ℤ → Range
range_of p = record { start = p.0; end = p.1 }

pub range_built : Built line_ranges bounds range_of
range_built = record {
  into = λ p f. (f, refl);
  from = λ range f. ((range.start, range.end), refl, f, λ m a. a);
}

pub bounds_meet : Meets (before_space signed) (λ start. signed)
bounds_meet = meets_behind signed signed (pos 0) (omega arith)

pub splits_start : Splits (before_space signed)
splits_start = splits_before signed start_ends splits_signed

pub splits_line_ranges : Splits line_ranges
splits_line_ranges = splits_built line_ranges bounds range_of range_built
    (splits_pair (before_space signed) (λ start. signed) bounds_meet splits_start (λ start f. splits_signed))

pub reading_line_range : Readable line_ranges
reading_line_range = reading_built line_ranges bounds range_of range_built (λ p left f a. a)
    (reading_pair (before_space signed) (λ start. signed) bounds_meet splits_start (reading_before signed start_ends splits_signed reading_signed) (λ start f. reading_signed))

abbrev pub no_range : Range
no_range = range_of (pos 0, pos 0)

pub no_range_fits : line_ranges.Fits no_range
no_range_fits = (omega arith, omega arith)

-- a filter

abbrev pub as_filter : Implementation → Filter
as_filter filter = record { 0 = filter }

pub among_filters : (filter : Implementation) → Among FILTERS (as_filter filter)
among_filters i.Combined = inl refl
among_filters i.Js = inr (inl refl)
among_filters i.Cpp = inr (inr (inl refl))

pub splits_filter_words : Splits filter_words
splits_filter_words = splits_words filter_word FILTERS refl

pub reading_filter_word : Readable filter_words
reading_filter_word = reading_words filter_word (as_filter i.Combined) (as_filter i.Js ∷ as_filter i.Cpp ∷ [])

-- a version and the rest of the line

rest_apart : (version : ℕ) (s m : List ℕ) → Apart (λ b. true) m → Apart (u32s.goes version) (rests.text s ++ m)
rest_apart version [] [] a = tt
rest_apart version [] (b ∷ m) a = absurd cc
rest_apart version (b ∷ s) m a = refl

pub text_meets : Meets u32s (λ version. rests)
text_meets = record {
  some = λ version f. ([], line_none);
  apart = λ version s m f g a. rest_apart version s m a;
}

pub splits_version_texts : Splits version_texts
splits_version_texts = splits_pair u32s (λ version. rests) text_meets splits_u32s (λ version f. splits_rests)

pub reading_version_text : Readable version_texts
reading_version_text = reading_pair u32s (λ version. rests) text_meets splits_u32s reading_u32 (λ version f. reading_rest)
