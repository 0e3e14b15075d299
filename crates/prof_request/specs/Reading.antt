-- How a line is read, a part at a time.
use Rattle.std.specs.Prelude.{◌≡◌, ◌≢◌, ℕ, ◌+◌, nat_lt, Bool, true, false, not, ◌==◌, ◌&&◌, List, [], ◌∷◌, ◌++◌}
use Rattle.std.specs.Char.{is_ascii_digit}
use Rattle.std.specs.Fmt.{decimal}
use Rattle.prof_spell.specs.Spelling.{Language}
use Rattle.prof_spell.specs.Pieces.{Among, IsI64, words}
use Rattle.prof_spell.specs.Sequences.{followed_by}
use Rattle.prof_spell.specs.Chains.{Chain}
use Rattle.prof_spell.specs.Utf8.{allows, behind_byte, is_between}
use Rattle.prof_spell.specs.declared.utf8.Due.{Due}
use Rattle.prof_path.specs.declared.transform.Range.{Range}
use Rattle.prof_address.specs.declared.kind.Filter.{Filter}
use Rattle.prof_address.specs.declared.kind.TheConstants.{FILTERS}
use Rattle.prof_address.specs.Transforms.{u32s, filter_word, implementation_text, transform_text}
use Rattle.prof_request.specs.declared.request.Command.{Command}
use Rattle.prof_request.specs.declared.request.Command.TheVariants.{OpenOn, LoadOn, Close, Push, PopTo, CommitRange, PopRangesTo, SetImplementation, SetSearch, Undo, Redo, Goto, Tree, Inverted, Markers, Address, Save}
use Rattle.prof_request.specs.declared.command_word.CommandWord.{CommandWord}
use Rattle.prof_request.specs.Requests.{is_name_byte, IsName, IsLineText, spaced, rest_text, range_text, command_text, command_goes, IsWrittenCommand}
use Rattle.prof_request.specs.Words.{word_of}

-- ---- names and texts, a byte at a time

-- one byte that passes a test
abbrev pub bytes_that : (ℕ → Bool) → Language ℕ
bytes_that passes = record { text = λ b. b ∷ []; Fits = λ b. passes b ≡ true; goes = λ b c. false }

abbrev pub names : Language (List ℕ)
names = record { text = λ name. name; Fits = IsName; goes = λ name. is_name_byte }

-- the byte may stand in a name behind so many
abbrev pub may_name : ℕ → ℕ → Bool
may_name count b = is_name_byte b && nat_lt count 64

abbrev pub name_chain : Chain ℕ ℕ
name_chain = record {
  items = λ count. bytes_that (may_name count);
  next = λ count b. count + 1;
  ends = λ count. nat_lt 0 count;
  goes = λ count. is_name_byte;
}

-- texts at the end of a line, of a byte or more
abbrev pub some_texts : Language (List ℕ)
some_texts = record { text = λ bytes. bytes; Fits = λ bytes. IsLineText bytes × (bytes ≢ []); goes = λ bytes b. true }

-- the byte may come, and it doesn't end the line
abbrev pub may_stand : Due → ℕ → Bool
may_stand due b = allows due b && not (b == 10)

-- the state: whether a byte has come, and what may come next
abbrev pub text_chain : Chain (Bool × Due) ℕ
text_chain = record {
  items = λ s. bytes_that (may_stand s.1);
  next = λ s b. (true, behind_byte s.1 b);
  ends = λ s. s.0 && is_between s.1;
  goes = λ s b. true;
}

-- the rests of lines
abbrev pub rests : Language (List ℕ)
rests = record { text = rest_text; Fits = IsLineText; goes = λ bytes b. true }

-- ---- what stands behind the word of a command

-- a value, and the space behind it
abbrev pub before_space : {V : Type 0} → Language V → Language V
before_space L = record { text = λ v. spaced (L.text v); Fits = L.Fits; goes = λ v b. false }

-- a version, a space, and more
abbrev pub with_version : {V : Type 0} → Language V → Language (ℕ × V)
with_version L = followed_by (before_space u32s) (λ version. L)

abbrev pub openings : Language (List ℕ × ℕ)
openings = followed_by (before_space names) (λ profile. u32s)

abbrev pub line_ranges : Language Range
line_ranges = record { text = range_text; Fits = λ range. IsI64 range.start × IsI64 range.end; goes = λ range. is_ascii_digit }

abbrev pub filter_words : Language Filter
filter_words = words filter_word (Among FILTERS)

-- a version, and the rest of a line
abbrev pub version_texts : Language (ℕ × List ℕ)
version_texts = followed_by u32s (λ version. rests)

abbrev pub arguments_text : Command → List ℕ
arguments_text (OpenOn profile thread) = spaced profile ++ decimal thread
arguments_text (LoadOn profile) = profile
arguments_text Close = []
arguments_text (Push version transform) = spaced (decimal version) ++ transform_text transform
arguments_text (PopTo version n) = spaced (decimal version) ++ decimal n
arguments_text (CommitRange version range) = spaced (decimal version) ++ range_text range
arguments_text (PopRangesTo version n) = spaced (decimal version) ++ decimal n
arguments_text (SetImplementation version filter) = spaced (decimal version) ++ implementation_text filter
arguments_text (SetSearch version search) = decimal version ++ rest_text search
arguments_text (Undo version) = decimal version
arguments_text (Redo version) = decimal version
arguments_text (Goto version address) = decimal version ++ rest_text address
arguments_text Tree = []
arguments_text Inverted = []
arguments_text (Markers search) = rest_text search
arguments_text Address = []
arguments_text Save = []

-- what stands behind one word
abbrev pub arguments : CommandWord → Language Command
arguments word = record { text = arguments_text; Fits = λ c. IsWrittenCommand c × (word_of c ≡ word); goes = command_goes }

abbrev pub commands : Language Command
commands = record { text = command_text; Fits = IsWrittenCommand; goes = command_goes }
