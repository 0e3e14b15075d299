-- Commands by their words.
use Rattle.std.proofs.Common.{◌≡◌, ℕ, List, [], ◌∷◌, ◌++◌, refl, sym, subst, arith, inl, inr}
use Rattle.std.specs.Prelude.{Result, Ok, Err}
use Rattle.prof_spell.specs.Spelling.{Language, Apart, IsTaken, Reads, Splits}
use Rattle.prof_spell.specs.declared.cursor.Stop.{Stop}
use Rattle.prof_spell.specs.Pieces.{Among, literal}
use Rattle.prof_spell.specs.Readings.{Readable}
use Rattle.prof_spell.proofs.Words.{apart_any, splits_literal, splits_words}
use Rattle.prof_spell.proofs.Parts.{Leads, Built, err_behind, err_built, taken_behind, taken_built, splits_behind, splits_built}
use Rattle.prof_spell.proofs.Readings.{reading_literal, reading_words, reading_built, reading_behind}
use Rattle.prof_path.specs.declared.transform.Range.{Range}
use Rattle.prof_path.specs.declared.transform.Implementation.TheVariants as i
use Rattle.prof_path.specs.declared.transform.Transform.{Transform}
use Rattle.prof_path.specs.declared.transform.Transform.TheVariants.{MergeFunction}
use Rattle.prof_address.specs.declared.kind.Filter.{Filter}
use Rattle.prof_address.specs.declared.kind.Form.TheVariants.{Second}
use Rattle.prof_address.specs.Transforms.{u32s, transforms}
use Rattle.prof_address.proofs.Filters.{splits_u32s, reading_u32}
use Rattle.prof_address.proofs.ByKind.{splits_transforms, reading_transform}
use Rattle.prof_request.specs.declared.request.Command.{Command}
use Rattle.prof_request.specs.declared.request.Command.TheVariants.{OpenOn, LoadOn, Close, Push, PopTo, CommitRange, PopRangesTo, SetImplementation, SetSearch, Undo, Redo, Goto, Tree, Inverted, Markers, Address, Save}
use Rattle.prof_request.specs.declared.command_word.CommandWord.{CommandWord}
use Rattle.prof_request.specs.declared.command_word.CommandWord.TheVariants as w
use Rattle.prof_request.specs.declared.command_word.TheConstants.{COMMAND_WORDS}
use Rattle.prof_request.specs.Requests.{command_text, command_goes, IsWrittenCommand, IsName}
use Rattle.prof_request.specs.Words.{word_text, word_of, command_words}
use Rattle.prof_request.specs.Reading.{names, rests, with_version, openings, line_ranges, filter_words, version_texts, arguments_text, arguments, commands}
use Rattle.prof_request.proofs.NameLemmas.{splits_names, reading_name}
use Rattle.prof_request.proofs.RestLemmas.{line_none, splits_rests, reading_rest}
use Rattle.prof_request.proofs.SpacedLemmas.{no_range, no_range_fits, as_filter, among_filters, splits_with_version, reading_with_version, splits_openings, reading_opening, splits_line_ranges, reading_line_range, splits_filter_words, reading_filter_word, splits_version_texts, reading_version_text}

-- ---- what stands behind each word

abbrev pub nothing : Language (Unit {0})
nothing = literal []

abbrev pub Values : CommandWord → Type 0
Values w.Open = List ℕ × ℕ
Values w.Load = List ℕ
Values w.Close = Unit {0}
Values w.Push = ℕ × Transform
Values w.PopTo = ℕ × ℕ
Values w.Range = ℕ × Range
Values w.PopRangesTo = ℕ × ℕ
Values w.Implementation = ℕ × Filter
Values w.Search = ℕ × List ℕ
Values w.Undo = ℕ
Values w.Redo = ℕ
Values w.Goto = ℕ × List ℕ
Values w.Tree = Unit {0}
Values w.Inverted = Unit {0}
Values w.Markers = List ℕ
Values w.Address = Unit {0}
Values w.Save = Unit {0}

abbrev pub values : (word : CommandWord) → Language (Values word)
values w.Open = openings
values w.Load = names
values w.Close = nothing
values w.Push = with_version (transforms Second)
values w.PopTo = with_version u32s
values w.Range = with_version line_ranges
values w.PopRangesTo = with_version u32s
values w.Implementation = with_version filter_words
values w.Search = version_texts
values w.Undo = u32s
values w.Redo = u32s
values w.Goto = version_texts
values w.Tree = nothing
values w.Inverted = nothing
values w.Markers = rests
values w.Address = nothing
values w.Save = nothing

-- the command of a word and its values
abbrev pub built : (word : CommandWord) → Values word → Command
built w.Open y = OpenOn y.0 y.1
built w.Load y = LoadOn y
built w.Close y = Close
built w.Push y = Push y.0 y.1
built w.PopTo y = PopTo y.0 y.1
built w.Range y = CommitRange y.0 y.1
built w.PopRangesTo y = PopRangesTo y.0 y.1
built w.Implementation y = SetImplementation y.0 y.1.0
built w.Search y = SetSearch y.0 y.1
built w.Undo y = Undo y
built w.Redo y = Redo y
built w.Goto y = Goto y.0 y.1
built w.Tree y = Tree
built w.Inverted y = Inverted
built w.Markers y = Markers y
built w.Address y = Address
built w.Save y = Save

-- the values of a command
record Parts (word : CommandWord) (c : Command) : Type 0 where
  values_of : Values word
  same : c ≡ built word values_of
  fits : IsWrittenCommand c → (values word).Fits values_of
  apart : (m : List ℕ) → Apart (command_goes c) m → Apart ((values word).goes values_of) m

parts : (c : Command) → Parts (word_of c) c
parts (OpenOn profile thread) = record { values_of = (profile, thread); same = refl; fits = λ f. f; apart = λ m a. a }
parts (LoadOn profile) = record { values_of = profile; same = refl; fits = λ f. f; apart = λ m a. a }
parts Close = record { values_of = tt; same = refl; fits = λ f. f; apart = λ m a. apart_any m }
parts (Push version transform) = record { values_of = (version, transform); same = refl; fits = λ f. f; apart = λ m a. a }
parts (PopTo version n) = record { values_of = (version, n); same = refl; fits = λ f. f; apart = λ m a. a }
parts (CommitRange version range) = record { values_of = (version, range); same = refl; fits = λ f. f; apart = λ m a. a }
parts (PopRangesTo version n) = record { values_of = (version, n); same = refl; fits = λ f. f; apart = λ m a. a }
parts (SetImplementation version filter) = record { values_of = (version, as_filter filter); same = refl; fits = λ f. (f, among_filters filter); apart = λ m a. a }
parts (SetSearch version search) = record { values_of = (version, search); same = refl; fits = λ f. f; apart = λ m a. a }
parts (Undo version) = record { values_of = version; same = refl; fits = λ f. f; apart = λ m a. a }
parts (Redo version) = record { values_of = version; same = refl; fits = λ f. f; apart = λ m a. a }
parts (Goto version address) = record { values_of = (version, address); same = refl; fits = λ f. f; apart = λ m a. a }
parts Tree = record { values_of = tt; same = refl; fits = λ f. f; apart = λ m a. apart_any m }
parts Inverted = record { values_of = tt; same = refl; fits = λ f. f; apart = λ m a. apart_any m }
parts (Markers search) = record { values_of = search; same = refl; fits = λ f. f; apart = λ m a. a }
parts Address = record { values_of = tt; same = refl; fits = λ f. f; apart = λ m a. apart_any m }
parts Save = record { values_of = tt; same = refl; fits = λ f. f; apart = λ m a. apart_any m }

fitting : (word : CommandWord) (y : Values word) → (values word).Fits y → IsWrittenCommand (built word y)
fitting w.Open y f = f
fitting w.Load y f = f
fitting w.Close y f = f
fitting w.Push y f = f
fitting w.PopTo y f = f
fitting w.Range y f = f
fitting w.PopRangesTo y f = f
fitting w.Implementation y f = f.0
fitting w.Search y f = f
fitting w.Undo y f = f
fitting w.Redo y f = f
fitting w.Goto y f = f
fitting w.Tree y f = f
fitting w.Inverted y f = f
fitting w.Markers y f = f
fitting w.Address y f = f
fitting w.Save y f = f

word_built : (word : CommandWord) (y : Values word) → word_of (built word y) ≡ word
word_built w.Open y = refl
word_built w.Load y = refl
word_built w.Close y = refl
word_built w.Push y = refl
word_built w.PopTo y = refl
word_built w.Range y = refl
word_built w.PopRangesTo y = refl
word_built w.Implementation y = refl
word_built w.Search y = refl
word_built w.Undo y = refl
word_built w.Redo y = refl
word_built w.Goto y = refl
word_built w.Tree y = refl
word_built w.Inverted y = refl
word_built w.Markers y = refl
word_built w.Address y = refl
word_built w.Save y = refl

text_built : (word : CommandWord) (y : Values word) → arguments_text (built word y) ≡ (values word).text y
text_built w.Open y = refl
text_built w.Load y = refl
text_built w.Close y = refl
text_built w.Push y = refl
text_built w.PopTo y = refl
text_built w.Range y = refl
text_built w.PopRangesTo y = refl
text_built w.Implementation y = refl
text_built w.Search y = refl
text_built w.Undo y = refl
text_built w.Redo y = refl
text_built w.Goto y = refl
text_built w.Tree y = refl
text_built w.Inverted y = refl
text_built w.Markers y = refl
text_built w.Address y = refl
text_built w.Save y = refl

ends : (word : CommandWord) (y : Values word) (left : List ℕ) → Apart ((values word).goes y) left → Apart (command_goes (built word y)) left
ends w.Open y left a = a
ends w.Load y left a = a
ends w.Close y left a = apart_any left
ends w.Push y left a = a
ends w.PopTo y left a = a
ends w.Range y left a = a
ends w.PopRangesTo y left a = a
ends w.Implementation y left a = apart_any left
ends w.Search y left a = a
ends w.Undo y left a = a
ends w.Redo y left a = a
ends w.Goto y left a = a
ends w.Tree y left a = apart_any left
ends w.Inverted y left a = apart_any left
ends w.Markers y left a = a
ends w.Address y left a = apart_any left
ends w.Save y left a = apart_any left

pub arguments_built : (word : CommandWord) → Built (arguments word) (values word) (built word)
arguments_built word = record {
  into = λ y f. ((fitting word y f, word_built word y), text_built word y);
  from = λ c f. let p : Parts word c = subst (λ (v : CommandWord). Parts v c) f.1 (parts c) in (p.values_of, p.same, p.fits f.0, p.apart);
}

splits_values : (word : CommandWord) → Splits (values word)
splits_values w.Open = splits_openings
splits_values w.Load = splits_names
splits_values w.Close = splits_literal []
splits_values w.Push = splits_with_version (transforms Second) (MergeFunction 0) (omega arith, inl refl) (splits_transforms Second)
splits_values w.PopTo = splits_with_version u32s 0 (omega arith) splits_u32s
splits_values w.Range = splits_with_version line_ranges no_range no_range_fits splits_line_ranges
splits_values w.PopRangesTo = splits_with_version u32s 0 (omega arith) splits_u32s
splits_values w.Implementation = splits_with_version filter_words (as_filter i.Combined) (inl refl) splits_filter_words
splits_values w.Search = splits_version_texts
splits_values w.Undo = splits_u32s
splits_values w.Redo = splits_u32s
splits_values w.Goto = splits_version_texts
splits_values w.Tree = splits_literal []
splits_values w.Inverted = splits_literal []
splits_values w.Markers = splits_rests
splits_values w.Address = splits_literal []
splits_values w.Save = splits_literal []

reading_values : (word : CommandWord) → Readable (values word)
reading_values w.Open = reading_opening
reading_values w.Load = reading_name
reading_values w.Close = reading_literal []
reading_values w.Push = reading_with_version (transforms Second) (MergeFunction 0) (omega arith, inl refl) (reading_transform Second)
reading_values w.PopTo = reading_with_version u32s 0 (omega arith) reading_u32
reading_values w.Range = reading_with_version line_ranges no_range no_range_fits reading_line_range
reading_values w.PopRangesTo = reading_with_version u32s 0 (omega arith) reading_u32
reading_values w.Implementation = reading_with_version filter_words (as_filter i.Combined) (inl refl) reading_filter_word
reading_values w.Search = reading_version_text
reading_values w.Undo = reading_u32
reading_values w.Redo = reading_u32
reading_values w.Goto = reading_version_text
reading_values w.Tree = reading_literal []
reading_values w.Inverted = reading_literal []
reading_values w.Markers = reading_rest
reading_values w.Address = reading_literal []
reading_values w.Save = reading_literal []

-- the values were read, behind this word
pub arguments_taken : (word v : CommandWord) (bytes left : List ℕ) (y : Values v) → word ≡ v → IsTaken (values v) bytes y left → IsTaken (arguments word) bytes (built v y) left
arguments_taken word v bytes left y e t = subst (λ (u : CommandWord). IsTaken (arguments u) bytes (built v y) left) (sym e)
    (taken_built (arguments v) (values v) (built v) bytes left y (arguments_built v) (ends v y left) t)

pub arguments_err : (word v : CommandWord) (bytes left : List ℕ) (stop : Stop) → word ≡ v → Reads (values v) bytes (Err stop) left → Reads (arguments word) bytes (Err stop) left
arguments_err word v bytes left stop e s = subst (λ (u : CommandWord). Reads (arguments u) bytes (Err stop) left) (sym e)
    (err_built (arguments v) (values v) (built v) bytes left stop (arguments_built v) s)

pub nothing_taken : (bytes : List ℕ) → IsTaken nothing bytes tt bytes
nothing_taken bytes = record { fits = tt; split = refl; apart = apart_any bytes }

-- ---- commands

cut : (c : Command) → command_text c ≡ word_text (word_of c) ++ arguments_text c
cut (OpenOn profile thread) = refl
cut (LoadOn profile) = refl
cut Close = refl
cut (Push version transform) = refl
cut (PopTo version n) = refl
cut (CommitRange version range) = refl
cut (PopRangesTo version n) = refl
cut (SetImplementation version filter) = refl
cut (SetSearch version search) = refl
cut (Undo version) = refl
cut (Redo version) = refl
cut (Goto version address) = refl
cut Tree = refl
cut Inverted = refl
cut (Markers search) = refl
cut Address = refl
cut Save = refl

among : (word : CommandWord) → Among COMMAND_WORDS word
among w.Open = inl refl
among w.Load = inr (inl refl)
among w.Close = inr (inr (inl refl))
among w.Push = inr (inr (inr (inl refl)))
among w.PopTo = inr (inr (inr (inr (inl refl))))
among w.Range = inr (inr (inr (inr (inr (inl refl)))))
among w.PopRangesTo = inr (inr (inr (inr (inr (inr (inl refl))))))
among w.Implementation = inr (inr (inr (inr (inr (inr (inr (inl refl)))))))
among w.Search = inr (inr (inr (inr (inr (inr (inr (inr (inl refl))))))))
among w.Undo = inr (inr (inr (inr (inr (inr (inr (inr (inr (inl refl)))))))))
among w.Redo = inr (inr (inr (inr (inr (inr (inr (inr (inr (inr (inl refl))))))))))
among w.Goto = inr (inr (inr (inr (inr (inr (inr (inr (inr (inr (inr (inl refl)))))))))))
among w.Tree = inr (inr (inr (inr (inr (inr (inr (inr (inr (inr (inr (inr (inl refl))))))))))))
among w.Inverted = inr (inr (inr (inr (inr (inr (inr (inr (inr (inr (inr (inr (inr (inl refl)))))))))))))
among w.Markers = inr (inr (inr (inr (inr (inr (inr (inr (inr (inr (inr (inr (inr (inr (inl refl))))))))))))))
among w.Address = inr (inr (inr (inr (inr (inr (inr (inr (inr (inr (inr (inr (inr (inr (inr (inl refl)))))))))))))))
among w.Save = inr (inr (inr (inr (inr (inr (inr (inr (inr (inr (inr (inr (inr (inr (inr (inr (inl refl))))))))))))))))

a_name : IsName (97 ∷ [])
a_name = record { bytes = (refl, tt); some = omega arith; few = omega arith }

-- a command of the word
some : (word : CommandWord) → (c : Command) × IsWrittenCommand c × (word_of c ≡ word)
some w.Open = (OpenOn (97 ∷ []) 0, (a_name, omega arith), refl)
some w.Load = (LoadOn (97 ∷ []), a_name, refl)
some w.Close = (Close, tt, refl)
some w.Push = (Push 0 (MergeFunction 0), (omega arith, (omega arith, inl refl)), refl)
some w.PopTo = (PopTo 0 0, (omega arith, omega arith), refl)
some w.Range = (CommitRange 0 no_range, (omega arith, no_range_fits), refl)
some w.PopRangesTo = (PopRangesTo 0 0, (omega arith, omega arith), refl)
some w.Implementation = (SetImplementation 0 i.Combined, omega arith, refl)
some w.Search = (SetSearch 0 [], (omega arith, line_none), refl)
some w.Undo = (Undo 0, omega arith, refl)
some w.Redo = (Redo 0, omega arith, refl)
some w.Goto = (Goto 0 [], (omega arith, line_none), refl)
some w.Tree = (Tree, tt, refl)
some w.Inverted = (Inverted, tt, refl)
some w.Markers = (Markers [], line_none, refl)
some w.Address = (Address, tt, refl)
some w.Save = (Save, tt, refl)

pub command_leads : Leads commands command_words word_of arguments_text
command_leads = record {
  cut = λ c f. cut c;
  fits = λ c f. among (word_of c);
  some = λ word f. some word;
  apart = λ c m f a. apart_any (arguments_text c ++ m);
}

pub splits_command_words : Splits command_words
splits_command_words = splits_words word_text COMMAND_WORDS refl

pub splits_commands : Splits commands
splits_commands = splits_behind commands command_words word_of arguments_text command_leads splits_command_words
    (λ word. splits_built (arguments word) (values word) (built word) (arguments_built word) (splits_values word))

reading_command_word : Readable command_words
reading_command_word = reading_words word_text w.Open (w.Load ∷ w.Close ∷ w.Push ∷ w.PopTo ∷ w.Range ∷ w.PopRangesTo ∷ w.Implementation ∷ w.Search ∷ w.Undo ∷ w.Redo ∷ w.Goto ∷ w.Tree ∷ w.Inverted ∷ w.Markers ∷ w.Address ∷ w.Save ∷ [])

pub reading_command : Readable commands
reading_command = reading_behind commands command_words word_of arguments_text command_leads splits_command_words reading_command_word
    (λ word f. reading_built (arguments word) (values word) (built word) (arguments_built word) (λ y left g a. ends word y left a) (reading_values word))

-- the word was read, and then what stands behind it
pub command_reads : (bytes mid left : List ℕ) (word : CommandWord) (r : Result Command Stop) → IsTaken command_words bytes word mid → Reads (arguments word) mid r left → Reads commands bytes r left
command_reads bytes mid left word (Ok c) t u = taken_behind commands command_words word_of arguments_text bytes mid left word c command_leads t u
command_reads bytes mid left word (Err stop) t s = err_behind commands command_words word_of arguments_text bytes mid left word stop command_leads splits_command_words t s
