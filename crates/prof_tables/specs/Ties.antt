-- What the numbers of a thread's rows keep: each is a place in the list that it speaks of.
use Rattle.std.specs.Prelude.{◌≡◌, ◌⊎◌, ℕ, ◌<◌, ◌≤◌, ℤ, pos, negsuc, ◌≤ℤ◌, length, Some, IfSome, IsSome, slice_get}
use Rattle.std.specs.List.{All}
use Rattle.prof_tables.specs.declared.rows.FrameRow.{FrameRow}
use Rattle.prof_tables.specs.declared.rows.StackRow.{StackRow}
use Rattle.prof_tables.specs.declared.rows.SampleRow.{SampleRow}
use Rattle.prof_tables.specs.declared.markers.RawMarker.{RawMarker}
use Rattle.prof_raw.specs.declared.limits.TheConstants.{MOST_FUNCS, MOST_ROWS, MOST_SAMPLES, MOST_STRINGS}
use Rattle.prof_tables.specs.Threads.{Func, SharedTables, ThreadTables}
use Rattle.prof_tables.specs.Frames.{IsFrameOf}
use Rattle.prof_tables.specs.Paths.{PrefixesBelow}

-- a function whose texts are places in the strings, and whose resource is in the table
pub record IsFunc (strings resources : ℕ) (f : Func) : Type 0 where
  pub name : f.name < strings
  pub file : IfSome f.file (λ n. n < strings)
  pub resource : IfSome f.resource (λ r. r < resources)

-- a frame whose function is in the table, and whose category is one of the categories
pub record IsFrame (funcs categories : ℕ) (f : FrameRow) : Type 0 where
  pub func : f.func < funcs
  pub category : IfSome f.category (λ c. c < categories)

-- a stack row of such a function and such a category
pub record IsStackRow (funcs categories : ℕ) (s : StackRow) : Type 0 where
  pub func : s.func < funcs
  pub category : s.category < categories

-- the shared tables have no more rows than they may, and each of their numbers is in its range
pub record AreTied (t : SharedTables) : Type 0 where
  pub few_strings : length t.strings ≤ MOST_STRINGS
  pub few_resources : length t.resources ≤ MOST_FUNCS
  pub few_funcs : length t.funcs ≤ MOST_FUNCS
  pub few_frames : length t.frames ≤ MOST_ROWS
  pub few_stacks : length t.stacks ≤ MOST_ROWS
  pub default : t.default < t.categories
  pub resources : All (λ name. name < length t.strings) t.resources
  pub funcs : All (IsFunc (length t.strings) (length t.resources)) t.funcs
  pub frames : All (IsFrame (length t.funcs) t.categories) t.frames
  pub stacks : All (IsStackRow (length t.funcs) t.categories) t.stacks

-- each stack row has a frame, which gives it its function and its category
pub record AreFrames (t : SharedTables) : Type 0 where
  pub many : length t.stack_frames ≡ length t.stacks
  pub frame : (i j : ℕ) → slice_get t.stack_frames i ≡ Some j → IsFrameOf t i j

-- what each value of the shared tables keeps
pub record IsShared (t : SharedTables) : Type 0 where
  pub tied : AreTied t
  pub frames : AreFrames t
  pub prefixes : PrefixesBelow t.stacks

-- times and weights have at most this size
abbrev pub InRange : ℤ → Type 0
InRange n = (negsuc 8999999999999999999 ≤ℤ n) × (n ≤ℤ pos 9000000000000000000)

-- a sample over so many stack rows
pub record IsSample (stacks : ℕ) (s : SampleRow) : Type 0 where
  pub stack : IfSome s.stack (λ i. i < stacks)
  pub time : InRange s.time
  pub weight : InRange s.weight

-- a range of a list of so many items
abbrev pub IsPart : ℕ → ℕ × ℕ → Type 0
IsPart count part = (part.0 ≤ part.1) × (part.1 ≤ count)

-- A marker over so many strings, with its part of so many texts. The phases 0, 1 and 2 have a start, and 1 and 3 an end.
pub record IsMarker (strings text_count : ℕ) (m : RawMarker) : Type 0 where
  pub name : m.name < strings
  pub phase : m.phase < 4
  pub start : IfSome m.start InRange
  pub end : IfSome m.end InRange
  pub has_start : m.phase < 3 → IsSome m.start
  pub has_end : (m.phase ≡ 1) ⊎ (m.phase ≡ 3) → IsSome m.end
  pub texts : IsPart text_count m.texts

-- a thread's own part over the tables that it stands on
pub record AreOwn (t : ThreadTables) : Type 0 where
  pub few_samples : length t.samples ≤ MOST_SAMPLES
  pub samples : All (IsSample (length t.shared.stacks)) t.samples
  pub few_markers : length t.markers.rows ≤ MOST_ROWS
  pub markers : All (IsMarker (length t.shared.strings) (length t.markers.texts)) t.markers.rows
