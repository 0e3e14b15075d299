-- Worked profiles: what they are, and what they break.
use Rattle.std.proofs.Common.{◌≡◌, ℕ, List, [], ◌∷◌, Option, None, Some, Bool, true, false, refl}
use Rattle.std.specs.Prelude.{ℤ, codes, pos, negsuc}
use Rattle.prof_time.specs.Scaled.{over, under}
use Rattle.prof_time.specs.TakenApart.{numeral_of}
use Rattle.prof_grammar.specs.Value.{Value, Values, Members, value, no_values, member, no_members}
use Rattle.prof_raw.specs.declared.rule.Rule.{Rule}
use Rattle.prof_raw.specs.declared.rule.Rule.TheVariants as rule
use Rattle.prof_raw.specs.declared.rule.Table.{Table}
use Rattle.prof_raw.specs.declared.rule.Table.TheVariants as table
use Rattle.prof_raw.specs.declared.rule.Column.{Column}
use Rattle.prof_raw.specs.declared.rule.Column.TheVariants as column
use Rattle.prof_raw.specs.declared.rule.Broken.{Broken}
use Rattle.prof_tables.specs.declared.rows.StackRow.{StackRow}
use Rattle.prof_tables.specs.declared.rows.SampleRow.{SampleRow}
use Rattle.prof_tables.specs.declared.markers.RawMarker.{RawMarker}
use Rattle.prof_raw.specs.Checks.{strings_broken, resources_broken, funcs_broken, frames_broken, stacks_broken, shared_broken, samples_broken, markers_broken, own_broken}
use Rattle.prof_tables.specs.Rows.{resources_of, funcs_of, frames_of, stack_frames_of, stacks_below, stacks_of, samples_of, marker_rows_of, markers_of}
use Rattle.prof_tables.specs.Threads.{Func, SharedTables}
use Rattle.prof_raw.specs.declared.raw.Unit.TheVariants as unit
use Rattle.prof_layout.specs.Markers.{all_texts, ranges_from}
use Rattle.prof_layout.specs.Numbers.{scaled_of, whole_of}
use Rattle.prof_layout.specs.Tables.{raw_shared, raw_tables, raw_own}
use Rattle.prof_layout.specs.Profile.{unknown_format, processed_broken, broken, profile_of, categories_broken, category_names, default_category, is_shared, shared_tables, base_broken, threads_broken, thread_fails, thread_tables}

-- a member, and the members behind it
abbrev pub named : List ℕ → Value → Members → Members
named name v ms = member name v ms

abbrev list : List Value → Values
list [] = no_values
list (v ∷ vs) = value v (list vs)

abbrev pub arr : List Value → Value
arr vs = Value.array (list vs)

abbrev pub num : List ℕ → Value
num text = Value.number text

abbrev pub n0 : Value
n0 = num (codes "0")

abbrev pub n1 : Value
n1 = num (codes "1")

abbrev pub n2 : Value
n2 = num (codes "2")

abbrev pub n3 : Value
n3 = num (codes "3")

abbrev pub n4 : Value
n4 = num (codes "4")

abbrev pub n5 : Value
n5 = num (codes "5")

abbrev pub n6 : Value
n6 = num (codes "6")

abbrev pub minus_one : Value
minus_one = num (codes "-1")

abbrev pub text : List ℕ → Value
text t = Value.string t

abbrev pub null : Value
null = Value.null

abbrev pub no : Value
no = Value.boolean false

abbrev pub strings : Value
strings = arr (text (codes "A") ∷ text (codes "B") ∷ text (codes "C") ∷ text (codes "D") ∷ text (codes "app") ∷ [])

abbrev pub resources : Value
resources = Value.object (named (codes "name") (arr (n4 ∷ [])) (named (codes "length") n1 no_members))

abbrev pub funcs : Value
funcs = Value.object
    (named (codes "name") (arr (n0 ∷ n1 ∷ n2 ∷ n3 ∷ []))
    (named (codes "isJS") (arr (no ∷ no ∷ no ∷ Value.boolean true ∷ []))
    (named (codes "relevantForJS") (arr (no ∷ no ∷ no ∷ no ∷ []))
    (named (codes "resource") (arr (minus_one ∷ n0 ∷ n0 ∷ minus_one ∷ []))
    (named (codes "fileName") (arr (null ∷ null ∷ null ∷ null ∷ []))
    (named (codes "length") n4 no_members))))))

abbrev pub frames : Value
frames = Value.object
    (named (codes "func") (arr (n0 ∷ n1 ∷ n2 ∷ n3 ∷ []))
    (named (codes "category") (arr (null ∷ null ∷ null ∷ null ∷ []))
    (named (codes "length") n4 no_members)))

abbrev pub stacks : Value
stacks = Value.object
    (named (codes "prefix") (arr (null ∷ n0 ∷ n1 ∷ n2 ∷ n3 ∷ null ∷ []))
    (named (codes "frame") (arr (n0 ∷ n1 ∷ n2 ∷ n1 ∷ n3 ∷ n3 ∷ []))
    (named (codes "length") n6 no_members)))

abbrev pub samples : Value
samples = Value.object
    (named (codes "stack") (arr (n2 ∷ n4 ∷ n4 ∷ n1 ∷ n5 ∷ null ∷ []))
    (named (codes "time") (arr (n0 ∷ n1 ∷ n2 ∷ n3 ∷ n4 ∷ n5 ∷ []))
    (named (codes "length") n6 no_members)))

-- the tables that threads may share, with these stacks, and the members behind them
abbrev pub tables : Value → Members → Members
tables st rest =
    (named (codes "stringArray") strings
    (named (codes "resourceTable") resources
    (named (codes "funcTable") funcs
    (named (codes "frameTable") frames
    (named (codes "stackTable") st rest)))))

-- a thread with these stacks and samples
abbrev pub thread : Value → Value → Value
thread st sm = Value.object (named (codes "name") (text (codes "T")) (tables st (named (codes "samples") sm no_members)))

abbrev pub meta : Value
meta = Value.object (named (codes "preprocessedProfileVersion") (num (codes "47")) no_members)

abbrev pub profile : List Value → Value
profile threads = Value.object (named (codes "meta") meta (named (codes "libs") (arr []) (named (codes "threads") (arr threads) no_members)))

abbrev pub P : Value
P = profile (thread stacks samples ∷ [])

-- the same tables, shared by two threads
abbrev pub own_thread : List ℕ → Value → Value
own_thread t sm = Value.object (named (codes "name") (text t) (named (codes "samples") sm no_members))

abbrev pub few_samples : Value
few_samples = Value.object (named (codes "stack") (arr (n5 ∷ n1 ∷ [])) (named (codes "time") (arr (n0 ∷ n1 ∷ [])) no_members))

abbrev pub sharing : Members → Value
sharing shared = Value.object
    (named (codes "meta") meta
    (named (codes "libs") (arr [])
    (named (codes "shared") (Value.object shared)
    (named (codes "threads") (arr (own_thread (codes "T") samples ∷ own_thread (codes "U") few_samples ∷ [])) no_members))))

abbrev pub shared_tables_but_strings : Members
shared_tables_but_strings = named (codes "resourceTable") resources (named (codes "funcTable") funcs (named (codes "frameTable") frames (named (codes "stackTable") stacks no_members)))

-- a prefix that is greater than its row
abbrev pub far_prefix : Value
far_prefix = Value.object
    (named (codes "prefix") (arr (null ∷ n0 ∷ n1 ∷ n2 ∷ n3 ∷ n6 ∷ []))
    (named (codes "frame") (arr (n0 ∷ n1 ∷ n2 ∷ n1 ∷ n3 ∷ n3 ∷ [])) no_members))

-- one function and one frame, with these frames of stack rows, prefixes and samples
abbrev pub small_thread : List Value → List Value → Members → Value
small_thread fs ps sm = Value.object
    (named (codes "stringArray") (arr (text (codes "A") ∷ []))
    (named (codes "funcTable") (Value.object (named (codes "name") (arr (n0 ∷ [])) no_members))
    (named (codes "frameTable") (Value.object (named (codes "func") (arr (n0 ∷ [])) no_members))
    (named (codes "stackTable") (Value.object (named (codes "frame") (arr fs) (named (codes "prefix") (arr ps) no_members)))
    (named (codes "samples") (Value.object sm) no_members)))))

abbrev pub no_samples : Members
no_samples = named (codes "stack") (arr []) (named (codes "time") (arr []) no_members)

abbrev pub small : Members → Value
small sm = profile (small_thread (n0 ∷ []) (null ∷ []) sm ∷ [])

abbrev pub small_stacks : List Value → List Value → Value
small_stacks fs ps = profile (small_thread fs ps no_samples ∷ [])

-- two samples at the first stack row, at the times 0 and 1
abbrev pub two_samples : Members → Members
two_samples rest = named (codes "stack") (arr (n0 ∷ n0 ∷ [])) (named (codes "time") (arr (n0 ∷ n1 ∷ [])) rest)

-- the same, at the sums of these deltas, and with this column of times
abbrev pub with_deltas : Value → Value → Members
with_deltas deltas times = named (codes "stack") (arr (n0 ∷ n0 ∷ [])) (named (codes "timeDeltas") deltas (named (codes "time") times no_members))

abbrev pub with_weights : Value → Members → Members
with_weights weights rest = two_samples (named (codes "weight") weights rest)

abbrev pub with_type : List ℕ → Members
with_type t = named (codes "weightType") (text t) no_members

-- P with a frame of a function that isn't there, and a bad prefix that stands before it in the text
abbrev pub two_rules : Value
two_rules = Value.object (named (codes "name") (text (codes "T"))
    (named (codes "stackTable") far_prefix
    (named (codes "stringArray") strings
    (named (codes "funcTable") funcs
    (named (codes "frameTable") (Value.object (named (codes "func") (arr (n0 ∷ n1 ∷ n2 ∷ n6 ∷ [])) no_members))
    (named (codes "resourceTable") resources
    (named (codes "samples") samples no_members)))))))

-- one marker of this phase, start, end and data
abbrev pub marked : Value → Value → Value → Value → Value
marked phase start end details = profile (Value.object
    (named (codes "stringArray") (arr (text (codes "A") ∷ []))
    (named (codes "funcTable") (Value.object (named (codes "name") (arr []) no_members))
    (named (codes "frameTable") (Value.object (named (codes "func") (arr []) no_members))
    (named (codes "stackTable") (Value.object (named (codes "frame") (arr []) (named (codes "prefix") (arr []) no_members)))
    (named (codes "samples") (Value.object no_samples)
    (named (codes "markers") (Value.object
    (named (codes "phase") (arr (phase ∷ []))
    (named (codes "name") (arr (n0 ∷ []))
    (named (codes "startTime") (arr (start ∷ []))
    (named (codes "endTime") (arr (end ∷ []))
    (named (codes "data") (arr (details ∷ [])) no_members)))))) no_members)))))) ∷ [])

-- members of one name: the first place, and the last value
abbrev pub doubled_data : Value
doubled_data = Value.object (named (codes "a") (text (codes "x")) (named (codes "b") (text (codes "y")) (named (codes "c") n1 (named (codes "a") (text (codes "z")) no_members))))

-- P with two more strings and five markers
abbrev pub more_strings : Value
more_strings = arr (text (codes "A") ∷ text (codes "B") ∷ text (codes "C") ∷ text (codes "D") ∷ text (codes "app") ∷ text (codes "gc") ∷ text (codes "load") ∷ [])

abbrev pub markers : Value
markers = Value.object
    (named (codes "phase") (arr (n2 ∷ n0 ∷ n3 ∷ n3 ∷ n2 ∷ []))
    (named (codes "name") (arr (n5 ∷ n6 ∷ n5 ∷ n5 ∷ n6 ∷ []))
    (named (codes "startTime") (arr (n1 ∷ n2 ∷ null ∷ null ∷ num (codes "4.5") ∷ []))
    (named (codes "endTime") (arr (null ∷ null ∷ n3 ∷ n4 ∷ null ∷ []))
    (named (codes "data") (arr (null ∷ Value.object (named (codes "url") (text (codes "http://a/")) no_members) ∷ null ∷ null ∷ null ∷ [])) no_members)))))

-- the members of its thread; the later list of strings counts
abbrev pub m_thread : Value
m_thread = Value.object (named (codes "name") (text (codes "T")) (tables stacks (named (codes "samples") samples (named (codes "stringArray") more_strings (named (codes "markers") markers no_members)))))

-- three categories, of which the first is grey, and frames of each
abbrev pub category : List ℕ → List ℕ → Value
category n color = Value.object (named (codes "name") (text n) (named (codes "color") (text color) no_members))

abbrev pub with_categories : List Value → Members → Value
with_categories cs rest = Value.object (named (codes "meta") (Value.object (named (codes "preprocessedProfileVersion") n1 (named (codes "categories") (arr cs) no_members))) rest)

abbrev pub three_categories : List Value
three_categories = category (codes "Other") (codes "grey") ∷ category (codes "Layout") (codes "blue") ∷ category (codes "Graphics") (codes "green") ∷ []

abbrev pub q_thread : Value → Value
q_thread categories = Value.object
    (named (codes "stringArray") strings
    (named (codes "resourceTable") (Value.object (named (codes "name") (arr (n4 ∷ [])) no_members))
    (named (codes "funcTable") (Value.object (named (codes "name") (arr (n0 ∷ n1 ∷ n2 ∷ [])) (named (codes "resource") (arr (minus_one ∷ n0 ∷ n0 ∷ [])) no_members)))
    (named (codes "frameTable") (Value.object (named (codes "func") (arr (n0 ∷ n1 ∷ n2 ∷ [])) (named (codes "category") categories no_members)))
    (named (codes "stackTable") (Value.object (named (codes "frame") (arr (n0 ∷ n1 ∷ n2 ∷ [])) (named (codes "prefix") (arr (null ∷ n0 ∷ n0 ∷ [])) no_members)))
    (named (codes "samples") (Value.object (named (codes "stack") (arr (n1 ∷ n2 ∷ n2 ∷ [])) (named (codes "time") (arr (n0 ∷ n1 ∷ n2 ∷ [])) no_members))) no_members))))))

abbrev pub Q : Value
Q = with_categories three_categories (named (codes "threads") (arr (q_thread (arr (n0 ∷ n1 ∷ n2 ∷ [])) ∷ [])) no_members)

abbrev pub at : Rule → Option ℕ → Table → Column → Option ℕ → Option Broken
at r thread t c row = Some (record { rule = r; thread = thread; table = t; column = c; row = row })

pub record AreRows : Type 0 where
  p : broken P ≡ None
  shared : broken (sharing (tables stacks no_members)) ≡ None
  shared_prefix : broken (sharing (tables far_prefix no_members)) ≡ at rule.PrefixOrder None table.StackTable column.Prefix (Some 5)
  shared_strings : broken (sharing shared_tables_but_strings) ≡ at rule.Missing None table.StringArray column.List None
  shared_stacks : broken (sharing (named (codes "stringArray") strings (named (codes "funcTable") funcs (named (codes "frameTable") frames (named (codes "stackTable") n5 no_members))))) ≡
      at rule.IndexOut None table.FuncTable column.Resource (Some 1)
  -- a frame that isn't there, and a row that is its own prefix
  frame_out : broken (small_stacks (n0 ∷ n1 ∷ []) (null ∷ n1 ∷ [])) ≡ at rule.IndexOut (Some 0) table.StackTable column.Frame (Some 1)
  prefix_same : broken (small_stacks (n0 ∷ n0 ∷ []) (null ∷ n1 ∷ [])) ≡ at rule.PrefixOrder (Some 0) table.StackTable column.Prefix (Some 1)
  -- a negative prefix and one that isn't whole is out of range, and one that is far out isn't below its row
  prefix_negative : broken (small_stacks (n0 ∷ n0 ∷ []) (null ∷ minus_one ∷ [])) ≡ at rule.IndexOut (Some 0) table.StackTable column.Prefix (Some 1)
  prefix_broken : broken (small_stacks (n0 ∷ n0 ∷ []) (null ∷ num (codes "1.5") ∷ [])) ≡ at rule.IndexOut (Some 0) table.StackTable column.Prefix (Some 1)
  prefix_far : broken (small_stacks (n0 ∷ n0 ∷ []) (null ∷ num (codes "1e30") ∷ [])) ≡ at rule.PrefixOrder (Some 0) table.StackTable column.Prefix (Some 1)
  frame_far : broken (small_stacks (n0 ∷ num (codes "1e30") ∷ []) (null ∷ n0 ∷ [])) ≡ at rule.IndexOut (Some 0) table.StackTable column.Frame (Some 1)
  -- of two columns of one name the last counts
  doubled : broken (small (named (codes "stack") null (two_samples no_members))) ≡ None
  doubled_last : broken (small (two_samples (named (codes "stack") null no_members))) ≡ at rule.WrongKind (Some 0) table.Samples column.Stack None
  -- an optional column that is null, and one of another length
  weight_null : broken (small (with_weights null no_members)) ≡ None
  weight_short : broken (small (with_weights (arr (n1 ∷ [])) no_members)) ≡ at rule.LengthDiffers (Some 0) table.Samples column.Weight None
  -- the later rule in the text is the earlier check
  two : broken (profile (two_rules ∷ [])) ≡ at rule.IndexOut (Some 0) table.FrameTable column.Func (Some 3)
  -- the sum of the deltas is out of range at the later row
  deltas : broken (small (with_deltas (arr (num (codes "9000000000000") ∷ num (codes "0.000001") ∷ [])) null)) ≡ at rule.NumberRange (Some 0) table.Samples column.TimeDeltas (Some 1)
  deltas_fit : broken (small (with_deltas (arr (num (codes "9000000000000") ∷ minus_one ∷ [])) null)) ≡ None
  both_times : broken (small (with_deltas (arr (n1 ∷ null ∷ [])) (arr (n0 ∷ null ∷ [])))) ≡ at rule.WrongKind (Some 0) table.Samples column.Time (Some 1)
  no_times : broken (small (named (codes "stack") (arr []) no_members)) ≡ at rule.Missing (Some 0) table.Samples column.Time None
  -- weights before their type
  weight_type : broken (small (with_weights (arr (n1 ∷ n2 ∷ [])) (with_type (codes "lines")))) ≡ at rule.WeightType (Some 0) table.Samples column.WeightType None
  weight_far : broken (small (with_weights (arr (n1 ∷ num (codes "9000000000001") ∷ [])) (with_type (codes "tracing-ms")))) ≡ at rule.NumberRange (Some 0) table.Samples column.Weight (Some 1)
  weight_bytes : broken (small (with_weights (arr (n1 ∷ num (codes "9000000000001") ∷ [])) (with_type (codes "bytes")))) ≡ None
  -- a said length that is no number counts as none
  length_text : broken (small (two_samples (named (codes "length") (text (codes "3")) no_members))) ≡ None
  length_other : broken (small (two_samples (named (codes "length") n3 no_members))) ≡ at rule.LengthDiffers (Some 0) table.Samples column.Length None
  length_broken : broken (small (two_samples (named (codes "length") (num (codes "2.5")) no_members))) ≡ at rule.LengthDiffers (Some 0) table.Samples column.Length None
  -- the phases that need a start or an end
  phase_far : broken (marked n4 n1 null null) ≡ at rule.Phase (Some 0) table.Markers column.Phase (Some 0)
  phase_broken : broken (marked (num (codes "0.5")) n1 null null) ≡ at rule.Phase (Some 0) table.Markers column.Phase (Some 0)
  phase_null : broken (marked null n1 null null) ≡ at rule.WrongKind (Some 0) table.Markers column.Phase (Some 0)
  start_null : broken (marked n0 null n1 null) ≡ at rule.Phase (Some 0) table.Markers column.StartTime (Some 0)
  end_null : broken (marked n1 n0 null null) ≡ at rule.Phase (Some 0) table.Markers column.EndTime (Some 0)
  end_alone : broken (marked n3 null n1 null) ≡ None
  -- no profile
  not_object : broken (arr []) ≡ Some unknown_format
  no_meta : broken (Value.object no_members) ≡ Some unknown_format
  no_threads : broken (Value.object (named (codes "meta") (Value.object no_members) (named (codes "meta") meta no_members))) ≡ at rule.Missing None table.Threads column.List None
  gecko : broken (Value.object (named (codes "meta") (Value.object (named (codes "version") (num (codes "27")) no_members)) (named (codes "threads") (arr []) no_members))) ≡ Some unknown_format
  threads_doubled : broken (Value.object (named (codes "meta") meta (named (codes "threads") n5 (named (codes "threads") (arr (thread stacks samples ∷ [])) no_members)))) ≡ None
  second_thread : broken (profile (thread stacks samples ∷ small_thread (n1 ∷ []) (null ∷ []) no_samples ∷ [])) ≡ at rule.IndexOut (Some 1) table.StackTable column.Frame (Some 0)
  time_far : broken (small (named (codes "stack") (arr (n0 ∷ [])) (named (codes "time") (arr (num (codes "9000000000000.000001") ∷ [])) no_members))) ≡ at rule.NumberRange (Some 0) table.Samples column.Time (Some 0)
  m : broken (profile (m_thread ∷ [])) ≡ None
  q : broken Q ≡ None
  -- a frame's category without a list of categories, which has `Other` alone
  category_out : broken (profile (q_thread (arr (n0 ∷ n1 ∷ n2 ∷ [])) ∷ [])) ≡ at rule.IndexOut (Some 0) table.FrameTable column.Category (Some 1)
  category_without_name : broken (with_categories (category (codes "A") (codes "blue") ∷ Value.object no_members ∷ []) no_members) ≡ at rule.WrongKind None table.Meta column.Categories (Some 1)
  thread_number : broken (profile (n1 ∷ [])) ≡ at rule.WrongKind None table.Threads column.List (Some 0)

rows : AreRows
unfolding broken processed_broken categories_broken category_names default_category is_shared shared_tables base_broken threads_broken thread_fails raw_shared raw_tables raw_own strings_broken resources_broken funcs_broken frames_broken stacks_broken shared_broken samples_broken markers_broken own_broken stacks_below stacks_of whole_of scaled_of numeral_of over under
rows = record {
  p = refl;
  shared = refl;
  shared_prefix = refl;
  shared_strings = refl;
  shared_stacks = refl;
  frame_out = refl;
  prefix_same = refl;
  prefix_negative = refl;
  prefix_broken = refl;
  prefix_far = refl;
  frame_far = refl;
  doubled = refl;
  doubled_last = refl;
  weight_null = refl;
  weight_short = refl;
  two = refl;
  deltas = refl;
  deltas_fit = refl;
  both_times = refl;
  no_times = refl;
  weight_type = refl;
  weight_far = refl;
  weight_bytes = refl;
  length_text = refl;
  length_other = refl;
  length_broken = refl;
  phase_far = refl;
  phase_broken = refl;
  phase_null = refl;
  start_null = refl;
  end_null = refl;
  end_alone = refl;
  not_object = refl;
  no_meta = refl;
  no_threads = refl;
  gecko = refl;
  threads_doubled = refl;
  second_thread = refl;
  time_far = refl;
  m = refl;
  q = refl;
  category_out = refl;
  category_without_name = refl;
  thread_number = refl;
}

abbrev sample : Option ℕ → ℕ → ℕ → SampleRow
sample stack time weight = record { stack = stack; time = pos time; weight = pos weight }

abbrev function : ℕ → Bool → Option ℕ → Func
function n js resource = record { name = n; is_js = js; relevant_for_js = false; resource = resource; file = None }

abbrev row : Option ℕ → ℕ → StackRow
row prefix func = record { prefix = prefix; func = func; category = 0 }

abbrev p_tables : SharedTables
p_tables = record {
  strings = codes "A" ∷ codes "B" ∷ codes "C" ∷ codes "D" ∷ codes "app" ∷ [];
  resources = 4 ∷ [];
  funcs = function 0 false None ∷ function 1 false (Some 0) ∷ function 2 false (Some 0) ∷ function 3 true None ∷ [];
  frames = record { func = 0; category = None } ∷ record { func = 1; category = None } ∷ record { func = 2; category = None } ∷ record { func = 3; category = None } ∷ [];
  stacks = row None 0 ∷ row (Some 0) 1 ∷ row (Some 1) 2 ∷ row (Some 2) 1 ∷ row (Some 3) 3 ∷ row None 3 ∷ [];
  stack_frames = 0 ∷ 1 ∷ 2 ∷ 1 ∷ 3 ∷ 3 ∷ [];
  categories = 1;
  default = 0;
}

abbrev p_samples : List SampleRow
p_samples = sample (Some 2) 0 1 ∷ sample (Some 4) 1000000 1 ∷ sample (Some 4) 2000000 1 ∷ sample (Some 1) 3000000 1 ∷ sample (Some 5) 4000000 1 ∷ sample None 5000000 1 ∷ []

-- P as plain lists
p_is : profile_of P ≡ record {
  threads = record { shared = p_tables; name = codes "T"; unit = unit.Samples; samples = p_samples; markers = record { rows = []; texts = [] } } ∷ [];
  categories = codes "Other" ∷ [];
  default = 0;
}
unfolding profile_of category_names default_category is_shared shared_tables thread_tables raw_shared raw_tables raw_own resources_of funcs_of frames_of stack_frames_of stacks_below stacks_of samples_of marker_rows_of whole_of scaled_of numeral_of over under
p_is = refl

-- the shared form has the same tables in each thread
shared_is : profile_of (sharing (tables stacks no_members)) ≡ record {
  threads = record { shared = p_tables; name = codes "T"; unit = unit.Samples; samples = p_samples; markers = record { rows = []; texts = [] } }
      ∷ record { shared = p_tables; name = codes "U"; unit = unit.Samples; samples = sample (Some 5) 0 1 ∷ sample (Some 1) 1000000 1 ∷ []; markers = record { rows = []; texts = [] } }
      ∷ [];
  categories = codes "Other" ∷ [];
  default = 0;
}
unfolding profile_of category_names default_category is_shared shared_tables thread_tables raw_shared raw_tables raw_own resources_of funcs_of frames_of stack_frames_of stacks_below stacks_of samples_of marker_rows_of whole_of scaled_of numeral_of over under
shared_is = refl

-- weights of bytes and of milliseconds, and times of deltas
bytes_are : samples_of (raw_own (small_thread [] [] (with_weights (arr (n5 ∷ num (codes "-4") ∷ [])) (with_type (codes "bytes"))))) ≡ sample (Some 0) 0 5 ∷ record { stack = Some 0; time = pos 1000000; weight = negsuc 3 } ∷ []
unfolding samples_of raw_own whole_of scaled_of numeral_of over under
bytes_are = refl

milliseconds_are : samples_of (raw_own (small_thread [] [] (with_weights (arr (n5 ∷ num (codes "0.5") ∷ [])) (with_type (codes "tracing-ms"))))) ≡ sample (Some 0) 0 5000000 ∷ sample (Some 0) 1000000 500000 ∷ []
unfolding samples_of raw_own whole_of scaled_of numeral_of over under
milliseconds_are = refl

deltas_are : samples_of (raw_own (small_thread [] [] (with_deltas (arr (n5 ∷ n2 ∷ [])) null))) ≡ sample (Some 0) 5000000 1 ∷ sample (Some 0) 7000000 1 ∷ []
unfolding samples_of raw_own whole_of scaled_of numeral_of over under
deltas_are = refl

-- a marker's texts, of which the doubled one stands at its first place
texts_are : all_texts (n1 ∷ doubled_data ∷ null ∷ doubled_data ∷ []) ≡ codes "z" ∷ codes "y" ∷ codes "z" ∷ codes "y" ∷ []
texts_are = refl

ranges_are : ranges_from 0 (n1 ∷ doubled_data ∷ null ∷ doubled_data ∷ []) ≡ (0, 0) ∷ (0, 2) ∷ (2, 2) ∷ (2, 4) ∷ []
ranges_are = refl

abbrev marker : ℕ → ℕ → Option ℤ → Option ℤ → ℕ × ℕ → RawMarker
marker name phase start end range = record { name = name; phase = phase; start = start; end = end; texts = range }

m_markers : markers_of (raw_own m_thread) ≡ record {
  rows = marker 5 2 (Some (pos 1000000)) None (0, 0)
      ∷ marker 6 0 (Some (pos 2000000)) None (0, 1)
      ∷ marker 5 3 None (Some (pos 3000000)) (1, 1)
      ∷ marker 5 3 None (Some (pos 4000000)) (1, 1)
      ∷ marker 6 2 (Some (pos 4500000)) None (1, 1)
      ∷ [];
  texts = codes "http://a/" ∷ [];
}
unfolding marker_rows_of raw_own whole_of scaled_of numeral_of over under
m_markers = refl

-- the first grey category is the default
grey_is : (default_category (with_categories (category (codes "A") (codes "blue") ∷ category (codes "B") (codes "grey") ∷ category (codes "C") (codes "grey") ∷ []) no_members) ≡ 1)
unfolding default_category
grey_is = refl

none_grey : category_names (with_categories (category (codes "A") (codes "blue") ∷ []) no_members) ≡ codes "A" ∷ codes "Other" ∷ []
unfolding category_names
none_grey = refl

q_names : category_names Q ≡ codes "Other" ∷ codes "Layout" ∷ codes "Graphics" ∷ []
unfolding category_names
q_names = refl

-- a row's category is its frame's
q_stacks : stacks_of 0 (raw_tables None (q_thread (arr (n0 ∷ n1 ∷ n2 ∷ [])))) ≡ record { prefix = None; func = 0; category = 0 } ∷ record { prefix = Some 0; func = 1; category = 1 } ∷ record { prefix = Some 0; func = 2; category = 2 } ∷ []
unfolding stacks_of stacks_below raw_tables whole_of scaled_of numeral_of over under
q_stacks = refl
