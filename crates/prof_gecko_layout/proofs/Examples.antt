-- Worked Gecko profiles: what they are, and what they break.
use Rattle.std.proofs.Common.{◌≡◌, ℕ, List, [], ◌∷◌, Option, None, Some, Bool, true, false, refl}
use Rattle.std.specs.Prelude.{codes, pos}
use Rattle.std.specs.Fmt.{digits}
use Rattle.prof_time.specs.Scaled.{over, under}
use Rattle.prof_time.specs.TakenApart.{numeral_of}
use Rattle.prof_grammar.specs.Value.{Value, Values, value, no_values, member, no_members}
use Rattle.prof_raw.specs.declared.rule.Rule.{Rule}
use Rattle.prof_raw.specs.declared.rule.Rule.TheVariants as rule
use Rattle.prof_raw.specs.declared.rule.Table.{Table}
use Rattle.prof_raw.specs.declared.rule.Table.TheVariants as table
use Rattle.prof_raw.specs.declared.rule.Column.{Column}
use Rattle.prof_raw.specs.declared.rule.Column.TheVariants as column
use Rattle.prof_raw.specs.declared.rule.Broken.{Broken}
use Rattle.prof_tables.specs.declared.rows.StackRow.{StackRow}
use Rattle.prof_tables.specs.declared.rows.SampleRow.{SampleRow}
use Rattle.prof_raw.specs.declared.raw.Unit.TheVariants as unit
use Rattle.prof_raw.specs.Checks.{samples_broken, markers_broken}
use Rattle.prof_tables.specs.Rows.{resources_of, funcs_of, frames_of, stack_frames_of, stacks_below, stacks_of, samples_of, marker_rows_of}
use Rattle.prof_tables.specs.Threads.{Func, SharedTables}
use Rattle.prof_layout.specs.Numbers.{scaled_of, whole_of}
use Rattle.prof_layout.specs.Profile.{category_names, default_category, processed_broken}
use Rattle.prof_location.specs.Locations.{Script, address_of, numbered, script_of, kind_of, address, script, label}
use Rattle.prof_gecko_names.specs.Naming.{resource_name}
use Rattle.prof_gecko.specs.Columns.{parts_of}
use Rattle.prof_gecko.specs.Converted.{locations, numbering, lists_of, lists_in, thread_in}
use Rattle.prof_gecko.specs.Checks.{frames_broken, stacks_broken, columns_broken, limits_broken, parts_broken}
use Rattle.prof_gecko.specs.Processes.{head_broken, threads_broken, process_broken, process_threads, profile_broken}
use Rattle.prof_gecko.specs.Processes.{profile_of as gecko_profile_of}
use Rattle.prof_gecko_layout.specs.GeckoTables.{frame_table, stack_table, sample_table, marker_table, gecko_cells}
use Rattle.prof_gecko_layout.specs.GeckoProfile.{process_cells, entries, profile_cells, broken_of, profile_in}

abbrev list : List Value → Values
list [] = no_values
list (v ∷ vs) = value v (list vs)

abbrev pub arr : List Value → Value
arr vs = Value.array (list vs)

abbrev pub num : List ℕ → Value
num text = Value.number text

abbrev pub text : List ℕ → Value
text t = Value.string t

abbrev pub null : Value
null = Value.null

abbrev pub no : Value
no = Value.boolean false

abbrev pub G : Value
G = Value.object (member (codes "meta") (Value.object (member (codes "version") (num (codes "27")) (member (codes "startTime") (num (codes "1000.5")) (member (codes "categories") (arr ((Value.object (member (codes "name") (text (codes "Other")) (member (codes "color") (text (codes "grey")) no_members))) ∷ (Value.object (member (codes "name") (text (codes "JavaScript")) (member (codes "color") (text (codes "yellow")) no_members))) ∷ [])) no_members)))) (member (codes "libs") (arr ((Value.object (member (codes "name") (text (codes "libx")) (member (codes "start") (num (codes "4096")) (member (codes "end") (num (codes "8192")) no_members)))) ∷ [])) (member (codes "threads") (arr ((Value.object (member (codes "name") (text (codes "GeckoMain")) (member (codes "stringTable") (arr ((text (codes "(root)")) ∷ (text (codes "0x1010")) ∷ (text (codes "f (https://a.example:8443/x.js:3:7)")) ∷ (text (codes "0x9000")) ∷ [])) (member (codes "frameTable") (Value.object (member (codes "schema") (Value.object (member (codes "location") (num (codes "0")) (member (codes "relevantForJS") (num (codes "1")) (member (codes "category") (num (codes "2")) no_members)))) (member (codes "data") (arr ((arr ((num (codes "0")) ∷ [])) ∷ (arr ((num (codes "1")) ∷ [])) ∷ (arr ((num (codes "2")) ∷ no ∷ (num (codes "1")) ∷ [])) ∷ (arr ((num (codes "3")) ∷ no ∷ [])) ∷ [])) no_members))) (member (codes "stackTable") (Value.object (member (codes "schema") (Value.object (member (codes "prefix") (num (codes "0")) (member (codes "frame") (num (codes "1")) no_members))) (member (codes "data") (arr ((arr (null ∷ (num (codes "0")) ∷ [])) ∷ (arr ((num (codes "0")) ∷ (num (codes "1")) ∷ [])) ∷ (arr ((num (codes "1")) ∷ (num (codes "2")) ∷ [])) ∷ (arr ((num (codes "1")) ∷ (num (codes "3")) ∷ [])) ∷ [])) no_members))) (member (codes "samples") (Value.object (member (codes "schema") (Value.object (member (codes "stack") (num (codes "0")) (member (codes "time") (num (codes "1")) (member (codes "eventDelay") (num (codes "2")) no_members)))) (member (codes "data") (arr ((arr ((num (codes "2")) ∷ (num (codes "1.5")) ∷ (num (codes "0")) ∷ [])) ∷ (arr ((num (codes "3")) ∷ (num (codes "2.5")) ∷ [])) ∷ (arr ((num (codes "1")) ∷ (num (codes "3.5")) ∷ [])) ∷ [])) no_members))) (member (codes "markers") (Value.object (member (codes "schema") (Value.object (member (codes "name") (num (codes "0")) (member (codes "startTime") (num (codes "1")) (member (codes "endTime") (num (codes "2")) (member (codes "phase") (num (codes "3")) (member (codes "category") (num (codes "4")) (member (codes "data") (num (codes "5")) no_members))))))) (member (codes "data") (arr ([])) no_members))) no_members))))))) ∷ [])) (member (codes "processes") (arr ((Value.object (member (codes "meta") (Value.object (member (codes "version") (num (codes "27")) (member (codes "startTime") (num (codes "1010.5")) no_members))) (member (codes "libs") (arr ([])) (member (codes "threads") (arr ((Value.object (member (codes "name") (text (codes "Web")) (member (codes "stringTable") (arr ((text (codes "g")) ∷ [])) (member (codes "frameTable") (Value.object (member (codes "schema") (Value.object (member (codes "location") (num (codes "0")) no_members)) (member (codes "data") (arr ((arr ((num (codes "0")) ∷ [])) ∷ [])) no_members))) (member (codes "stackTable") (Value.object (member (codes "schema") (Value.object (member (codes "prefix") (num (codes "0")) (member (codes "frame") (num (codes "1")) no_members))) (member (codes "data") (arr ((arr (null ∷ (num (codes "0")) ∷ [])) ∷ [])) no_members))) (member (codes "samples") (Value.object (member (codes "schema") (Value.object (member (codes "stack") (num (codes "0")) (member (codes "time") (num (codes "1")) no_members))) (member (codes "data") (arr ((arr ((num (codes "0")) ∷ (num (codes "1")) ∷ [])) ∷ [])) no_members))) no_members)))))) ∷ [])) (member (codes "processes") (arr ([])) no_members))))) ∷ [])) no_members))))

abbrev pub schema_far : Value
schema_far = Value.object (member (codes "meta") (Value.object (member (codes "version") (num (codes "27")) (member (codes "startTime") (num (codes "1000.5")) (member (codes "categories") (arr ((Value.object (member (codes "name") (text (codes "Other")) (member (codes "color") (text (codes "grey")) no_members))) ∷ (Value.object (member (codes "name") (text (codes "JavaScript")) (member (codes "color") (text (codes "yellow")) no_members))) ∷ [])) no_members)))) (member (codes "libs") (arr ((Value.object (member (codes "name") (text (codes "libx")) (member (codes "start") (num (codes "4096")) (member (codes "end") (num (codes "8192")) no_members)))) ∷ [])) (member (codes "threads") (arr ((Value.object (member (codes "name") (text (codes "GeckoMain")) (member (codes "stringTable") (arr ((text (codes "(root)")) ∷ (text (codes "0x1010")) ∷ (text (codes "f (https://a.example:8443/x.js:3:7)")) ∷ (text (codes "0x9000")) ∷ [])) (member (codes "frameTable") (Value.object (member (codes "schema") (Value.object (member (codes "location") (num (codes "256")) no_members)) (member (codes "data") (arr ((arr ((num (codes "0")) ∷ [])) ∷ (arr ((num (codes "1")) ∷ [])) ∷ (arr ((num (codes "2")) ∷ no ∷ (num (codes "1")) ∷ [])) ∷ (arr ((num (codes "3")) ∷ no ∷ [])) ∷ [])) no_members))) (member (codes "stackTable") (Value.object (member (codes "schema") (Value.object (member (codes "prefix") (num (codes "0")) (member (codes "frame") (num (codes "1")) no_members))) (member (codes "data") (arr ((arr (null ∷ (num (codes "0")) ∷ [])) ∷ (arr ((num (codes "0")) ∷ (num (codes "1")) ∷ [])) ∷ (arr ((num (codes "1")) ∷ (num (codes "2")) ∷ [])) ∷ (arr ((num (codes "1")) ∷ (num (codes "3")) ∷ [])) ∷ [])) no_members))) (member (codes "samples") (Value.object (member (codes "schema") (Value.object (member (codes "stack") (num (codes "0")) (member (codes "time") (num (codes "1")) (member (codes "eventDelay") (num (codes "2")) no_members)))) (member (codes "data") (arr ((arr ((num (codes "2")) ∷ (num (codes "1.5")) ∷ (num (codes "0")) ∷ [])) ∷ (arr ((num (codes "3")) ∷ (num (codes "2.5")) ∷ [])) ∷ (arr ((num (codes "1")) ∷ (num (codes "3.5")) ∷ [])) ∷ [])) no_members))) (member (codes "markers") (Value.object (member (codes "schema") (Value.object (member (codes "name") (num (codes "0")) (member (codes "startTime") (num (codes "1")) (member (codes "endTime") (num (codes "2")) (member (codes "phase") (num (codes "3")) (member (codes "category") (num (codes "4")) (member (codes "data") (num (codes "5")) no_members))))))) (member (codes "data") (arr ([])) no_members))) no_members))))))) ∷ [])) (member (codes "processes") (arr ((Value.object (member (codes "meta") (Value.object (member (codes "version") (num (codes "27")) (member (codes "startTime") (num (codes "1010.5")) no_members))) (member (codes "libs") (arr ([])) (member (codes "threads") (arr ((Value.object (member (codes "name") (text (codes "Web")) (member (codes "stringTable") (arr ((text (codes "g")) ∷ [])) (member (codes "frameTable") (Value.object (member (codes "schema") (Value.object (member (codes "location") (num (codes "0")) no_members)) (member (codes "data") (arr ((arr ((num (codes "0")) ∷ [])) ∷ [])) no_members))) (member (codes "stackTable") (Value.object (member (codes "schema") (Value.object (member (codes "prefix") (num (codes "0")) (member (codes "frame") (num (codes "1")) no_members))) (member (codes "data") (arr ((arr (null ∷ (num (codes "0")) ∷ [])) ∷ [])) no_members))) (member (codes "samples") (Value.object (member (codes "schema") (Value.object (member (codes "stack") (num (codes "0")) (member (codes "time") (num (codes "1")) no_members))) (member (codes "data") (arr ((arr ((num (codes "0")) ∷ (num (codes "1")) ∷ [])) ∷ [])) no_members))) no_members)))))) ∷ [])) (member (codes "processes") (arr ([])) no_members))))) ∷ [])) no_members))))

abbrev pub stack_out : Value
stack_out = Value.object (member (codes "meta") (Value.object (member (codes "version") (num (codes "27")) (member (codes "startTime") (num (codes "1000.5")) (member (codes "categories") (arr ((Value.object (member (codes "name") (text (codes "Other")) (member (codes "color") (text (codes "grey")) no_members))) ∷ (Value.object (member (codes "name") (text (codes "JavaScript")) (member (codes "color") (text (codes "yellow")) no_members))) ∷ [])) no_members)))) (member (codes "libs") (arr ((Value.object (member (codes "name") (text (codes "libx")) (member (codes "start") (num (codes "4096")) (member (codes "end") (num (codes "8192")) no_members)))) ∷ [])) (member (codes "threads") (arr ((Value.object (member (codes "name") (text (codes "GeckoMain")) (member (codes "stringTable") (arr ((text (codes "(root)")) ∷ (text (codes "0x1010")) ∷ (text (codes "f (https://a.example:8443/x.js:3:7)")) ∷ (text (codes "0x9000")) ∷ [])) (member (codes "frameTable") (Value.object (member (codes "schema") (Value.object (member (codes "location") (num (codes "0")) (member (codes "relevantForJS") (num (codes "1")) (member (codes "category") (num (codes "2")) no_members)))) (member (codes "data") (arr ((arr ((num (codes "0")) ∷ [])) ∷ (arr ((num (codes "1")) ∷ [])) ∷ (arr ((num (codes "2")) ∷ no ∷ (num (codes "1")) ∷ [])) ∷ (arr ((num (codes "3")) ∷ no ∷ [])) ∷ [])) no_members))) (member (codes "stackTable") (Value.object (member (codes "schema") (Value.object (member (codes "prefix") (num (codes "0")) (member (codes "frame") (num (codes "1")) no_members))) (member (codes "data") (arr ((arr (null ∷ (num (codes "0")) ∷ [])) ∷ (arr ((num (codes "0")) ∷ (num (codes "1")) ∷ [])) ∷ (arr ((num (codes "1")) ∷ (num (codes "2")) ∷ [])) ∷ (arr ((num (codes "1")) ∷ (num (codes "3")) ∷ [])) ∷ [])) no_members))) (member (codes "samples") (Value.object (member (codes "schema") (Value.object (member (codes "stack") (num (codes "0")) (member (codes "time") (num (codes "1")) (member (codes "eventDelay") (num (codes "2")) no_members)))) (member (codes "data") (arr ((arr ((num (codes "2")) ∷ (num (codes "1.5")) ∷ (num (codes "0")) ∷ [])) ∷ (arr ((num (codes "3")) ∷ (num (codes "2.5")) ∷ [])) ∷ (arr ((num (codes "1")) ∷ (num (codes "3.5")) ∷ [])) ∷ [])) no_members))) (member (codes "markers") (Value.object (member (codes "schema") (Value.object (member (codes "name") (num (codes "0")) (member (codes "startTime") (num (codes "1")) (member (codes "endTime") (num (codes "2")) (member (codes "phase") (num (codes "3")) (member (codes "category") (num (codes "4")) (member (codes "data") (num (codes "5")) no_members))))))) (member (codes "data") (arr ([])) no_members))) no_members))))))) ∷ [])) (member (codes "processes") (arr ((Value.object (member (codes "meta") (Value.object (member (codes "version") (num (codes "27")) (member (codes "startTime") (num (codes "1010.5")) no_members))) (member (codes "libs") (arr ([])) (member (codes "threads") (arr ((Value.object (member (codes "name") (text (codes "Web")) (member (codes "stringTable") (arr ((text (codes "g")) ∷ [])) (member (codes "frameTable") (Value.object (member (codes "schema") (Value.object (member (codes "location") (num (codes "0")) no_members)) (member (codes "data") (arr ((arr ((num (codes "0")) ∷ [])) ∷ [])) no_members))) (member (codes "stackTable") (Value.object (member (codes "schema") (Value.object (member (codes "prefix") (num (codes "0")) (member (codes "frame") (num (codes "1")) no_members))) (member (codes "data") (arr ((arr (null ∷ (num (codes "0")) ∷ [])) ∷ [])) no_members))) (member (codes "samples") (Value.object (member (codes "schema") (Value.object (member (codes "stack") (num (codes "0")) (member (codes "time") (num (codes "1")) no_members))) (member (codes "data") (arr ((arr ((num (codes "1")) ∷ (num (codes "1")) ∷ [])) ∷ [])) no_members))) no_members)))))) ∷ [])) (member (codes "processes") (arr ([])) no_members))))) ∷ [])) no_members))))

abbrev pub shifted_out : Value
shifted_out = Value.object (member (codes "meta") (Value.object (member (codes "version") (num (codes "27")) (member (codes "startTime") (num (codes "1000.5")) (member (codes "categories") (arr ((Value.object (member (codes "name") (text (codes "Other")) (member (codes "color") (text (codes "grey")) no_members))) ∷ (Value.object (member (codes "name") (text (codes "JavaScript")) (member (codes "color") (text (codes "yellow")) no_members))) ∷ [])) no_members)))) (member (codes "libs") (arr ((Value.object (member (codes "name") (text (codes "libx")) (member (codes "start") (num (codes "4096")) (member (codes "end") (num (codes "8192")) no_members)))) ∷ [])) (member (codes "threads") (arr ((Value.object (member (codes "name") (text (codes "GeckoMain")) (member (codes "stringTable") (arr ((text (codes "(root)")) ∷ (text (codes "0x1010")) ∷ (text (codes "f (https://a.example:8443/x.js:3:7)")) ∷ (text (codes "0x9000")) ∷ [])) (member (codes "frameTable") (Value.object (member (codes "schema") (Value.object (member (codes "location") (num (codes "0")) (member (codes "relevantForJS") (num (codes "1")) (member (codes "category") (num (codes "2")) no_members)))) (member (codes "data") (arr ((arr ((num (codes "0")) ∷ [])) ∷ (arr ((num (codes "1")) ∷ [])) ∷ (arr ((num (codes "2")) ∷ no ∷ (num (codes "1")) ∷ [])) ∷ (arr ((num (codes "3")) ∷ no ∷ [])) ∷ [])) no_members))) (member (codes "stackTable") (Value.object (member (codes "schema") (Value.object (member (codes "prefix") (num (codes "0")) (member (codes "frame") (num (codes "1")) no_members))) (member (codes "data") (arr ((arr (null ∷ (num (codes "0")) ∷ [])) ∷ (arr ((num (codes "0")) ∷ (num (codes "1")) ∷ [])) ∷ (arr ((num (codes "1")) ∷ (num (codes "2")) ∷ [])) ∷ (arr ((num (codes "1")) ∷ (num (codes "3")) ∷ [])) ∷ [])) no_members))) (member (codes "samples") (Value.object (member (codes "schema") (Value.object (member (codes "stack") (num (codes "0")) (member (codes "time") (num (codes "1")) (member (codes "eventDelay") (num (codes "2")) no_members)))) (member (codes "data") (arr ((arr ((num (codes "2")) ∷ (num (codes "1.5")) ∷ (num (codes "0")) ∷ [])) ∷ (arr ((num (codes "3")) ∷ (num (codes "2.5")) ∷ [])) ∷ (arr ((num (codes "1")) ∷ (num (codes "3.5")) ∷ [])) ∷ [])) no_members))) (member (codes "markers") (Value.object (member (codes "schema") (Value.object (member (codes "name") (num (codes "0")) (member (codes "startTime") (num (codes "1")) (member (codes "endTime") (num (codes "2")) (member (codes "phase") (num (codes "3")) (member (codes "category") (num (codes "4")) (member (codes "data") (num (codes "5")) no_members))))))) (member (codes "data") (arr ([])) no_members))) no_members))))))) ∷ [])) (member (codes "processes") (arr ((Value.object (member (codes "meta") (Value.object (member (codes "version") (num (codes "27")) (member (codes "startTime") (num (codes "9000000000000")) no_members))) (member (codes "libs") (arr ([])) (member (codes "threads") (arr ((Value.object (member (codes "name") (text (codes "Web")) (member (codes "stringTable") (arr ((text (codes "g")) ∷ [])) (member (codes "frameTable") (Value.object (member (codes "schema") (Value.object (member (codes "location") (num (codes "0")) no_members)) (member (codes "data") (arr ((arr ((num (codes "0")) ∷ [])) ∷ [])) no_members))) (member (codes "stackTable") (Value.object (member (codes "schema") (Value.object (member (codes "prefix") (num (codes "0")) (member (codes "frame") (num (codes "1")) no_members))) (member (codes "data") (arr ((arr (null ∷ (num (codes "0")) ∷ [])) ∷ [])) no_members))) (member (codes "samples") (Value.object (member (codes "schema") (Value.object (member (codes "stack") (num (codes "0")) (member (codes "time") (num (codes "1")) no_members))) (member (codes "data") (arr ((arr ((num (codes "0")) ∷ (num (codes "1001")) ∷ [])) ∷ [])) no_members))) no_members)))))) ∷ [])) (member (codes "processes") (arr ([])) no_members))))) ∷ [])) no_members))))

abbrev pub at : Rule → Option ℕ → Table → Column → Option ℕ → Option Broken
at r thread t c row = Some (record { rule = r; thread = thread; table = t; column = c; row = row })

schema_far_is : broken_of schema_far ≡ at rule.WrongKind (Some 0) table.FrameTable column.Schema None
unfolding broken_of profile_cells category_names default_category entries process_cells gecko_cells frame_table stack_table sample_table marker_table profile_broken process_broken head_broken threads_broken parts_broken columns_broken frames_broken stacks_broken limits_broken samples_broken markers_broken lists_in lists_of numbering locations resource_name address_of kind_of script_of numbered digits whole_of scaled_of numeral_of over under parts_of
schema_far_is = refl

stack_out_is : broken_of stack_out ≡ at rule.IndexOut (Some 1) table.Samples column.Stack (Some 0)
unfolding broken_of profile_cells category_names default_category entries process_cells gecko_cells frame_table stack_table sample_table marker_table profile_broken process_broken head_broken threads_broken parts_broken columns_broken frames_broken stacks_broken limits_broken samples_broken markers_broken lists_in lists_of numbering locations resource_name address_of kind_of script_of numbered digits whole_of scaled_of numeral_of over under parts_of
stack_out_is = refl

shifted_out_is : broken_of shifted_out ≡ at rule.NumberRange (Some 1) table.Samples column.Time (Some 0)
unfolding broken_of profile_cells category_names default_category entries process_cells gecko_cells frame_table stack_table sample_table marker_table profile_broken process_broken head_broken threads_broken parts_broken columns_broken frames_broken stacks_broken limits_broken samples_broken markers_broken lists_in lists_of numbering locations resource_name address_of kind_of script_of numbered digits whole_of scaled_of numeral_of over under parts_of
shifted_out_is = refl

G_whole : broken_of G ≡ None
unfolding broken_of profile_cells category_names default_category entries process_cells gecko_cells frame_table stack_table sample_table marker_table profile_broken process_broken head_broken threads_broken parts_broken columns_broken frames_broken stacks_broken limits_broken samples_broken markers_broken lists_in lists_of numbering locations resource_name address_of kind_of script_of numbered digits whole_of scaled_of numeral_of over under parts_of
G_whole = refl

abbrev function : ℕ → Bool → Option ℕ → Option ℕ → Func
function n js resource file = record { name = n; is_js = js; relevant_for_js = false; resource = resource; file = file }

abbrev row : Option ℕ → ℕ → ℕ → StackRow
row prefix func category = record { prefix = prefix; func = func; category = category }

abbrev sample : Option ℕ → ℕ → SampleRow
sample stack time = record { stack = stack; time = pos time; weight = pos 1 }

abbrev main_tables : SharedTables
main_tables = record {
  strings = codes "(root)" ∷ codes "0x1010" ∷ codes "f (https://a.example:8443/x.js:3:7)" ∷ codes "0x9000" ∷ codes "0x10" ∷ codes "libx" ∷ codes "f" ∷ codes "https://a.example:8443/x.js" ∷ codes "a.example" ∷ [];
  resources = 5 ∷ 8 ∷ [];
  funcs = function 0 false None None ∷ function 4 false (Some 0) None ∷ function 6 true (Some 1) (Some 7) ∷ function 3 false None None ∷ [];
  frames = record { func = 0; category = None } ∷ record { func = 1; category = None } ∷ record { func = 2; category = Some 1 } ∷ record { func = 3; category = None } ∷ [];
  stacks = row None 0 0 ∷ row (Some 0) 1 0 ∷ row (Some 1) 2 1 ∷ row (Some 1) 3 0 ∷ [];
  stack_frames = 0 ∷ 1 ∷ 2 ∷ 3 ∷ [];
  categories = 2;
  default = 0;
}

abbrev web_tables : SharedTables
web_tables = record {
  strings = codes "g" ∷ [];
  resources = [];
  funcs = function 0 false None None ∷ [];
  frames = record { func = 0; category = None } ∷ [];
  stacks = row None 0 0 ∷ [];
  stack_frames = 0 ∷ [];
  categories = 2;
  default = 0;
}

G_is : profile_in G ≡ record {
  threads = record { shared = main_tables; name = codes "GeckoMain"; unit = unit.Samples; samples = sample (Some 2) 1500000 ∷ sample (Some 3) 2500000 ∷ sample (Some 1) 3500000 ∷ []; markers = record { rows = []; texts = [] } }
      ∷ record { shared = web_tables; name = codes "Web"; unit = unit.Samples; samples = sample (Some 0) 11000000 ∷ []; markers = record { rows = []; texts = [] } }
      ∷ [];
  categories = codes "Other" ∷ codes "JavaScript" ∷ [];
  default = 0;
}
unfolding profile_in gecko_profile_of profile_cells category_names default_category entries process_cells gecko_cells frame_table stack_table sample_table marker_table process_threads thread_in lists_in lists_of numbering locations resource_name address_of kind_of script_of numbered digits resources_of funcs_of frames_of stack_frames_of stacks_below stacks_of samples_of marker_rows_of whole_of scaled_of numeral_of over under parts_of
G_is = refl

abbrev at_script : List ℕ → List ℕ → List ℕ → Option (List ℕ) → Script
at_script name file line column = record { name = name; file = file; line = line; column = column }

-- kinds of locations
address_64 : kind_of (codes "0XfFfFfFfFfFfFfFfF") ≡ address (Some 18446744073709551615)
unfolding kind_of address_of script_of numbered
address_64 = refl

address_far : kind_of (codes "0x10000000000000000") ≡ address None
unfolding kind_of address_of script_of numbered
address_far = refl

address_none : kind_of (codes "0x") ≡ label
unfolding kind_of address_of script_of numbered
address_none = refl

script_line : kind_of (codes "f (x.js:3)") ≡ script (at_script (codes "f") (codes "x.js") (codes "3") None)
unfolding kind_of address_of script_of numbered
script_line = refl

script_pairs : kind_of (codes "a (b (http://h:80:3:4)") ≡ script (at_script (codes "a (b") (codes "http://h:80") (codes "3") (Some (codes "4")))
unfolding kind_of address_of script_of numbered
script_pairs = refl

script_empty : kind_of (codes " (a:1:2)") ≡ script (at_script [] (codes "a") (codes "1") (Some (codes "2")))
unfolding kind_of address_of script_of numbered
script_empty = refl

no_file : kind_of (codes "f (:3)") ≡ label
unfolding kind_of address_of script_of numbered
no_file = refl

colon_line : kind_of (codes "f (:3:4)") ≡ script (at_script (codes "f") (codes ":3") (codes "4") None)
unfolding kind_of address_of script_of numbered
colon_line = refl

sources_label : kind_of (codes "fib (http://host/x.js:3:13)[9]") ≡ label
unfolding kind_of address_of script_of numbered
sources_label = refl

port_resource : resource_name (codes "https://a.example:8443/x.js") ≡ codes "a.example"
unfolding resource_name
port_resource = refl

user_resource : resource_name (codes "http://u@a.example/x.js") ≡ codes "http://u@a.example/x.js"
unfolding resource_name
user_resource = refl
