-- What is told of a profile that isn't accepted: the rule that it breaks, or the fault of its JSON, with the place.
use Rattle.std.specs.Prelude.{ℕ, List, [], ◌++◌, codes, Option, Some, None}
use Rattle.std.specs.Fmt.{decimal}
use Rattle.prof_raw.specs.declared.rule.Rule.{Rule}
use Rattle.prof_raw.specs.declared.rule.Rule.TheVariants as rule
use Rattle.prof_raw.specs.declared.rule.Table.{Table}
use Rattle.prof_raw.specs.declared.rule.Table.TheVariants as table
use Rattle.prof_raw.specs.declared.rule.Column.{Column}
use Rattle.prof_raw.specs.declared.rule.Column.TheVariants as column
use Rattle.prof_raw.specs.declared.rule.Broken.{Broken}
use Rattle.prof_token.specs.declared.fault.JsonFault.{JsonFault}
use Rattle.prof_token.specs.declared.fault.JsonFault.TheVariants.{NotJson, TooDeep, TooLong, ReadFault, NoMemory}
use Rattle.prof_desk.specs.declared.breaks.Break.{Break}
use Rattle.prof_desk.specs.declared.breaks.Break.TheVariants as break

abbrev pub rule_text : Rule → List ℕ
rule_text rule.WrongKind = codes "B1"
rule_text rule.Missing = codes "B2"
rule_text rule.LengthDiffers = codes "B3"
rule_text rule.IndexOut = codes "B4"
rule_text rule.PrefixOrder = codes "B5"
rule_text rule.NumberRange = codes "B6"
rule_text rule.Phase = codes "B7"
rule_text rule.RowLimit = codes "B8"
rule_text rule.UnknownFormat = codes "B9"
rule_text rule.WeightType = codes "B10"

-- a table's name, as it stands in a profile
abbrev pub table_text : Table → List ℕ
table_text table.Meta = codes "meta"
table_text table.Threads = codes "threads"
table_text table.StringArray = codes "stringArray"
table_text table.ResourceTable = codes "resourceTable"
table_text table.FuncTable = codes "funcTable"
table_text table.FrameTable = codes "frameTable"
table_text table.StackTable = codes "stackTable"
table_text table.Samples = codes "samples"
table_text table.Markers = codes "markers"
table_text table.Libs = codes "libs"
table_text table.Processes = codes "processes"
table_text table.StringTable = codes "stringTable"

-- what stands behind a table's name: nothing for a list without columns
abbrev pub column_text : Column → List ℕ
column_text column.List = []
column_text column.Version = codes ".version"
column_text column.Categories = codes ".categories"
column_text column.Name = codes ".name"
column_text column.IsJs = codes ".isJS"
column_text column.RelevantForJs = codes ".relevantForJS"
column_text column.Resource = codes ".resource"
column_text column.FileName = codes ".fileName"
column_text column.Func = codes ".func"
column_text column.Category = codes ".category"
column_text column.Frame = codes ".frame"
column_text column.Prefix = codes ".prefix"
column_text column.Stack = codes ".stack"
column_text column.Time = codes ".time"
column_text column.TimeDeltas = codes ".timeDeltas"
column_text column.WeightType = codes ".weightType"
column_text column.Weight = codes ".weight"
column_text column.Phase = codes ".phase"
column_text column.StartTime = codes ".startTime"
column_text column.EndTime = codes ".endTime"
column_text column.Data = codes ".data"
column_text column.Length = codes ".length"
column_text column.Schema = codes ".schema"
column_text column.Location = codes ".location"

abbrev pub thread_text : Option ℕ → List ℕ
thread_text None = []
thread_text (Some thread) = codes " thread " ++ decimal thread

abbrev pub row_text : Option ℕ → List ℕ
row_text None = []
row_text (Some row) = codes " row " ++ decimal row

-- the rule, the thread where there is one, the table and the column, and the row where there is one
abbrev pub broken_text : Broken → List ℕ
broken_text b = codes "broken " ++ rule_text b.rule ++ thread_text b.thread ++ codes " " ++ table_text b.table ++ column_text b.column ++ row_text b.row

-- the fault of a JSON text and its place; the other two are no faults of a text
abbrev pub fault_text : JsonFault → List ℕ
fault_text (NotJson at) = codes "broken J1 " ++ decimal at
fault_text (TooDeep at) = codes "broken J2 " ++ decimal at
fault_text TooLong = codes "broken J3"
fault_text ReadFault = []
fault_text NoMemory = []

-- why a text isn't accepted, if it isn't
abbrev pub break_text : Option Break → List ℕ
break_text None = []
break_text (Some (break.Json f)) = fault_text f
break_text (Some (break.Rule b)) = broken_text b
break_text (Some break.LongScript) = codes "broken script"
