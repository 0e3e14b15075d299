-- What is left of the text behind its head: the cells of a column from a row on, and all that stands behind them.
use Rattle.std.specs.Prelude.{ℕ, List, [], ◌++◌, map, drop, codes, Some, None}
use Rattle.std.specs.declared.option.Option.{Option}
use Rattle.std.specs.List.{join_with_byte}
use Rattle.prof_demo.specs.Generated.{below, frame_text, prefix_text, stack_text, time_text, prefixes, times, samples_text}
use Rattle.prof_demo.specs.declared.part.Part.{Part}
use Rattle.prof_demo.specs.declared.part.Part.TheVariants as p

abbrev pub rows : Part → ℕ
rows p.Frames = 60000
rows p.Prefixes = 60000
rows p.Stacks = 200000
rows p.Times = 200000

abbrev pub cell_text : ℕ → Part → ℕ → List ℕ
cell_text number p.Frames = frame_text
cell_text number p.Prefixes = prefix_text
cell_text number p.Stacks = stack_text number
cell_text number p.Times = time_text

abbrev pub cells : ℕ → Part → List (List ℕ)
cells number part = map (cell_text number part) (below (rows part))

-- the text between a column and the next, or the end
abbrev pub closing : Part → List ℕ
closing p.Frames = codes "],\"prefix\":["
closing p.Prefixes = codes "]},\"samples\":{\"stack\":["
closing p.Stacks = codes "],\"time\":["
closing p.Times = codes "]}}]}"

abbrev pub next : Part → Option Part
next p.Frames = Some p.Prefixes
next p.Prefixes = Some p.Stacks
next p.Stacks = Some p.Times
next p.Times = None

-- all that stands behind the cells of a column
abbrev pub behind : ℕ → Part → List ℕ
behind number p.Frames = closing p.Frames ++ (join_with_byte 44 prefixes ++ samples_text number)
behind number p.Prefixes = samples_text number
behind number p.Stacks = closing p.Stacks ++ (join_with_byte 44 times ++ closing p.Times)
behind number p.Times = closing p.Times

-- what is left from a row of a column on; behind the last column there is nothing
abbrev pub rest : ℕ → Option Part → ℕ → List ℕ
rest number None row = []
rest number (Some part) row = join_with_byte 44 (drop row (cells number part)) ++ behind number part
