-- The profile that a number makes: one thread of 60,000 stack rows, each on the one before, and 200,000 samples, one a
-- microsecond, which go through the rows from the number's on.
use Rattle.std.specs.Prelude.{ℕ, ◌+◌, ◌-◌, ◌*◌, ◌%◌, ◌==◌, pos, List, ◌++◌, map, codes, if◌then◌else◌}
use Rattle.std.specs.Fmt.{decimal}
use Rattle.std.specs.List.{join_with_byte, range_with_len}
use Rattle.prof_time.specs.Spelling.{scaled_text}

-- the numbers below a number, in order
unfoldable pub below : ℕ → List ℕ
below n = range_with_len 0 n

abbrev pub frame_text : ℕ → List ℕ
frame_text row = decimal (row % 8)

abbrev pub prefix_text : ℕ → List ℕ
prefix_text row = if row == 0 then codes "null" else decimal (row - 1)

abbrev pub stack_text : ℕ → ℕ → List ℕ
stack_text number sample = decimal ((sample + number) % 60000)

abbrev pub time_text : ℕ → List ℕ
time_text sample = scaled_text 6 (pos (1000 * sample))

-- the columns, each cell as a text
abbrev pub frames : List (List ℕ)
frames = map frame_text (below 60000)

abbrev pub prefixes : List (List ℕ)
prefixes = map prefix_text (below 60000)

abbrev pub stacks : ℕ → List (List ℕ)
stacks number = map (stack_text number) (below 200000)

abbrev pub times : List (List ℕ)
times = map time_text (below 200000)

-- what stands before the first column
abbrev pub head_text : List ℕ
head_text = codes "{\"meta\":{\"preprocessedProfileVersion\":0},\"libs\":[],\"threads\":[{\"name\":\"gen\",\"stringArray\":[\"f0\",\"f1\",\"f2\",\"f3\",\"f4\",\"f5\",\"f6\",\"f7\"],\"funcTable\":{\"name\":[0,1,2,3,4,5,6,7]},\"frameTable\":{\"func\":[0,1,2,3,4,5,6,7]},\"stackTable\":{\"frame\":["

abbrev pub stacks_text : List ℕ
stacks_text = head_text ++ (join_with_byte 44 frames ++ (codes "],\"prefix\":[" ++ join_with_byte 44 prefixes))

abbrev pub samples_text : ℕ → List ℕ
samples_text number = codes "]},\"samples\":{\"stack\":[" ++ (join_with_byte 44 (stacks number) ++ (codes "],\"time\":[" ++ (join_with_byte 44 times ++ codes "]}}]}")))

-- the whole text, without white space
abbrev pub generated : ℕ → List ℕ
generated number = stacks_text ++ samples_text number
