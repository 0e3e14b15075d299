-- The value of the text that a number makes, its members in their order.
use Rattle.std.specs.Prelude.{ℕ, ◌+◌, ◌-◌, ◌*◌, ◌%◌, ◌==◌, ℤ, pos, List, [], ◌∷◌, Option, None, Some, codes, if◌then◌else◌}
use Rattle.prof_grammar.specs.Value.{Value, number, string, array, no_values}
use Rattle.prof_demo.specs.Generated.{below}
use Rattle.prof_write.specs.Cells.{column, index, maybe_index, object_of, time}

-- the functions, of which each has a name and a frame of the same number
abbrev pub eight : List ℕ
eight = 0 ∷ 1 ∷ 2 ∷ 3 ∷ 4 ∷ 5 ∷ 6 ∷ 7 ∷ []

abbrev pub names : List (List ℕ)
names = codes "f0" ∷ codes "f1" ∷ codes "f2" ∷ codes "f3" ∷ codes "f4" ∷ codes "f5" ∷ codes "f6" ∷ codes "f7" ∷ []

-- a stack row's frame and its prefix, which is the row before it
abbrev pub frame_of : ℕ → ℕ
frame_of row = row % 8

abbrev pub prefix_of : ℕ → Option ℕ
prefix_of row = if row == 0 then None else Some (row - 1)

-- a sample's stack row, where the first sample is on that of the number, and its time in nanoseconds
abbrev pub stack_of : ℕ → ℕ → ℕ
stack_of n sample = (sample + n) % 60000

abbrev pub moment_of : ℕ → ℤ
moment_of sample = pos (1000 * sample)

abbrev pub stacks_made : Value
stacks_made = object_of (
    (codes "frame", column (λ row. index (frame_of row)) (below 60000))
    ∷ (codes "prefix", column (λ row. maybe_index (prefix_of row)) (below 60000))
    ∷ [])

abbrev pub samples_made : ℕ → Value
samples_made n = object_of (
    (codes "stack", column (λ sample. index (stack_of n sample)) (below 200000))
    ∷ (codes "time", column (λ sample. time (moment_of sample)) (below 200000))
    ∷ [])

abbrev pub thread_made : ℕ → Value
thread_made n = object_of (
    (codes "name", string (codes "gen"))
    ∷ (codes "stringArray", column string names)
    ∷ (codes "funcTable", object_of ((codes "name", column index eight) ∷ []))
    ∷ (codes "frameTable", object_of ((codes "func", column index eight) ∷ []))
    ∷ (codes "stackTable", stacks_made)
    ∷ (codes "samples", samples_made n)
    ∷ [])

abbrev pub made : ℕ → Value
made n = object_of (
    (codes "meta", object_of ((codes "preprocessedProfileVersion", number (codes "0")) ∷ []))
    ∷ (codes "libs", array no_values)
    ∷ (codes "threads", column thread_made (n ∷ []))
    ∷ [])
