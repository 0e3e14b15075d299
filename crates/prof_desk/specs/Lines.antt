-- The lines of summaries.
use Rattle.std.specs.Prelude.{ℕ, List, ◌++◌, codes}
use Rattle.std.specs.Fmt.{decimal}

-- what stands before a thread's name: its number, and how many functions, stack rows, samples and rows of markers it has
unfoldable pub thread_head : ℕ → ℕ → ℕ → ℕ → ℕ → List ℕ
thread_head number funcs stacks samples markers = codes "thread " ++ decimal number ++ codes " functions " ++ decimal funcs ++ codes " stacks " ++ decimal stacks
    ++ codes " samples " ++ decimal samples ++ codes " markers " ++ decimal markers ++ codes " "
