-- The commands: their names, and how many words stand behind these.
use Rattle.std.specs.Prelude.{ℕ, List, [], ◌∷◌, Bool, false, not, ◌==◌, ◌&&◌, nat_le, codes, Option, Some, None, if◌then◌else◌}
use Rattle.std.specs.List.{list_all}
use Rattle.std.specs.Str.{bytes_eq}
use Rattle.prof_words.specs.declared.command.Command.{Command}
use Rattle.prof_words.specs.declared.command.Command.TheVariants.{Tree, Markers, Script, Serve, Check, Convert, Gen, Demo, Flame, Chart, Alloc, Merge}

-- a word: neither empty nor with a dash in front
abbrev pub is_word : List ℕ → Bool
is_word [] = false
is_word (b ∷ bs) = not (b == 45)

abbrev pub are_words : List (List ℕ) → Bool
are_words words = list_all is_word words

abbrev pub name_of : Command → List ℕ
name_of Tree = codes "tree"
name_of Markers = codes "markers"
name_of Script = codes "script"
name_of Serve = codes "serve"
name_of Check = codes "check"
name_of Convert = codes "convert"
name_of Gen = codes "gen"
name_of Demo = codes "demo"
name_of Flame = codes "flame"
name_of Chart = codes "chart"
name_of Alloc = codes "alloc"
name_of Merge = codes "merge"

-- the command of that name
abbrev pub command_of : List ℕ → Option Command
command_of name =
    if bytes_eq name (codes "tree") then Some Tree
    else if bytes_eq name (codes "markers") then Some Markers
    else if bytes_eq name (codes "script") then Some Script
    else if bytes_eq name (codes "serve") then Some Serve
    else if bytes_eq name (codes "check") then Some Check
    else if bytes_eq name (codes "convert") then Some Convert
    else if bytes_eq name (codes "gen") then Some Gen
    else if bytes_eq name (codes "demo") then Some Demo
    else if bytes_eq name (codes "flame") then Some Flame
    else if bytes_eq name (codes "chart") then Some Chart
    else if bytes_eq name (codes "alloc") then Some Alloc
    else if bytes_eq name (codes "merge") then Some Merge
    else None

-- how many words stand behind a command's name, at least and at most
abbrev pub least_words : Command → ℕ
least_words Tree = 1
least_words Markers = 2
least_words Script = 2
least_words Serve = 4
least_words Check = 1
least_words Convert = 1
least_words Gen = 1
least_words Demo = 1
least_words Flame = 2
least_words Chart = 2
least_words Alloc = 3
least_words Merge = 3

abbrev pub most_words : Command → ℕ
most_words Tree = 1
most_words Markers = 3
most_words Script = 2
most_words Serve = 19
most_words Check = 1
most_words Convert = 1
most_words Gen = 1
most_words Demo = 1
most_words Flame = 2
most_words Chart = 2
most_words Alloc = 3
most_words Merge = 3

abbrev pub fits : Command → ℕ → Bool
fits command count = nat_le (least_words command) count && nat_le count (most_words command)
