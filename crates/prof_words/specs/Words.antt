-- What the words of the command line ask for.
use Rattle.std.specs.Prelude.{ℕ, List, [], ◌∷◌, ◌&&◌, nat_le, length, codes, Option, Some, None, option_map, option_and_then, if◌then◌else◌}
use Rattle.std.specs.Str.{bytes_eq}
use Rattle.prof_words.specs.declared.command.Command.{Command}
use Rattle.prof_words.specs.declared.command.Command.TheVariants as command
use Rattle.prof_words.specs.declared.order.Order.{Order}
use Rattle.prof_words.specs.declared.order.Order.TheVariants as order
use Rattle.prof_words.specs.declared.order.Strategy.{Strategy}
use Rattle.prof_words.specs.declared.order.Strategy.TheVariants.{Allocated, AtSite, ByAllocation, Retained}
use Rattle.prof_words.specs.Commands.{are_words, command_of}
use Rattle.prof_words.specs.Files.{files_of}
use Rattle.prof_words.specs.Numbers.{number_within, threads_of}

abbrev pub strategy_of : List ℕ → Option Strategy
strategy_of word =
    if bytes_eq word (codes "allocated") then Some Allocated
    else if bytes_eq word (codes "atsite") then Some AtSite
    else if bytes_eq word (codes "byallocation") then Some ByAllocation
    else if bytes_eq word (codes "retained") then Some Retained
    else None

-- the orders whose words aren't all texts
abbrev pub markers_order : List ℕ → List ℕ → List ℕ → Option Order
markers_order profile thread search = option_map (λ n. order.Markers profile n search) (number_within 0 4294967295 thread)

abbrev pub serve_order : List ℕ → List ℕ → List ℕ → List (List ℕ) → Option Order
serve_order port connections sessions profiles =
    option_and_then (λ p. option_and_then (λ c. option_map (λ files. order.Serve p c sessions files)
    (files_of profiles)) (number_within 1 1000000 connections)) (number_within 1 65535 port)

abbrev pub gen_order : List ℕ → Option Order
gen_order number = option_map order.Gen (number_within 0 4294967295 number)

abbrev pub demo_order : List ℕ → Option Order
demo_order number = option_map order.Demo (number_within 0 4294967295 number)

abbrev pub alloc_order : List ℕ → List ℕ → List ℕ → Option Order
alloc_order profile strategy view = option_map (λ s. order.Alloc profile s view) (strategy_of strategy)

abbrev pub merge_order : List ℕ → List ℕ → List ℕ → Option Order
merge_order profile threads view = option_map (λ ns. order.Merge profile ns view) (threads_of threads)

-- what a command asks for with the words behind its name; `serve` takes 1 to 16 profiles
abbrev pub ordered : Command → List (List ℕ) → Option Order
ordered command.Tree (profile ∷ []) = Some (order.Tree profile)
ordered command.Markers (profile ∷ thread ∷ []) = markers_order profile thread []
ordered command.Markers (profile ∷ thread ∷ search ∷ []) = markers_order profile thread search
ordered command.Script (profile ∷ script ∷ []) = Some (order.Script profile script)
ordered command.Serve (port ∷ connections ∷ sessions ∷ profiles) =
    if nat_le 1 (length profiles) && nat_le (length profiles) 16 then serve_order port connections sessions profiles else None
ordered command.Check (profile ∷ []) = Some (order.Check profile)
ordered command.Convert (profile ∷ []) = Some (order.Convert profile)
ordered command.Gen (number ∷ []) = gen_order number
ordered command.Demo (number ∷ []) = demo_order number
ordered command.Flame (profile ∷ view ∷ []) = Some (order.Flame profile view)
ordered command.Chart (profile ∷ view ∷ []) = Some (order.Chart profile view)
ordered command.Alloc (profile ∷ strategy ∷ view ∷ []) = alloc_order profile strategy view
ordered command.Merge (profile ∷ threads ∷ view ∷ []) = merge_order profile threads view
ordered command words = None

-- the command that the first of the words names, where all are words
abbrev pub named_by : List (List ℕ) → Option Command
named_by [] = None
named_by (name ∷ words) = if are_words (name ∷ words) then command_of name else None

-- what the words ask for, if there is such a thing
abbrev pub order_of : List (List ℕ) → Option Order
order_of [] = None
order_of (name ∷ words) = option_and_then (λ c. ordered c words) (named_by (name ∷ words))
