-- The commands as clap is given them.
use Rattle.std.specs.Prelude.{ℕ, [], ◌∷◌, Bool, true, codes, Some}
use Rattle.clap.specs.Simple.{App, Shape, new_app, new_rule, new_shape, with_subcommand}
use Rattle.clap.specs.Walk.{Rule, Text}
use Rattle.clap.specs.declared.builder.command.Command.{Command as Parser}
use Rattle.clap.specs.declared.builder.command.Command.TheViews.{out-Command}
use Rattle.prof_words.specs.Commands.{least_words, most_words, name_of}
use Rattle.prof_words.specs.declared.command.Command.{Command}
use Rattle.prof_words.specs.declared.command.Command.TheVariants.{Tree, Markers, Script, Serve, Check, Convert, Gen, Demo, Flame, Chart, Alloc, Merge}

-- an argument that takes from a least to a greatest number of words
abbrev pub some_words : ℕ → ℕ → Rule
some_words least most = record (new_rule (codes "words")) { required = true; range = Some (record { start_inclusive = least; end_inclusive = most }) }

-- a command of that name, which takes from a least to a greatest number of words
abbrev pub taking : Text → ℕ → ℕ → Shape
taking name least most = record (new_shape name) { rules = some_words least most ∷ [] }

-- a command with its words
abbrev pub leaf : Command → Shape
leaf c = taking (name_of c) (least_words c) (most_words c)

-- all the commands, none of which is there yet
abbrev pub unnamed : App
unnamed = record (new_app (codes "profdesk")) {
  top = record (new_shape (codes "profdesk")) {
    no_binary_name = true;
    disable_help_flag = true;
    disable_help_subcommand = true;
    subcommand_required = true;
  };
}

abbrev pub and_ones : App → App
and_ones a = with_subcommand (with_subcommand (with_subcommand a (leaf Tree)) (leaf Check)) (leaf Convert)

abbrev pub and_numbers : App → App
and_numbers a = with_subcommand (with_subcommand a (leaf Gen)) (leaf Demo)

abbrev pub and_twos : App → App
and_twos a = with_subcommand (with_subcommand (with_subcommand a (leaf Script)) (leaf Flame)) (leaf Chart)

abbrev pub and_threes : App → App
and_threes a = with_subcommand (with_subcommand a (leaf Alloc)) (leaf Merge)

abbrev pub and_mores : App → App
and_mores a = with_subcommand (with_subcommand a (leaf Markers)) (leaf Serve)

-- all the commands
abbrev pub desk : App
desk = and_mores (and_threes (and_twos (and_numbers (and_ones unnamed))))

-- the command or one of its subcommands has a global argument
abbrev pub has_globals : Parser → Bool
has_globals c = (out-Command c).has_globals
