-- What the words of the command line ask for, of what there is.
use Rattle.std.specs.Prelude.{ℕ, List, Option, Some, None, option_and_then}
use Rattle.prof_desk.specs.declared.words.Order.{Order}
use Rattle.prof_desk.specs.declared.words.Order.TheVariants.{Tree, Markers, Script, Serve, Check, Convert, Gen, Demo}
use Rattle.prof_words.specs.Words as words
use Rattle.prof_words.specs.declared.order.Order.{Order as Asked}
use Rattle.prof_words.specs.declared.order.Order.TheVariants as asked

-- the order, where it is carried out
abbrev pub carried_out : Asked → Option Order
carried_out (asked.Tree profile) = Some (Tree profile)
carried_out (asked.Markers profile thread search) = Some (Markers profile thread search)
carried_out (asked.Script profile script) = Some (Script profile script)
carried_out (asked.Serve port connections sessions profiles) = Some (Serve port connections sessions profiles)
carried_out (asked.Check profile) = Some (Check profile)
carried_out (asked.Convert profile) = Some (Convert profile)
carried_out (asked.Gen number) = Some (Gen number)
carried_out (asked.Demo number) = Some (Demo number)
carried_out order = None

-- what the words ask for, if there is such a thing
abbrev pub order_of : List (List ℕ) → Option Order
order_of texts = option_and_then carried_out (words.order_of texts)
