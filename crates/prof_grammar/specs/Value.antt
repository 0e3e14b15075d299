-- A JSON value as it stands in a text: an object has its members in the order of the text, and keeps a name that comes twice.
use Rattle.std.specs.Prelude.{ℕ, List, [], ◌∷◌, ◌++◌, Bool, true, false, if◌then◌else◌, Option, Some, None, nat_eq}
use Rattle.std.specs.Option.{option_or}
use Rattle.prof_grammar.specs.Event.{Event, object_start, object_end, array_start, array_end, truth}
use Rattle.prof_grammar.specs.Event as e

mutual
  pub data Value : Type 0 where
    null : Value
    boolean : Bool → Value
    number : List ℕ → Value
    string : List ℕ → Value
    array : Values → Value
    object : Members → Value

  pub data Values : Type 0 where
    no_values : Values
    value : Value → Values → Values

  pub data Members : Type 0 where
    no_members : Members
    member : List ℕ → Value → Members → Members

-- the events of a value, in the order of the text
abbrev mutual
  pub flatten : Value → List Event
  flatten null = e.null ∷ []
  flatten (boolean b) = truth b ∷ []
  flatten (number text) = e.number text ∷ []
  flatten (string text) = e.str text ∷ []
  flatten (array vs) = array_start ∷ (flatten_values vs ++ array_end ∷ [])
  flatten (object ms) = object_start ∷ (flatten_members ms ++ object_end ∷ [])

  pub flatten_values : Values → List Event
  flatten_values no_values = []
  flatten_values (value v vs) = flatten v ++ flatten_values vs

  pub flatten_members : Members → List Event
  flatten_members no_members = []
  flatten_members (member n v ms) = e.name n ∷ (flatten v ++ flatten_members ms)

-- the members, and one more behind them
abbrev pub snoc : Members → List ℕ → Value → Members
snoc no_members n v = member n v no_members
snoc (member m w ms) n v = member m w (snoc ms n v)

-- the items of an array, as a list
abbrev pub items : Values → List Value
items no_values = []
items (value v vs) = v ∷ items vs

-- whether two texts are the same
abbrev pub same_text : List ℕ → List ℕ → Bool
same_text [] [] = true
same_text [] (y ∷ ys) = false
same_text (x ∷ xs) [] = false
same_text (x ∷ xs) (y ∷ ys) = if nat_eq x y then same_text xs ys else false

-- the value of the last member of that name
abbrev pub last_named : List ℕ → Members → Option Value
last_named name no_members = None
last_named name (member n v ms) = option_or (last_named name ms) (if same_text n name then Some v else None)

-- the member of that name of an object, and none where the value is no object
abbrev pub field : List ℕ → Value → Option Value
field name (object ms) = last_named name ms
field name _ = None
