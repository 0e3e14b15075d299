-- The text of a JSON value without white space.
use Rattle.std.specs.Prelude.{ℕ, List, [], ◌∷◌, ◌++◌, Bool, true, false, codes}
use Rattle.prof_grammar.specs.Value.{Value, Values, Members, null, boolean, number, string, array, object, no_values, value, no_members, member}
use Rattle.prof_writer.specs.Writing.{comma_text, quoted, truth_text}

abbrev mutual
  pub compact : Value → List ℕ
  compact null = codes "null"
  compact (boolean b) = truth_text b
  compact (number text) = text
  compact (string text) = quoted text
  compact (array vs) = codes "[" ++ compact_items false vs
  compact (object ms) = codes "{" ++ compact_members false ms

  -- the items that are left of an array, behind a comma where one is due, and the closing bracket
  pub compact_items : Bool → Values → List ℕ
  compact_items due no_values = codes "]"
  compact_items due (value v vs) = comma_text due ++ (compact v ++ compact_items true vs)

  -- the same of an object
  pub compact_members : Bool → Members → List ℕ
  compact_members due no_members = codes "}"
  compact_members due (member n v ms) = comma_text due ++ (quoted n ++ (codes ":" ++ (compact v ++ compact_members true ms)))

-- the items of an array
abbrev pub values_of : List Value → Values
values_of [] = no_values
values_of (v ∷ vs) = value v (values_of vs)

-- the members of an object, each a name and a value
abbrev pub members_of : List (List ℕ × Value) → Members
members_of [] = no_members
members_of (m ∷ ms) = member m.0 m.1 (members_of ms)
