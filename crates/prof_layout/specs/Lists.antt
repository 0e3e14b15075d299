-- Lists of a JSON value, and single texts.
use Rattle.std.specs.Prelude.{ℕ, suc, List, [], ◌∷◌, Bool, true, false, not, if◌then◌else◌, Option, None, Some, nat_le, length, map}
use Rattle.std.specs.Option.{option_map}
use Rattle.prof_grammar.specs.Value.{Value, items}
use Rattle.prof_raw.specs.declared.rule.Rule.TheVariants as rule
use Rattle.prof_raw.specs.declared.rule.ListFault.{ListFault}
use Rattle.prof_raw.specs.Rules.{whole_fault}

-- null counts as absent
abbrev pub unless_null : Option Value → Option Value
unless_null (Some Value.null) = None
unless_null member = member

abbrev pub is_object : Value → Bool
is_object (Value.object ms) = true
is_object _ = false

-- the items of a member that is an array
abbrev pub items_of : Option Value → List Value
items_of (Some (Value.array vs)) = items vs
items_of _ = []

-- the first item that meets a test, of items whose first stands at a row
abbrev pub first_where : (Value → Bool) → ℕ → List Value → Option ℕ
first_where test row [] = None
first_where test row (v ∷ vs) = if test v then Some row else first_where test (suc row) vs

-- the first item that doesn't fit
abbrev pub first_unfit : (Value → Bool) → List Value → Option ℕ
first_unfit fits vs = first_where (λ v. not (fits v)) 0 vs

abbrev pub wrong_kind : ℕ → ListFault
wrong_kind row = record { rule = rule.WrongKind; row = Some row }

-- A list of more items than the most breaks its limit, whatever they are. Else the first item that doesn't fit is of the
-- wrong kind.
abbrev pub list_fault : (Value → Bool) → ℕ → List Value → Option ListFault
list_fault fits most vs = if nat_le (length vs) most then option_map wrong_kind (first_unfit fits vs) else Some (whole_fault rule.RowLimit)

-- what a member breaks that has to be such a list
abbrev pub needed_list_fault : (Value → Bool) → ℕ → Option Value → Option ListFault
needed_list_fault fits most None = Some (whole_fault rule.Missing)
needed_list_fault fits most (Some (Value.array vs)) = list_fault fits most (items vs)
needed_list_fault fits most (Some _) = Some (whole_fault rule.WrongKind)

-- and what one breaks that may be absent or null
abbrev pub optional_list_fault : (Value → Bool) → ℕ → Option Value → Option ListFault
optional_list_fault fits most None = None
optional_list_fault fits most (Some Value.null) = None
optional_list_fault fits most (Some (Value.array vs)) = list_fault fits most (items vs)
optional_list_fault fits most (Some _) = Some (whole_fault rule.WrongKind)

abbrev pub is_text : Value → Bool
is_text (Value.string text) = true
is_text _ = false

-- a string's text, and the empty text of any other value
abbrev pub text_of : Value → List ℕ
text_of (Value.string text) = text
text_of _ = []

abbrev pub member_text : Option Value → List ℕ
member_text None = []
member_text (Some v) = text_of v

-- the texts of a list of strings
abbrev pub texts_of : Option Value → List (List ℕ)
texts_of member = map text_of (items_of member)
