-- How a view is read: a thread, and the parts behind it, each of which may come once and in their order.
use Rattle.std.specs.Prelude.{◌≡◌, ◌≢◌, ℕ, ◌+◌, ◌≤◌, Bool, true, false, List, [], ◌∷◌, ◌++◌, codes, zero, suc, Result, Ok, Err}
use Rattle.std.specs.Char.{is_ascii_digit}
use Rattle.std.specs.Fmt.{decimal}
use Rattle.prof_spell.specs.Spelling.{Language}
use Rattle.prof_spell.specs.Pieces.{within, joined, joined_text, joined_goes}
use Rattle.prof_spell.specs.Escapes.{escaped, searches, is_escaped_byte}
use Rattle.prof_spell.specs.Chains.{Chain}
use Rattle.prof_path.specs.Views.{ViewLists}
use Rattle.prof_path.specs.declared.transform.Range.{Range}
use Rattle.prof_path.specs.declared.transform.Implementation.{Implementation}
use Rattle.prof_path.specs.declared.transform.Implementation.TheVariants as i
use Rattle.prof_path.specs.declared.transform.Transform.{Transform}
use Rattle.prof_address.specs.declared.kind.Form.{Form}
use Rattle.prof_address.specs.declared.part.Part.{Part}
use Rattle.prof_address.specs.declared.part.Part.TheVariants as p
use Rattle.prof_address.specs.declared.part.Content.{Content}
use Rattle.prof_address.specs.declared.part.Content.TheVariants as c
use Rattle.prof_address.specs.Transforms.{u32s, implementation_text, transforms_text, transform_goes, some_transforms}
use Rattle.prof_address.specs.Views.{range_text, IsWrittenRange, not_line_end}

-- the thread of a view
abbrev pub threads : Language ℕ
threads = record { text = λ n. codes "thread=" ++ decimal n; Fits = u32s.Fits; goes = u32s.goes }

abbrev pub ranges : Language Range
ranges = record { text = range_text; Fits = IsWrittenRange; goes = λ r. is_ascii_digit }

-- one range or more, with tildes between
abbrev pub some_ranges : Language (List Range)
some_ranges = joined ranges 126

abbrev pub some_searches : Language (List ℕ)
some_searches = within searches (λ s. s ≢ [])

-- the places of the parts
abbrev pub place : Part → ℕ
place p.Ranges = 0
place p.Implementation = 1
place p.Transforms = 2
place p.Search = 3

abbrev pub part_word : Part → List ℕ
part_word p.Ranges = codes "&range="
part_word p.Implementation = codes "&implementation="
part_word p.Transforms = codes "&transforms="
part_word p.Search = codes "&search="

-- the parts from a place on
abbrev pub parts_from : ℕ → List Part
parts_from zero = p.Ranges ∷ p.Implementation ∷ p.Transforms ∷ p.Search ∷ []
parts_from (suc zero) = p.Implementation ∷ p.Transforms ∷ p.Search ∷ []
parts_from (suc (suc zero)) = p.Transforms ∷ p.Search ∷ []
parts_from (suc (suc (suc zero))) = p.Search ∷ []
parts_from (suc (suc (suc (suc n)))) = []

-- what a part says
pub data Said : Type 0 where
  said_ranges : List Range → Said
  said_implementation : Implementation → Said
  said_transforms : List Transform → Said
  said_search : List ℕ → Said

abbrev pub said_of : Content → Said
said_of (c.Ranges list) = said_ranges list.items
said_of (c.Implementation shown) = said_implementation shown
said_of (c.Transforms list) = said_transforms list.items
said_of (c.Search search) = said_search search

abbrev pub result_said : {E : Type 0} → Result Content E → Result Said E
result_said (Ok content) = Ok (said_of content)
result_said (Err e) = Err e

abbrev pub part_of : Said → Part
part_of (said_ranges list) = p.Ranges
part_of (said_implementation shown) = p.Implementation
part_of (said_transforms list) = p.Transforms
part_of (said_search search) = p.Search

abbrev pub place_of : Said → ℕ
place_of s = place (part_of s)

abbrev pub said_text : Said → List ℕ
said_text (said_ranges list) = joined_text range_text 126 list
said_text (said_implementation shown) = implementation_text shown
said_text (said_transforms list) = transforms_text list
said_text (said_search search) = escaped search

abbrev pub said_goes : Said → ℕ → Bool
said_goes (said_ranges list) b = joined_goes ranges.goes 126 list b
said_goes (said_implementation shown) b = false
said_goes (said_transforms list) b = joined_goes transform_goes 126 list b
said_goes (said_search search) b = is_escaped_byte b

-- a part says it: it has a text, and it isn't the default
abbrev pub IsSaid : Form → Said → Type 0
IsSaid form (said_ranges list) = some_ranges.Fits list
IsSaid form (said_implementation shown) = shown ≢ i.Combined
IsSaid form (said_transforms list) = (some_transforms form).Fits list
IsSaid form (said_search search) = some_searches.Fits search

-- what stands behind a part's word
abbrev pub contents : Form → Part → Language Said
contents form part = record { text = said_text; Fits = λ s. IsSaid form s × (part_of s ≡ part); goes = said_goes }

-- a part from a place on: its word, and what it says
abbrev pub parts : Form → ℕ → Language Said
parts form due = record { text = λ s. part_word (part_of s) ++ said_text s; Fits = λ s. IsSaid form s × (due ≤ place_of s); goes = said_goes }

abbrev pub part_chain : Form → Chain ℕ Said
part_chain form = record { items = parts form; next = λ due s. place_of s + 1; ends = λ due. true; goes = λ due. not_line_end }

-- ---- a view and its parts

abbrev pub fresh : ℕ → ViewLists
fresh thread = record { thread = thread; ranges = []; transforms = []; implementation = i.Combined; search = [] }

abbrev pub with_said : ViewLists → Said → ViewLists
with_said v (said_ranges list) = record { thread = v.thread; ranges = list; transforms = v.transforms; implementation = v.implementation; search = v.search }
with_said v (said_implementation shown) = record { thread = v.thread; ranges = v.ranges; transforms = v.transforms; implementation = shown; search = v.search }
with_said v (said_transforms list) = record { thread = v.thread; ranges = v.ranges; transforms = list; implementation = v.implementation; search = v.search }
with_said v (said_search search) = record { thread = v.thread; ranges = v.ranges; transforms = v.transforms; implementation = v.implementation; search = search }

-- the view with what all these parts say
abbrev pub filled : ViewLists → List Said → ViewLists
filled v [] = v
filled v (s ∷ more) = filled (with_said v s) more
