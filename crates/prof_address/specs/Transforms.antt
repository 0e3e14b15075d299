-- The texts of transforms and of their lists.
use Rattle.std.specs.Prelude.{◌≡◌, ◌≢◌, ⊤, ℕ, Bool, true, false, ◌==◌, ◌||◌, List, [], ◌++◌, codes, Result, Ok, Err, if◌then◌else◌}
use Rattle.std.specs.declared.vec.Vec.{Vec}
use Rattle.std.specs.Fmt.{decimal}
use Rattle.prof_spell.specs.Spelling.{Language}
use Rattle.prof_spell.specs.Escapes.{searches, escaped}
use Rattle.prof_spell.specs.Pieces.{Among, numbers, words, joined, joined_text, EachFits}
use Rattle.prof_path.specs.declared.transform.Implementation.{Implementation}
use Rattle.prof_path.specs.declared.transform.Implementation.TheVariants.{Combined, Js, Cpp}
use Rattle.prof_path.specs.declared.transform.Transform.{Transform}
use Rattle.prof_path.specs.declared.transform.Transform.TheVariants.{MergeFunction, MergeCallNode, DropFunction, FocusSubtree, FocusFunction, FocusCategory, CollapseResource, CollapseDirectRecursion, CollapseRecursion, CollapseFunctionSubtree, FilterSamples}
use Rattle.prof_address.specs.declared.kind.Filter.{Filter}
use Rattle.prof_address.specs.declared.kind.Kind.{Kind}
use Rattle.prof_address.specs.declared.kind.Kind.TheVariants as k
use Rattle.prof_address.specs.declared.kind.Form.{Form}
use Rattle.prof_address.specs.declared.kind.Form.TheVariants.{First, Second}
use Rattle.prof_address.specs.declared.kind.TheConstants.{KINDS, FIRST_KINDS}

abbrev pub implementation_text : Implementation → List ℕ
implementation_text Combined = codes "combined"
implementation_text Js = codes "js"
implementation_text Cpp = codes "cpp"

abbrev pub filter_word : Filter → List ℕ
filter_word filter = implementation_text filter.0

-- numbers of functions, resources and categories
abbrev pub u32s : Language ℕ
u32s = numbers 4294967295

-- a path: one function or more, with points between
abbrev pub paths : Language (List ℕ)
paths = joined u32s 46

-- a filter, and the dash behind it
abbrev pub filter_text : Implementation → List ℕ
filter_text filter = implementation_text filter ++ codes "-"

-- the end of a focus
abbrev pub end_text : Bool → List ℕ
end_text inverted = if inverted then codes "-i" else []

-- the text of a transform
abbrev pub transform_text : Transform → List ℕ
transform_text (MergeFunction func) = codes "mf-" ++ decimal func
transform_text (MergeCallNode filter path) = codes "mcn-" ++ (filter_text filter ++ paths.text path)
transform_text (DropFunction func) = codes "df-" ++ decimal func
transform_text (FocusSubtree filter path inverted) = codes "f-" ++ (filter_text filter ++ (paths.text path ++ end_text inverted))
transform_text (FocusFunction func) = codes "ff-" ++ decimal func
transform_text (FocusCategory category) = codes "fg-" ++ decimal category
transform_text (CollapseResource filter resource) = codes "cr-" ++ (filter_text filter ++ decimal resource)
transform_text (CollapseDirectRecursion filter func) = codes "drec-" ++ (filter_text filter ++ decimal func)
transform_text (CollapseRecursion func) = codes "rec-" ++ decimal func
transform_text (CollapseFunctionSubtree func) = codes "cfs-" ++ decimal func
transform_text (FilterSamples search) = codes "fs-" ++ escaped search

-- a transform that has a text: its numbers are in their range, its path isn't empty, and its search is UTF-8
abbrev pub IsWritten : Transform → Type 0
IsWritten (MergeFunction func) = u32s.Fits func
IsWritten (MergeCallNode filter path) = paths.Fits path
IsWritten (DropFunction func) = u32s.Fits func
IsWritten (FocusSubtree filter path inverted) = paths.Fits path
IsWritten (FocusFunction func) = u32s.Fits func
IsWritten (FocusCategory category) = u32s.Fits category
IsWritten (CollapseResource filter resource) = u32s.Fits resource
IsWritten (CollapseDirectRecursion filter func) = u32s.Fits func
IsWritten (CollapseRecursion func) = u32s.Fits func
IsWritten (CollapseFunctionSubtree func) = u32s.Fits func
IsWritten (FilterSamples search) = searches.Fits search

-- a byte that goes on with a transform: with its last number, path or search, or with the end of a focus
abbrev pub transform_goes : Transform → ℕ → Bool
transform_goes (MergeFunction func) b = u32s.goes func b
transform_goes (MergeCallNode filter path) b = paths.goes path b
transform_goes (DropFunction func) b = u32s.goes func b
transform_goes (FocusSubtree filter path true) b = false
transform_goes (FocusSubtree filter path false) b = paths.goes path b || b == 45
transform_goes (FocusFunction func) b = u32s.goes func b
transform_goes (FocusCategory category) b = u32s.goes category b
transform_goes (CollapseResource filter resource) b = u32s.goes resource b
transform_goes (CollapseDirectRecursion filter func) b = u32s.goes func b
transform_goes (CollapseRecursion func) b = u32s.goes func b
transform_goes (CollapseFunctionSubtree func) b = u32s.goes func b
transform_goes (FilterSamples search) b = searches.goes search b

-- the word of a kind
abbrev pub kind_word : Kind → List ℕ
kind_word k.MergeFunction = codes "mf-"
kind_word k.MergeCallNode = codes "mcn-"
kind_word k.DropFunction = codes "df-"
kind_word k.FocusSubtree = codes "f-"
kind_word k.FocusFunction = codes "ff-"
kind_word k.FocusCategory = codes "fg-"
kind_word k.CollapseResource = codes "cr-"
kind_word k.CollapseDirectRecursion = codes "drec-"
kind_word k.CollapseRecursion = codes "rec-"
kind_word k.CollapseFunctionSubtree = codes "cfs-"
kind_word k.FilterSamples = codes "fs-"

abbrev pub kind_of : Transform → Kind
kind_of (MergeFunction func) = k.MergeFunction
kind_of (MergeCallNode filter path) = k.MergeCallNode
kind_of (DropFunction func) = k.DropFunction
kind_of (FocusSubtree filter path inverted) = k.FocusSubtree
kind_of (FocusFunction func) = k.FocusFunction
kind_of (FocusCategory category) = k.FocusCategory
kind_of (CollapseResource filter resource) = k.CollapseResource
kind_of (CollapseDirectRecursion filter func) = k.CollapseDirectRecursion
kind_of (CollapseRecursion func) = k.CollapseRecursion
kind_of (CollapseFunctionSubtree func) = k.CollapseFunctionSubtree
kind_of (FilterSamples search) = k.FilterSamples

abbrev pub kinds_of : Form → List Kind
kinds_of First = FIRST_KINDS
kinds_of Second = KINDS

-- a transform of a form that has a text
abbrev pub IsOf : Form → Transform → Type 0
IsOf form t = IsWritten t × Among (kinds_of form) (kind_of t)

abbrev pub transforms : Form → Language Transform
transforms form = record { text = transform_text; Fits = IsOf form; goes = transform_goes }

-- one transform or more, with tildes between
abbrev pub some_transforms : Form → Language (List Transform)
some_transforms form = joined (transforms form) 126

-- the text of a list of transforms; none for the empty list
abbrev pub transforms_text : List Transform → List ℕ
transforms_text list = joined_text transform_text 126 list

-- transforms with tildes between
abbrev pub transform_lists : Form → Language (List Transform)
transform_lists form = record { text = transforms_text; Fits = EachFits (IsOf form); goes = (some_transforms form).goes }

-- no path of a transform is empty
abbrev pub HasPath : Transform → Type 0
HasPath (MergeCallNode filter path) = path ≢ []
HasPath (FocusSubtree filter path inverted) = path ≢ []
HasPath t = ⊤

-- ---- how a text is read, a part at a time

abbrev pub Any : {V : Type 0} → V → Type 0
Any v = Unit {0}

abbrev pub filters : Language Implementation
filters = words filter_text Any

abbrev pub ends : Language Bool
ends = record { text = end_text; Fits = Any; goes = λ inverted b. if inverted then false else (b == 45) }

-- a filter, and a number or a path
abbrev pub counted : Language (Implementation × ℕ)
counted = record { text = λ p. filter_text p.0 ++ u32s.text p.1; Fits = λ p. u32s.Fits p.1; goes = λ p. u32s.goes p.1 }

abbrev pub nodes : Language (Implementation × List ℕ)
nodes = record { text = λ p. filter_text p.0 ++ paths.text p.1; Fits = λ p. paths.Fits p.1; goes = λ p. paths.goes p.1 }

-- a filter, a path, and the end of a focus
abbrev pub focuses : Language (Implementation × List ℕ × Bool)
focuses = record { text = λ p. filter_text p.0 ++ (paths.text p.1 ++ end_text p.2); Fits = λ p. paths.Fits p.1; goes = λ p. transform_goes (FocusSubtree p.0 p.1 p.2) }

-- what stands behind the word
abbrev pub arguments_text : Transform → List ℕ
arguments_text (MergeFunction func) = decimal func
arguments_text (MergeCallNode filter path) = filter_text filter ++ paths.text path
arguments_text (DropFunction func) = decimal func
arguments_text (FocusSubtree filter path inverted) = filter_text filter ++ (paths.text path ++ end_text inverted)
arguments_text (FocusFunction func) = decimal func
arguments_text (FocusCategory category) = decimal category
arguments_text (CollapseResource filter resource) = filter_text filter ++ decimal resource
arguments_text (CollapseDirectRecursion filter func) = filter_text filter ++ decimal func
arguments_text (CollapseRecursion func) = decimal func
arguments_text (CollapseFunctionSubtree func) = decimal func
arguments_text (FilterSamples search) = escaped search

-- what stands behind the word of one kind
abbrev pub arguments : Kind → Language Transform
arguments kind = record { text = arguments_text; Fits = λ t. IsWritten t × (kind_of t ≡ kind); goes = transform_goes }

-- the items of a list that was read
abbrev pub result_items : {X E Z : Type 0} → Result (Vec X Z) E → Result (List X) E
result_items (Ok v) = Ok v.items
result_items (Err e) = Err e
