-- The texts of views.
use Rattle.std.specs.Prelude.{ℕ, ◌+◌, Bool, not, ◌==◌, List, [], ◌∷◌, ◌++◌, codes, IsUtf8}
use Rattle.std.specs.Fmt.{decimal, signed_decimal}
use Rattle.prof_spell.specs.Spelling.{Language}
use Rattle.prof_spell.specs.Pieces.{IsI64, joined_text, EachFits}
use Rattle.prof_spell.specs.Escapes.{escaped}
use Rattle.prof_path.specs.Views.{ViewLists}
use Rattle.prof_path.specs.declared.transform.Range.{Range}
use Rattle.prof_path.specs.declared.transform.Implementation.{Implementation}
use Rattle.prof_path.specs.declared.transform.Implementation.TheVariants.{Combined, Js, Cpp}
use Rattle.prof_path.specs.declared.transform.Transform.{Transform}
use Rattle.prof_address.specs.declared.kind.Form.{Form}
use Rattle.prof_address.specs.Transforms.{u32s, transforms_text, IsOf, HasPath}

-- a range: its start, `_` and its end
abbrev pub range_text : Range → List ℕ
range_text range = signed_decimal range.start ++ codes "_" ++ signed_decimal range.end

abbrev pub IsWrittenRange : Range → Type 0
IsWrittenRange range = IsI64 range.start × IsI64 range.end

-- the parts of a view, each only where it isn't the default
abbrev pub ranges_part : List Range → List ℕ
ranges_part [] = []
ranges_part (range ∷ ranges) = codes "&range=" ++ joined_text range_text 126 (range ∷ ranges)

abbrev pub implementation_part : Implementation → List ℕ
implementation_part Combined = []
implementation_part Js = codes "&implementation=js"
implementation_part Cpp = codes "&implementation=cpp"

abbrev pub transforms_part : List Transform → List ℕ
transforms_part [] = []
transforms_part (t ∷ ts) = codes "&transforms=" ++ transforms_text (t ∷ ts)

abbrev pub search_part : List ℕ → List ℕ
search_part [] = []
search_part (b ∷ bytes) = codes "&search=" ++ escaped (b ∷ bytes)

-- what stands behind the thread
abbrev pub parts_text : ViewLists → List ℕ
parts_text v = ranges_part v.ranges ++ (implementation_part v.implementation ++ (transforms_part v.transforms ++ search_part v.search))

-- the text of a view
abbrev pub view_text : ViewLists → List ℕ
view_text v = (codes "thread=" ++ decimal v.thread) ++ parts_text v

-- a view that has a text: its numbers are in their range, its transforms have texts of the form, its searches are UTF-8
pub record IsWrittenView (form : Form) (v : ViewLists) : Type 0 where
  pub thread : u32s.Fits v.thread
  pub ranges : EachFits IsWrittenRange v.ranges
  pub transforms : EachFits (IsOf form) v.transforms
  pub search : IsUtf8 v.search

-- behind a view only the end of a line may stand
abbrev pub not_line_end : ℕ → Bool
not_line_end b = not (b == 10)

abbrev pub views : Form → Language ViewLists
views form = record { text = view_text; Fits = IsWrittenView form; goes = λ v. not_line_end }

-- no path of a view is empty
abbrev pub HasPaths : ViewLists → Type 0
HasPaths v = EachFits HasPath v.transforms
