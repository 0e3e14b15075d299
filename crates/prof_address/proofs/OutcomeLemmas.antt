-- What a text comes to, as functions: the value that has it, or the place of its fault; and that what is written is read back.
use Rattle.std.proofs.Common.{◌≡◌, ℕ, List, [], ◌∷◌, sym, arith, append-nil}
use Rattle.std.specs.Prelude.{Result, Ok}
use Rattle.prof_spell.specs.Spelling.{Language, Spells, Splits}
use Rattle.prof_spell.specs.Readings.{Tells, outcome}
use Rattle.prof_spell.specs.Pieces.{EachFits}
use Rattle.prof_spell.proofs.Parts.{spelled}
use Rattle.prof_spell.proofs.Readings.{tells, tells_one}
use Rattle.prof_path.specs.Views.{ViewLists}
use Rattle.prof_path.specs.declared.transform.Transform.{Transform}
use Rattle.prof_address.specs.declared.kind.Form.TheVariants.{Second}
use Rattle.prof_address.specs.Transforms.{IsOf, transforms_text, transform_lists, some_transforms}
use Rattle.prof_address.specs.Views.{IsWrittenView, view_text, views}
use Rattle.prof_address.proofs.Lists.{lists_outcome, lists_tell, reading_some, splits_some, spells_none, spells_lists, starts_list}
use Rattle.prof_address.proofs.ViewLemmas.{reading_view, splits_views}

-- a value's text is its own
pub spells_own : {V : Type 0} (L : Language V) (v : V) → Splits L → L.Fits v → Spells L (L.text v) v
spells_own L v splits f = spelled L (L.text v) [] v splits (record { fits = f; split = sym (append-nil (L.text v)); apart = tt }) (omega arith)

-- the list of transforms of a text, or the place of the text's fault
unfoldable pub transforms_of : List ℕ → Result (List Transform) ℕ
transforms_of text = lists_outcome Second text (reading_some Second text)

-- the view of a text, or the place of the text's fault
unfoldable pub view_of : List ℕ → Result ViewLists ℕ
view_of text = outcome (views Second) text (reading_view Second text)

pub tells_list : (text : List ℕ) → Tells (transform_lists Second) text (transforms_of text)
unfolding transforms_of
tells_list text = lists_tell Second text (reading_some Second text)

pub tells_view : (text : List ℕ) → Tells (views Second) text (view_of text)
unfolding view_of
tells_view text = tells (views Second) text (splits_views Second) (reading_view Second text)

own_list : (list : List Transform) → EachFits (IsOf Second) list → Spells (transform_lists Second) (transforms_text list) list
own_list [] f = spells_none Second
own_list (t ∷ list) f = spells_lists Second (transforms_text (t ∷ list)) (t ∷ list) (starts_list t list) (spells_own (some_transforms Second) (t ∷ list) (splits_some Second) (λ e. cc, f))

pub list_back : (list : List Transform) → EachFits (IsOf Second) list → transforms_of (transforms_text list) ≡ Ok list
list_back list f = tells_one (transform_lists Second) (transforms_text list) (transforms_of (transforms_text list)) (Ok list) (tells_list (transforms_text list)) (own_list list f)

pub view_back : (v : ViewLists) → IsWrittenView Second v → view_of (view_text v) ≡ Ok v
view_back v f = tells_one (views Second) (view_text v) (view_of (view_text v)) (Ok v) (tells_view (view_text v)) (spells_own (views Second) v (splits_views Second) f)
