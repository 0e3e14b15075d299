-- What was read may be written: no path of it is empty.
use Rattle.std.proofs.Common.{List, [], ◌∷◌}
use Rattle.prof_spell.specs.Pieces.{EachFits}
use Rattle.prof_path.specs.Views.{ViewLists}
use Rattle.prof_path.specs.declared.transform.Transform.{Transform}
use Rattle.prof_path.specs.declared.transform.Transform.TheVariants.{MergeFunction, MergeCallNode, DropFunction, FocusSubtree, FocusFunction, FocusCategory, CollapseResource, CollapseDirectRecursion, CollapseRecursion, CollapseFunctionSubtree, FilterSamples}
use Rattle.prof_address.specs.declared.kind.Form.{Form}
use Rattle.prof_address.specs.Transforms.{IsWritten, IsOf, HasPath}
use Rattle.prof_address.specs.Views.{IsWrittenView, HasPaths}
use Rattle.prof_keep.specs.Saved.{SavedLists, IsSaved, MayBeSaved}

has_path : (t : Transform) → IsWritten t → HasPath t
has_path (MergeFunction func) f = tt
has_path (MergeCallNode filter path) f = f.0
has_path (DropFunction func) f = tt
has_path (FocusSubtree filter path inverted) f = f.0
has_path (FocusFunction func) f = tt
has_path (FocusCategory category) f = tt
has_path (CollapseResource filter resource) f = tt
has_path (CollapseDirectRecursion filter func) f = tt
has_path (CollapseRecursion func) f = tt
has_path (CollapseFunctionSubtree func) f = tt
has_path (FilterSamples search) f = tt

pub each_path : (form : Form) (list : List Transform) → EachFits (IsOf form) list → EachFits HasPath list
each_path form [] f = tt
each_path form (t ∷ list) f = (has_path t f.0.0, each_path form list f.1)

pub view_paths : (form : Form) (v : ViewLists) → IsWrittenView form v → HasPaths v
view_paths form v f = each_path form v.transforms f.transforms

views_paths : (form : Form) (views : List ViewLists) → EachFits (IsWrittenView form) views → EachFits HasPaths views
views_paths form [] f = tt
views_paths form (v ∷ views) f = (view_paths form v f.0, views_paths form views f.1)

pub may_be_saved : (form : Form) (s : SavedLists) → IsSaved form s → MayBeSaved s
may_be_saved form s f = record { paths = views_paths form s.views f.views; few = f.few; place = f.place }
