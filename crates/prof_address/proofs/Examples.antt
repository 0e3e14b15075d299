-- Worked texts, by evaluation.
use Rattle.std.proofs.Common.{◌≡◌, true, [], ◌∷◌, refl}
use Rattle.std.specs.Prelude.{codes, pos, negsuc}
use Rattle.std.specs.Fmt.{digits}
use Rattle.prof_path.specs.declared.transform.Implementation.TheVariants.{Js}
use Rattle.prof_path.specs.declared.transform.Transform.TheVariants.{MergeFunction, FocusSubtree, FilterSamples}
use Rattle.prof_address.specs.Parts.{fresh}
use Rattle.prof_address.specs.Transforms.{transforms_text}
use Rattle.prof_address.specs.Views.{view_text}

pub two_transforms : transforms_text (MergeFunction 1 ∷ FocusSubtree Js (0 ∷ 1 ∷ []) true ∷ []) ≡ codes "mf-1~f-js-0.1-i"
unfolding digits
two_transforms = refl

pub a_filter : transforms_text (FilterSamples (codes "load") ∷ FilterSamples [] ∷ []) ≡ codes "fs-load~fs-"
a_filter = refl

pub a_fresh_view : view_text (fresh 0) ≡ codes "thread=0"
unfolding digits
a_fresh_view = refl

pub a_view : view_text (record { thread = 3; ranges = record { start = negsuc 0; end = pos 5 } ∷ []; transforms = MergeFunction 1 ∷ []; implementation = Js; search = codes "a_b" }) ≡ codes "thread=3&range=-1_5&implementation=js&transforms=mf-1&search=a_b"
unfolding digits
a_view = refl
