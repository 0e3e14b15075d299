use Rattle.std.proofs.Common.{List, sym, subst}
use Rattle.prof_spell.specs.Pieces.{EachFits}
use Rattle.prof_path.specs.declared.transform.Transform.{Transform}
use Rattle.prof_address.specs.declared.kind.Form.TheVariants.{Second}
use Rattle.prof_address.specs.Transforms.{HasPath}
use Rattle.prof_text_cases.proofs.PathLemmas.{each_path}
use Rattle.prof_text_cases.proofs.outcome.of_transforms.Goals as goal

pub write_transforms-requires : goal.write_transforms-requires
write_transforms-requires c = subst (λ (list : List Transform). EachFits HasPath list) (sym c.as_slice.ensures.value) (each_path Second c.in-Ok.list.items c.in-Ok.ensures.fits)
