use Rattle.std.proofs.Common.{refl, inl, arith}
use Rattle.prof_path.specs.declared.transform.Transform.TheVariants.{MergeFunction}
use Rattle.prof_address.specs.declared.kind.Form.TheVariants.{Second}
use Rattle.prof_address.specs.Transforms.{u32s, transforms}
use Rattle.prof_request.specs.Reading.{before_space}
use Rattle.prof_request.proofs.SpacedLemmas.{meets_behind, splits_version}
use Rattle.prof_spell.proofs.SequenceLemmas.{err_front, err_back, taken_pair}
use Rattle.prof_request.proofs.arguments.version_and_transform.Goals as goal

pub returns-in-Err : goal.returns-in-Err
returns-in-Err c = err_front (before_space u32s) (λ version. transforms Second) c.args.cursor.now c.version_and_space.new.cursor c.in-Err.stop (meets_behind u32s (transforms Second) (MergeFunction 0) (omega arith, inl refl)) c.in-Err.ensures

pub returns-in-Ok-next_transform : goal.returns-in-Ok-next_transform
returns-in-Ok-next_transform c = taken_pair (before_space u32s) (λ version. transforms Second) c.args.cursor.now c.version_and_space.new.cursor c.next_transform.new.cursor c.in-Ok.version c.in-Ok-next_transform.transform (meets_behind u32s (transforms Second) (MergeFunction 0) (omega arith, inl refl)) c.in-Ok.ensures c.in-Ok-next_transform.ensures

pub returns-in-Err-next_transform : goal.returns-in-Err-next_transform
returns-in-Err-next_transform c = err_back (before_space u32s) (λ version. transforms Second) c.args.cursor.now c.version_and_space.new.cursor c.next_transform.new.cursor c.in-Ok.version c.in-Err-next_transform.stop (meets_behind u32s (transforms Second) (MergeFunction 0) (omega arith, inl refl)) splits_version c.in-Ok.ensures c.in-Err-next_transform.ensures
