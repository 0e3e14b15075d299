use Rattle.std.proofs.Common.{◌++◌, ap, refl, ◌∙◌}
use Rattle.prof_spell.proofs.Parts.{err_joined, taken_joined, one_leading, each_more}
use Rattle.prof_address.specs.Transforms.{u32s}
use Rattle.prof_address.proofs.Filters.{splits_u32s, number_ends}
use Rattle.prof_address.proofs.reading.path.Goals as goal

pub returns-in-Err : goal.returns-in-Err
returns-in-Err c = err_joined u32s 46 c.funcs.path c.args.cursor.now c.funcs.cursor c.number.new.cursor c.in-Err.stop splits_u32s number_ends c.funcs.invariant.1 c.funcs.invariant.0 c.in-Err.ensures

pub returns-then-not-takes : goal.returns-then-not-takes
returns-then-not-takes c =
    let no = c.if-not-takes.ensures.no refl in
    rw (c.in-Ok-push.ensures.ok, no.0)
    (taken_joined u32s 46 c.funcs.path c.in-Ok.func c.args.cursor.now c.funcs.cursor c.number.new.cursor c.funcs.invariant.1 c.funcs.invariant.0 c.in-Ok.ensures no.1)

pub funcs-preserved : goal.funcs-preserved
funcs-preserved c =
    let yes = c.if-not-takes.ensures.yes refl in
    rw c.in-Ok-push.ensures.ok (
      one_leading u32s 46 c.funcs.path c.in-Ok.func c.args.cursor.now c.funcs.cursor c.takes.new.self c.funcs.invariant.0 (c.in-Ok.ensures.split ∙ ap (λ t. u32s.text c.in-Ok.func ++ t) yes),
      each_more u32s.Fits c.funcs.path c.in-Ok.func c.funcs.invariant.1 c.in-Ok.ensures.fits,
    )
