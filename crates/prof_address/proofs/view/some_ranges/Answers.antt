use Rattle.std.proofs.Common.{◌++◌, ap, refl, ◌∙◌}
use Rattle.prof_spell.proofs.Parts.{err_joined, taken_joined, one_leading, each_more}
use Rattle.prof_address.specs.Views.{range_text, IsWrittenRange}
use Rattle.prof_address.specs.Parts.{ranges}
use Rattle.prof_address.proofs.RangeLemmas.{splits_ranges, ends_at_tilde}
use Rattle.prof_address.proofs.view.some_ranges.Goals as goal

pub returns-in-Err : goal.returns-in-Err
returns-in-Err c = err_joined ranges 126 c.items.list.items c.args.cursor.now c.items.cursor c.range.new.cursor c.in-Err.stop splits_ranges ends_at_tilde c.items.invariant.1 c.items.invariant.0 c.in-Err.ensures

pub returns-then-not-takes : goal.returns-then-not-takes
returns-then-not-takes c =
    let no = c.if-not-takes.ensures.no refl in
    rw (c.in-Ok-push.ensures.items, no.0)
    (taken_joined ranges 126 c.items.list.items c.in-Ok.item c.args.cursor.now c.items.cursor c.range.new.cursor c.items.invariant.1 c.items.invariant.0 c.in-Ok.ensures no.1)

pub items-preserved : goal.items-preserved
items-preserved c =
    let yes = c.if-not-takes.ensures.yes refl in
    rw c.in-Ok-push.ensures.items (
      one_leading ranges 126 c.items.list.items c.in-Ok.item c.args.cursor.now c.items.cursor c.takes.new.self c.items.invariant.0 (c.in-Ok.ensures.split ∙ ap (λ t. range_text c.in-Ok.item ++ t) yes),
      each_more IsWrittenRange c.items.list.items c.in-Ok.item c.items.invariant.1 c.in-Ok.ensures.fits,
    )
