use Rattle.std.proofs.Common.{◌≡◌, ◌++◌, ◌∷◌, [], get_or, None, Some, ap, ◌∙◌}
use Rattle.std.specs.Prelude.{slice_get}
use Rattle.std.specs.Option.{option_and_then}
use Rattle.std.proofs.lemmas.Option.{slice_get-get_or}
use Rattle.prof_view_tree.specs.Weighing.{no_row}
use Rattle.prof_view_tree.proofs.ShownRows.{shown_more}
use Rattle.prof_view_tree.proofs.showing.shown_rows.Goals as goal

pub loop-row-preserved : goal.loop-row-preserved
loop-row-preserved c =
    let rows = c.args.rows.now in
    let n = c.loop-row.row-index in
    let outs = c.loop-row.outs.items in
    let row = get_or rows n no_row in
    let here : slice_get rows n ≡ Some row = slice_get-get_or rows n no_row c.loop-row-test.true in
    shown_more c.args.thread.now.shared c.args.filter rows n c.loop-row.shown.items outs row c.requires.rows.prefixes here (c.requires.rows.steps n no_row c.loop-row-test.true).func c.loop-row.invariant
    c.visible-is_shown.result c.out_of-above.result c.place_row.new.shown.items c.push.new.self.items c.visible-is_shown.ensures
    (c.out_of-above.ensures ∙ ap (λ l. option_and_then (λ p. get_or l p None) row.prefix) c.deref.ensures.value)
    c.in_ok-out.ensures.rows
    (c.in_ok-push.ensures.items ∙ ap (λ o. outs ++ o ∷ []) c.in_ok-out.ensures.out)
