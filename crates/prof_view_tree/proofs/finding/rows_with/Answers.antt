use Rattle.std.proofs.Common.{◌≡◌, ◌+◌, false, ◌||◌, length, get_or, Some, sym, ap, ◌∙◌, subst}
use Rattle.std.specs.Prelude.{slice_get}
use Rattle.std.specs.Option.{option_map_or}
use Rattle.std.proofs.lemmas.Option.{slice_get-get_or}
use Rattle.prof_view_tree.specs.Showing.{AreMet, flag_at}
use Rattle.prof_view_tree.specs.Weighing.{no_row}
use Rattle.prof_view_tree.proofs.FoundRows.{met_more}
use Rattle.prof_tree.proofs.Walking.{length-snoc}
use Rattle.prof_view_tree.proofs.finding.rows_with.Goals as goal

pub loop-row-preserved : goal.loop-row-preserved
loop-row-preserved c =
    let rows = c.args.rows.now in
    let n = c.loop-row.row-index in
    let met = c.loop-row.met.items in
    let row = get_or rows n no_row in
    let here : slice_get rows n ≡ Some row = slice_get-get_or rows n no_row c.loop-row-test.true in
    let items = c.in_ok-push.ensures.items in
    record {
      count = ap length items ∙ (length-snoc met c.is_met.result ∙ ap (λ k. k + 1) c.loop-row.invariant.count);
      each = λ t term known.
          subst (AreMet t term rows (n + 1)) (sym items)
          (met_more t term rows n met c.args.funcs.now row c.requires.below here c.is_met.result (c.requires.funcs n no_row c.loop-row-test.true) known (c.loop-row.invariant.each t term known)
          (c.is_met.ensures ∙ ap (λ l. flag_at c.args.funcs.now row.func || option_map_or (flag_at l) row.prefix false) c.deref.ensures.value));
    }
