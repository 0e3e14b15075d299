use Rattle.std.proofs.Common.{◌≡◌, ◌+◌, ◌<◌, ℕ, length, get_or, Some, sym, ap, ◌∙◌, subst, arith}
use Rattle.std.specs.Prelude.{◌&&◌, slice_get}
use Rattle.prof_path.specs.Finals.{occurs_in}
use Rattle.prof_view_tree.specs.Showing.{AreMet, flag_at}
use Rattle.prof_view_tree.proofs.FoundRows.{AreSoFar, found_more}
use Rattle.prof_tree.proofs.Whole.{written}
use Rattle.prof_view_tree.proofs.finding.found_rows.Goals as goal

pub loop-term-preserved : goal.loop-term-preserved
loop-term-preserved c =
    let t = c.args.thread.now.shared in
    let terms = c.args.terms.now in
    let rows = c.args.rows.now in
    let n = c.loop-term.term-index in
    let old = c.loop-term.kept.items in
    let new = c.keep_both.new.kept in
    let term = c.term-item.result in
    let same : c.as_slice-term-items.result.now ≡ terms = c.as_slice-term-items.ensures in
    let inside : n < length terms = subst (λ l. n < length l) same c.loop-term-test.true in
    let here : get_or terms n term ≡ term = sym (c.term-item.is ∙ ap (λ l. get_or l n term) same) in
    let known : (f : ℕ) → f < length c.deref.result.now → slice_get c.deref.result.now f ≡ Some (occurs_in t term f) =
    subst (λ l. (f : ℕ) → f < length l → slice_get l f ≡ Some (occurs_in t term f)) (sym c.deref.ensures.value) (λ f h. c.in_ok-funcs.ensures.each f (omega (arith, h, c.in_ok-funcs.ensures.count))) in
    let met : AreMet t term rows (length rows) c.in_ok-met.met.items = c.in_ok-met.ensures t term known in
    let kept_is = c.deref_mut.ensures.value in
    let met_is = c.deref-in-loop-term.ensures.value in
    let long : length new ≡ length old = c.keep_both.auto.kept ∙ ap length kept_is in
    let each : (r : ℕ) → r < length old → flag_at new r ≡ (flag_at old r && flag_at c.in_ok-met.met.items r) = λ r h.
    c.keep_both.ensures r (subst (λ l. r < length l) (sym kept_is) h)
    ∙ (ap (λ l. flag_at l r && flag_at c.deref-in-loop-term.result.now r) kept_is ∙ ap (λ l. flag_at old r && flag_at l r) met_is) in
    subst (AreSoFar t terms (n + 1) rows) (sym (written c.loop-term.kept.len new old (omega (arith, c.loop-term.kept.ok.0)) long))
    (found_more t terms rows n term old c.in_ok-met.met.items new inside here c.loop-term.invariant met long each)
