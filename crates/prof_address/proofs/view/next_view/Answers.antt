use Rattle.std.proofs.Common.{◌≡◌, ℕ, ◌+◌, [], ◌∷◌, ◌++◌, refl, sym, subst, ap, ◌∙◌, inr}
use Rattle.prof_spell.specs.Spelling.{IsTaken}
use Rattle.prof_spell.specs.declared.cursor.Stop.TheVariants.{Fault}
use Rattle.prof_spell.proofs.Parts.{err_first}
use Rattle.prof_spell.proofs.Chained.{Came, came_none, came_more, err_item, stuck_end, taken_chain}
use Rattle.prof_path.specs.Views.{ViewLists}
use Rattle.prof_address.specs.Views.{views, parts_text}
use Rattle.prof_address.specs.Parts.{threads, said_of, place_of, part_chain, fresh, filled, with_said}
use Rattle.prof_address.proofs.PartLemmas.{linked_parts}
use Rattle.prof_address.proofs.ViewLemmas.{thread_of, view_leads, view_taken, view_err, filled_append, part_shorter, no_part}
use Rattle.prof_address.proofs.view.next_view.Goals as goal

pub returns-in-Err : goal.returns-in-Err
returns-in-Err c = err_first (views c.args.form) threads thread_of parts_text c.args.cursor.now c.thread.new.cursor c.in-Err.stop (view_leads c.args.form) c.in-Err.ensures

pub parts-init : goal.parts-init
parts-init c = ([], came_none (part_chain c.args.form) 0 c.thread.new.cursor, refl)

pub returns-in-Err-part : goal.returns-in-Err-part
returns-in-Err-part c =
    view_err c.args.form c.args.cursor.now c.thread.new.cursor c.part.new.cursor c.in-Ok.thread c.in-Err-part.stop c.in-Ok.ensures
    (err_item (part_chain c.args.form) 0 c.parts.due c.thread.new.cursor c.parts.cursor c.part.new.cursor c.parts.invariant.0 c.in-Err-part.stop (linked_parts c.args.form)
    c.parts.invariant.1 c.in-Err-part.ensures (inr (38, (c.goes_on.ensures.yes c.parts-test.true).1, refl)))

pub parts-smaller : goal.parts-smaller
parts-smaller c = part_shorter c.args.form c.parts.due c.parts.cursor c.part.new.cursor (said_of c.in-Ok-part.content) c.in-Ok-part.ensures

pub parts-preserved : goal.parts-preserved
parts-preserved c =
    let done = c.parts.invariant.0 in
    let s = said_of c.in-Ok-part.content in
    let came : Came (part_chain c.args.form) 0 c.thread.new.cursor (done ++ s ∷ []) (place_of s + 1) c.part.new.cursor =
    came_more (part_chain c.args.form) 0 c.thread.new.cursor done c.parts.due c.parts.cursor c.part.new.cursor s c.parts.invariant.1 c.in-Ok-part.ensures in (
      done ++ s ∷ [],
      subst (λ (n : ℕ). Came (part_chain c.args.form) 0 c.thread.new.cursor (done ++ s ∷ []) (n + 1) c.part.new.cursor) (sym c.place-due.ensures.place) came,
      c.with-view.ensures ∙ ap (λ v. with_said v s) c.parts.invariant.2 ∙ sym (filled_append c.fresh-view.result done (s ∷ [])),
    )

pub returns-then-ends_line : goal.returns-then-ends_line
returns-then-ends_line c =
    let done = c.parts.invariant.0 in
    let all : c.parts.view ≡ filled (fresh c.in-Ok.thread) done = c.parts.invariant.2 ∙ ap (λ v. filled v done) c.fresh-view.ensures in
    subst (λ (v : ViewLists). IsTaken (views c.args.form) c.args.cursor.now v c.parts.cursor) (sym all)
    (view_taken c.args.form c.args.cursor.now c.thread.new.cursor c.parts.cursor c.in-Ok.thread done c.in-Ok.ensures
    (taken_chain (part_chain c.args.form) 0 c.parts.due c.thread.new.cursor c.parts.cursor done c.parts.invariant.1 refl (c.if-ends_line.ensures.yes refl)))

pub returns-else-ends_line : goal.returns-else-ends_line
returns-else-ends_line c =
    let here = c.if-ends_line.ensures.no refl in
    view_err c.args.form c.args.cursor.now c.thread.new.cursor c.parts.cursor c.in-Ok.thread Fault c.in-Ok.ensures
    (stuck_end (part_chain c.args.form) 0 c.parts.due c.thread.new.cursor c.parts.cursor c.parts.invariant.0 here.0 (linked_parts c.args.form) c.parts.invariant.1 refl here.1 here.2
    (no_part c.args.form c.parts.due c.parts.cursor here.0 here.1 (c.goes_on.ensures.no c.parts-test.false)))
