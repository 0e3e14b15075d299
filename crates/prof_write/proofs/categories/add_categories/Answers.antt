use Rattle.std.proofs.Common.{◌≡◌, ◌<◌, ◌≤◌, ◌++◌, ◌∙◌, [], ap, arith, length, get_or, nat_lt, sym}
use Rattle.std.specs.List.{enumerate_from}
use Rattle.std.proofs.lemmas.List.FromFn.{length-enumerate_from}
use Rattle.prof_page.proofs.Pages.{gathers_none, gathers_same}
use Rattle.prof_writer.specs.Writing.{comma_text}
use Rattle.prof_write.specs.Cells.{category_value, texts_of_cells}
use Rattle.prof_write.specs.Compact.{compact}
use Rattle.prof_write.proofs.CellLemmas.{length-cells, numbered_at, text_of_row}
use Rattle.prof_write.proofs.Loops.{all_added, item_added, item_stopped}
use Rattle.prof_write.proofs.categories.add_categories.Goals as goal

pub loop-place-init : goal.loop-place-init
loop-place-init g c = gathers_none _ tt _

pub returns-in_err-add_category : goal.returns-in_err-add_category
returns-in_err-add_category g c =
    let rows = enumerate_from 0 c.args.names.now in
    let cells = texts_of_cells (category_value c.args.default) rows in
    let place = c.loop-place.place in
    let many : length cells ≡ length c.args.names.now = length-cells (category_value c.args.default) rows ∙ length-enumerate_from 0 c.args.names.now in
    let inside : place < length c.args.names.now = omega arith in
    let within : place < length cells = omega arith in
    let name = c.index-names-place.result in
    let is : comma_text (nat_lt 0 place) ++ compact (category_value c.args.default (place, name)) ≡ comma_text (nat_lt 0 place) ++ get_or cells place [] =
    ap (λ l. comma_text (nat_lt 0 place) ++ l) (sym (text_of_row (category_value c.args.default) rows place (place, name) (numbered_at c.args.names.now place name inside c.index-names-place.is))) in
    item_stopped _ _ _ tt _ _ cells place _ _ _ within c.from_residual.ensures.0 c.loop-place.invariant (gathers_same _ _ _ _ _ _ _ c.in_err-add_category.ensures is)

pub loop-place-preserved : goal.loop-place-preserved
loop-place-preserved g c =
    let rows = enumerate_from 0 c.args.names.now in
    let cells = texts_of_cells (category_value c.args.default) rows in
    let place = c.loop-place.place in
    let many : length cells ≡ length c.args.names.now = length-cells (category_value c.args.default) rows ∙ length-enumerate_from 0 c.args.names.now in
    let inside : place < length c.args.names.now = omega arith in
    let within : place < length cells = omega arith in
    let name = c.index-names-place.result in
    let is : comma_text (nat_lt 0 place) ++ compact (category_value c.args.default (place, name)) ≡ comma_text (nat_lt 0 place) ++ get_or cells place [] =
    ap (λ l. comma_text (nat_lt 0 place) ++ l) (sym (text_of_row (category_value c.args.default) rows place (place, name) (numbered_at c.args.names.now place name inside c.index-names-place.is))) in
    item_added _ _ _ tt _ cells place _ _ _ within c.loop-place.invariant (gathers_same _ _ _ _ _ _ _ c.in_ok-add_category.ensures is)

pub returns : goal.returns
returns g c =
    let rows = enumerate_from 0 c.args.names.now in
    let cells = texts_of_cells (category_value c.args.default) rows in
    let many : length cells ≡ length c.args.names.now = length-cells (category_value c.args.default) rows ∙ length-enumerate_from 0 c.args.names.now in
    let all : length cells ≤ c.loop-place.place = omega arith in
    all_added _ _ tt _ cells c.loop-place.place _ _ all c.loop-place.invariant
