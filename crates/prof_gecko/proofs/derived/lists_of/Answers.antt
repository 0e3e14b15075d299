use Rattle.std.proofs.Common.{◌+◌, ◌*◌, ◌<◌, length, take, get_or, ◌∙◌, ap, arith}
use Rattle.std.proofs.lemmas.List.{take_more}
use Rattle.prof_raw.specs.CellValues.{truth_of}
use Rattle.prof_gecko_names.specs.Keys.{text_at}
use Rattle.prof_gecko_names.specs.Naming.{named_of}
use Rattle.prof_gecko_names.specs.Lists.{Lists, add_func}
use Rattle.prof_gecko_names.proofs.Growing.{grows_length}
use Rattle.prof_gecko.proofs.Deriving.{rows_none, rows_more}
use Rattle.prof_gecko.proofs.derived.lists_of.Goals as goal

pub loop-row-init : goal.loop-row-init
loop-row-init c = rows_none c.args.libs.now c.args.strings c.args.places.now c.args.relevant_for_js.now c.over-lists.result c.over-lists.ensures

pub named_at-requires : goal.named_at-requires
named_at-requires c =
    let row = get_or c.args.rows.now c.loop-row.row-index 0 in
    let inside : row < length c.args.places.now = c.requires.rows c.loop-row.row-index 0 (omega arith) in
    let placed : get_or c.args.places.now row 0 < length c.args.strings = c.requires.places row 0 inside in
    let grows = (grows_length (3 * c.loop-row.row-index) c.args.strings c.loop-row.lists.strings c.loop-row.invariant.more).0 in
    let same = ap (λ (l : Lists). length l.strings) c.lists.view_is in
    omega arith

pub loop-row-preserved : goal.loop-row-preserved
loop-row-preserved c =
    let i = c.loop-row.row-index in
    let libs = c.args.libs.now in
    let row = get_or c.args.rows.now i 0 in
    let inside : row < length c.args.places.now = c.requires.rows i 0 (omega arith) in
    let place = get_or c.args.places.now row 0 in
    let placed : place < length c.args.strings = c.requires.places row 0 inside in
    rows_more libs c.args.strings c.args.places.now c.args.relevant_for_js.now i (take i c.args.rows.now) (take (i + 1) c.args.rows.now) c.loop-row.lists c.add_func.new.self row
    c.loop-row.invariant
    (take_more c.args.rows.now i 0 (omega arith))
    placed
    (c.in_ok-add_func.ensures
    ∙ ap (λ f. add_func c.loop-row.lists f c.truth.result) (c.in_ok-func.ensures ∙ ap (λ (l : Lists). named_of libs (text_at l.strings place)) c.lists.view_is)
    ∙ ap (λ b. add_func c.loop-row.lists (named_of libs (text_at c.loop-row.lists.strings place)) b) (c.truth.ensures ∙ ap truth_of c.cell.ensures))
