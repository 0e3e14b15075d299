use Rattle.std.proofs.Common.{◌<◌, ◌≤◌, ◌∙◌, ℕ, List, Option, length, get_or, ap, sym, arith}
use Rattle.prof_layout.specs.Markers.{all_texts, ranges_from}
use Rattle.prof_column.specs.Kept.{kept_items}
use Rattle.prof_schema.specs.Placed.{cell_of, details_at}
use Rattle.prof_schema.proofs.PlacedCells.{texts_more, texts_all, next_row}
use Rattle.prof_schema.proofs.columns.placed_texts.Goals as goal

pub loop-end-preserved : goal.loop-end-preserved
loop-end-preserved c = λ rows kept.
    let so_far = c.loop-end.invariant rows kept in
    let below : c.loop-end.end-index < length c.args.rows.now.ends.items = let l = c.deref-end-items.ensures.len in omega arith in
    let end = get_or c.deref-end-items.result.now c.loop-end.end-index 0 in
    let next = next_row rows so_far.front c.loop-end.end-index c.loop-end.start end c.args.rows.now so_far.rows_ kept below (ap (λ (l : List ℕ). get_or l c.loop-end.end-index 0) c.deref-end-items.ensures.value) in
    let cell = c.cell-cell.ensures so_far.front next.back next.row next.kept so_far.rows_.place next.end_is in
    texts_more c.in-Some.place c.loop-end.end-index c.loop-end.start end rows c.loop-end.placed.texts.items c.texts_of.result.now c.add_row.new.self.texts.items c.loop-end.placed.ranges.items c.add_row.new.self.ranges.items c.args.rows.now so_far next
    (c.texts_of.ensures (cell_of c.in-Some.place next.row) cell) c.in_ok-add_row.ensures.texts c.in_ok-add_row.ensures.ranges

pub returns-clause-texts : goal.returns-clause-texts
returns-clause-texts c = λ member is.
    let rows = kept_items c.args.rows.now.most member in
    let past : length c.args.rows.now.ends.items ≤ c.loop-end.end-index = let l = c.deref-end-items.ensures.len in omega arith in
    (texts_all c.in-Some.place rows c.loop-end.end-index c.loop-end.start c.loop-end.placed.texts.items c.loop-end.placed.ranges.items c.args.rows.now (c.loop-end.invariant rows is.kept) is.kept past).0
    ∙ ap (λ (o : Option ℕ). all_texts (details_at o rows)) (sym c.in-Some.is)

pub returns-clause-ranges : goal.returns-clause-ranges
returns-clause-ranges c = λ member is.
    let rows = kept_items c.args.rows.now.most member in
    let past : length c.args.rows.now.ends.items ≤ c.loop-end.end-index = let l = c.deref-end-items.ensures.len in omega arith in
    (texts_all c.in-Some.place rows c.loop-end.end-index c.loop-end.start c.loop-end.placed.texts.items c.loop-end.placed.ranges.items c.args.rows.now (c.loop-end.invariant rows is.kept) is.kept past).1
    ∙ ap (λ (o : Option ℕ). ranges_from 0 (details_at o rows)) (sym c.in-Some.is)
