use Rattle.std.proofs.Common.{◌<◌, ℕ, List, length, get_or, ap, ◌++◌, ◌∷◌, [], arith}
use Rattle.prof_layout.specs.Lists.{items_of}
use Rattle.prof_schema.specs.Placed.{cell_of, read_placed}
use Rattle.prof_schema.proofs.PlacedCells.{column_none, column_all, next_row}
use Rattle.prof_schema.proofs.columns.column_at.Goals as goal

pub loop-end-init : goal.loop-end-init
loop-end-init c = λ rows kept. column_none (λ row. read_placed c.args.reading (cell_of c.args.place row)) c.args.rows.now.most rows _ c.empty_column-column.ensures

pub loop-end-preserved : goal.loop-end-preserved
loop-end-preserved c = λ rows kept.
    let so_far = c.loop-end.invariant rows kept in
    let below : c.loop-end.end-index < length c.args.rows.now.ends.items = let l = c.deref-end-items.ensures.len in omega arith in
    let end = get_or c.deref-end-items.result.now c.loop-end.end-index 0 in
    let next = next_row rows so_far.front c.loop-end.end-index c.loop-end.start end c.args.rows.now so_far.rows_ kept below (ap (λ (l : List ℕ). get_or l c.loop-end.end-index 0) c.deref-end-items.ensures.value) in
    let cell = c.cell-cell.ensures so_far.front next.back next.row next.kept so_far.rows_.place next.end_is in
    let read = c.read.ensures cell.start (cell_of c.args.place next.row) cell.is in
    record {
      front = so_far.front ++ next.row ∷ [];
      rows_ = next.then;
      column_ = c.in_ok-add_cell.ensures (λ row. read_placed c.args.reading (cell_of c.args.place row)) so_far.front next.row read so_far.column_;
    }

pub returns : goal.returns
returns c = λ member is. column_all (λ row. read_placed c.args.reading (cell_of c.args.place row)) c.args.rows.now.most (items_of member) _ _ _ c.args.rows.now (c.loop-end.invariant _ is.kept) is.kept (omega arith)
