use Rattle.std.proofs.Common.{◌+◌, ◌<◌, arith, length, inl, inr, refl}
use Rattle.std.proofs.lemmas.Bool.{cases_lt}
use Rattle.std.proofs.lemmas.Option.{slice_get_read}
use Rattle.prof_schema.specs.RowCells.{row_cells}
use Rattle.prof_schema.proofs.PlacedCells.{placed_within, placed_missing, placed_there}
use Rattle.prof_schema.proofs.rows.Rows.cell.Goals as goal

pub returns-then-at-min : goal.returns-then-at-min
returns-then-at-min c = λ front back v kept start end. elim (cases_lt c.args.place (length (row_cells v))) [
  | inl within ↦ (let there = placed_there c.args.self.now front back v c.args.place _ kept within refl in absurd (omega arith))
  | inr past ↦ placed_missing c.args.self.now.kept.texts.items v c.args.place (omega arith) past
]

pub returns : goal.returns
returns c = λ front back v kept start end.
    let cells = c.args.self.now.kept.cells.items in
    let at = c.args.start + c.args.place in
    let few : at < length cells = let l = c.len.ensures in omega arith in
    let within : c.args.place < length (row_cells v) = omega arith in
    placed_within c.args.self.now front back v c.args.place at c.index.result.now kept (omega arith) within (omega arith) (slice_get_read cells (length cells) at c.index.result.now refl few c.index.ensures)
