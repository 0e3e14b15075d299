use Rattle.std.proofs.Common.{◌≡◌, ◌<◌, ◌+◌, ◌++◌, [], ◌∷◌, Some, ap, ◌∙◌, arith}
use Rattle.prof_demo.specs.Rest.{cell_text, closing, next, rest, rows}
use Rattle.prof_demo.proofs.Rests.{page_cell, rest_cell, rest_last, row_fits}
use Rattle.prof_demo.proofs.source.Rest.add_cell.Goals as goal

pub overflow_add-self : goal.overflow_add-self
overflow_add-self c =
    let there = row_fits c.args.self.now.part c.args.part c.args.self.now.row c.requires.part c.args.self.now.there in
    omega (arith, there.1)

pub returns-then-self-rows-clause-text : goal.returns-then-self-rows-clause-text
returns-then-self-rows-clause-text c =
    let number = c.args.self.now.number in
    let part = c.args.part in
    let row = c.args.self.now.row in
    let below : row + 1 < rows part = omega arith in
    let cell = c.push_str.ensures.bytes ∙ ap (λ l. c.args.page.now.bytes ++ l) (c.as_str.ensures.value ∙ c.cell-cell.ensures) in
    rw c.requires.part
    (page_cell c.args.page.now.bytes (cell_text number part row) (44 ∷ []) _ _ (rest number (Some part) row) (rest number (Some part) (row + 1)) cell c.push_str-then-self-rows.ensures.bytes
    (rest_cell number part row below))

pub returns-else-self-rows-clause-text : goal.returns-else-self-rows-clause-text
returns-else-self-rows-clause-text c =
    let number = c.args.self.now.number in
    let part = c.args.part in
    let row = c.args.self.now.row in
    let there = row_fits c.args.self.now.part part row c.requires.part c.args.self.now.there in
    let last : row + 1 ≡ rows part = omega (arith, there.0) in
    let cell = c.push_str.ensures.bytes ∙ ap (λ l. c.args.page.now.bytes ++ l) (c.as_str.ensures.value ∙ c.cell-cell.ensures) in
    let end = c.push_str-else-self-rows.ensures.bytes ∙ ap (λ l. c.push_str.new.self.bytes ++ l) c.closing.ensures.text in
    rw (c.requires.part, c.next-self.ensures)
    (page_cell c.args.page.now.bytes (cell_text number part row) (closing part) _ _ (rest number (Some part) row) (rest number (next part) 0) cell end (rest_last number part row last))
