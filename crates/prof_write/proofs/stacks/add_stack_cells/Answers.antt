use Rattle.std.proofs.Common.{◌≡◌, ◌<◌, ◌≤◌, ◌++◌, ◌∙◌, [], ap, length, arith, get_or, nat_lt}
use Rattle.std.specs.Prelude.{map}
use Rattle.prof_page.proofs.Pages.{gathers_none, gathers_same}
use Rattle.prof_writer.specs.Writing.{comma_text}
use Rattle.prof_write.specs.Columns.{stack_cells}
use Rattle.prof_write.specs.Compact.{compact}
use Rattle.prof_write.proofs.Loops.{all_added, item_added, item_stopped}
use Rattle.prof_write.proofs.StackLemmas.{length-stack_cells}
use Rattle.prof_write.proofs.stacks.add_stack_cells.Goals as goal

pub loop-row-init : goal.loop-row-init
loop-row-init g c = record { text = gathers_none _ tt _; reads = omega arith }

pub returns-in_err-add_item-clause-text : goal.returns-in_err-add_item-clause-text
returns-in_err-add_item-clause-text g c =
    let t = c.args.thread.now.shared in
    let cells = map compact (stack_cells c.args.column t) in
    let row = c.loop-row.row in
    let many : length cells ≡ length t.stacks = length-stack_cells c.args.column t c.keeps.ensures.shared.frames.many in
    let counted : c.count-row-end.result ≡ length t.stacks = c.count-row-end.ensures.count ∙ ap length c.stacks.ensures.rows in
    let within : row < length cells = omega arith in
    let is : comma_text (nat_lt 0 row) ++ c.stack_line-line.result.bytes ≡ comma_text (nat_lt 0 row) ++ get_or cells row [] = ap (λ l. comma_text (nat_lt 0 row) ++ l) c.stack_line-line.ensures.cell in
    item_stopped _ _ _ tt _ _ cells row _ _ _ within c.from_residual.ensures.0 c.loop-row.invariant.text (gathers_same _ _ _ _ _ _ _ c.in_err-add_item.ensures is)

pub loop-row-preserved : goal.loop-row-preserved
loop-row-preserved g c =
    let t = c.args.thread.now.shared in
    let cells = map compact (stack_cells c.args.column t) in
    let row = c.loop-row.row in
    let many : length cells ≡ length t.stacks = length-stack_cells c.args.column t c.keeps.ensures.shared.frames.many in
    let counted : c.count-row-end.result ≡ length t.stacks = c.count-row-end.ensures.count ∙ ap length c.stacks.ensures.rows in
    let within : row < length cells = omega arith in
    let is : comma_text (nat_lt 0 row) ++ c.stack_line-line.result.bytes ≡ comma_text (nat_lt 0 row) ++ get_or cells row [] = ap (λ l. comma_text (nat_lt 0 row) ++ l) c.stack_line-line.ensures.cell in
    record {
      text = item_added _ _ _ tt _ cells row _ _ _ within c.loop-row.invariant.text (gathers_same _ _ _ _ _ _ _ c.in_ok-add_item.ensures is);
      reads = omega (arith, c.loop-row.invariant.reads, c.stack_line-line.ensures.one);
    }

pub returns-in_err-add_item-clause-reads : goal.returns-in_err-add_item-clause-reads
returns-in_err-add_item-clause-reads g c =
    let t = c.args.thread.now.shared in
    let counted : c.count-row-end.result ≡ length t.stacks = c.count-row-end.ensures.count ∙ ap length c.stacks.ensures.rows in
    omega (arith, c.loop-row.invariant.reads, c.stack_line-line.ensures.one)

pub returns-clause-text : goal.returns-clause-text
returns-clause-text g c =
    let t = c.args.thread.now.shared in
    let cells = map compact (stack_cells c.args.column t) in
    let many : length cells ≡ length t.stacks = length-stack_cells c.args.column t c.keeps.ensures.shared.frames.many in
    let counted : c.count-row-end.result ≡ length t.stacks = c.count-row-end.ensures.count ∙ ap length c.stacks.ensures.rows in
    let all : length cells ≤ c.loop-row.row = omega arith in
    all_added _ _ tt _ cells c.loop-row.row _ _ all c.loop-row.invariant.text

pub returns-clause-reads : goal.returns-clause-reads
returns-clause-reads g c =
    let t = c.args.thread.now.shared in
    let counted : c.count-row-end.result ≡ length t.stacks = c.count-row-end.ensures.count ∙ ap length c.stacks.ensures.rows in
    omega (arith, c.loop-row.invariant.reads)
